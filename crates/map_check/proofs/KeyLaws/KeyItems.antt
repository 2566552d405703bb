-- Keys, with a prefix length or without: each takes a byte at least and ends within the bytes. Assumes nothing.
use Prim.Native.Nat.{ℕ, ◌≤◌, ◌<◌}
use mathlib.Core.List.{List}
use lib.ListN.{length}
use mathlib.Core.Path.{◌≡◌, ap, ◌∙◌}
use mathlib.Core.Bool.{Bool, true, false, ◌&&◌}
use lib.Dec.{ltb}
use Rattle.wire.specs.declared.refusal.Refusal.{Refusal}
use Rattle.table_map.proofs.Steps.{step_end}
use Rattle.map_check.proofs.ContentsLaws.Tallies.{item_stepped, refusal_stepped, list_end, list_item, list_broken}
use native.Mathlib.Omega.{arith}
use Rattle.wire.specs.Outcome.{ok, refused, after}
use Rattle.wire.specs.Packed.{read_packed}
use Rattle.wire.proofs.Outcomes.{after_is_ok, same_ok}
use Rattle.wire.proofs.Forms.{read_moves}
use Rattle.table_map.proofs.Items.{Moves}
use Rattle.map_check.specs.Contents.{list_holds, key_item}

pub key_moves : (paired : Bool) → Moves (key_item paired)
unfolding key_item
key_moves true = record {
  moves = λ s at a next e.
      let x = after_is_ok (read_packed s at) (λ k. after (read_packed s k.1) (λ l. ok (k.0, l.1))) (a, next) e in
      let y = after_is_ok (read_packed s x.0.1) (λ l. ok (x.0.0, l.1)) (a, next) x.2 in
      let m = read_moves s at x.0.0 x.0.1 x.1 in
      let n = read_moves s x.0.1 y.0.0 y.0.1 y.1 in
      let z : y.0.1 ≡ next = ap (λ (w : ℕ × ℕ). w.1) (same_ok y.2) in
      (omega (arith, m.0, n.0), omega (arith, n.1));
}
key_moves false = record {
  moves = λ s at a next e.
      let x = after_is_ok (read_packed s at) (λ k. ok k) (a, next) e in
      read_moves s at a next (x.1 ∙ x.2);
}

pub key_moved : (paired : Bool) (s : List ℕ) (at k next : ℕ) → key_item paired s at ≡ ok (k, next) → (at < next) × (next ≤ length s)
key_moved paired s at k next e = (key_moves paired).moves s at k next e

-- ---- whether all keys are below n, from a place on: a turn, its refusal, and the end
abbrev pub all_below : Bool → ℕ → List ℕ → ℕ → Bool
all_below paired n s at = list_holds (key_item paired) (λ k. ltb k n) s at

pub key_below : (paired : Bool) (n : ℕ) (s : List ℕ) (at k next : ℕ) → at < length s → key_item paired s at ≡ ok (k, next)
    → all_below paired n s at ≡ (ltb k n && all_below paired n s next)
key_below paired n s at k next h e =
    list_item (key_item paired) (λ k. ltb k n) (key_moves paired) s at k next (item_stepped (key_item paired) s at k next h e)

pub key_unread : (paired : Bool) (n : ℕ) (s : List ℕ) (at : ℕ) (w : Refusal) → at < length s → key_item paired s at ≡ refused w
    → all_below paired n s at ≡ false
key_unread paired n s at w h e =
    list_broken (key_item paired) (λ k. ltb k n) (key_moves paired) s at w (refusal_stepped (key_item paired) s at w h e)

pub keys_end : (paired : Bool) (n : ℕ) (s : List ℕ) (at : ℕ) → at ≡ length s → all_below paired n s at ≡ true
keys_end paired n s at h = list_end (key_item paired) (λ k. ltb k n) (key_moves paired) s at (step_end (key_item paired) s at h)

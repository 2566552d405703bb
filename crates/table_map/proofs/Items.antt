-- The items of lists: what the loop over strings turns on, that nothing is read past the bytes, and that every item takes bytes and ends
-- within them. Assumes nothing.
use Prim.Native.Nat.{ℕ, zero, suc, ◌+◌, ◌-◌, ◌≤◌, ◌<◌}
use mathlib.Core.Path.{◌≡◌, sym, ap, subst}
use mathlib.Core.List.{List}
use native.Mathlib.Omega.{arith}
use borrow.Author.Tests.{le-leb}
use lib.ListN.{length}
use Rattle.wire.specs.Outcome.{ok, refuse, after}
use Rattle.wire.specs.Packed.{read_packed}
use Rattle.wire.specs.declared.part.Part.{Part}
use Rattle.wire.proofs.Outcomes.{after_is_ok, same_ok}
use Rattle.wire.proofs.Forms.{read_moves}
use Rattle.table_map.specs.Parts.{long_part}
pub use Rattle.table_map.specs.Lists.{Moves}
use Rattle.table_map.specs.Lists.{integer_item, pair_item, string_item, strings, group_item}
use Rattle.table_map.proofs.Steps.{Early}
use Rattle.table_map.proofs.Chains.{long_named}

-- ---- the loop over the strings of a group, i of n read
pub strings_none : (s : List ℕ) (n i at : ℕ) → n ≤ i → strings (n - i) s at ≡ ok at
unfolding strings
strings_none s n i at h =
    let k : n - i ≡ 0 = omega arith in
    rw k

pub strings_turn : (s : List ℕ) (n i at : ℕ) → i < n → strings (n - i) s at ≡ after (long_part s at) (λ x. strings (n - (i + 1)) s x.1)
unfolding strings
strings_turn s n i at h =
    let k : n - i ≡ suc (n - (i + 1)) = omega arith in
    ap (λ (j : ℕ). strings j s at) k

-- what the loop over them turns on
pub ruleset string_turns = (strings_none, strings_turn)

-- ---- past the bytes nothing is read
pub integer_early : Early integer_item
unfolding read_packed
integer_early = record { early = λ s at h. rw (le-leb (length s) at h) }

pub pair_early : Early pair_item
unfolding pair_item
pair_early = record { early = λ s at h. rw (integer_early.early s at h) }

pub string_early : Early string_item
unfolding long_part
string_early = record { early = λ s at h. rw (integer_early.early s at h) }

pub group_early : Early group_item
unfolding group_item
group_early = record { early = λ s at h. rw (integer_early.early s at h) }

-- ---- items move
-- a part behind its length: it starts behind it
pub long_moves : (s : List ℕ) (at : ℕ) (p : Part) (next : ℕ) → long_part s at ≡ ok (p, next)
    → (at < p.start) × (p.start + p.len ≡ next) × (next ≤ length s)
long_moves s at p next e =
    let x = long_named s at (p, next) e in
    ((read_moves s at p.len p.start x.0).0, sym x.1, x.2)

pub integer_moves : Moves integer_item
integer_moves = record { moves = read_moves }

pub string_moves : Moves string_item
string_moves = record {
  moves = λ s at p next e.
      let x = long_moves s at p next e in
      (omega arith, x.2);
}

pub pair_moves : Moves pair_item
unfolding pair_item
pair_moves = record {
  moves = λ s at a next e.
      let x = after_is_ok (read_packed s at) (λ a. after (read_packed s a.1) (λ b. ok ((a.0, b.0), b.1))) (a, next) e in
      let y = after_is_ok (read_packed s x.0.1) (λ b. ok ((x.0.0, b.0), b.1)) (a, next) x.2 in
      let m = read_moves s at x.0.0 x.0.1 x.1 in
      let n = read_moves s x.0.1 y.0.0 y.0.1 y.1 in
      let z : y.0.1 ≡ next = ap (λ (w : (ℕ × ℕ) × ℕ). w.1) (same_ok y.2) in
      (omega arith, omega arith);
}

strings_move : (n : ℕ) (s : List ℕ) (at next : ℕ) → at ≤ length s → strings n s at ≡ ok next → (at ≤ next) × (next ≤ length s)
unfolding strings
strings_move zero s at next h e =
    let x : at ≡ next = same_ok e in
    (omega arith, omega arith)
strings_move (suc n) s at next h e =
    let x = after_is_ok (long_part s at) (λ x. strings n s x.1) next e in
    let m = long_moves s at x.0.0 x.0.1 x.1 in
    let r = strings_move n s x.0.1 next m.2 x.2 in
    (omega arith, r.1)

-- a count is believed only as far as the bytes go: n strings take n bytes at least
strings_take : (n : ℕ) (s : List ℕ) (at next : ℕ) → strings n s at ≡ ok next → at + n ≤ next
unfolding strings
strings_take zero s at next e =
    let x : at ≡ next = same_ok e in
    omega arith
strings_take (suc n) s at next e =
    let x = after_is_ok (long_part s at) (λ x. strings n s x.1) next e in
    let m = long_moves s at x.0.0 x.0.1 x.1 in
    omega (arith, strings_take n s x.0.1 next x.2)

-- and where the bytes end before the count, it is refused at their end
pub strings_missing : (m n : ℕ) (s : List ℕ) (at : ℕ) → m < n → strings m s at ≡ ok (length s) → strings n s at ≡ refuse 1 (length s)
unfolding strings
strings_missing m zero s at h e = absurd (omega arith)
strings_missing zero (suc n) s at h e =
    let x : at ≡ length s = same_ok e in
    rw (x, string_early.early s (length s) (omega arith))
strings_missing (suc m) (suc n) s at h e =
    let x = after_is_ok (long_part s at) (λ x. strings m s x.1) (length s) e in
    rw x.1 (strings_missing m n s x.0.1 (omega arith) x.2)

-- the strings of a group lead from its first to what follows it
pub group_strings : (s : List ℕ) (at count first next : ℕ) → group_item s at ≡ ok ((count, first), next)
    → (read_packed s at ≡ ok (count, first)) × (strings count s first ≡ ok next)
unfolding group_item
group_strings s at count first next e =
    let x = after_is_ok (read_packed s at) (λ n. after (strings n.0 s n.1) (λ b. ok ((n.0, n.1), b))) ((count, first), next) e in
    let y = after_is_ok (strings x.0.0 s x.0.1) (λ b. ok ((x.0.0, x.0.1), b)) ((count, first), next) x.2 in
    subst (λ (w : (ℕ × ℕ) × ℕ). (read_packed s at ≡ ok w.0) × (strings w.0.0 s w.0.1 ≡ ok w.1)) (same_ok y.2) (x.1, y.1)

-- how many strings a group has at most
pub group_count : (s : List ℕ) (at count first next : ℕ) → group_item s at ≡ ok ((count, first), next)
    → (at < first) × (first + count ≤ next)
group_count s at count first next e =
    let x = group_strings s at count first next e in
    ((read_moves s at count first x.0).0, strings_take count s first next x.1)

pub group_moves : Moves group_item
group_moves = record {
  moves = λ s at a next e.
      let x = group_strings s at a.0 a.1 next e in
      let m = read_moves s at a.0 a.1 x.0 in
      let n = strings_move a.0 s a.1 next m.1 x.1 in
      (omega arith, n.1);
}

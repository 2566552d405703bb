-- A plan made in a buffer, item by item. Assumes nothing.
use Prim.Native.Nat.{ℕ, suc, ◌+◌, ◌-◌, ◌*◌, ◌≤◌, ◌<◌}
use mathlib.Core.Path.{◌≡◌, refl, sym, ap, subst, ◌∙◌}
use mathlib.Core.Bool.{true, false}
use mathlib.Core.List.{List, [], ◌∷◌, ◌++◌}
use native.Mathlib.Nat.{sub-zero}
use native.Mathlib.Numerals.{add-one}
use native.Mathlib.Omega.{arith}
use lib.ListN.{length, set, length-set}
use Rattle.wire.specs.Bits.{bit_lsb0}
use Rattle.wire.specs.Number.{le_bytes}
use Rattle.wire.specs.Outcome.{Outcome}
use Rattle.wire.specs.Stored.{stored, store, left_of}
use Rattle.wire.proofs.Bytes.{le_bytes_length}
use Rattle.wire.proofs.Stores.{length_stored, stored_none, stored_stored, stored_first, store_fits}
use Rattle.value.specs.Ops.{op_of}
use Rattle.record.specs.Records.{count_of}
use Rattle.image.specs.Present.{Present, present, present_from, shape_at}
use Rattle.image.proofs.PresenceLaws.Firsts.{present_at}
use Rattle.row_plan.specs.Plan.{item_bytes, plan_bytes, plan_of}
use Rattle.row_plan.proofs.Rows.{present_here, present_not}

-- one item
pub item_put : (d : List ℕ) (at op column : ℕ) → at + 3 ≤ length d
    → left_of (store (le_bytes 2 column) (set d at op) (at + 1)) (set d at op) ≡ stored (op ∷ le_bytes 2 column) d at
item_put d at op column h =
    let n = le_bytes_length 2 column in
    let l = length-set d at op in
    ap (λ (o : Outcome (ℕ × List ℕ)). left_of o (set d at op)) (store_fits (set d at op) (le_bytes 2 column) (at + 1) (omega arith))
    ∙ stored_first d at op (le_bytes 2 column) (omega arith)

-- what is still to be put
abbrev rest : List ℕ → List ℕ → ℕ → ℕ → List Present
rest r p n j = present_from (n - j) r p j

rest_skip : (r p : List ℕ) (n j : ℕ) → j < n → bit_lsb0 p j ≡ false → rest r p n j ≡ rest r p n (j + 1)
rest_skip r p n j h e =
    let k : n - j ≡ suc (n - (j + 1)) = omega arith in
    ap (λ (m : ℕ). present_from m r p j) k ∙ present_not (n - (j + 1)) r p j e
    ∙ ap (λ (i : ℕ). present_from (n - (j + 1)) r p i) (sym (add-one j))

rest_take : (r p : List ℕ) (n j : ℕ) → j < n → bit_lsb0 p j ≡ true → rest r p n j ≡ present_at r j ∷ rest r p n (j + 1)
rest_take r p n j h e =
    let k : n - j ≡ suc (n - (j + 1)) = omega arith in
    ap (λ (m : ℕ). present_from m r p j) k ∙ present_here (n - (j + 1)) r p j e
    ∙ ap (λ (i : ℕ). present_at r j ∷ present_from (n - (j + 1)) r p i) (sym (add-one j))

rest_none : (r p : List ℕ) (n j : ℕ) → n ≤ j → rest r p n j ≡ []
unfolding present_from
rest_none r p n j h = let k : n - j ≡ 0 = omega arith in rw k

-- the buffer d with what is still to be put is the buffer d₀ with the whole plan
pub record Going (r p : List ℕ) (n : ℕ) (d₀ d : List ℕ) (at j : ℕ) : Type 0 where
  pub column : j ≤ n
  pub same : length d ≡ length d₀
  pub room : at + 3 * length (rest r p n j) ≤ length d
  pub ends : stored (plan_bytes (rest r p n j)) d at ≡ stored (plan_of r p) d₀ 0

pub begin : (r p : List ℕ) (n : ℕ) (d : List ℕ) → n ≡ count_of r → 3 * length (present r p) ≤ length d → Going r p n d d 0 0
unfolding plan_of
begin r p n d e h =
    let z : rest r p n 0 ≡ present r p = ap (λ (m : ℕ). present_from m r p 0) (sub-zero n ∙ e) in
    record { column = omega arith; same = refl; room = rw z (omega arith); ends = rw z }

pub skip : (r p : List ℕ) (n : ℕ) (d₀ d : List ℕ) (at j : ℕ) → Going r p n d₀ d at j → j < n → bit_lsb0 p j ≡ false
    → Going r p n d₀ d at (j + 1)
skip r p n d₀ d at j g h e =
    let z = rest_skip r p n j h e in
    record {
      column = omega arith;
      same = g.same;
      room = subst (λ (cs : List Present). at + 3 * length cs ≤ length d) z
          g.room;
      ends = subst (λ (cs : List Present). stored (plan_bytes cs) d at ≡ stored (plan_of r p) d₀ 0) z g.ends;
    }

pub has_room : (r p : List ℕ) (n : ℕ) (d₀ d : List ℕ) (at j : ℕ) → Going r p n d₀ d at j → j < n → bit_lsb0 p j ≡ true → at + 3 ≤ length d
has_room r p n d₀ d at j g h e =
    let z = rest_take r p n j h e in
    let m : at + 3 * suc (length (rest r p n (j + 1))) ≤ length d = subst (λ (cs : List Present). at + 3 * length cs ≤ length d) z
    g.room in
    omega arith

pub put : (r p : List ℕ) (n : ℕ) (d₀ d : List ℕ) (at j : ℕ) (op : ℕ) (x : List ℕ) → Going r p n d₀ d at j → j < n → bit_lsb0 p j ≡ true
    → op ≡ op_of (shape_at r j)
    → x ≡ stored (op ∷ le_bytes 2 j) d at → Going r p n d₀ x (at + 3) (j + 1)
unfolding plan_bytes item_bytes
put r p n d₀ d at j op x g h e o y =
    let z = rest_take r p n j h e in
    let cs = rest r p n (j + 1) in
    let m : at + 3 * suc (length cs) ≤ length d = subst (λ (cs : List Present). at + 3 * length cs ≤ length d) z g.room in
    let v = op_of (shape_at r j) ∷ le_bytes 2 j in
    let l : length v ≡ 3 = ap suc (le_bytes_length 2 j) in
    let w : x ≡ stored v d at = y ∙ ap (λ (k : ℕ). stored (k ∷ le_bytes 2 j) d at) o in
    let s : length x ≡ length d = ap length w ∙ length_stored d at v (omega arith) in
    let q : stored (plan_bytes cs) x (at + 3) ≡ stored (v ++ plan_bytes cs) d at = ap (λ (b : List ℕ). stored (plan_bytes cs) b (at + 3)) w
    ∙ ap (λ (k : ℕ). stored (plan_bytes cs) (stored v d at) (at + k)) (sym l) ∙ stored_stored d at v (plan_bytes cs) (omega arith) in
    record {
      column = omega arith;
      same = s ∙ g.same;
      room = omega arith;
      ends = q
          ∙ subst (λ (cs : List Present). stored (plan_bytes cs) d at ≡ stored (plan_of r p) d₀ 0) z g.ends;
    }

pub done : (r p : List ℕ) (n : ℕ) (d₀ d : List ℕ) (at j : ℕ) → Going r p n d₀ d at j → n ≤ j → d ≡ stored (plan_of r p) d₀ 0
unfolding plan_bytes
done r p n d₀ d at j g h =
    let z = rest_none r p n j h in
    sym (stored_none d at) ∙ subst (λ (cs : List Present). stored (plan_bytes cs) d at ≡ stored (plan_of r p) d₀ 0) z g.ends

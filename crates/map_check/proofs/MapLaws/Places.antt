-- Where the check's refusals stand: columns that are not taken. Assumes nothing.
use Prim.Native.Nat.{ℕ, suc, ◌+◌}
use mathlib.Core.Path.{◌≡◌, sym, ap, ◌∙◌}
use mathlib.Core.List.{List, ◌∷◌}
use native.Mathlib.Omega.{arith}
use borrow.Author.Tests.{le-leb, lt-leb, leb-true, ne_eqb}
use lib.ListN.{length, drop}
use lib.Dec.{leb}
use Rattle.wire.specs.declared.refusal.Refusal.{Refusal}
use Rattle.wire.specs.Outcome.{ok, refused, refuse, why}
use Rattle.wire.proofs.Outcomes.{by_test, test_is_ok, ok_not_refused}
use Rattle.value.specs.Types.{family_of, is_known}
use Rattle.map_check.specs.declared.declare.Declared.{Declared}
use Rattle.map_check.specs.Columns.{meta_bytes, declared, is_accepted, take_column, take_columns}
use Rattle.map_check.specs.Places.{FirstTaken, TypeNotTaken, type_here, type_behind, MetadataWrong, short, not_accepted, left_over}
use Rattle.map_check.specs.Places.{metadata_behind}

-- one that is taken
pub column_taken : (kind : ℕ) (meta : List ℕ) (p : ℕ) (c : Declared) → take_column kind meta p ≡ ok c → FirstTaken kind meta
unfolding take_column
column_taken kind meta p c e =
    by_test (is_known (family_of kind)) _ _ _ e
    (λ known e₁.
    by_test (leb (meta_bytes kind) (length meta)) _ _ _ e₁
    (λ long e₂.
    let t = test_is_ok (is_accepted (declared kind meta)) (declared kind meta) (why 5 p) c e₂ in
    record { known = known; there = leb-true _ _ long; accepted = t.0 })
    (λ short e₂. absurd (ok_not_refused (sym e₂))))
    (λ unknown e₁. absurd (ok_not_refused (sym e₁)))

-- behind one that is taken it is the others that decide
taken_first : (kind : ℕ) (types meta : List ℕ) (p : ℕ) (w : Refusal) → FirstTaken kind meta
    → take_columns types (drop (meta_bytes kind) meta) (suc p) ≡ refused w
    → take_columns (kind ∷ types) meta p ≡ refused w
unfolding take_columns take_column
taken_first kind types meta p w t e = rw (t.known, le-leb (meta_bytes kind) (length meta) t.there, t.accepted, e)

-- so the first that is not taken is told, and at its own number
pub type_told : {types meta : List ℕ} {j : ℕ} → TypeNotTaken types meta j → (p : ℕ) → take_columns types meta p ≡ refuse 4 (p + j)
unfolding take_columns take_column
type_told (type_here u) p =
    let z : p ≡ p + 0 = omega arith in
    rw u (ap (λ (q : ℕ). refuse 4 q) z)
type_told (type_behind {kind} {j} {types} {meta} t x) p =
    let z : suc p + j ≡ p + suc j = omega arith in
    taken_first kind types meta p (why 4 (p + suc j)) t (type_told x (suc p) ∙ ap (λ (q : ℕ). refuse 4 q) z)

pub metadata_told : {types meta : List ℕ} {j : ℕ} → MetadataWrong types meta j → (p : ℕ) → take_columns types meta p ≡ refuse 5 (p + j)
unfolding take_columns take_column
metadata_told (short {kind} {types} {meta} k l) p =
    let z : p ≡ p + 0 = omega arith in
    rw (k, lt-leb (meta_bytes kind) (length meta) l) (ap (λ (q : ℕ). refuse 5 q) z)
metadata_told (not_accepted {kind} {types} {meta} k l u) p =
    let z : p ≡ p + 0 = omega arith in
    rw (k, le-leb (meta_bytes kind) (length meta) l, u) (ap (λ (q : ℕ). refuse 5 q) z)
metadata_told (left_over {meta} l) p =
    let z : p ≡ p + 0 = omega arith in
    let n : length meta ≡ 0 → ⊥ = λ (e : length meta ≡ 0). omega arith in
    rw (ne_eqb (length meta) 0 n) (ap (λ (q : ℕ). refuse 5 q) z)
metadata_told (metadata_behind {kind} {j} {types} {meta} t x) p =
    let z : suc p + j ≡ p + suc j = omega arith in
    taken_first kind types meta p (why 5 (p + suc j)) t (metadata_told x (suc p) ∙ ap (λ (q : ℕ). refuse 5 q) z)

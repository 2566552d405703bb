-- What was put into a plan is what is read out of it, item by item. Assumes nothing.
use Prim.Native.Nat.{ℕ, zero, suc, ◌+◌, ◌-◌, ◌*◌, ◌<◌}
use mathlib.Core.Path.{◌≡◌, refl, ◌∙◌}
use mathlib.Core.Bool.{true}
use mathlib.Core.List.{List, [], ◌∷◌, ◌++◌}
use native.Mathlib.Nat.{sub-zero}
use native.Mathlib.Omega.{arith}
use lib.ListN.{length, take, drop}
use Rattle.wire.specs.Number.{le_value, le_bytes}
use Rattle.value.specs.declared.shape.Shape.{Shape}
use Rattle.value.specs.Ops.{shape_for, op_of}
use Rattle.value.proofs.Ops.{column_op}
use Rattle.record.specs.Entries.{column_of}
use Rattle.record.specs.Records.{count_of, entry_in, record_valid}
use Rattle.record.proofs.Valid.{valid_column, valid_few}
use Rattle.image.specs.Present.{Present, present, shape_at}
use Rattle.image.proofs.StepLaws.Splits.{Each}
use Rattle.image.proofs.PresenceLaws.Presents.{each_from}
use Rattle.row_plan.specs.Plan.{item_bytes, plan_bytes, item_count, item_at, items_from}

-- what two bytes can say of a column, and an op of a shape
pub record Kept (c : Present) : Type 0 where
  pub column : c.column < 65536
  pub shape : shape_for (op_of c.shape) ≡ c.shape

abbrev item : ℕ → Shape → Present
item j sh = record { column = j; shape = sh }

two_back : (j : ℕ) (rest : List ℕ) → j < 65536 → le_value (take 2 (le_bytes 2 j ++ rest)) ≡ j
unfolding le_value le_bytes
two_back j rest h = omega arith

item_here : (c : Present) (rest : List ℕ) → Kept c → item_at (item_bytes c ++ rest) 0 ≡ c
unfolding item_at item_bytes
item_here c rest k = rw (k.shape, two_back c.column rest k.column)

item_on : (c : Present) (rest : List ℕ) (k : ℕ) → item_at (item_bytes c ++ rest) (suc k) ≡ item_at rest k
unfolding item_at item_bytes le_bytes
item_on c rest k =
    let a : 3 * suc k ≡ suc (suc (suc (3 * k))) = omega arith in
    let b : 3 * suc k + 1 ≡ suc (suc (suc (3 * k + 1))) = omega arith in
    rw (b, a)

items_on : (m : ℕ) (c : Present) (rest : List ℕ) (k : ℕ) → items_from m (item_bytes c ++ rest) (suc k) ≡ items_from m rest k
unfolding items_from
items_on zero c rest k = refl
items_on (suc m) c rest k = rw (item_on c rest k, items_on m c rest (suc k))

items_all : (cs : List Present) → Each Kept cs → items_from (length cs) (plan_bytes cs) 0 ≡ cs
unfolding items_from plan_bytes Each
items_all [] h = refl
items_all (c ∷ cs) h = rw (item_here c (plan_bytes cs) h.0, items_on (length cs) c (plan_bytes cs) 0, items_all cs h.1)

-- the items from k on are the columns behind the first k
pub items_from_lem : (k : ℕ) (cs : List Present) → Each Kept cs → items_from (length cs - k) (plan_bytes cs) k ≡ drop k cs
unfolding items_from plan_bytes Each
items_from_lem zero cs h = rw (sub-zero (length cs)) (items_all cs h)
items_from_lem (suc k) [] h = let z : 0 - suc k ≡ 0 = omega arith in rw z
items_from_lem (suc k) (c ∷ cs) h =
    let z : suc (length cs) - suc k ≡ length cs - k = omega arith in
    rw z (items_on (length cs - k) c (plan_bytes cs) k ∙ items_from_lem k cs h.1)

-- three bytes each
pub plan_length : (cs : List Present) → length (plan_bytes cs) ≡ 3 * length cs
unfolding plan_bytes item_bytes le_bytes
plan_length [] = refl
plan_length (c ∷ cs) = let i = plan_length cs in omega arith

pub plan_count : (cs : List Present) → item_count (plan_bytes cs) ≡ length cs
plan_count cs = let e = plan_length cs in omega arith

-- every present column of a valid record is kept
pub kept_present : (r p : List ℕ) → record_valid r ≡ true → Each Kept (present r p)
unfolding shape_at
kept_present r p v =
    let few = valid_few r v in
    each_from Kept (count_of r) r p 0 (λ i a b.
    record { column = omega (arith, few); shape = column_op (column_of (entry_in r i)) (valid_column r i v (omega arith)) })

-- What a step tells of a value is taken as that value where it is put: of the numbers that it leaves the first is the sort, and the parts
-- begin with the fifth. Assumes nothing.
use Prim.Native.Nat.{ℕ}
use mathlib.Core.Path.{◌≡◌, ap, ◌∙◌}
use mathlib.Core.Bool.{true}
use mathlib.Core.List.{List, ◌++◌, append_assoc}
use lib.ListN.{get_or, drop}
use Rattle.wire.specs.Outcome.{ok}
use Rattle.value.specs.declared.datum.Value.{Value}
use Rattle.value.specs.declared.datum.Value.TheVariants.{Null}
use Rattle.value_parts.specs.Parts.{sort_of, parts_of, padded, value_of, is_held}
use Rattle.value_parts.proofs.Holds.{held_null}
use Rattle.value_parts.proofs.Backs.{value_back, seven}
use Rattle.image.specs.declared.cursor.Cursor.{Cursor}
use Rattle.image.specs.declared.step.Step.TheVariants.{Null as null, Value as value}
use Rattle.feed_abi.specs.Calls.{told_numbers}

pub told_back : (column : ℕ) (v : Value) (next : Cursor) (rest : List ℕ) → is_held v ≡ true
    → value_of (get_or (told_numbers (value column v next) ++ rest) 0 0) (drop 4 (told_numbers (value column v next) ++ rest)) ≡ ok v
unfolding told_numbers
told_back column v next rest h =
    let s = seven v in
    let e : padded 7 (parts_of v) ++ rest ≡ parts_of v ++ (s.0 ++ rest) =
    ap (λ (l : List ℕ). l ++ rest) s.1 ∙ append_assoc (parts_of v) s.0 rest in
    ap (value_of (sort_of v)) e ∙ value_back v (s.0 ++ rest) h

pub null_back : (column : ℕ) (next : Cursor) (rest : List ℕ)
    → value_of (get_or (told_numbers (null column next) ++ rest) 0 0) (drop 4 (told_numbers (null column next) ++ rest)) ≡ ok Null
unfolding told_numbers
null_back column next rest = told_back column Null next rest held_null

-- A value read and told as numbers, and the value of an item of a plan. Assumes nothing.
use Rattle.std.specs.Prelude.{ℕ, ◌+◌, ◌*◌, cond, List, [], ◌∷◌, length, get_or, take, drop, leb}
use Rattle.wire.specs.Outcome.{Outcome, ok, refuse, after}
use Rattle.wire.specs.Number.{le_value}
use Rattle.wire.specs.Bits.{bit_lsb0}
use Rattle.value.specs.declared.datum.Value.{Value}
use Rattle.value.specs.declared.datum.Value.TheVariants.{Null, Int, Uint, Float, Double, Year, Bytes}
use Rattle.value.specs.Ops.{shape_for}
use Rattle.value.specs.Reading.{read_value}
use Rattle.row_plan.specs.Runs.{value_numbers}

-- the numbers of a value that has one part
abbrev pub one_listed : ℕ → ℕ → List ℕ
one_listed sort n = sort ∷ (n ∷ (0 ∷ (0 ∷ (0 ∷ (0 ∷ (0 ∷ (0 ∷ [])))))))

-- the number of k bytes and the place after them, or refusal 9 at `place`
abbrev pub integer_in : ℕ → List ℕ → ℕ → ℕ → Outcome (ℕ × ℕ)
integer_in k s at place = cond (leb (at + k) (length s)) (ok (le_value (take k (drop at s)), at + k)) (refuse 9 place)

-- the numbers of a value that was read
abbrev pub numbered : ℕ → Outcome (Value × ℕ) → Outcome (List ℕ × ℕ)
numbered by o = after o (λ x. ok (value_numbers by x.0, x.1))

-- where the bytes of a value start; 0 of a value that has none
abbrev pub start_in : Value → ℕ
start_in Null = 0
start_in (Int z) = 0
start_in (Uint n) = 0
start_in (Float n) = 0
start_in (Double n) = 0
start_in (Year n) = 0
start_in (Value.Temporal t) = 0
start_in (Bytes p) = p.start

-- the numbers of item k of a plan in an image that starts at `by`, whose value starts at an offset: NULL takes no byte
unfoldable pub item_numbers : List ℕ → List ℕ → ℕ → ℕ → ℕ → Outcome (List ℕ × ℕ)
unfolding value_numbers read_value shape_for
item_numbers plan image by k offset =
    cond (bit_lsb0 image k) (ok (value_numbers by Null, offset))
    (numbered by (read_value (shape_for (get_or plan (3 * k) 0)) (le_value (take 2 (drop (3 * k + 1) plan))) image offset))

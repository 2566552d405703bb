-- The fraction of a second. Document 01: "then a fraction of 0, 1, 2, 3 bytes for m0 0, 1..2, 3..4, 5..6, units of 10,000, 100, 1
-- microseconds". Assumes nothing.
use Rattle.std.specs.Prelude.{ℕ, ◌-◌, ◌^◌, cond, leb, eqb}

-- how many bytes; above 6 as for 6
unfoldable pub fraction_bytes : ℕ → ℕ
fraction_bytes m0 = cond (eqb m0 0) 0 (cond (leb m0 2) 1 (cond (leb m0 4) 2 3))

-- microseconds in one unit of a fraction of w bytes; of no bytes it is a whole second
unfoldable pub unit_of : ℕ → ℕ
unit_of w = 100 ^ (3 - w)

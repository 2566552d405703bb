-- YEAR, as the manual has it: byte 0 is the year 0000, bytes 1 to 255 are 1901 to 2155. Assumes nothing.
use Rattle.std.specs.Prelude.{ℕ, ◌+◌, ◌-◌, Bool, cond, ◌&&◌, ◌||◌, leb, eqb}

-- the year that a byte says
abbrev pub year_of : ℕ → ℕ
year_of byte = cond (eqb byte 0) 0 (1900 + byte)

-- the byte of a year; 0 less 1900 is 0
abbrev pub byte_of_year : ℕ → ℕ
byte_of_year year = year - 1900

-- the years that there are
abbrev pub in_years : ℕ → Bool
in_years year = eqb year 0 || (leb 1901 year && leb year 2155)

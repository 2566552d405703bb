-- The ranges of the parts of a temporal. Document 01: "Ranges: year to 9999, month 12, day 31, hour 23 (time 838), minute and second 59,
-- fraction 999,999". Assumes nothing.
use Rattle.std.specs.Prelude.{ℕ, Bool, cond, ◌&&◌, leb}

unfoldable pub in_day : ℕ → ℕ → ℕ → Bool
in_day y mo d = leb y 9999 && (leb mo 12 && leb d 31)

unfoldable pub in_clock : ℕ → ℕ → ℕ → ℕ → ℕ → Bool
in_clock top h m s u = leb h top && (leb m 59 && (leb s 59 && leb u 999999))

-- ---- the same as a judgement: the number of the first part out of range, year 1, month 2, day 3, hour 4, minute 5, second 6, fraction 7,
-- and 0 where none is

-- a part v up to top, or else its number; and then the others
abbrev pub over : ℕ → ℕ → ℕ → ℕ → ℕ
over v top part others = cond (leb v top) others part

unfoldable pub clock_fault : ℕ → ℕ → ℕ → ℕ → ℕ → ℕ
clock_fault top h m s u = over h top 4 (over m 59 5 (over s 59 6 (over u 999999 7 0)))

unfoldable pub day_fault : ℕ → ℕ → ℕ → ℕ → ℕ
day_fault y mo d others = over y 9999 1 (over mo 12 2 (over d 31 3 others))

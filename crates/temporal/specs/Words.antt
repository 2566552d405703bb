-- Document 01's own words for TIME2, over ℤ, where `Times` speaks of sign and magnitude. proofs/Words.antt proves that both say the same.
-- Assumes nothing.
use Rattle.std.specs.Prelude.{ℕ, ◌/◌, ◌%◌, ◌^◌, Bool, true, false, cond, not, ◌&&◌, List, take, drop, ℤ, pos, negsuc, nat_abs, ◌+ℤ◌, ◌-ℤ◌, ◌*ℤ◌, leb, eqb}
use Rattle.wire.specs.Number.{be_value}
use Rattle.temporal.specs.declared.parts.Time.{Time}
use Rattle.temporal.specs.Fraction.{fraction_bytes, unit_of}
use Rattle.temporal.specs.Times.{time_by}

abbrev pub below : ℤ → Bool
below (pos n) = false
below (negsuc n) = true

-- "one packed number, absolute value then split at 2^24; hours are the whole part over 4,096, minutes and seconds 6 bits each"
unfoldable pub split : ℤ → Time
unfolding time_by
split p = time_by 64 (below p) (nat_abs p / 2 ^ 24) (nat_abs p % 2 ^ 24)

-- m0 0..4, of the 3 bytes a and a fraction f of w bytes: "3 bytes less 2^23; if negative with nonzero fraction, whole part plus 1 and
-- fraction less 256 or 65,536"
unfoldable pub words : ℕ → ℕ → ℕ → Time
unfolding split unit_of
words w a f =
    cond (below (pos a -ℤ pos (2 ^ 23)) && not (eqb f 0))
    (split ((pos a -ℤ pos (2 ^ 23) +ℤ pos 1) *ℤ pos (2 ^ 24) +ℤ (pos f -ℤ pos (256 ^ w)) *ℤ pos (unit_of w)))
    (split ((pos a -ℤ pos (2 ^ 23)) *ℤ pos (2 ^ 24) +ℤ pos f *ℤ pos (unit_of w)))

-- m0 5..6, of the number n of the 6 bytes: "6 bytes less 2^47"
unfoldable pub words6 : ℕ → Time
unfolding split
words6 n = split (pos n -ℤ pos (2 ^ 47))

-- of the stored bytes b
unfoldable pub worded : ℕ → List ℕ → Time
unfolding words words6 fraction_bytes be_value
worded m0 b = cond (leb m0 4) (words (fraction_bytes m0) (be_value (take 3 b)) (be_value (drop 3 b))) (words6 (be_value b))

-- Which values a column of a shape can hold: ranges, units and lengths. NULL is in none. Assumes nothing.
use Rattle.std.specs.Prelude.{◌^◌, Bool, false, ◌&&◌, length, ltb, eqb}
use Rattle.wire.specs.Number.{are_bytes}
use Rattle.wire.specs.Signed.{in_halves}
use Rattle.temporal.specs.Domains.{temporal_domain}
use Rattle.value.specs.declared.shape.Shape.{Shape}
use Rattle.value.specs.declared.shape.Shape.TheVariants.{Unsigned, Signed, FloatBits, DoubleBits, YearByte, Timed, Fixed, Counted}
use Rattle.value.specs.declared.shape.Shape.TheVariants.{NotTaken}
use Rattle.value.specs.Data.{Datum, tag, is_int, is_uint, is_float, is_double, is_year, is_temporal, is_bytes, int_in, number_in, temporal_in}
use Rattle.value.specs.Data.{bytes_in}
use Rattle.value.specs.Years.{in_years}

unfoldable pub domain : Shape → Datum → Bool
unfolding tag int_in number_in temporal_in bytes_in are_bytes in_halves temporal_domain
-- a number of k bytes
domain (Unsigned k) d = is_uint d && ltb (number_in d) (256 ^ k)
-- from -256^k/2 to 256^k/2 - 1
domain (Signed k) d = is_int d && in_halves (256 ^ k) (int_in d)
-- any bits
domain FloatBits d = is_float d && ltb (number_in d) (256 ^ 4)
domain DoubleBits d = is_double d && ltb (number_in d) (256 ^ 8)
domain YearByte d = is_year d && in_years (number_in d)
domain (Timed k) d = is_temporal d && temporal_domain k (temporal_in d)
-- just n bytes, whatever they are
domain (Fixed n) d = is_bytes d && (are_bytes (bytes_in d) && eqb (length (bytes_in d)) n)
-- as many as k bytes can count
domain (Counted k) d = is_bytes d && (are_bytes (bytes_in d) && ltb (length (bytes_in d)) (256 ^ k))
domain (NotTaken n) d = false

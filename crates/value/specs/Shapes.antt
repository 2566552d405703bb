-- The stored bytes of a value, by shape; how many they are, told by the bytes at hand; what they say; and how many they are at most.
-- Assumes nothing.
use Rattle.std.specs.Prelude.{ℕ, ◌+◌, ◌-◌, ◌^◌, List, [], ◌++◌, length, take, drop}
use Rattle.wire.specs.Number.{le_value, le_bytes}
use Rattle.wire.specs.Signed.{signed_of, twos_of}
use Rattle.temporal.specs.Reading.{temporal_size, temporal_decode, temporal_fault, temporal_bytes}
use Rattle.value.specs.declared.shape.Shape.{Shape}
use Rattle.value.specs.declared.shape.Shape.TheVariants.{Unsigned, Signed, FloatBits, DoubleBits, YearByte, Timed, Fixed, Counted}
use Rattle.value.specs.declared.shape.Shape.TheVariants.{NotTaken}
use Rattle.value.specs.Data.{Datum, null, int, uint, float, double, year, temporal, bytes, int_in, number_in, temporal_in, bytes_in}
use Rattle.value.specs.Years.{year_of, byte_of_year}

-- the stored bytes of a value
unfoldable pub bytes_of : Shape → Datum → List ℕ
unfolding int_in number_in temporal_in bytes_in le_bytes twos_of temporal_bytes
bytes_of (Unsigned k) d = le_bytes k (number_in d)
bytes_of (Signed k) d = le_bytes k (twos_of (256 ^ k) (int_in d))
bytes_of FloatBits d = le_bytes 4 (number_in d)
bytes_of DoubleBits d = le_bytes 8 (number_in d)
bytes_of YearByte d = le_bytes 1 (byte_of_year (number_in d))
bytes_of (Timed k) d = temporal_bytes k (temporal_in d)
bytes_of (Fixed n) d = bytes_in d
bytes_of (Counted k) d = le_bytes k (length (bytes_in d)) ++ bytes_in d
bytes_of (NotTaken n) d = []

-- how many bytes the value at the head of s takes. Where the length bytes themselves end early this is more than there are
unfoldable pub need : Shape → List ℕ → ℕ
unfolding le_value temporal_size
need (Unsigned k) s = k
need (Signed k) s = k
need FloatBits s = 4
need DoubleBits s = 8
need YearByte s = 1
need (Timed k) s = temporal_size k
need (Fixed n) s = n
need (Counted k) s = k + le_value (take k s)
need (NotTaken n) s = 0

-- how many bytes tell the length of a value: those of a counted one, else none
unfoldable pub prefix : Shape → ℕ
prefix (Unsigned k) = 0
prefix (Signed k) = 0
prefix FloatBits = 0
prefix DoubleBits = 0
prefix YearByte = 0
prefix (Timed k) = 0
prefix (Fixed n) = 0
prefix (Counted k) = k
prefix (NotTaken n) = 0

-- what stored bytes say
unfoldable pub decode : Shape → List ℕ → Datum
unfolding le_value signed_of temporal_decode
decode (Unsigned k) b = uint (le_value b)
decode (Signed k) b = int (signed_of (256 ^ k) (le_value b))
decode FloatBits b = float (le_value b)
decode DoubleBits b = double (le_value b)
decode YearByte b = year (year_of (le_value b))
decode (Timed k) b = temporal (temporal_decode k b)
decode (Fixed n) b = bytes b
decode (Counted k) b = bytes (drop k b)
decode (NotTaken n) b = null

-- the first temporal part out of range, or 0
unfoldable pub fault : Shape → List ℕ → ℕ
unfolding temporal_fault
fault (Unsigned k) b = 0
fault (Signed k) b = 0
fault FloatBits b = 0
fault DoubleBits b = 0
fault YearByte b = 0
fault (Timed k) b = temporal_fault k b
fault (Fixed n) b = 0
fault (Counted k) b = 0
fault (NotTaken n) b = 0

-- the most bytes that a value can take: behind a length of k bytes as many as these can count, whatever length the column declares
unfoldable pub most_of : Shape → ℕ
unfolding temporal_size
most_of (Unsigned k) = k
most_of (Signed k) = k
most_of FloatBits = 4
most_of DoubleBits = 8
most_of YearByte = 1
most_of (Timed k) = temporal_size k
most_of (Fixed n) = n
most_of (Counted k) = k + (256 ^ k - 1)
most_of (NotTaken n) = 0

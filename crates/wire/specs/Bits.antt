-- Bits of a list of bytes, numbered from the lowest of each byte up or from the highest down. Assumes nothing.
use Rattle.std.specs.Prelude.{ℕ, ◌+◌, ◌-◌, ◌/◌, ◌%◌, ◌^◌, List, Bool, get_or, eqb}

-- how many bytes n bits take
abbrev pub bytes_for : ℕ → ℕ
bytes_for n = (n + 7) / 8

-- whether binary digit j of x is 1
unfoldable pub digit : ℕ → ℕ → Bool
digit x j = eqb (x / 2 ^ j % 2) 1

-- the digit that is bit i of its byte: the lowest first, and the highest first
abbrev pub lsb0 : ℕ → ℕ
lsb0 i = i % 8

abbrev pub msb0 : ℕ → ℕ
msb0 i = 7 - i % 8

-- bit i; one past the bytes is not set
unfoldable pub bit_lsb0 : List ℕ → ℕ → Bool
unfolding digit
bit_lsb0 s i = digit (get_or s (i / 8) 0) (lsb0 i)

unfoldable pub bit_msb0 : List ℕ → ℕ → Bool
unfolding digit
bit_msb0 s i = digit (get_or s (i / 8) 0) (msb0 i)

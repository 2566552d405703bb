-- A value, on paper: bytes are themselves, and not their place. Assumes nothing.
use Rattle.std.specs.Prelude.{ℕ, Bool, List, [], eqb, ℤ, pos}
use Rattle.temporal.specs.declared.parts.Temporal.{Temporal}

pub data Datum : Type 0 where
  null : Datum
  int : ℤ → Datum
  uint : ℕ → Datum
  float : ℕ → Datum
  double : ℕ → Datum
  year : ℕ → Datum
  temporal : Temporal → Datum
  bytes : List ℕ → Datum

-- which of these it is
unfoldable pub tag : Datum → ℕ
tag null = 0
tag (int z) = 1
tag (uint n) = 2
tag (float n) = 3
tag (double n) = 4
tag (year n) = 5
tag (temporal t) = 6
tag (bytes b) = 7

-- whether it is this one
abbrev pub is_int : Datum → Bool
is_int d = eqb (tag d) 1

abbrev pub is_uint : Datum → Bool
is_uint d = eqb (tag d) 2

abbrev pub is_float : Datum → Bool
is_float d = eqb (tag d) 3

abbrev pub is_double : Datum → Bool
is_double d = eqb (tag d) 4

abbrev pub is_year : Datum → Bool
is_year d = eqb (tag d) 5

abbrev pub is_temporal : Datum → Bool
is_temporal d = eqb (tag d) 6

abbrev pub is_bytes : Datum → Bool
is_bytes d = eqb (tag d) 7

-- what a value of one sort holds, and nothing in particular of any other
unfoldable pub int_in : Datum → ℤ
int_in null = pos 0
int_in (int z) = z
int_in (uint n) = pos 0
int_in (float n) = pos 0
int_in (double n) = pos 0
int_in (year n) = pos 0
int_in (temporal t) = pos 0
int_in (bytes b) = pos 0

-- the number of any sort that is one
unfoldable pub number_in : Datum → ℕ
number_in null = 0
number_in (int z) = 0
number_in (uint n) = n
number_in (float n) = n
number_in (double n) = n
number_in (year n) = n
number_in (temporal t) = 0
number_in (bytes b) = 0

-- no temporal in particular
abbrev pub no_temporal : Temporal
no_temporal = Temporal.Seconds (record { seconds = 0; micros = 0 })

unfoldable pub temporal_in : Datum → Temporal
temporal_in null = no_temporal
temporal_in (int z) = no_temporal
temporal_in (uint n) = no_temporal
temporal_in (float n) = no_temporal
temporal_in (double n) = no_temporal
temporal_in (year n) = no_temporal
temporal_in (temporal t) = t
temporal_in (bytes b) = no_temporal

unfoldable pub bytes_in : Datum → List ℕ
bytes_in null = []
bytes_in (int z) = []
bytes_in (uint n) = []
bytes_in (float n) = []
bytes_in (double n) = []
bytes_in (year n) = []
bytes_in (temporal t) = []
bytes_in (bytes b) = b

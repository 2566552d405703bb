-- The profile record: it is valid exactly if its bytes are as document 01 and request 6 have them, told byte by byte and in numbers.
-- `profiles` in proofs/Readings/Profiles.antt proves it. Assumes nothing.
use Rattle.std.specs.Prelude.{ℕ, ◌+◌, ◌*◌, ◌/◌, ◌%◌, ◌≤◌, ◌<◌, ◌≡◌, true, false, List, [], ◌∷◌, length, get_or}
use Rattle.wire.specs.Number.{Bytes, is_among}
use Rattle.record.specs.Records.{record_valid}
use Rattle.map_check.specs.declared.declare.Declared.{Declared}
use Rattle.map_check.specs.Columns.{is_accepted}

-- a real type, and the m0 and m1 that it is accepted with: document 01's table, line by line. "No type 10, and 254 only where m0 or-ed with
-- 0x30 is 254"
pub data Accepted : ℕ → ℕ → ℕ → Type 0 where
  none : (t : ℕ) → is_among t (1 ∷ 2 ∷ 3 ∷ 7 ∷ 8 ∷ 9 ∷ 11 ∷ 12 ∷ 13 ∷ 14 ∷ []) ≡ true → Accepted t 0 0
  float : Accepted 4 4 0
  double : Accepted 5 8 0
  fraction : (t m0 : ℕ) → is_among t (17 ∷ 18 ∷ 19 ∷ []) ≡ true → m0 ≤ 6 → Accepted t m0 0
  blob : (t m0 : ℕ) → is_among t (242 ∷ 249 ∷ 250 ∷ 251 ∷ 252 ∷ 255 ∷ []) ≡ true → 1 ≤ m0 → m0 ≤ 4 → Accepted t m0 0
  json : Accepted 245 4 0
  text : (t m0 m1 : ℕ) → is_among t (15 ∷ 253 ∷ []) ≡ true → Accepted t m0 m1
  bit : (m0 m1 : ℕ) → m0 ≤ 7 → 1 ≤ 8 * m1 + m0 → 8 * m1 + m0 ≤ 64 → Accepted 16 m0 m1
  decimal : (precision scale : ℕ) → 1 ≤ precision → precision ≤ 65 → scale ≤ 30 → scale ≤ precision → Accepted 246 precision scale
  enum : (m0 m1 : ℕ) → 1 ≤ m1 → m1 ≤ 2 → Accepted 247 m0 m1
  set : (m0 m1 : ℕ) → is_among m1 (1 ∷ 2 ∷ 3 ∷ 4 ∷ 8 ∷ []) ≡ true → Accepted 248 m0 m1
  char : (m0 m1 : ℕ) → is_among m0 (0xce ∷ 0xde ∷ 0xee ∷ 0xfe ∷ []) ≡ true → Accepted 254 m0 m1

-- the six bytes of a column: real type, flags, m0, m1, charset
pub record ValidColumn (real flags m0 m1 charset : ℕ) : Type 0 where
  pub metadata : Accepted real m0 m1
  -- 1 unsigned, 2 nullable, 4 signedness known, 8 visible; the rest zero
  pub below_16 : flags < 16
  -- 1 only with 4
  pub unsigned : flags % 2 ≡ 1 → flags / 4 % 2 ≡ 1
  -- 4, and so 1, only on numeric columns
  pub known : flags / 4 % 2 ≡ 1 → is_among real (1 ∷ 2 ∷ 3 ∷ 4 ∷ 5 ∷ 8 ∷ 9 ∷ 246 ∷ []) ≡ true
  -- charset 0 on other than character, ENUM and SET columns
  pub no_charset : is_among real (15 ∷ 247 ∷ 248 ∷ 252 ∷ 253 ∷ 254 ∷ []) ≡ false → charset ≡ 0

abbrev pub byte : List ℕ → ℕ → ℕ
byte profile i = get_or profile i 0

-- of two bytes, little-endian
abbrev pub number : List ℕ → ℕ → ℕ
number profile i = byte profile i + 256 * byte profile (i + 1)

-- a kind, and how many columns a record of it has: request 6. In kind 1 the count's second byte is document 01's zero
pub data KindOf : ℕ → ℕ → Type 0 where
  few : (n : ℕ) → n ≤ 255 → KindOf 1 n
  many : (n : ℕ) → 255 < n → n ≤ 4096 → KindOf 2 n

pub record ValidRecord (profile : List ℕ) : Type 0 where
  -- length of the whole record, which has nothing after it
  pub said : number profile 0 ≡ length profile
  -- kind, n, and 6 bytes a column
  pub kind : KindOf (number profile 2) (number profile 4)
  pub whole : length profile ≡ 6 + 6 * number profile 4
  pub columns : (j : ℕ) → j < number profile 4
      → ValidColumn (byte profile (6 + 6 * j)) (byte profile (7 + 6 * j)) (byte profile (8 + 6 * j)) (byte profile (9 + 6 * j))
      (number profile (10 + 6 * j))

-- a column of a map is accepted exactly if its real type, m0 and m1 are so listed; of 254, "247, 248 as above, or 254"
abbrev pub ListedColumn : Declared → Type 0
ListedColumn c = Accepted c.real c.m0 c.m1 × (c.kind ≡ 254 → is_among c.real (247 ∷ 248 ∷ 254 ∷ []) ≡ true)

pub record Profiles : Type 0 where
  pub valid_so : (profile : List ℕ) → Bytes profile → record_valid profile ≡ true → ValidRecord profile
  pub so_valid : (profile : List ℕ) → Bytes profile → ValidRecord profile → record_valid profile ≡ true
  -- the check has the same table
  pub accepted_so : (c : Declared) → c.real < 256 → c.m0 < 256 → c.m1 < 256 → is_accepted c ≡ true → ListedColumn c
  pub so_accepted : (c : Declared) → c.real < 256 → c.m0 < 256 → c.m1 < 256 → ListedColumn c → is_accepted c ≡ true

-- How bytes are laid out: parts one behind the other, each of a form that tells where it ends. By this the places of two refusals are said,
-- in the words of document 01's table: 1 where "bytes end in an event part, optional field, or list integer or string", at "its first byte,
-- or its length's"; 2 for "first byte 251 or 255 of a packed integer", at "that byte". Assumes nothing.
use Rattle.std.specs.Prelude.{ℕ, ◌+◌, ◌≤◌, ◌<◌, ◌≡◌, ◌⊎◌, List, length, get_or, take, drop}
use Rattle.wire.specs.Outcome.{ok}
use Rattle.wire.specs.Number.{le_value}
use Rattle.wire.specs.Packed.{read_packed}

infixr 60 ◌then◌
-- ---- packed integers that cannot be read
-- "252, 253, 254 precede 2, 3, 8 little-endian bytes"
pub data Precedes : ℕ → ℕ → Type 0 where
  two : Precedes 252 2
  three : Precedes 253 3
  eight : Precedes 254 8

-- the integer at p ends early: there is no byte, or fewer than its first byte precedes
pub data IntegerCut (s : List ℕ) (p : ℕ) : Type 0 where
  no_byte : length s ≤ p → IntegerCut s p
  few_behind : {k : ℕ} → Precedes (get_or s p 0) k → length s < p + 1 + k → IntegerCut s p

-- its first byte is there, and is 251 or 255, being a byte
pub record IntegerRefused (s : List ℕ) (p : ℕ) : Type 0 where
  pub there : p < length s
  pub first : get_or s p 0 < 256 → (get_or s p 0 ≡ 251) ⊎ (get_or s p 0 ≡ 255)

-- ---- one part
-- how it tells where it ends: it has so many bytes; a length byte and so many; it is a packed integer; a packed length and so many; a
-- length of two bytes, the least significant first, that counts itself and what is behind it
pub data PartForm : Type 0 where
  bytes : ℕ → PartForm
  named : PartForm
  integer : PartForm
  string : PartForm
  sized : PartForm

-- the part of a form that starts at p is whole, and q is the place after it
pub data Whole (s : List ℕ) : PartForm → ℕ → ℕ → Type 0 where
  all_bytes : {k p : ℕ} → p + k ≤ length s → Whole s (bytes k) p (p + k)
  all_named : {p : ℕ} → p + 1 + get_or s p 0 ≤ length s → Whole s named p (p + 1 + get_or s p 0)
  all_integer : {n p q : ℕ} → read_packed s p ≡ ok (n, q) → Whole s integer p q
  all_string : {n p q : ℕ} → read_packed s p ≡ ok (n, q) → q + n ≤ length s → Whole s string p (q + n)
  all_sized : {n p : ℕ} → le_value (take 2 (drop p s)) ≡ n → 2 ≤ n → p + n ≤ length s → Whole s sized p (p + n)

-- the bytes end in it
pub data Cut (s : List ℕ) : PartForm → ℕ → Type 0 where
  few_bytes : {k p : ℕ} → length s < p + k → Cut s (bytes k) p
  few_named : {p : ℕ} → length s < p + 1 + get_or s p 0 → Cut s named p
  few_integer : {p : ℕ} → IntegerCut s p → Cut s integer p
  few_length : {p : ℕ} → IntegerCut s p → Cut s string p
  few_string : {n p q : ℕ} → read_packed s p ≡ ok (n, q) → length s < q + n → Cut s string p
  few_size : {p : ℕ} → length s < p + 2 → Cut s sized p
  few_sized : {n p : ℕ} → le_value (take 2 (drop p s)) ≡ n → length s < p + n → Cut s sized p

-- it starts with a packed integer whose first byte is 251 or 255
pub data Unpacked (s : List ℕ) : PartForm → ℕ → Type 0 where
  bad_integer : {p : ℕ} → IntegerRefused s p → Unpacked s integer p
  bad_length : {p : ℕ} → IntegerRefused s p → Unpacked s string p

-- ---- parts one behind the other: a part and what is behind it; a packed integer, and what is behind it by its number; and at the end
-- whatever there is
pub data Layout : Type 0 where
  ◌then◌ : PartForm → Layout → Layout
  counting : (ℕ → Layout) → Layout
  whatever : Layout

-- of what is laid out from p on, a part of the form f starts at q, and all parts before it are whole
pub data Starts (s : List ℕ) : Layout → ℕ → PartForm → ℕ → Type 0 where
  here : {f : PartForm} {l : Layout} {p : ℕ} → Starts s (f then l) p f p
  count : {k : ℕ → Layout} {p : ℕ} → Starts s (counting k) p integer p
  behind : {f g : PartForm} {l : Layout} {p q r : ℕ} → Whole s f p q → Starts s l q g r → Starts s (f then l) p g r
  counted : {g : PartForm} {k : ℕ → Layout} {n p q r : ℕ} → read_packed s p ≡ ok (n, q) → Starts s (k n) q g r → Starts s (counting k) p g r

-- ---- where 1 and 2 stand: at the start of such a part that is cut short, or that starts with a packed integer of 251 or 255
pub data CutShort (s : List ℕ) (l : Layout) (p : ℕ) : ℕ → Type 0 where
  cut_at : {f : PartForm} {q : ℕ} → Starts s l p f q → Cut s f q → CutShort s l p q

pub data NotPacked (s : List ℕ) (l : Layout) (p : ℕ) : ℕ → Type 0 where
  unpacked_at : {f : PartForm} {q : ℕ} → Starts s l p f q → Unpacked s f q → NotPacked s l p q

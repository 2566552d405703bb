-- Document 01 tells the real type and the declared length of 254 by bits; the definitions have sums and products. They say the same of
-- every byte, which is computed. Assumes nothing.
use Prim.Native.Nat.{ℕ, ◌+◌, ◌-◌, ◌*◌, ◌/◌, ◌%◌, ◌<◌}
use mathlib.Core.Path.{◌≡◌, refl, sym, ap}
use mathlib.Core.Bool.{Bool, true, false, not, ◌&&◌, ◌||◌}
use lib.Bits.{bit_and, bit_or, bit_xor}
use lib.Dec.{T, ltb, eqb, eqb→eq, ltb→lt}
use Rattle.wire.specs.Bits.{digit}
use Rattle.wire.proofs.Each.{each, below}
use Rattle.value.specs.Types.{or30, real_type}
use Rattle.value.specs.Columns.{char_length, declared_length}

-- two tests say the same
abbrev pub same : Bool → Bool → Bool
same true b = b
same false b = not b

pub same_so : (a b : Bool) → T (same a b) → a ≡ b
same_so true true t = refl
same_so true false t = absurd t
same_so false true t = absurd t
same_so false false t = refl

-- two numbers have the same digits, made of those of m by a rule
abbrev alike : (ℕ → ℕ) → (ℕ → ℕ → Bool) → ℕ → Bool
alike f rule m = each (λ (j : ℕ). same (digit (f m) j) (rule m j)) 8

digits_by : (f : ℕ → ℕ) (rule : ℕ → ℕ → Bool) → T (each (alike f rule) 256) → (m j : ℕ) → m < 256 → j < 8 → digit (f m) j ≡ rule m j
digits_by f rule t m j h l = same_so _ _ (below (λ (j : ℕ). same (digit (f m) j) (rule m j)) 8 (below (alike f rule) 256 t m h) j l)

small_by : (f : ℕ → ℕ) → T (each (λ (m : ℕ). ltb (f m) 256) 256) → (m : ℕ) → m < 256 → f m < 256
small_by f t m h = ltb→lt (f m) 256 (below (λ (m : ℕ). ltb (f m) 256) 256 t m h)

-- ---- the real type: "m0 or-ed with 0x30"
pub or_same : (m0 : ℕ) → m0 < 256 → bit_or m0 0x30 ≡ or30 m0
or_same m0 h = eqb→eq (bit_or m0 0x30) (or30 m0) (below (λ (m : ℕ). eqb (bit_or m 0x30) (or30 m)) 256 tt m0 h)

pub real_or : (m0 : ℕ) → m0 < 256 → real_type 254 m0 ≡ bit_or m0 0x30
unfolding real_type
real_or m0 h = sym (or_same m0 h)

pub real_small : (m0 : ℕ) → m0 < 256 → real_type 254 m0 < 256
unfolding real_type
real_small = small_by or30 tt

pub real_digit : (m0 j : ℕ) → m0 < 256 → j < 8 → digit (real_type 254 m0) j ≡ (digit m0 j || (eqb j 4 || eqb j 5))
unfolding real_type digit
real_digit = digits_by or30 (λ m j. digit m j || (eqb j 4 || eqb j 5)) tt

-- ---- the declared length: "m1 + 16·((m0 and 0x30) xor 0x30)"
pub char_same : (m0 m1 : ℕ) → m0 < 256 → m1 + 16 * bit_xor (bit_and m0 0x30) 0x30 ≡ char_length m0 m1
char_same m0 m1 h =
    ap (λ (x : ℕ). m1 + 16 * x)
    (eqb→eq (bit_xor (bit_and m0 0x30) 0x30) (48 - m0 / 16 % 4 * 16)
    (below (λ (m : ℕ). eqb (bit_xor (bit_and m 0x30) 0x30) (48 - m / 16 % 4 * 16)) 256 tt m0 h))

pub length_xor : (m0 m1 : ℕ) → m0 < 256 → declared_length 254 m0 m1 ≡ m1 + 16 * bit_xor (bit_and m0 0x30) 0x30
unfolding declared_length
length_xor m0 m1 h = sym (char_same m0 m1 h)

pub xor_small : (m0 : ℕ) → m0 < 256 → bit_xor (bit_and m0 0x30) 0x30 < 256
xor_small = small_by (λ m. bit_xor (bit_and m 0x30) 0x30) tt

pub xor_digit : (m0 j : ℕ) → m0 < 256 → j < 8 → digit (bit_xor (bit_and m0 0x30) 0x30) j ≡ ((eqb j 4 || eqb j 5) && not (digit m0 j))
unfolding digit
xor_digit = digits_by (λ m. bit_xor (bit_and m 0x30) 0x30) (λ m j. (eqb j 4 || eqb j 5) && not (digit m j)) tt

-- How a record begins: its kind, by how many columns it has, and its first six bytes. Assumes nothing.
use Prim.Native.Nat.{ℕ, ◌/◌, ◌%◌, ◌≤◌, ◌<◌}
use mathlib.Core.Path.{◌≡◌, refl}
use mathlib.Core.Bool.{Bool, true, false, cond}
use mathlib.Core.List.{[], ◌∷◌, ◌++◌}
use borrow.Author.Tests.{le-leb, lt-leb}
use native.Mathlib.Omega.{arith}
use lib.Dec.{leb}
use Rattle.wire.specs.Number.{le_bytes}
use Rattle.record.specs.Records.{kind_for, entry_at, head_bytes}

pub kind_few : (n : ℕ) → n ≤ 255 → kind_for n ≡ 1
unfolding kind_for
kind_few n h = rw (le-leb n 255 h)

pub kind_many : (n : ℕ) → 255 < n → kind_for n ≡ 2
unfolding kind_for
kind_many n h = rw (lt-leb n 255 h)

pub kind_most : (n : ℕ) → kind_for n ≤ 2
unfolding kind_for
kind_most n = go (leb n 255)
  where
    go : (b : Bool) → cond b 1 2 ≤ 2
    go true = omega arith
    go false = omega arith

-- the six bytes before the entries one by one, from the place where they end and the kind
pub head_is : (n size kind : ℕ) → size ≡ entry_at n → kind ≡ kind_for n
    → head_bytes n ≡ size % 256 ∷ size / 256 % 256 ∷ kind ∷ 0 ∷ n % 256 ∷ n / 256 % 256 ∷ []
unfolding head_bytes
head_is n size kind e f = rw (e, f) (go (leb n 255))
  where
    go : (b : Bool)
        → le_bytes 2 (entry_at n) ++ (le_bytes 2 (cond b 1 2) ++ le_bytes 2 n)
        ≡ entry_at n % 256 ∷ entry_at n / 256 % 256 ∷ cond b 1 2 ∷ 0 ∷ n % 256 ∷ n / 256 % 256 ∷ []
    go true = refl
    go false = refl

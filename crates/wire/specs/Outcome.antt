-- What a call answers, on paper: something, or a refusal, which is a number of document 01's table and a place, and for refusal 10 the part
-- of a temporal that is out of its range; for all others the part is 0. Assumes nothing.
use Rattle.std.specs.Prelude.{ℕ, ◌≡◌, Result}
use Rattle.wire.specs.declared.refusal.Refusal.{Refusal}
pub use Rattle.std.specs.Prelude.{Ok as ok, Err as refused}

abbrev pub Outcome : Type 0 → Type 0
Outcome A = Result A Refusal

-- refusal `number` at `place`, of no part
abbrev pub why : ℕ → ℕ → Refusal
why number place = record { number = number; place = place; part = 0 }

-- refusal 10 at `place`, of this part: year 1, month 2, day 3, hour 4, minute 5, second 6, fraction 7, and 8 for a negative datetime
abbrev pub out_of : ℕ → ℕ → Refusal
out_of place part = record { number = 10; place = place; part = part }

-- the answer that is that refusal
abbrev pub refuse : {A : Type 0} → ℕ → ℕ → Outcome A
refuse number place = refused (why number place)

-- what goes on after a part was taken: the first refusal in a chain is the answer of the chain
abbrev pub after : {A B : Type 0} → Outcome A → (A → Outcome B) → Outcome B
after (ok a) f = f a
after (refused w) f = refused w

-- what an answer may become when bytes are put behind those that it was read from: itself, unless it is a refusal with this number
pub data Stays {A : Type 0} (n : ℕ) : Outcome A → Outcome A → Type 0 where
  same : (o : Outcome A) → Stays n o o
  ended : (w : Refusal) (o : Outcome A) → w.number ≡ n → Stays n (refused w) o

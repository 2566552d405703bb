-- Blocks given one after the other, each until `more` or `end`, and then the end call. Assumes nothing.
use Rattle.std.specs.Prelude.{ℕ, ◌+◌, ◌≤◌, ◌≡◌, Bool, true, false, List, [], ◌∷◌, ◌++◌, length, drop}
use Rattle.wire.specs.declared.refusal.Refusal.{Refusal}
use Rattle.wire.specs.Outcome.{ok, refused}
use Rattle.wire.specs.Number.{Bytes}
use Rattle.blocks.specs.declared.state.Arriving.{Arriving}
use Rattle.blocks.specs.States.{begun, Arrived, more, null, value, long, part, end, BlockGiven}
use Rattle.blocks.specs.Gives.{give_block}
use Rattle.blocks.specs.Ends.{end_blocks}
use Rattle.blocks.specs.Streams.{Stream, stopped, told}

-- an answer behind which the rest of the block is given again
abbrev pub goes_on : Arrived → Bool
goes_on more = false
goes_on (null j) = true
goes_on (value j v) = true
goes_on (long j n) = true
goes_on (part j n) = true
goes_on (end used) = false

-- what all these calls told, and how many bytes they took
pub data Run (r p : List ℕ) : Arriving → List ℕ → List (List ℕ) → Stream → ℕ → Type 0 where
  ends : (st : Arriving) (carry : List ℕ) → Run r p st carry [] (stopped (end_blocks r p st carry)) 0
  refuses : (st : Arriving) (carry b : List ℕ) (bs : List (List ℕ)) (w : Refusal) → give_block r p st carry b ≡ refused w
      → Run r p st carry (b ∷ bs) (stopped (refused w)) 0
  rests : (st : Arriving) (carry b : List ℕ) (bs : List (List ℕ)) (g : BlockGiven) (c : List ℕ) (s : Stream) (n : ℕ)
      → give_block r p st carry b ≡ ok (g, c) → goes_on g.arrival ≡ false → Run r p g.next c bs s n
      → Run r p st carry (b ∷ bs) s (g.taken + n)
  answers : (st : Arriving) (carry b : List ℕ) (bs : List (List ℕ)) (g : BlockGiven) (c : List ℕ) (s : Stream) (n : ℕ)
      → give_block r p st carry b ≡ ok (g, c) → goes_on g.arrival ≡ true → Run r p g.next c (drop g.taken b ∷ bs) s n
      → Run r p st carry (b ∷ bs) (told c b g.arrival s) (g.taken + n)

-- all the bytes
abbrev pub concat : List (List ℕ) → List ℕ
concat [] = []
concat (b ∷ bs) = b ++ concat bs

-- all of them are bytes
abbrev pub AllBytes : List (List ℕ) → Type 0
AllBytes [] = Unit {0}
AllBytes (b ∷ bs) = Bytes b × AllBytes bs

-- ---- what calls left: a state and a carry that came from the first one, each call lent what the call before left
pub data Came (r p : List ℕ) : Arriving → List ℕ → Type 0 where
  begins : (carry : List ℕ) → 1024 ≤ length carry → Bytes carry → Came r p begun carry
  gives : (st : Arriving) (carry block : List ℕ) (g : BlockGiven) (c : List ℕ) → Came r p st carry → Bytes block
      → give_block r p st carry block ≡ ok (g, c) → Came r p g.next c

-- What a call over blocks tells, from what its code answered; and that the numbers of a state ask for that state. Assumes nothing.
use Prim.Native.Nat.{ℕ}
use mathlib.Core.Path.{◌≡◌, refl, sym, ap, ◌∙◌}
use mathlib.Core.List.{List, [], ◌∷◌}
use Rattle.wire.specs.declared.refusal.Refusal.{Refusal}
use Rattle.wire.specs.Outcome.{Outcome, ok, refused}
use Rattle.wire.specs.Stored.{stored, answer_of, left_of}
use Rattle.value.specs.declared.datum.Value.{Value}
use Rattle.value.specs.declared.datum.Value.TheVariants.{Null}
use Rattle.value_parts.specs.Parts.{sort_of, parts_of}
use Rattle.blocks.specs.declared.state.Phase.TheVariants.{Open, Long, Closed}
use Rattle.blocks.specs.declared.state.Phase.{Phase}
use Rattle.blocks.specs.declared.state.Arriving.{Arriving}
use Rattle.blocks.specs.declared.state.BlockGiven.{BlockGiven}
use Rattle.blocks.specs.declared.state.Given.{Given}
use Rattle.blocks.specs.declared.state.Arrival.TheVariants.{More as more, Null as null, Value as value, Long as long, Part as part, End as end}
use Rattle.blocks.specs.States.{Arrived, given_of, ended_of}
use Rattle.blocks.specs.Gives.{give_block}
use Rattle.blocks.specs.Ends.{end_blocks}
use Rattle.feed_abi.specs.Answers.{answer_number, answer_numbers}
use Rattle.feed_abi.specs.Calls.{said, said_with}
use Rattle.feed_abi.specs.Blocks.{phase_number, phase_asked, state_asked, arrival_numbers, told_block, arrived_numbers, ended}
use Rattle.feed_abi.specs.Inner.Blocks.{arrival_told, given_told}

-- ---- an arrival by what is told of it: a value of a column, a sort with a column and one number, or a refusal
pub data Noted : Type 0 where
  valued : ℕ → Value → Noted
  sorted : ℕ → ℕ → ℕ → Noted
  bad : Refusal → Noted

abbrev pub noted_of : Outcome Arrived → Noted
noted_of (ok more) = sorted 12 0 0
noted_of (ok (null column)) = valued column Null
noted_of (ok (value column v)) = valued column v
noted_of (ok (long column len)) = sorted 13 column len
noted_of (ok (part column len)) = sorted 14 column len
noted_of (ok (end used)) = sorted 0 0 used
noted_of (refused r) = bad r

-- what was noted is what is told
abbrev pub noted_numbers : Noted → ℕ → Arriving → Outcome (List ℕ)
noted_numbers (valued column v) taken next = ok (arrival_numbers next (sort_of v) column taken (parts_of v))
noted_numbers (sorted sort column n) taken next = ok (arrival_numbers next sort column taken (n ∷ []))
noted_numbers (bad r) taken next = refused r

noted_told : (a : Outcome Arrived) (taken : ℕ) (next : Arriving)
    → said arrived_numbers (arrival_told a taken next) ≡ noted_numbers (noted_of a) taken next
unfolding told_block
noted_told (ok more) taken next = refl
noted_told (ok (null column)) taken next = refl
noted_told (ok (value column v)) taken next = refl
noted_told (ok (long column len)) taken next = refl
noted_told (ok (part column len)) taken next = refl
noted_told (ok (end used)) taken next = refl
noted_told (refused r) taken next = refl

pub tells_noted : (out : List ℕ) (a : Outcome Arrived) (taken : ℕ) (next : Arriving) (n m : Noted) (s : ℕ) (x : List ℕ) → n ≡ noted_of a
    → n ≡ m → s ≡ answer_number (noted_numbers m taken next) → x ≡ stored (answer_numbers (noted_numbers m taken next)) out 0
    → (s ≡ answer_number (said arrived_numbers (arrival_told a taken next)))
    × (x ≡ stored (answer_numbers (said arrived_numbers (arrival_told a taken next))) out 0)
tells_noted out a taken next n m s x e d p q =
    let t : said arrived_numbers (arrival_told a taken next) ≡ noted_numbers m taken next =
    noted_told a taken next ∙ ap (λ (k : Noted). noted_numbers k taken next) (sym e ∙ d) in
    rw t (p, q)

-- ---- the answer of the code says the rule's
given_told_lem : (o : Outcome BlockGiven) → given_told (given_of o) ≡ o
given_told_lem (ok g) = refl
given_told_lem (refused w) = refl

ended_told : (o : Outcome ℕ) → said arrived_numbers (given_told (ended_of o)) ≡ said (λ n. arrived_numbers (ended n)) o
ended_told (ok used) = refl
ended_told (refused w) = refl

-- the state is the one that its numbers ask for
pub end_told_lem : (r p carry : List ℕ) (st at : Arriving) (g : Given) → st ≡ at → g ≡ ended_of (end_blocks r p st carry)
    → said arrived_numbers (given_told g) ≡ said (λ n. arrived_numbers (ended n)) (end_blocks r p at carry)
end_told_lem r p carry st at g e h = rw (h, e) (ended_told (end_blocks r p at carry))

pub give_told : (r p carry block : List ℕ) (st at : Arriving) (g : Given) (left : List ℕ) → st ≡ at
    → g ≡ given_of (answer_of (give_block r p st carry block)) → left ≡ left_of (give_block r p st carry block) carry
    → (given_told g ≡ answer_of (give_block r p at carry block)) × (left ≡ left_of (give_block r p at carry block) carry)
give_told r p carry block st at g left e h k = rw (h, k, e) (given_told_lem (answer_of (give_block r p at carry block)), refl)

-- the same of any rule's answer, in numbers; and the carry is left as the rule leaves it
pub given_back : (o : Outcome (BlockGiven × List ℕ)) (g : Given) → g ≡ given_of (answer_of o)
    → said arrived_numbers (given_told g) ≡ answer_of (said_with arrived_numbers o)
given_back (ok x) g e = rw e
given_back (refused w) g e = rw e

pub ended_back : (o : Outcome ℕ) (g : Given) → g ≡ ended_of o
    → said arrived_numbers (given_told g) ≡ said (λ n. arrived_numbers (ended n)) o
ended_back o g e = rw e (ended_told o)

pub left_back : {A : Type 0} (f : A → List ℕ) (o : Outcome (A × List ℕ)) (carry : List ℕ) → left_of (said_with f o) carry ≡ left_of o carry
left_back f (ok x) carry = refl
left_back f (refused w) carry = refl

-- ---- a state that was told is asked for by its numbers
phase_back : (p : Phase) → phase_asked (phase_number p) ≡ p
phase_back Open = refl
phase_back Long = refl
phase_back Closed = refl

pub state_back : (st : Arriving) → state_asked (phase_number st.phase) st.column st.held st.left st.used ≡ st
state_back st = rw (phase_back st.phase)

-- The call that takes a block: look at the bytes at hand as one list, decide, then store. Assumes nothing.
use Rattle.std.specs.Prelude.{ℕ, ◌+◌, ◌-◌, cond, List, [], ◌∷◌, ◌++◌, length, take, drop, leb, ltb, eqb}
use Rattle.wire.specs.Outcome.{Outcome, ok, refuse, after}
use Rattle.wire.specs.Stored.{stored}
use Rattle.value.specs.declared.shape.Shape.{Shape}
use Rattle.value.specs.Shapes.{prefix}
use Rattle.value.specs.Reading.{judged, placed}
use Rattle.image.specs.Split.{Slot, slots_at, head_of}
use Rattle.image.specs.declared.cursor.Head.{Head}
use Rattle.blocks.specs.declared.state.Phase.{Phase}
use Rattle.blocks.specs.declared.state.Phase.TheVariants.{Open, Long, Closed}
use Rattle.blocks.specs.declared.state.Arriving.{Arriving}
use Rattle.blocks.specs.States.{opened, longed, begun, Arrived, more, null, value, long, part, end, BlockGiven}
use Rattle.blocks.specs.Turns.{TurnSaid, wait, long as long₁, whole, turn_of}
use Rattle.blocks.specs.Fits.{is_fit}

-- what a call answers, and the carry that it leaves
abbrev pub Handed : Type 0
Handed = BlockGiven × List ℕ

-- the bytes of the block up to `upto`, counted from the front of the carry, go behind what the carry holds
unfoldable pub commit : Arriving → List ℕ → List ℕ → ℕ → Arrived → Arriving → Handed
unfolding stored
commit st carry block upto a next =
    (record { arrival = a; taken = upto - st.held; next = next }, stored (take (upto - st.held) block) carry st.held)

-- how many bytes are used when those up to `upto` are
abbrev pub used_to : Arriving → ℕ → ℕ
used_to st upto = st.used + (upto - st.held)

-- not enough: all of the block is held, and the column is the one that waits
abbrev pub waiting : Arriving → List ℕ → List ℕ → ℕ → Outcome Handed
waiting st carry block j = let upto = st.held + length block in ok (commit st carry block upto more (opened j upto (used_to st upto)))

-- by what the bytes x say of a value of the column j, nb being the bytes of null bits before them
unfoldable pub by_turn : ℕ → Shape → ℕ → List ℕ → Arriving → List ℕ → List ℕ → TurnSaid → Outcome Handed
unfolding prefix judged placed commit
by_turn nb sh j x st carry block wait = waiting st carry block j
by_turn nb sh j x st carry block (long₁ n) =
    let upto = nb + prefix sh in
    ok (commit st carry block upto (long j n) (longed j upto n (used_to st upto)))
by_turn nb sh j x st carry block (whole n) =
    let upto = nb + n in
    after (judged sh j (take n x))
    (λ d. ok (commit st carry block upto (value j (placed upto d)) (opened (j + 1) nb (used_to st upto))))

-- what the carry holds, and the block behind it
abbrev pub at_hand : Arriving → List ℕ → List ℕ → List ℕ
at_hand st carry block = take st.held carry ++ block

-- over the slots that are left
unfoldable pub give_over : ℕ → ℕ → List Slot → List ℕ → Arriving → List ℕ → List ℕ → Outcome Handed
unfolding turn_of by_turn commit
give_over room nb [] x st carry block =
    ok (commit st carry block nb (end (used_to st nb)) (opened st.column nb (used_to st nb)))
give_over room nb (i ∷ is) x st carry block =
    cond i.null
    (ok (commit st carry block nb (null i.present.column) (opened (i.present.column + 1) nb (used_to st nb))))
    (by_turn nb i.present.shape i.present.column x st carry block (turn_of room i.present.shape x))

unfoldable pub give_open : List ℕ → List ℕ → ℕ → Arriving → List ℕ → List ℕ → Outcome Handed
unfolding slots_at give_over commit
give_open r p nb st carry block =
    let y = at_hand st carry block in
    cond (ltb (length y) nb) (waiting st carry block st.column)
    (give_over (length carry - nb) nb (slots_at r p y st.column) (drop nb y) st carry block)

-- a part of a long value stores nothing
abbrev pub parted : Arriving → List ℕ → Arrived → ℕ → Arriving → Outcome Handed
parted st carry a n next = ok (record { arrival = a; taken = n; next = next }, carry)

unfoldable pub give_long : ℕ → Arriving → List ℕ → List ℕ → Outcome Handed
give_long nb st carry block =
    let n = length block in
    cond (eqb n 0) (parted st carry more 0 st)
    (cond (leb st.left n) (parted st carry (part st.column st.left) st.left (opened (st.column + 1) nb (st.used + st.left)))
    (parted st carry (part st.column n) n (longed st.column st.held (st.left - n) (st.used + n))))

-- ---- the calls
unfoldable pub give_in : Phase → List ℕ → List ℕ → ℕ → Arriving → List ℕ → List ℕ → Outcome Handed
unfolding give_open give_long
give_in Open r p nb st carry block = give_open r p nb st carry block
give_in Long r p nb st carry block = give_long nb st carry block
give_in Closed r p nb st carry block = refuse 21 0

-- behind the tests for 11, 12 and 20
unfoldable pub given_fit : List ℕ → List ℕ → ℕ → ℕ → Arriving → List ℕ → List ℕ → Outcome Handed
unfolding is_fit give_in
given_fit r p n nb st carry block = cond (is_fit r p n nb st carry) (give_in st.phase r p nb st carry block) (refuse 21 0)

-- these tests
unfoldable pub head_carry : List ℕ → List ℕ → List ℕ → Outcome Head
unfolding head_of
head_carry r p carry = after (head_of r p) (λ h. cond (ltb (length carry) 1024) (refuse 20 0) (ok h))

-- a refusal leaves the carry as it was, takes nothing, and closes
unfoldable pub give_block : List ℕ → List ℕ → Arriving → List ℕ → List ℕ → Outcome Handed
unfolding head_carry given_fit
give_block r p st carry block = after (head_carry r p carry) (λ h. given_fit r p h.columns h.nulls st carry block)

unfoldable pub begin_blocks : List ℕ → List ℕ → List ℕ → Outcome Arriving
unfolding head_carry
begin_blocks r p carry = after (head_carry r p carry) (λ h. ok begun)

-- What the call answers in the Open phase, by what the code finds. Assumes nothing.
use Prim.Native.Nat.{ℕ, ◌+◌, ◌-◌, ◌≤◌, ◌<◌}
use mathlib.Core.Path.{◌≡◌, sym, subst}
use mathlib.Core.Bool.{true, false}
use mathlib.Core.List.{List, ◌∷◌}
use native.Mathlib.Omega.{arith}
use borrow.Author.Tests.{lt-ltb, le-ltb}
use lib.ListN.{length}
use Rattle.wire.specs.Outcome.{ok}
use Rattle.wire.specs.Bits.{bit_lsb0}
use Rattle.record.specs.Records.{count_of}
use Rattle.image.specs.Present.{count_bits, first_from, shape_at}
use Rattle.image.specs.Split.{slots_at}
use Rattle.image.proofs.PresenceLaws.Firsts.{slot_at, slots_end, slots_first}
use Rattle.blocks.specs.declared.state.Arriving.{Arriving}
use Rattle.blocks.specs.States.{opened, null, end}
use Rattle.blocks.specs.Gives.{commit, used_to, waiting, give_over, at_hand, give_open}
use Rattle.blocks.specs.Inner.Hands.{value_over}

module _ (r p : List ℕ) (nb : ℕ) (st : Arriving) (carry block : List ℕ) where
  abbrev y : List ℕ
  y = at_hand st carry block

  pub open_short : length y < nb → give_open r p nb st carry block ≡ waiting st carry block st.column
  unfolding give_open
  open_short h = rw (lt-ltb (length y) nb h)

  module _ (l : nb ≤ length y) (h : st.column ≤ count_of r) {f : ℕ} (e : f ≡ first_from (count_of r - st.column) p st.column) where
    pub open_end : f ≡ count_of r → give_open r p nb st carry block
        ≡ ok (commit st carry block nb (end (used_to st nb)) (opened st.column nb (used_to st nb)))
    unfolding give_open give_over
    open_end g = rw (le-ltb (length y) nb l, slots_end r p y st.column h (omega arith))

    slots_are : f < count_of r → slots_at r p y st.column ≡ slot_at r p y f ∷ slots_at r p y (f + 1)
    slots_are g =
        subst (λ (k : ℕ). slots_at r p y st.column ≡ slot_at r p y k ∷ slots_at r p y (k + 1)) (sym e)
        (slots_first r p y st.column h (omega arith))

    pub open_null : f < count_of r → bit_lsb0 y (count_bits p f) ≡ true → give_open r p nb st carry block
        ≡ ok (commit st carry block nb (null f) (opened (f + 1) nb (used_to st nb)))
    unfolding give_open give_over
    open_null g b = rw (le-ltb (length y) nb l, slots_are g, b)

    pub open_value : f < count_of r → bit_lsb0 y (count_bits p f) ≡ false → give_open r p nb st carry block
        ≡ value_over nb (shape_at r f) f st carry block
    unfolding give_open give_over value_over
    open_value g b = rw (le-ltb (length y) nb l, slots_are g, b)

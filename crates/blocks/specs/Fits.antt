-- Which states are fit under this record, these presence bits and this carry: all that a call left, and some that none leaves. Assumes
-- nothing.
use Rattle.std.specs.Prelude.{ℕ, ◌-◌, Bool, false, cond, ◌&&◌, ◌||◌, not, List, [], ◌∷◌, length, take, drop, leb, ltb, eqb}
use Rattle.value.specs.Shapes.{need, prefix}
use Rattle.image.specs.Split.{Slot, slots_at}
use Rattle.image.specs.Room.{image_room}
use Rattle.blocks.specs.declared.state.Phase.{Phase}
use Rattle.blocks.specs.declared.state.Phase.TheVariants.{Open, Long, Closed}
use Rattle.blocks.specs.declared.state.Arriving.{Arriving}
use Rattle.blocks.specs.Turns.{too_long}

-- the bytes x are held behind the null bits, of a value of column j: it is the first that is left, not NULL, and not whole
unfoldable pub waits : ℕ → ℕ → List Slot → List ℕ → Bool
unfolding too_long need
waits room j [] x = false
waits room j (i ∷ is) x =
    eqb i.present.column j
    && (not i.null && (not (too_long room i.present.shape x) && ltb (length x) (need i.present.shape x)))

-- the same of a long value, of which no more than its length bytes is held, and `left` bytes are to come
unfoldable pub is_long : ℕ → ℕ → ℕ → List Slot → List ℕ → Bool
unfolding too_long need prefix
is_long room j left [] x = false
is_long room j left (i ∷ is) x =
    eqb i.present.column j
    && (not i.null
    && (eqb (length x) (prefix i.present.shape)
    && (too_long room i.present.shape x && (ltb 0 left && leb left (need i.present.shape x - prefix i.present.shape)))))

-- n columns, nb bytes of null bits
unfoldable pub fits_in : Phase → List ℕ → List ℕ → ℕ → Arriving → List ℕ → Bool
unfolding slots_at waits is_long
fits_in Open r p nb st carry =
    let y = take st.held carry in
    eqb st.left 0
    && cond (ltb st.held nb) (eqb st.column 0 && eqb st.used st.held)
    (eqb st.held nb || waits (length carry - nb) st.column (slots_at r p y st.column) (drop nb y))
fits_in Long r p nb st carry =
    let y = take st.held carry in
    leb nb st.held && is_long (length carry - nb) st.column st.left (slots_at r p y st.column) (drop nb y)
fits_in Closed r p nb st carry = false

-- what the numbers of a state obey in each phase, the carry having so many bytes
unfoldable pub is_counted : List ℕ → List ℕ → ℕ → ℕ → Arriving → Bool
unfolding image_room
is_counted r p n len st =
    leb st.column n && (leb st.held len && (leb st.held st.used && leb st.used (image_room r p)))

unfoldable pub is_fit : List ℕ → List ℕ → ℕ → ℕ → Arriving → List ℕ → Bool
unfolding is_counted fits_in
is_fit r p n nb st carry = is_counted r p n (length carry) st && fits_in st.phase r p nb st carry

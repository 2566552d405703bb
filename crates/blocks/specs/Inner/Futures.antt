-- An image as a stream of pieces, and what is still to come from a state. Assumes nothing.
use Rattle.std.specs.Prelude.{ℕ, ◌+◌, ◌-◌, cond, List, [], ◌∷◌, ◌++◌, length, take, drop, leb, ltb}
use Rattle.wire.specs.Outcome.{Outcome, ok, refused, refuse}
use Rattle.value.specs.Data.{Datum, null}
use Rattle.value.specs.Shapes.{need, prefix}
use Rattle.value.specs.Reading.{read_datum}
use Rattle.image.specs.Split.{Slot, slots_at}
use Rattle.blocks.specs.declared.state.Phase.{Phase}
use Rattle.blocks.specs.declared.state.Phase.TheVariants.{Open, Long, Closed}
use Rattle.blocks.specs.declared.state.Arriving.{Arriving}
use Rattle.blocks.specs.Turns.{too_long}
use Rattle.blocks.specs.Streams.{datum, size, Stream, stopped, with, byte_pieces}

-- the rest of a long value, `left` bytes, and then what goes on behind it
unfoldable pub stream_long : ℕ → ℕ → (List ℕ → ℕ → Stream) → List ℕ → ℕ → Stream
stream_long j left f s o =
    cond (leb left (length s)) (with (byte_pieces j (take left s)) (f (drop left s) (o + left)))
    (record { pieces = byte_pieces j s; how = refuse 9 j })

abbrev pub streamed : ℕ → (ℕ → Stream) → Outcome (Datum × ℕ) → Stream
streamed j f (ok x) = with (datum j x.0 ∷ []) (f x.1)
streamed j f (refused w) = stopped (refused w)

-- s is what is left of the image at offset o
unfoldable pub stream_slots : ℕ → List Slot → List ℕ → ℕ → Stream
unfolding too_long need prefix read_datum stream_long
stream_slots room [] s o = stopped (ok o)
stream_slots room (i ∷ is) s o =
    let j = i.present.column in
    let sh = i.present.shape in
    let left = need sh s - prefix sh in
    cond i.null (with (datum j null ∷ []) (stream_slots room is s o))
    (cond (too_long room sh s)
    (with (size j left ∷ []) (stream_long j left (stream_slots room is) (drop (prefix sh) s) (o + prefix sh)))
    (streamed j (λ n. stream_slots room is (drop n s) (o + n)) (read_datum sh j s)))

-- what is still to come from a state when the bytes t come
unfoldable pub future_in : Phase → List ℕ → List ℕ → ℕ → Arriving → List ℕ → List ℕ → Stream
unfolding slots_at stream_slots stream_long
future_in Open r p nb st carry t =
    let y = take st.held carry ++ t in
    cond (ltb (length y) nb) (stopped (refuse 9 0))
    (stream_slots (length carry - nb) (slots_at r p y st.column) (drop nb y) (st.used + nb - st.held))
future_in Long r p nb st carry t =
    stream_long st.column st.left (stream_slots (length carry - nb) (slots_at r p (take nb carry) (st.column + 1))) t st.used
future_in Closed r p nb st carry t = stopped (refuse 21 0)

abbrev pub future : List ℕ → List ℕ → ℕ → Arriving → List ℕ → List ℕ → Stream
future r p nb st carry t = future_in st.phase r p nb st carry t

-- The image writer: "a start stores lent null bits; a step, lent them again, one value at its cursor, nothing for NULL". Assumes nothing.
use Rattle.std.specs.Prelude.{ℕ, ◌+◌, ◌-◌, ◌/◌, ◌%◌, ◌^◌, cond, List, [], ◌∷◌, ◌++◌, length, get_or, take, eqb, ltb}
use Rattle.wire.specs.Outcome.{Outcome, ok, refuse, after}
use Rattle.wire.specs.Stored.{store}
use Rattle.value.specs.declared.datum.Value.{Value}
use Rattle.value.specs.Reading.{datum_of}
use Rattle.value.specs.Storing.{stored_bytes}
use Rattle.image.specs.declared.cursor.Cursor.{Cursor}
use Rattle.image.specs.declared.cursor.Head.{Head}
use Rattle.image.specs.Split.{Slot, cursor, slots_at, head_of}
use Rattle.image.specs.Rows.{is_null}

-- a byte whose lowest `used` bits are as they were, the others set
abbrev pub spare_set : ℕ → ℕ → ℕ
spare_set used b = b % 2 ^ used + (256 - 2 ^ used)

-- n null bits with the spare bits of the last byte set
unfoldable pub filled : ℕ → List ℕ → List ℕ
filled n nulls =
    cond (eqb (n % 8) 0) nulls (take (n / 8) nulls ++ (spare_set (n % 8) (get_or nulls (n / 8) 0) ∷ []))

-- 12 too for null bits of wrong length
unfoldable pub head_nulls : List ℕ → List ℕ → List ℕ → Outcome Head
unfolding head_of
head_nulls profile presence nulls = after (head_of profile presence) (λ h. cond (eqb (length nulls) h.nulls) (ok h) (refuse 12 0))

-- the start: the first cursor, and the buffer with the null bits at its head
unfoldable pub start_image : List ℕ → List ℕ → List ℕ → List ℕ → Outcome (Cursor × List ℕ)
unfolding head_nulls filled store
start_image profile presence nulls buf =
    after (head_nulls profile presence nulls) (λ h.
    after (store (filled h.present nulls) buf 0) (λ x.
    ok (cursor 0 h.nulls, x.1)))

-- the bytes of a value or NULL in a slot: 13 where value and bit disagree on NULL, or the column does not take the value
unfoldable pub slot_bytes : Slot → List ℕ → Value → Outcome (List ℕ)
unfolding is_null datum_of stored_bytes
slot_bytes i lent v =
    cond (is_null (datum_of lent v))
    (cond i.null (ok []) (refuse 13 i.present.column))
    (cond i.null (refuse 13 i.present.column) (stored_bytes i.present.shape i.present.column lent v))

-- a step, over the slots that are left: 14 if there is none
unfoldable pub put_over : List Slot → Cursor → List ℕ → Value → List ℕ → Outcome (Cursor × List ℕ)
unfolding slot_bytes store
put_over [] c lent v buf = refuse 14 c.column
put_over (i ∷ is) c lent v buf =
    after (slot_bytes i lent v) (λ b.
    after (store b buf c.offset) (λ x.
    ok (cursor (i.present.column + 1) x.0, x.1)))

-- from any cursor: 14 for a column above n too
unfoldable pub put_from : List ℕ → List ℕ → List ℕ → Cursor → List ℕ → Value → List ℕ → Outcome (Cursor × List ℕ)
unfolding head_nulls slots_at put_over
put_from profile presence nulls c lent v buf =
    after (head_nulls profile presence nulls) (λ h.
    cond (ltb h.columns c.column) (refuse 14 c.column)
    (put_over (slots_at profile presence nulls c.column) c lent v buf))

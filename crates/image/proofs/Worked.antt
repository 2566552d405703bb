-- Document 01's worked reading, and images cut short or out of range; the same image written. Computed on the definitions. Assumes nothing.
use Prim.Native.Nat.{ℕ}
use mathlib.Core.Path.{◌≡◌, refl}
use mathlib.Core.List.{List, [], ◌∷◌, ◌++◌}
use lib.IntN.{pos, negsuc}
use lib.ListN.{take, replicate}
use Rattle.wire.specs.Outcome.{ok, refused, refuse, out_of}
use Rattle.wire.specs.Number.{are_bytes, le_value, le_bytes}
use Rattle.wire.specs.Signed.{signed_of, twos_of, in_halves}
use Rattle.wire.specs.Stored.{stored, store}
use Rattle.wire.specs.Bits.{digit, bit_lsb0}
use Rattle.wire.specs.Parts.{part}
use Rattle.temporal.specs.Ranges.{day_fault}
use Rattle.value.specs.declared.datum.Value.TheVariants.{Null, Int, Uint, Bytes}
use Rattle.value.specs.Data.{null, int, uint, bytes, tag, int_in, number_in, bytes_in}
use Rattle.value.specs.Domains.{domain}
use Rattle.value.specs.Types.{family_of, is_numeric}
use Rattle.value.specs.Columns.{shape_in, shape_of, is_taken}
use Rattle.value.specs.Classes.{is_character, is_enum_or_set}
use Rattle.value.specs.Shapes.{bytes_of, need, decode, fault}
use Rattle.value.specs.Reading.{taken, cut, judged, read_datum, datum_of}
use Rattle.value.specs.Storing.{bytes_at, is_lent, is_in, stored_bytes}
use Rattle.record.specs.Entries.{flags_hold, charset_holds, entry_holds, entry_of}
use Rattle.record.specs.Records.{entry_in, entries_hold, head_holds, record_valid, read_record}
use Rattle.image.specs.Present.{count_bits, shape_at, present_from}
use Rattle.image.specs.Split.{cursor, slots, slots_at, head_of, first_cursor, slots_left}
use Rattle.image.specs.Walk.{read_slot, read_slots, walk_from, walk_image}
use Rattle.image.specs.Rows.{is_null}
use Rattle.image.specs.Puts.{filled, head_nulls, start_image, slot_bytes, put_over, put_from}
use Rattle.image.specs.WriteRow.{LentValue, put_row, write_row}

-- INT, VARCHAR(20), TINYINT UNSIGNED
abbrev profile : List ℕ
profile = 0x18 ∷ 0 ∷ 1 ∷ 0 ∷ 3 ∷ 0 ∷ 3 ∷ 0x0c ∷ 0 ∷ 0 ∷ 0 ∷ 0 ∷ 0x0f ∷ 0x0a ∷ 0x14 ∷ 0 ∷ 0 ∷ 0 ∷ 1 ∷ 0x0d ∷ 0 ∷ 0 ∷ 0 ∷ 0 ∷ []

abbrev row : List ℕ
row = 0xf8 ∷ 0xfe ∷ 0xff ∷ 0xff ∷ 0xff ∷ 2 ∷ 0x61 ∷ 0x62 ∷ 0xc8 ∷ []

-- TINYINT, DATE, TINYINT
abbrev dates : List ℕ
dates = 0x18 ∷ 0 ∷ 1 ∷ 0 ∷ 3 ∷ 0 ∷ 1 ∷ 0x0c ∷ 0 ∷ 0 ∷ 0 ∷ 0 ∷ 0x0e ∷ 0x0a ∷ 0 ∷ 0 ∷ 0 ∷ 0 ∷ 1 ∷ 0x0c ∷ 0 ∷ 0 ∷ 0 ∷ 0 ∷ []

pub worked : (walk_image profile (7 ∷ []) row
    ≡ record { answers = (0, int (negsuc 1)) ∷ (1, bytes (0x61 ∷ 0x62 ∷ [])) ∷ (2, uint 200) ∷ []; how = ok 9 })
    -- the second column absent and the third NULL: its null bit is the second
    × (walk_image profile (5 ∷ []) (0xfe ∷ 0xfe ∷ 0xff ∷ 0xff ∷ 0xff ∷ [])
    ≡ record { answers = (0, int (negsuc 1)) ∷ (2, null) ∷ []; how = ok 5 })
    -- cut in the string's bytes: what stands before it is answered
    × (walk_image profile (7 ∷ []) (take 7 row) ≡ record { answers = (0, int (negsuc 1)) ∷ []; how = refuse 9 1 })
    -- no null bits
    × (walk_image profile (7 ∷ []) [] ≡ record { answers = []; how = refuse 9 0 })
    -- month 13, and then an image that ends before the last column: the earlier decides
    × (walk_image dates (7 ∷ []) (0xf8 ∷ 5 ∷ 0xa1 ∷ 0xa1 ∷ 0x0f ∷ [])
    ≡ record { answers = (0, int (pos 5)) ∷ []; how = refused (out_of 1 2) })
    -- a record of another length, and presence bits of another length
    × (walk_image (take 23 profile) (7 ∷ []) row ≡ record { answers = []; how = refuse 11 0 })
    × (walk_image profile (7 ∷ 0 ∷ []) row ≡ record { answers = []; how = refuse 12 0 })
unfolding le_value signed_of day_fault digit bit_lsb0 family_of is_numeric is_character is_enum_or_set shape_in shape_of is_taken need decode fault taken
    cut judged read_datum flags_hold charset_holds entry_holds entry_of entry_in entries_hold head_holds record_valid read_record count_bits shape_at
    present_from slots slots_at head_of first_cursor slots_left read_slot read_slots walk_from walk_image
worked = (refl, refl, refl, refl, refl, refl, refl)

-- the same image written, its null bits lent with no spare bit set; and with a byte less of room
abbrev values : List LentValue
values =
    record { lent = []; value = Int (negsuc 1) } ∷ record { lent = 0x7a ∷ 0x61 ∷ 0x62 ∷ []; value = Bytes (part 1 2) }
    ∷ record { lent = []; value = Uint 200 } ∷ []

pub worked_back : (write_row profile (7 ∷ []) (0 ∷ []) values (replicate 10 0) ≡ ok (cursor 3 9, row ++ (0 ∷ [])))
    × (write_row profile (7 ∷ []) (0 ∷ []) values (replicate 8 0) ≡ refuse 8 0)
    -- NULL for the first column, whose null bit is not set
    × (write_row profile (7 ∷ []) (0 ∷ []) (record { lent = []; value = Null } ∷ []) (replicate 10 0) ≡ refuse 13 0)
unfolding are_bytes le_value le_bytes twos_of in_halves digit bit_lsb0 stored store family_of is_numeric is_character is_enum_or_set shape_in shape_of
    is_taken tag int_in number_in bytes_in domain bytes_of taken datum_of bytes_at is_lent is_in stored_bytes flags_hold charset_holds entry_holds
    entry_of entry_in entries_hold head_holds record_valid read_record count_bits shape_at present_from slots slots_at head_of is_null filled head_nulls
    start_image slot_bytes put_over put_from put_row write_row
worked_back = (refl, refl, refl)

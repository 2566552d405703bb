-- The plan of document 01's worked record, steps and runs by it over two images, its row written, and steps by bytes that no record made.
-- Computed on the definitions. Assumes nothing.
use Prim.Native.Nat.{ℕ, ◌-◌, ◌^◌}
use mathlib.Core.Path.{◌≡◌, refl}
use mathlib.Core.List.{List, [], ◌∷◌, ◌++◌}
use lib.IntN.{negsuc}
use lib.ListN.{take, replicate}
use Rattle.wire.specs.Outcome.{ok, refuse}
use Rattle.wire.specs.Number.{are_bytes, le_value, le_bytes}
use Rattle.wire.specs.Parts.{part}
use Rattle.wire.specs.Signed.{signed_of, twos_of, in_halves}
use Rattle.wire.specs.Stored.{stored, store}
use Rattle.wire.specs.Bits.{digit, bit_lsb0}
use Rattle.value.specs.declared.datum.Value.TheVariants.{Int, Uint, Bytes}
use Rattle.value.specs.Types.{family_of, is_numeric}
use Rattle.value.specs.Classes.{is_character, is_enum_or_set}
use Rattle.value.specs.Columns.{declared_in, shape_in, shape_of, is_taken, refusal_of}
use Rattle.value.specs.Shapes.{bytes_of, need, decode, fault}
use Rattle.value.specs.Data.{tag, int_in, number_in, bytes_in}
use Rattle.value.specs.Domains.{domain}
use Rattle.value.specs.Reading.{taken, cut, judged, read_datum, placed, read_value, datum_of}
use Rattle.value.specs.Storing.{bytes_at, is_lent, is_in, stored_bytes}
use Rattle.value.specs.Ops.{shape_for, storage_op, op_of}
use Rattle.value_parts.specs.Parts.{sort_of, parts_of, padded}
use Rattle.record.specs.Entries.{flags_hold, charset_holds, entry_holds, entry_of}
use Rattle.record.specs.Records.{count_of, entry_place, entry_in, entries_hold, head_holds, record_valid, read_record}
use Rattle.image.specs.Present.{count_bits, shape_at, present_from}
use Rattle.image.specs.Split.{slots, head_of, step_over}
use Rattle.row_plan.specs.Plan.{item_bytes, plan_bytes, plan_of, make_plan, item_at, items_from, plan_slots, row_cursor, null, value, end}
use Rattle.row_plan.specs.Plan.{plan_step}
use Rattle.image.specs.Rows.{is_null}
use Rattle.image.specs.Puts.{filled, head_nulls, start_image, slot_bytes, put_over}
use Rattle.image.specs.WriteRow.{LentValue}
use Rattle.row_plan.specs.Puts.{item_cursor, plan_put, plan_puts, plan_write}
use Rattle.row_plan.specs.Runs.{moved_by, value_numbers, turned, is_over, run_from, read_run}

-- INT, VARCHAR(20), TINYINT UNSIGNED
abbrev profile : List ℕ
profile = 24 ∷ 0 ∷ 1 ∷ 0 ∷ 3 ∷ 0 ∷ 3 ∷ 12 ∷ 0 ∷ 0 ∷ 0 ∷ 0 ∷ 15 ∷ 10 ∷ 20 ∷ 0 ∷ 0 ∷ 0 ∷ 1 ∷ 13 ∷ 0 ∷ 0 ∷ 0 ∷ 0 ∷ []

abbrev row : List ℕ
row = 248 ∷ 254 ∷ 255 ∷ 255 ∷ 255 ∷ 2 ∷ 97 ∷ 98 ∷ 200 ∷ []

-- signed of 4 bytes, counted by 1, unsigned of 1
abbrev plan : List ℕ
plan = 13 ∷ 0 ∷ 0 ∷ 47 ∷ 1 ∷ 0 ∷ 2 ∷ 2 ∷ 0 ∷ []

pub worked_made : (make_plan profile (7 ∷ []) (replicate 9 0) ≡ ok ((9, 3), plan))
    × (make_plan profile (5 ∷ []) (replicate 7 9) ≡ ok ((6, 2), 13 ∷ 0 ∷ 0 ∷ 2 ∷ 2 ∷ 0 ∷ 9 ∷ []))
    × (make_plan profile (7 ∷ []) (replicate 8 9) ≡ refuse 8 0)
    × (make_plan (take 23 profile) (7 ∷ []) (replicate 9 9) ≡ refuse 11 0)
unfolding le_value le_bytes signed_of twos_of stored store digit bit_lsb0 family_of is_numeric is_character is_enum_or_set declared_in shape_in shape_of
    is_taken refusal_of need decode fault taken cut judged read_datum placed read_value shape_for storage_op op_of sort_of parts_of padded flags_hold
    charset_holds entry_holds entry_of count_of entry_place entry_in entries_hold head_holds record_valid read_record count_bits shape_at present_from
    slots head_of step_over item_bytes plan_bytes plan_of make_plan item_at items_from plan_slots plan_step moved_by value_numbers turned is_over
    run_from read_run
worked_made = (refl, refl, refl, refl)

worked_steps :
    -- the first row, and the second behind it
    (plan_step plan (row ++ row) (row_cursor 0 0 1) ≡ ok (value 0 (Int (negsuc 1)) (row_cursor 0 1 5)))
    × (plan_step plan (row ++ row) (row_cursor 9 1 5) ≡ ok (value 1 (Bytes (part 6 2)) (row_cursor 9 2 8)))
    × (plan_step plan (row ++ row) (row_cursor 9 2 8) ≡ ok (value 2 (Uint 200) (row_cursor 9 3 9)))
    × (plan_step plan (row ++ row) (row_cursor 9 3 9) ≡ ok (end 9))
    × (plan_step plan (row ++ row) (row_cursor 9 4 9) ≡ refuse 14 4)
    × (plan_step plan (row ++ row) (row_cursor 18 0 1) ≡ refuse 9 0)
    -- the second row's own null bits
    × (plan_step plan (row ++ (1 ∷ [])) (row_cursor 9 0 1) ≡ ok (null 0 (row_cursor 9 1 1)))
    -- an op that is none, at column 258; bytes behind the last whole item say nothing
    × (plan_step (0 ∷ 2 ∷ 1 ∷ 77 ∷ []) row (row_cursor 1 0 1) ≡ refuse 11 258)
    × (plan_step [] [] (row_cursor 5 0 0) ≡ ok (end 0))
unfolding le_value le_bytes signed_of twos_of stored store digit bit_lsb0 family_of is_numeric is_character is_enum_or_set declared_in shape_in shape_of
    is_taken refusal_of need decode fault taken cut judged read_datum placed read_value shape_for storage_op op_of sort_of parts_of padded flags_hold
    charset_holds entry_holds entry_of count_of entry_place entry_in entries_hold head_holds record_valid read_record count_bits shape_at present_from
    slots head_of step_over item_bytes plan_bytes plan_of make_plan item_at items_from plan_slots plan_step moved_by value_numbers turned is_over
    run_from read_run
worked_steps = (refl, refl, refl, refl, refl, refl, refl, refl, refl)

-- from the last value of the first row on: it and two of the second, whose bytes start at 15 of both; the end; a row cut short
pub worked_runs :
    (read_run plan (row ++ row) (row_cursor 0 2 8) (replicate 24 0)
    ≡ ok (
      (3, row_cursor 9 2 8),
      3 ∷ 200 ∷ 0 ∷ 0 ∷ 0 ∷ 0 ∷ 0 ∷ 0 ∷ 2 ∷ (2 ^ 64 - 2) ∷ 0 ∷ 0 ∷ 0 ∷ 0 ∷ 0 ∷ 0
          ∷ 11 ∷ 15 ∷ 2 ∷ 0 ∷ 0 ∷ 0 ∷ 0 ∷ 0 ∷ [],
    ))
    × (read_run plan (row ++ row) (row_cursor 9 3 9) (replicate 8 7) ≡ ok ((0, row_cursor 18 0 1), replicate 8 7))
    × (read_run plan (row ++ (248 ∷ [])) (row_cursor 9 0 1) (replicate 8 7) ≡ refuse 9 0)
    × (read_run plan row (row_cursor 0 0 1) (replicate 7 7) ≡ refuse 8 0)
unfolding le_value le_bytes signed_of twos_of stored store digit bit_lsb0 family_of is_numeric is_character is_enum_or_set declared_in shape_in shape_of
    is_taken refusal_of need decode fault taken cut judged read_datum placed read_value shape_for storage_op op_of sort_of parts_of padded flags_hold
    charset_holds entry_holds entry_of count_of entry_place entry_in entries_hold head_holds record_valid read_record count_bits shape_at present_from
    slots head_of step_over item_bytes plan_bytes plan_of make_plan item_at items_from plan_slots plan_step moved_by value_numbers turned is_over
    run_from read_run
worked_runs = (refl, refl, refl, refl)

-- an image of the first and third column alone, by the plan of all three: -2, and then 200 is taken for the length of the string, which is
-- not there
pub worked_other :
    (read_run plan (252 ∷ 254 ∷ 255 ∷ 255 ∷ 255 ∷ 200 ∷ []) (row_cursor 0 0 1) (replicate 16 0)
    ≡ ok ((1, row_cursor 0 1 5), 2 ∷ (2 ^ 64 - 2) ∷ 0 ∷ 0 ∷ 0 ∷ 0 ∷ 0 ∷ 0 ∷ 0 ∷ 0 ∷ 0 ∷ 0 ∷ 0 ∷ 0 ∷ 0 ∷ 0 ∷ []))
    × (read_run plan (252 ∷ 254 ∷ 255 ∷ 255 ∷ 255 ∷ 200 ∷ []) (row_cursor 0 1 5) (replicate 16 0) ≡ refuse 9 1)
unfolding le_value le_bytes signed_of twos_of stored store digit bit_lsb0 family_of is_numeric is_character is_enum_or_set declared_in shape_in shape_of
    is_taken refusal_of need decode fault taken cut judged read_datum placed read_value shape_for storage_op op_of sort_of parts_of padded flags_hold
    charset_holds entry_holds entry_of count_of entry_place entry_in entries_hold head_holds record_valid read_record count_bits shape_at present_from
    slots head_of step_over item_bytes plan_bytes plan_of make_plan item_at items_from plan_slots plan_step moved_by value_numbers turned is_over
    run_from read_run
worked_other = (refl, refl)

-- the row written with a byte to spare, its null bits lent with no spare bit set; and with a byte less than it takes
abbrev values : List LentValue
values =
    record { lent = []; value = Int (negsuc 1) } ∷ record { lent = 122 ∷ 97 ∷ 98 ∷ []; value = Bytes (part 1 2) }
    ∷ record { lent = []; value = Uint 200 } ∷ []

pub worked_written : (plan_write profile (7 ∷ []) (0 ∷ []) values (replicate 10 0) ≡ ok (item_cursor 3 9, row ++ (0 ∷ [])))
    × (plan_write profile (7 ∷ []) (0 ∷ []) values (replicate 8 0) ≡ refuse 8 0)
unfolding are_bytes le_value le_bytes twos_of in_halves stored store digit bit_lsb0 family_of is_numeric is_character is_enum_or_set declared_in shape_in
    shape_of is_taken refusal_of tag int_in number_in bytes_in domain bytes_of taken datum_of bytes_at is_lent is_in stored_bytes shape_for storage_op
    op_of flags_hold charset_holds entry_holds entry_of count_of entry_place entry_in entries_hold head_holds record_valid read_record count_bits shape_at
    present_from slots head_of is_null filled head_nulls start_image slot_bytes put_over item_bytes plan_bytes plan_of item_at items_from plan_slots
    plan_put plan_puts plan_write
worked_written = (refl, refl)

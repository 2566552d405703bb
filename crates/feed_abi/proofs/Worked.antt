-- Document 01's worked reading by a plan, and a second row behind it, in which the first column is NULL. Computed on the definitions.
-- Assumes nothing.
use Prim.Native.Nat.{ℕ}
use mathlib.Core.Path.{◌≡◌, refl}
use mathlib.Core.List.{List, [], ◌∷◌, ◌++◌}
use lib.ListN.{take, drop, replicate}
use Rattle.wire.specs.Outcome.{ok, refuse}
use Rattle.wire.specs.Number.{le_value, le_bytes}
use Rattle.wire.specs.Signed.{signed_of, twos_of}
use Rattle.wire.specs.Stored.{stored, store}
use Rattle.wire.specs.Bits.{digit, bit_lsb0}
use Rattle.value.specs.Types.{family_of, is_numeric}
use Rattle.value.specs.Columns.{shape_in, shape_of, is_taken, refusal_of}
use Rattle.value.specs.Classes.{is_character, is_enum_or_set}
use Rattle.value.specs.Shapes.{need, decode, fault}
use Rattle.value.specs.Reading.{taken, cut, judged, read_datum, placed, read_value}
use Rattle.value.specs.Ops.{shape_for, storage_op, op_of}
use Rattle.value_parts.specs.Parts.{sort_of, parts_of, padded}
use Rattle.record.specs.Entries.{flags_hold, charset_holds, entry_holds, entry_of}
use Rattle.record.specs.Records.{entry_in, entries_hold, head_holds, record_valid, read_record}
use Rattle.image.specs.Present.{count_bits, shape_at, present_from}
use Rattle.image.specs.Split.{slots, head_of, step_over}
use Rattle.row_plan.specs.Plan.{item_bytes, plan_bytes, plan_of, make_plan, item_at, items_from, plan_slots, plan_step}
use Rattle.row_plan.specs.Runs.{moved_by, value_numbers, turned, is_over, run_from, read_run}
use Rattle.feed_abi.specs.Calls.{feed_plan, feed_run}

-- INT, VARCHAR(20), TINYINT UNSIGNED
abbrev profile : List ℕ
profile = 0x18 ∷ 0 ∷ 1 ∷ 0 ∷ 3 ∷ 0 ∷ 3 ∷ 0x0c ∷ 0 ∷ 0 ∷ 0 ∷ 0 ∷ 0x0f ∷ 0x0a ∷ 0x14 ∷ 0 ∷ 0 ∷ 0 ∷ 1 ∷ 0x0d ∷ 0 ∷ 0 ∷ 0 ∷ 0 ∷ []

abbrev plan : List ℕ
plan = 13 ∷ 0 ∷ 0 ∷ 47 ∷ 1 ∷ 0 ∷ 2 ∷ 2 ∷ 0 ∷ []

-- -2, 'ab', 200; NULL, 'ab', 200
abbrev images : List ℕ
images = 0xf8 ∷ 0xfe ∷ 0xff ∷ 0xff ∷ 0xff ∷ 2 ∷ 0x61 ∷ 0x62 ∷ 0xc8 ∷ 0xf9 ∷ 2 ∷ 0x61 ∷ 0x62 ∷ 0xc8 ∷ []

-- the bytes of the second row start in the images
abbrev values : List ℕ
values =
    (2 ∷ 0xfffffffffffffffe ∷ 0 ∷ 0 ∷ 0 ∷ 0 ∷ 0 ∷ 0 ∷ []) ++ (11 ∷ 6 ∷ 2 ∷ 0 ∷ 0 ∷ 0 ∷ 0 ∷ 0 ∷ []) ++ (3 ∷ 200 ∷ 0 ∷ 0 ∷ 0 ∷ 0 ∷ 0 ∷ 0 ∷ [])
    ++ (1 ∷ 0 ∷ 0 ∷ 0 ∷ 0 ∷ 0 ∷ 0 ∷ 0 ∷ []) ++ (11 ∷ 11 ∷ 2 ∷ 0 ∷ 0 ∷ 0 ∷ 0 ∷ 0 ∷ []) ++ (3 ∷ 200 ∷ 0 ∷ 0 ∷ 0 ∷ 0 ∷ 0 ∷ 0 ∷ [])

pub worked : (feed_plan profile (7 ∷ []) (replicate 10 7) ≡ ok (9 ∷ 3 ∷ [], plan ++ (7 ∷ [])))
    × (feed_plan profile (7 ∷ []) (replicate 8 7) ≡ refuse 8 0)
    -- room for one more value than there is
    × (feed_run plan images 0 0 1 (replicate 56 7) ≡ ok (6 ∷ 14 ∷ 0 ∷ 1 ∷ [], values ++ replicate 8 7))
    -- cut in the second string: what stands before it is told, and then why there is no more
    × (feed_run plan (take 12 images) 0 1 5 (replicate 56 7) ≡ ok (3 ∷ 9 ∷ 1 ∷ 1 ∷ [], take 24 (drop 8 values) ++ replicate 32 7))
    × (feed_run plan (take 12 images) 9 1 1 (replicate 56 7) ≡ refuse 9 1)
unfolding le_value le_bytes signed_of twos_of stored store digit bit_lsb0 family_of is_numeric is_character is_enum_or_set shape_in shape_of is_taken
    refusal_of need decode fault taken cut judged read_datum placed read_value shape_for storage_op op_of sort_of parts_of padded flags_hold
    charset_holds
    entry_holds entry_of entry_in entries_hold head_holds record_valid read_record count_bits shape_at present_from slots head_of step_over item_bytes
    plan_bytes plan_of make_plan item_at items_from plan_slots plan_step moved_by value_numbers turned is_over run_from read_run feed_plan feed_run
worked = (refl, refl, refl, refl, refl)

-- Document 01's worked image in two blocks, and the first bytes of a long value. Computed on the definitions. Assumes nothing.
use Prim.Native.Nat.{ℕ}
use mathlib.Core.Path.{◌≡◌, refl}
use mathlib.Core.List.{List, [], ◌∷◌, ◌++◌}
use lib.ListN.{replicate}
use Rattle.wire.specs.Outcome.{ok, refuse}
use Rattle.wire.specs.Number.{le_value}
use Rattle.wire.specs.Signed.{signed_of, twos_of}
use Rattle.wire.specs.Stored.{stored}
use Rattle.wire.specs.Bits.{digit, bit_lsb0}
use Rattle.value.specs.Types.{family_of, is_numeric}
use Rattle.value.specs.Columns.{shape_in, shape_of, is_taken}
use Rattle.value.specs.Classes.{is_character, is_enum_or_set}
use Rattle.value.specs.Shapes.{need, prefix, decode, fault, most_of}
use Rattle.value.specs.Reading.{taken, cut, judged, read_datum, placed}
use Rattle.value_parts.specs.Parts.{sort_of, parts_of, padded}
use Rattle.record.specs.Entries.{flags_hold, charset_holds, entry_holds, entry_of}
use Rattle.record.specs.Records.{count_of, entry_in, entries_hold, head_holds, record_valid, read_record}
use Rattle.image.specs.Present.{count_bits, shape_at, present_from}
use Rattle.image.specs.Split.{slots, slots_at, head_of}
use Rattle.image.specs.Room.{most_of_all, image_room}
use Rattle.blocks.specs.Turns.{too_long, turn_of}
use Rattle.blocks.specs.Fits.{waits, is_long, fits_in, is_counted, is_fit}
use Rattle.blocks.specs.Gives.{commit, by_turn, give_over, give_open, give_long, give_in, given_fit, head_carry, give_block, begin_blocks}
use Rattle.blocks.specs.Ends.{end_over, end_in, ended_fit, end_blocks}
use Rattle.feed_abi.specs.Blocks.{told_block, feed_begin, feed_give, feed_end}

-- INT, VARCHAR(20), TINYINT UNSIGNED; and BLOB
abbrev profile : List ℕ
profile = 0x18 ∷ 0 ∷ 1 ∷ 0 ∷ 3 ∷ 0 ∷ 3 ∷ 0x0c ∷ 0 ∷ 0 ∷ 0 ∷ 0 ∷ 0x0f ∷ 0x0a ∷ 0x14 ∷ 0 ∷ 0 ∷ 0 ∷ 1 ∷ 0x0d ∷ 0 ∷ 0 ∷ 0 ∷ 0 ∷ []

abbrev blob : List ℕ
blob = 0x0c ∷ 0 ∷ 1 ∷ 0 ∷ 1 ∷ 0 ∷ 0xfc ∷ 8 ∷ 2 ∷ 0 ∷ 0 ∷ 0 ∷ []

-- a carry that begins with these bytes, so many zeros behind them
abbrev carried : List ℕ → ℕ → List ℕ
carried front n = front ++ replicate n 0

-- the next state, sort, column, bytes taken, and seven parts: -2, more, 'ab' at 2 in the carry, 200, NULL, the end
pub worked : (feed_begin profile (7 ∷ []) (replicate 1024 0) ≡ ok (0 ∷ 0 ∷ 0 ∷ 0 ∷ 0 ∷ []))
    × (feed_begin profile (7 ∷ []) (replicate 1023 0) ≡ refuse 20 0)
    × (feed_give profile (7 ∷ []) (replicate 1024 0) (0xf8 ∷ 0xfe ∷ 0xff ∷ 0xff ∷ 0xff ∷ 2 ∷ 0x61 ∷ []) 0 0 0 0 0
    ≡ ok (0 ∷ 1 ∷ 1 ∷ 0 ∷ 5 ∷ 2 ∷ 0 ∷ 5 ∷ 18446744073709551614 ∷ replicate 6 0, carried (0xf8 ∷ 0xfe ∷ 0xff ∷ 0xff ∷ 0xff ∷ []) 1019))
    × (feed_give profile (7 ∷ []) (carried (0xf8 ∷ []) 1023) (2 ∷ 0x61 ∷ []) 0 1 1 0 5
    ≡ ok (0 ∷ 1 ∷ 3 ∷ 0 ∷ 7 ∷ 12 ∷ 0 ∷ 2 ∷ replicate 7 0, carried (0xf8 ∷ 2 ∷ 0x61 ∷ []) 1021))
    × (feed_give profile (7 ∷ []) (carried (0xf8 ∷ 2 ∷ 0x61 ∷ []) 1021) (0x62 ∷ 0xc8 ∷ []) 0 1 3 0 7
    ≡ ok (0 ∷ 2 ∷ 1 ∷ 0 ∷ 8 ∷ 11 ∷ 1 ∷ 1 ∷ 2 ∷ 2 ∷ replicate 5 0, carried (0xf8 ∷ 2 ∷ 0x61 ∷ 0x62 ∷ []) 1020))
    × (feed_give profile (7 ∷ []) (carried (0xf8 ∷ []) 1023) (0xc8 ∷ []) 0 2 1 0 8
    ≡ ok (0 ∷ 3 ∷ 1 ∷ 0 ∷ 9 ∷ 3 ∷ 2 ∷ 1 ∷ 200 ∷ replicate 6 0, carried (0xf8 ∷ 0xc8 ∷ []) 1022))
    × (feed_give profile (7 ∷ []) (replicate 1024 0) (0xf9 ∷ 7 ∷ []) 0 0 0 0 0
    ≡ ok (0 ∷ 1 ∷ 1 ∷ 0 ∷ 1 ∷ 1 ∷ 0 ∷ 1 ∷ replicate 7 0, carried (0xf9 ∷ []) 1023))
    × (feed_give profile (7 ∷ []) (carried (0xf8 ∷ []) 1023) (7 ∷ []) 0 3 1 0 9
    ≡ ok (0 ∷ 3 ∷ 1 ∷ 0 ∷ 9 ∷ 0 ∷ 0 ∷ 0 ∷ 9 ∷ replicate 6 0, carried (0xf8 ∷ []) 1023))
    -- a phase that there is not is the closed one
    × (feed_give profile (7 ∷ []) (carried (0xf8 ∷ []) 1023) [] 3 1 1 0 5 ≡ refuse 21 0)
    × (feed_end profile (7 ∷ []) (carried (0xf8 ∷ []) 1023) 0 3 1 0 9 ≡ ok (2 ∷ 0 ∷ 0 ∷ 0 ∷ 0 ∷ 0 ∷ 0 ∷ 0 ∷ 9 ∷ replicate 6 0))
    × (feed_end profile (7 ∷ []) (carried (0xf8 ∷ 2 ∷ 0x61 ∷ []) 1021) 0 1 3 0 7 ≡ refuse 9 1)
    -- 3,000 bytes are long, and what comes of them is told in parts
    × (feed_give blob (1 ∷ []) (replicate 1024 0) (0xfe ∷ 0xb8 ∷ 0x0b ∷ 1 ∷ 2 ∷ []) 0 0 0 0 0
    ≡ ok (1 ∷ 0 ∷ 3 ∷ 3000 ∷ 3 ∷ 13 ∷ 0 ∷ 3 ∷ 3000 ∷ replicate 6 0, carried (0xfe ∷ 0xb8 ∷ 0x0b ∷ []) 1021))
    × (feed_give blob (1 ∷ []) (carried (0xfe ∷ 0xb8 ∷ 0x0b ∷ []) 1021) (1 ∷ 2 ∷ []) 1 0 3 3000 3
    ≡ ok (1 ∷ 0 ∷ 3 ∷ 2998 ∷ 5 ∷ 14 ∷ 0 ∷ 2 ∷ 2 ∷ replicate 6 0, carried (0xfe ∷ 0xb8 ∷ 0x0b ∷ []) 1021))
unfolding le_value signed_of twos_of stored digit bit_lsb0 family_of is_numeric is_character is_enum_or_set shape_in shape_of is_taken need prefix decode
    fault most_of taken cut judged read_datum placed sort_of parts_of padded flags_hold charset_holds entry_holds entry_of count_of entry_in
    entries_hold head_holds record_valid read_record count_bits shape_at present_from slots slots_at head_of most_of_all image_room too_long turn_of waits
    is_long fits_in is_counted is_fit commit by_turn give_over give_open give_long give_in given_fit head_carry give_block begin_blocks end_over end_in
    ended_fit end_blocks told_block feed_begin feed_give feed_end
worked = (refl, refl, refl, refl, refl, refl, refl, refl, refl, refl, refl, refl, refl)

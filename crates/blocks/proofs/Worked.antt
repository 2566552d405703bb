-- Document 01's worked image in blocks, cut at every place. Computed on the definitions. Assumes nothing.
use Prim.Native.Nat.{ℕ, zero, suc}
use mathlib.Core.Path.{◌≡◌, refl}
use mathlib.Core.Bool.{false}
use mathlib.Core.List.{List, [], ◌∷◌, ◌++◌, map}
use lib.IntN.{negsuc}
use lib.ListN.{take, drop, replicate}
use Rattle.wire.specs.Outcome.{Outcome, ok, refused, refuse}
use Rattle.wire.specs.Number.{le_value}
use Rattle.wire.specs.Signed.{signed_of}
use Rattle.wire.specs.Stored.{stored}
use Rattle.wire.specs.Bits.{digit, bit_lsb0}
use Rattle.value.specs.Data.{null, int, uint, bytes}
use Rattle.value.specs.Types.{family_of, is_numeric}
use Rattle.value.specs.Classes.{is_character, is_enum_or_set}
use Rattle.value.specs.Columns.{shape_in, shape_of, is_taken}
use Rattle.value.specs.Shapes.{need, prefix, decode, fault, most_of}
use Rattle.value.specs.Reading.{taken, cut, judged, read_datum, placed, datum_of}
use Rattle.record.specs.Entries.{flags_hold, charset_holds, entry_holds, entry_of}
use Rattle.record.specs.Records.{count_of, entry_in, entries_hold, head_holds, record_valid, read_record}
use Rattle.image.specs.Present.{count_bits, shape_at, present_from}
use Rattle.image.specs.Split.{slots, slots_at, head_of}
use Rattle.image.specs.Room.{most_of_all, image_room}
use Rattle.blocks.specs.declared.state.Arriving.{Arriving}
use Rattle.blocks.specs.States.{opened, begun, Arrived, more, null as null₁, value, long, part, end}
use Rattle.blocks.specs.Turns.{too_long, turn_of}
use Rattle.blocks.specs.Fits.{waits, is_long, fits_in, is_counted, is_fit}
use Rattle.blocks.specs.Gives.{Handed, commit, by_turn, give_over, give_open, give_long, give_in, given_fit, head_carry, give_block}
use Rattle.blocks.specs.Ends.{end_over, end_in, ended_fit}
use Rattle.blocks.specs.Streams.{datum, size, byte, Stream, stopped, with, byte_pieces}
use Rattle.blocks.specs.Inner.Futures.{stream_long, stream_slots, future_in, future}

abbrev profile : List ℕ
profile = 0x18 ∷ 0 ∷ 1 ∷ 0 ∷ 3 ∷ 0 ∷ 3 ∷ 0x0c ∷ 0 ∷ 0 ∷ 0 ∷ 0 ∷ 0x0f ∷ 0x0a ∷ 0x14 ∷ 0 ∷ 0 ∷ 0 ∷ 1 ∷ 0x0d ∷ 0 ∷ 0 ∷ 0 ∷ 0 ∷ []

abbrev row : List ℕ
row = 0xf8 ∷ 0xfe ∷ 0xff ∷ 0xff ∷ 0xff ∷ 2 ∷ 0x61 ∷ 0x62 ∷ 0xc8 ∷ []

-- ---- every block given until `more` or `end`, and then the end call; m is more than enough calls
abbrev Go : Type 0
Go = Arriving → List ℕ → List ℕ → List (List ℕ) → Stream

-- the answer, the carry and the rest of the block, and the blocks behind it; f ends, g goes on
abbrev next : (Arriving → List ℕ → Stream) → Go → List ℕ → List ℕ → List (List ℕ) → Arriving → Arrived → ℕ → Stream
next f g carry b [] st more k = f st carry
next f g carry b (c ∷ bs) st more k = g st carry c bs
next f g carry b [] st (end used) k = f st carry
next f g carry b (c ∷ bs) st (end used) k = g st carry c bs
next f g carry b bs st (null₁ j) k = with (datum j null ∷ []) (g st carry (drop k b) bs)
next f g carry b bs st (value j v) k = with (datum j (datum_of carry v) ∷ []) (g st carry (drop k b) bs)
next f g carry b bs st (long j l) k = with (size j l ∷ []) (g st carry (drop k b) bs)
next f g carry b bs st (part j l) k = with (byte_pieces j (take l b)) (g st carry (drop k b) bs)

abbrev went : (Arriving → List ℕ → Stream) → Go → List ℕ → List (List ℕ) → Outcome Handed → Stream
went f g b bs (refused w) = stopped (refused w)
went f g b bs (ok x) = next f g x.1 b bs x.0.next x.0.arrival x.0.taken

unfoldable pub run : ℕ → List ℕ → List ℕ → ℕ → ℕ → Go
unfolding datum_of given_fit ended_fit
run zero r p n nb st carry b bs = stopped (ok 0)
run (suc m) r p n nb st carry b bs =
    went (λ st carry. stopped (ended_fit r p n nb st carry)) (run m r p n nb) b bs (given_fit r p n nb st carry b)

-- a carry with room for 20 bytes of a value
abbrev small : List ℕ
small = replicate 21 0

abbrev wanted : Stream
wanted = record { pieces = datum 0 (int (negsuc 1)) ∷ datum 1 (bytes (0x61 ∷ 0x62 ∷ [])) ∷ datum 2 (uint 200) ∷ []; how = ok 9 }

abbrev in_blocks : List ℕ → List (List ℕ) → Stream
in_blocks carry bs = run 40 profile (7 ∷ []) 3 1 begun carry [] bs

abbrev ones : List ℕ → List (List ℕ)
ones s = map (λ b. b ∷ []) s

abbrev cut_at : ℕ → List (List ℕ)
cut_at k = take k row ∷ drop k row ∷ []

-- one block; cut into two at every place; byte by byte
whole_row : in_blocks small (row ∷ []) ≡ wanted
unfolding le_value signed_of stored digit bit_lsb0 family_of is_numeric is_character is_enum_or_set shape_in shape_of is_taken need decode fault taken
    cut judged read_datum placed datum_of entry_of entry_in count_of count_bits shape_at present_from slots slots_at prefix too_long turn_of commit
    by_turn
    give_over give_open give_long waits is_long most_of most_of_all image_room fits_in is_counted is_fit give_in given_fit end_over end_in ended_fit run
whole_row = refl

cut_row : map (λ k. in_blocks small (cut_at k)) (0 ∷ 1 ∷ 2 ∷ 3 ∷ 4 ∷ 5 ∷ 6 ∷ 7 ∷ 8 ∷ 9 ∷ []) ≡ replicate 10 wanted
unfolding le_value signed_of stored digit bit_lsb0 family_of is_numeric is_character is_enum_or_set shape_in shape_of is_taken need decode fault taken
    cut judged read_datum placed datum_of entry_of entry_in count_of count_bits shape_at present_from slots slots_at prefix too_long turn_of commit
    by_turn
    give_over give_open give_long waits is_long most_of most_of_all image_room fits_in is_counted is_fit give_in given_fit end_over end_in ended_fit run
cut_row = refl

byte_row : in_blocks small (ones row) ≡ wanted
unfolding le_value signed_of stored digit bit_lsb0 family_of is_numeric is_character is_enum_or_set shape_in shape_of is_taken need decode fault taken
    cut judged read_datum placed datum_of entry_of entry_in count_of count_bits shape_at present_from slots slots_at prefix too_long turn_of commit
    by_turn
    give_over give_open give_long waits is_long most_of most_of_all image_room fits_in is_counted is_fit give_in given_fit end_over end_in ended_fit run
byte_row = refl

-- with room for 4 bytes a string of 5 is long: its parts join to it, however cut; a byte behind the image stays unread
abbrev long_row : List ℕ
long_row = 0xf8 ∷ 0xfe ∷ 0xff ∷ 0xff ∷ 0xff ∷ 5 ∷ 0x61 ∷ 0x62 ∷ 0x63 ∷ 0x64 ∷ 0x65 ∷ 0xc8 ∷ 0x77 ∷ []

abbrev tight : List ℕ
tight = replicate 5 0

abbrev long_wanted : Stream
long_wanted =
    record {
      pieces =
          datum 0 (int (negsuc 1)) ∷ size 1 5 ∷ byte 1 0x61 ∷ byte 1 0x62 ∷ byte 1 0x63 ∷ byte 1 0x64 ∷ byte 1 0x65 ∷ datum 2
          (uint 200) ∷ [];
      how = ok 12;
    }

long_row_lem : (in_blocks tight (long_row ∷ []) ≡ long_wanted) × (in_blocks tight (ones long_row) ≡ long_wanted)
    × (map (λ k. in_blocks tight (take k long_row ∷ drop k long_row ∷ []))
    (0 ∷ 1 ∷ 2 ∷ 3 ∷ 4 ∷ 5 ∷ 6 ∷ 7 ∷ 8 ∷ 9 ∷ 10 ∷ 11 ∷ 12 ∷ 13 ∷ []) ≡ replicate 14 long_wanted)
    × (future profile (7 ∷ []) 1 begun tight long_row ≡ long_wanted)
unfolding le_value signed_of stored digit bit_lsb0 family_of is_numeric is_character is_enum_or_set shape_in shape_of is_taken need decode fault taken
    cut judged read_datum placed datum_of entry_of entry_in count_of count_bits shape_at present_from slots slots_at prefix too_long turn_of commit
    by_turn
    give_over give_open give_long waits is_long most_of most_of_all image_room fits_in is_counted is_fit give_in given_fit end_over end_in ended_fit
    stream_long stream_slots future_in run
long_row_lem = (refl, refl, refl, refl)

-- cut short at every place: the answers so far, and 9 at the column that the walk tells
short_row : map (λ k. (in_blocks tight (take k long_row ∷ [])).how) (0 ∷ 1 ∷ 5 ∷ 6 ∷ 10 ∷ 11 ∷ 12 ∷ [])
    ≡ refuse 9 0 ∷ refuse 9 0 ∷ refuse 9 1 ∷ refuse 9 1 ∷ refuse 9 1 ∷ refuse 9 2 ∷ ok 12 ∷ []
unfolding le_value signed_of stored digit bit_lsb0 family_of is_numeric is_character is_enum_or_set shape_in shape_of is_taken need decode fault taken
    cut judged read_datum placed datum_of entry_of entry_in count_of count_bits shape_at present_from slots slots_at prefix too_long turn_of commit
    by_turn
    give_over give_open give_long waits is_long most_of most_of_all image_room fits_in is_counted is_fit give_in given_fit end_over end_in ended_fit run
short_row = refl

-- the same by the public call, with a carry of 1,024 bytes
public_row : give_block profile (7 ∷ []) begun (replicate 1024 0) (take 3 row)
    ≡ ok (record { arrival = more; taken = 3; next = opened 0 3 3 }, take 3 row ++ replicate 1021 0)
unfolding flags_hold charset_holds entry_holds entries_hold head_holds record_valid read_record head_of head_carry give_block le_value signed_of stored
    digit bit_lsb0 family_of is_numeric is_character is_enum_or_set shape_in shape_of is_taken need decode fault taken cut judged read_datum placed
    datum_of entry_of entry_in count_of count_bits shape_at present_from slots slots_at prefix too_long turn_of commit by_turn give_over give_open
    give_long waits
    is_long most_of most_of_all image_room fits_in is_counted is_fit give_in given_fit end_over end_in ended_fit run
public_row = refl

-- a made-up state with fewer bytes used than held is not fit: with it the end would tell 8 bytes before the call, and 6 behind it
odd_state : is_fit profile (7 ∷ []) 3 1 (opened 0 3 0) (0xf8 ∷ 0xfe ∷ 0xff ∷ replicate 18 0) ≡ false
unfolding is_counted is_fit
odd_state = refl

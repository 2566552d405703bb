-- The worked readings of document 01 that it marks P: one statement over one table, computed from the definitions. Behind it the same for
-- rows events, request 1, and the other tables that hold the definitions against the paper's own numbers. `readings` in
-- proofs/Readings.antt proves all of it. Assumes nothing.
use Rattle.std.specs.Prelude.{ℕ, Bool, true, false, List, [], ◌∷◌, ◌++◌, ◌≡◌, pos, negsuc, length, replicate, None, Some}
use Rattle.wire.specs.Outcome.{Outcome, ok, refused, refuse, after, out_of}
use Rattle.wire.specs.Bits.{bit_lsb0, bit_msb0}
use Rattle.wire.specs.Packed.{read_packed, packed_bytes}
use Rattle.wire.specs.Parts.{part}
use Rattle.temporal.specs.declared.storage.Storage.{Storage}
use Rattle.temporal.specs.declared.storage.Storage.TheVariants.{Datetime2, Time2}
use Rattle.temporal.specs.declared.parts.Temporal.{Temporal}
use Rattle.temporal.specs.Reading.{read_temporal}
use Rattle.value.specs.declared.shape.Shape.TheVariants.{Counted}
use Rattle.value.specs.Columns.{char_length, shape_of}
use Rattle.value.specs.declared.classes.Dialect.TheVariants.{Document}
use Rattle.value.specs.Data.{Datum, null, int, uint, temporal}
use Rattle.record.specs.Records.{record_bytes}
use Rattle.table_map.specs.Events.{read_event, part_in}
use Rattle.map_check.specs.Ranks.{table_place}
use Rattle.map_check.specs.Check.{check_map}
use Rattle.map_check.specs.Names.{column_name, name_in}
use Rattle.image.specs.Walk.{walk_image}
use Rattle.rows_event.specs.declared.event.Rows.{Rows}
use Rattle.rows_event.specs.Events.{read_rows}
use Rattle.rows_event.specs.Images.{set_of, Met, images_of}
use Rattle.promises.specs.Tables.{EachRow, both, column, worked, worked_event, worked_image, worked_answers}
use Rattle.promises.specs.Temporals.{Temporals}
use Rattle.promises.specs.Metadata.{Metadata}
use Rattle.promises.specs.Classes.{Classes}
use Rattle.promises.specs.WorkedMaps.{int_entries, WorkedMaps}
use Rattle.promises.specs.Profiles.{Profiles}
use Rattle.promises.specs.Numbers.{Numbers}

-- a reading: what is read, and the bytes that say it
pub data Reading : Type 0 where
  packed : ℕ → List ℕ → Reading
  timed : Storage → List ℕ → Outcome Temporal → Reading
  char : ℕ → ℕ → ℕ → ℕ → Reading
  event : List ℕ → List ℕ → Reading
  walked : List ℕ → List ℕ → List ℕ → List (ℕ × Datum) → ℕ → Reading

-- a temporal, read to the end of its bytes, or a refusal
abbrev pub to_end : List ℕ → Outcome Temporal → Outcome (Temporal × ℕ)
to_end bytes (ok t) = ok (t, length bytes)
to_end bytes (refused w) = refused w

-- what the paper means by it
abbrev pub Holds : Reading → Type 0
-- the number is written as these bytes, and they are read as it, to their end
Holds (packed number bytes) = both (packed_bytes number) (read_packed bytes 0) ≡ both bytes (ok (number, length bytes))
-- these bytes of a column of this storage are read as the temporal, to their end, or refused
Holds (timed storage bytes answer) = read_temporal storage 0 bytes 0 ≡ to_end bytes answer
-- a CHAR column with this metadata has this declared length, and its values so many length bytes
Holds (char m0 m1 declared lengthBytes) = both (char_length m0 m1) (shape_of (column 254 m0 m1)) ≡ both declared (Counted lengthBytes)
-- the check of this event (post-header length 8), to document 01's letter, gives this record
Holds (event bytes profile) = after (check_map Document bytes 8) (λ es. ok (record_bytes es)) ≡ ok profile
-- under this record and these presence bits the walk over this image gives these answers, and so many bytes used
Holds (walked profile presence image answers used) = walk_image profile presence image ≡ record { answers = answers; how = ok used }

unfoldable pub table : List Reading
table =
    packed 250 (0xfa ∷ [])
    ∷ packed 251 (0xfc ∷ 0xfb ∷ 0x00 ∷ [])
    ∷ packed 65536 (0xfd ∷ 0x00 ∷ 0x00 ∷ 0x01 ∷ [])
    -- -00:00:01.500000
    ∷ timed (Time2 2) (0x7f ∷ 0xff ∷ 0xfe ∷ 0xce ∷ [])
    (ok (Temporal.Time record { negative = true; hours = 0; minutes = 0; seconds = 1; micros = 500000 }))
    -- -00:00:00.990000
    ∷ timed (Time2 2) (0x7f ∷ 0xff ∷ 0xff ∷ 0x9d ∷ [])
    (ok (Temporal.Time record { negative = true; hours = 0; minutes = 0; seconds = 0; micros = 990000 }))
    ∷ timed (Time2 2) (0x7f ∷ 0xff ∷ 0xff ∷ 0x9c ∷ []) (refused (out_of 0 7))
    -- 2000-01-01 00:00:00
    ∷ timed (Datetime2 0) (0x99 ∷ 0x64 ∷ 0x42 ∷ 0x00 ∷ 0x00 ∷ [])
    (ok (Temporal.Datetime record { year = 2000; month = 1; day = 1; hour = 0; minute = 0; second = 0; micros = 0 }))
    ∷ char 0xfe 0xff 255 1
    ∷ char 0xee 0x00 256 2
    ∷ event worked_event worked
    ∷ walked worked (0x07 ∷ []) worked_image worked_answers 9
    ∷ []

-- packed integers: the least and the greatest of every form, and what is no such form
unfoldable pub packed_table : List Reading
packed_table =
    packed 0 (0x00 ∷ [])
    ∷ packed 65535 (0xfc ∷ 0xff ∷ 0xff ∷ [])
    ∷ packed 16777215 (0xfd ∷ 0xff ∷ 0xff ∷ 0xff ∷ [])
    ∷ packed 16777216 (0xfe ∷ 0x00 ∷ 0x00 ∷ 0x00 ∷ 0x01 ∷ 0x00 ∷ 0x00 ∷ 0x00 ∷ 0x00 ∷ [])
    ∷ packed 18446744073709551615 (0xfe ∷ 0xff ∷ 0xff ∷ 0xff ∷ 0xff ∷ 0xff ∷ 0xff ∷ 0xff ∷ 0xff ∷ [])
    ∷ []

-- bytes that the shortest form would not be, and what is read of them
abbrev pub ReadAs : List ℕ × Outcome (ℕ × ℕ) → Type 0
ReadAs x = read_packed x.0 0 ≡ x.1

unfoldable pub other_forms : List (List ℕ × Outcome (ℕ × ℕ))
other_forms =
    (0xfc ∷ 0x05 ∷ 0x00 ∷ [], ok (5, 3))
    ∷ (0xfd ∷ 0x05 ∷ 0x00 ∷ 0x00 ∷ [], ok (5, 4))
    ∷ (0xfe ∷ 0x05 ∷ 0x00 ∷ 0x00 ∷ 0x00 ∷ 0x00 ∷ 0x00 ∷ 0x00 ∷ 0x00 ∷ [], ok (5, 9))
    ∷ (0xfb ∷ [], refuse 2 0)
    ∷ (0xff ∷ [], refuse 2 0)
    ∷ (0xfc ∷ 0x05 ∷ [], refuse 1 0)
    ∷ ([], refuse 1 0)
    ∷ []

-- images under document 01's record with columns absent, which have no null bit; and with none present
unfoldable pub image_table : List Reading
image_table =
    -- the second column absent and the third NULL: its null bit is the second
    walked worked (0x05 ∷ []) (0xfe ∷ 0xfe ∷ 0xff ∷ 0xff ∷ 0xff ∷ []) ((0, int (negsuc 1)) ∷ (2, null) ∷ []) 5
    -- the first absent, and spare bits of presence set
    ∷ walked worked (0xfe ∷ []) (0x01 ∷ 0xc8 ∷ []) ((1, null) ∷ (2, uint 200) ∷ []) 2
    ∷ walked worked (0xf8 ∷ []) [] [] 0
    -- a record of kind 2, of 300 INT columns: the first and the last present
    ∷ walked (0x0e ∷ 0x07 ∷ 0x02 ∷ 0x00 ∷ 0x2c ∷ 0x01 ∷ int_entries 300) (0x01 ∷ replicate 36 0 ++ (0x08 ∷ []))
    (0xfc ∷ 0x05 ∷ 0x00 ∷ 0x00 ∷ 0x00 ∷ 0xfe ∷ 0xff ∷ 0xff ∷ 0xff ∷ []) ((0, int (pos 5)) ∷ (299, int (negsuc 1)) ∷ []) 9
    ∷ []

-- ---- rows events
-- a reading: the event's code, the record and the table id of its map, and its body; its parts and its images
pub record RowsReading : Type 0 where
  pub code : ℕ
  pub profile : List ℕ
  pub id : ℕ
  pub body : List ℕ
  pub parts : Rows
  pub images : List Met

-- it has these parts, and the walk over its images gives these, to the end
abbrev pub RowsHold : RowsReading → Type 0
RowsHold x =
    both (read_rows x.code x.profile x.id x.body) (images_of x.profile x.parts x.body)
    ≡ both (ok x.parts) (record { images = x.images; how = ok tt })

-- the answers of an image whose one column is a time of so many seconds and microseconds
abbrev pub time_answers : Bool → ℕ → ℕ → List (ℕ × Datum)
time_answers negative seconds micros =
    (0, temporal (Temporal.Time record { negative = negative; hours = 0; minutes = 0; seconds = seconds; micros = micros })) ∷ []

unfoldable pub rows_table : List RowsReading
rows_table =
    -- the first edition: a row written
    record {
      code = 23;
      profile = worked;
      id = 42;
      body = 0x2a ∷ 0x00 ∷ 0x00 ∷ 0x00 ∷ 0x00 ∷ 0x00 ∷ 0x01 ∷ 0x00 ∷ 0x03 ∷ 0x07 ∷ worked_image;
      parts = record { flags = 1; extra = None; before = part 9 1; after = None; images = 10 };
      images = record { second = false; bytes = worked_image; answers = worked_answers } ∷ [];
    }
    -- the second: the same row, behind two bytes of extra data
    ∷ record {
      code = 30;
      profile = worked;
      id = 42;
      body = 0x2a ∷ 0x00 ∷ 0x00 ∷ 0x00 ∷ 0x00 ∷ 0x00 ∷ 0x01 ∷ 0x00 ∷ 0x04 ∷ 0x00 ∷ 0xaa ∷ 0xbb ∷ 0x03 ∷ 0x07 ∷ worked_image;
      parts = record { flags = 1; extra = Some (part 10 2); before = part 13 1; after = None; images = 14 };
      images = record { second = false; bytes = worked_image; answers = worked_answers } ∷ [];
    }
    -- an update of one TIME2(2) column, from 00:00:00 to -00:00:01.500000, behind extra data of no bytes
    ∷ record {
      code = 31;
      profile = 0x0c ∷ 0x00 ∷ 0x01 ∷ 0x00 ∷ 0x01 ∷ 0x00 ∷ 0x13 ∷ 0x0a ∷ 0x02 ∷ 0x00 ∷ 0x00 ∷ 0x00 ∷ [];
      id = 42;
      body =
          0x2a ∷ 0x00 ∷ 0x00 ∷ 0x00 ∷ 0x00 ∷ 0x00 ∷ 0x01 ∷ 0x00 ∷ 0x02 ∷ 0x00 ∷ 0x01 ∷ 0x01 ∷ 0x01 ∷ 0x00 ∷ 0x80 ∷ 0x00 ∷ 0x00 ∷ 0x00
          ∷ 0x00 ∷ 0x7f ∷ 0xff ∷ 0xfe ∷ 0xce ∷ [];
      parts = record { flags = 1; extra = Some (part 10 0); before = part 11 1; after = Some (part 12 1); images = 13 };
      images =
          record { second = false; bytes = 0x00 ∷ 0x80 ∷ 0x00 ∷ 0x00 ∷ 0x00 ∷ []; answers = time_answers false 0 0 }
          ∷ record { second = true; bytes = 0x00 ∷ 0x7f ∷ 0xff ∷ 0xfe ∷ 0xce ∷ []; answers = time_answers true 1 500000 }
          ∷ [];
    }
    ∷ []

-- refused: the code, the table id of the map and the event's body, under document 01's record; the number, and the place
pub record RowsRefusal : Type 0 where
  pub code : ℕ
  pub id : ℕ
  pub body : List ℕ
  pub number : ℕ
  pub place : ℕ

abbrev pub rows_refusal : ℕ → ℕ → List ℕ → ℕ → ℕ → RowsRefusal
rows_refusal code id body number place = record { code = code; id = id; body = body; number = number; place = place }

abbrev pub RowsRefused : RowsRefusal → Type 0
RowsRefused x = read_rows x.code worked x.id x.body ≡ refuse x.number x.place

-- table 42, flags 1, and what is behind them
abbrev pub rows_body : List ℕ → List ℕ
rows_body rest = 0x2a ∷ 0x00 ∷ 0x00 ∷ 0x00 ∷ 0x00 ∷ 0x00 ∷ 0x01 ∷ 0x00 ∷ rest

unfoldable pub rows_refusals : List RowsRefusal
rows_refusals =
    -- another code, before anything is read
    rows_refusal 26 42 [] 16 0
    -- parts cut short: id, flags, the extra data and its length, the count, the presence bits, the second set
    ∷ rows_refusal 23 42 (0x2a ∷ 0x00 ∷ 0x00 ∷ 0x00 ∷ 0x00 ∷ []) 1 0
    ∷ rows_refusal 23 42 (0x2a ∷ 0x00 ∷ 0x00 ∷ 0x00 ∷ 0x00 ∷ 0x00 ∷ 0x01 ∷ []) 1 6
    ∷ rows_refusal 30 42 (rows_body (0x02 ∷ [])) 1 8
    ∷ rows_refusal 30 42 (rows_body (0x03 ∷ 0x00 ∷ [])) 1 8
    ∷ rows_refusal 30 42 (rows_body (0x03 ∷ 0x00 ∷ 0xaa ∷ [])) 1 11
    ∷ rows_refusal 23 42 (rows_body (0x03 ∷ [])) 1 9
    ∷ rows_refusal 24 42 (rows_body (0x03 ∷ 0x07 ∷ [])) 1 10
    -- a count that is no packed integer, and an extra length of 1
    ∷ rows_refusal 25 42 (rows_body (0xfb ∷ [])) 2 8
    ∷ rows_refusal 32 42 (rows_body (0x01 ∷ 0x00 ∷ [])) 15 8
    -- another table, another count, and both; a cut event is told as cut
    ∷ rows_refusal 23 43 (rows_body (0x03 ∷ 0x07 ∷ [])) 16 0
    ∷ rows_refusal 23 42 (0x2a ∷ 0x00 ∷ 0x00 ∷ 0x00 ∷ 0x00 ∷ 0x01 ∷ 0x01 ∷ 0x00 ∷ 0x03 ∷ 0x07 ∷ []) 16 0
    ∷ rows_refusal 30 42 (rows_body (0x02 ∷ 0x00 ∷ 0x04 ∷ 0x07 ∷ [])) 16 10
    ∷ rows_refusal 23 43 (rows_body (0x04 ∷ 0x07 ∷ [])) 16 0
    ∷ rows_refusal 23 43 (rows_body (0x04 ∷ [])) 1 9
    ∷ []

-- parts of an event with one set, which is at 9 and has no column, and what is behind it at 10
abbrev pub no_columns : Rows
no_columns = record { flags = 1; extra = None; before = part 9 1; after = None; images = 10 }

-- ---- all tables
pub record Readings : Type 0 where
  -- the readings that document 01 marks P
  pub marked : EachRow Holds table
  -- packed integers at the ends of every form
  pub packings : EachRow Holds packed_table
  pub other_forms_lem : EachRow ReadAs other_forms
  -- images with columns absent
  pub images : EachRow Holds image_table
  -- rows events, request 1
  pub rows_read : EachRow RowsHold rows_table
  pub rows_refused : EachRow RowsRefused rows_refusals
  -- "11, then 16 for another code"
  pub record_first : read_rows 26 [] 42 [] ≡ refuse 11 0
  -- "a call per part, empty where refused": a part of an event, a name, and a second set where there is none
  pub no_part : part_in (λ e. e.database) (0x2a ∷ []) (read_event (0x2a ∷ []) 8) ≡ []
  pub no_name : name_in (0x01 ∷ 0x61 ∷ []) (column_name (0x01 ∷ 0x61 ∷ []) [] (table_place 1)) ≡ []
  pub no_second : set_of no_columns (rows_body (0x03 ∷ 0xf8 ∷ [])) true ≡ []
  -- a bit past the bytes is not set, whichever way they run
  pub bits_past : (bit_lsb0 (0xff ∷ []) 8 ≡ false) × (bit_msb0 (0xff ∷ []) 8 ≡ false)
  -- where no set has a column, nothing is covered by no image, and any byte is left over: 9 at 0. Spare bits are no columns
  pub none_left : images_of worked no_columns (rows_body (0x03 ∷ 0xf8 ∷ [])) ≡ record { images = []; how = ok tt }
  pub left_over : images_of worked no_columns (rows_body (0x03 ∷ 0xf8 ∷ 0x00 ∷ [])) ≡ record { images = []; how = refuse 9 0 }
  -- every type's values; metadata and classes over all type bytes; maps with every field, and refused by every rule; valid records byte by
  -- byte; the numbers of the calls for C
  pub temporals : Temporals
  pub metadata : Metadata
  pub classes : Classes
  pub maps : WorkedMaps
  pub profiles : Profiles
  pub numbers : Numbers

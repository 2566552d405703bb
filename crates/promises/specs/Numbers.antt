-- The numbers of the calls for C (docs/ABI.md, bindings/feed.h): sorts of values and their parts, dialects, statuses, and the order in
-- which every answer has its numbers. `numbers` in proofs/Readings/Numbers.antt proves all of it. Assumes nothing.
use Rattle.std.specs.Prelude.{ℕ, suc, ◌≡◌, List, [], ◌∷◌, length, replicate}
use Rattle.wire.specs.Outcome.{refused as refused_as, out_of, Outcome, ok, refuse}
use Rattle.value.specs.declared.classes.Dialect.TheVariants.{Document, Mysql, Mariadb}
use Rattle.feed_abi.specs.Answers.{status_of, numbers_left, bytes_left}
use Rattle.feed_abi.specs.Calls.{dialect_of, feed_map, feed_check, feed_column, feed_names, feed_name, feed_first, feed_step, feed_start, feed_put}
use Rattle.feed_abi.specs.Calls.{feed_room, feed_rows, feed_image}
use Rattle.feed_abi.specs.Fields.{feed_parts, feed_fields, feed_field, feed_item}
use Rattle.promises.specs.Tables.{EachRow, worked, worked_event, worked_image}

-- eleven columns: TINYINT, TINYINT UNSIGNED, FLOAT, DOUBLE, TIMESTAMP(6), YEAR, DATE, DATETIME(6), TIME(6), VARCHAR(276), TINYINT that may
-- be NULL
abbrev pub every_kind : List ℕ
every_kind =
    0x48 ∷ 0x00 ∷ 0x01 ∷ 0x00 ∷ 0x0b ∷ 0x00
    ∷ 0x01 ∷ 0x0c ∷ 0x00 ∷ 0x00 ∷ 0x00 ∷ 0x00
    ∷ 0x01 ∷ 0x0d ∷ 0x00 ∷ 0x00 ∷ 0x00 ∷ 0x00
    ∷ 0x04 ∷ 0x0c ∷ 0x04 ∷ 0x00 ∷ 0x00 ∷ 0x00
    ∷ 0x05 ∷ 0x0c ∷ 0x08 ∷ 0x00 ∷ 0x00 ∷ 0x00
    ∷ 0x11 ∷ 0x08 ∷ 0x06 ∷ 0x00 ∷ 0x00 ∷ 0x00
    ∷ 0x0d ∷ 0x08 ∷ 0x00 ∷ 0x00 ∷ 0x00 ∷ 0x00
    ∷ 0x0e ∷ 0x08 ∷ 0x00 ∷ 0x00 ∷ 0x00 ∷ 0x00
    ∷ 0x12 ∷ 0x08 ∷ 0x06 ∷ 0x00 ∷ 0x00 ∷ 0x00
    ∷ 0x13 ∷ 0x08 ∷ 0x06 ∷ 0x00 ∷ 0x00 ∷ 0x00
    ∷ 0x0f ∷ 0x08 ∷ 0x14 ∷ 0x01 ∷ 0x21 ∷ 0x02
    ∷ 0x01 ∷ 0x0e ∷ 0x00 ∷ 0x00 ∷ 0x00 ∷ 0x00
    ∷ []

-- all of them are present, and the last is NULL
abbrev pub all_present : List ℕ
all_present = 0xff ∷ 0x07 ∷ []

abbrev pub nulls : List ℕ
nulls = 0x00 ∷ 0xfc ∷ []

abbrev pub kinds_image : List ℕ
kinds_image =
    0x00 ∷ 0xfc
    ∷ 0xfe
    ∷ 0xc8
    ∷ 0x00 ∷ 0x00 ∷ 0x80 ∷ 0x3f
    ∷ 0x00 ∷ 0x00 ∷ 0x00 ∷ 0x00 ∷ 0x00 ∷ 0x00 ∷ 0xf0 ∷ 0x3f
    ∷ 0x65 ∷ 0x53 ∷ 0xf1 ∷ 0x00 ∷ 0x00 ∷ 0x00 ∷ 0x07
    ∷ 0x64
    ∷ 0x3f ∷ 0xa0 ∷ 0x0f
    ∷ 0x99 ∷ 0x2d ∷ 0x78 ∷ 0x71 ∷ 0x49 ∷ 0x00 ∷ 0x00 ∷ 0x7b
    ∷ 0x7f ∷ 0xef ∷ 0x7c ∷ 0xff ∷ 0xff ∷ 0xfc
    ∷ 0x02 ∷ 0x00 ∷ 0x61 ∷ 0x62
    ∷ []

-- a cursor's column and offset, and the eleven numbers of a step from there: sort, column, next column, next offset, and seven parts
abbrev pub StepTells : ℕ × ℕ × List ℕ → Type 0
StepTells x = feed_step every_kind all_present kinds_image x.0 x.1 ≡ ok x.2

unfoldable pub steps : List (ℕ × ℕ × List ℕ)
steps =
    (0, 2, 2 ∷ 0 ∷ 1 ∷ 3 ∷ 18446744073709551614 ∷ 0 ∷ 0 ∷ 0 ∷ 0 ∷ 0 ∷ 0 ∷ [])
    ∷ (1, 3, 3 ∷ 1 ∷ 2 ∷ 4 ∷ 200 ∷ 0 ∷ 0 ∷ 0 ∷ 0 ∷ 0 ∷ 0 ∷ [])
    ∷ (2, 4, 4 ∷ 2 ∷ 3 ∷ 8 ∷ 1065353216 ∷ 0 ∷ 0 ∷ 0 ∷ 0 ∷ 0 ∷ 0 ∷ [])
    ∷ (3, 8, 5 ∷ 3 ∷ 4 ∷ 16 ∷ 4607182418800017408 ∷ 0 ∷ 0 ∷ 0 ∷ 0 ∷ 0 ∷ 0 ∷ [])
    ∷ (4, 16, 6 ∷ 4 ∷ 5 ∷ 23 ∷ 1700000000 ∷ 7 ∷ 0 ∷ 0 ∷ 0 ∷ 0 ∷ 0 ∷ [])
    ∷ (5, 23, 7 ∷ 5 ∷ 6 ∷ 24 ∷ 2000 ∷ 0 ∷ 0 ∷ 0 ∷ 0 ∷ 0 ∷ 0 ∷ [])
    ∷ (6, 24, 8 ∷ 6 ∷ 7 ∷ 27 ∷ 2000 ∷ 1 ∷ 31 ∷ 0 ∷ 0 ∷ 0 ∷ 0 ∷ [])
    ∷ (7, 27, 9 ∷ 7 ∷ 8 ∷ 35 ∷ 1983 ∷ 2 ∷ 28 ∷ 7 ∷ 5 ∷ 9 ∷ 123 ∷ [])
    ∷ (8, 35, 10 ∷ 8 ∷ 9 ∷ 41 ∷ 1 ∷ 1 ∷ 2 ∷ 3 ∷ 4 ∷ 0 ∷ 0 ∷ [])
    ∷ (9, 41, 11 ∷ 9 ∷ 10 ∷ 45 ∷ 43 ∷ 2 ∷ 0 ∷ 0 ∷ 0 ∷ 0 ∷ 0 ∷ [])
    ∷ (10, 45, 1 ∷ 10 ∷ 11 ∷ 45 ∷ 0 ∷ 0 ∷ 0 ∷ 0 ∷ 0 ∷ 0 ∷ 0 ∷ [])
    ∷ (11, 45, 0 ∷ 0 ∷ 0 ∷ 45 ∷ 0 ∷ 0 ∷ 0 ∷ 0 ∷ 0 ∷ 0 ∷ 0 ∷ [])
    ∷ []

-- a column, the sort and the parts of a value for it, and the bytes that are put; its own bytes are lent as 7a 61 62
pub record PutCase : Type 0 where
  pub column : ℕ
  pub sort : ℕ
  pub parts : List ℕ
  pub bytes : List ℕ

abbrev pub put_case : ℕ → ℕ → List ℕ → List ℕ → PutCase
put_case column sort parts bytes = record { column = column; sort = sort; parts = parts; bytes = bytes }

-- put at the buffer's start, with the next column and offset told
abbrev pub PutStores : PutCase → Type 0
PutStores x =
    feed_put every_kind all_present nulls x.column 0 x.sort x.parts (0x7a ∷ 0x61 ∷ 0x62 ∷ []) (replicate (length x.bytes) 0)
    ≡ ok (suc x.column ∷ length x.bytes ∷ [], x.bytes)

unfoldable pub puts : List PutCase
puts =
    put_case 0 2 (18446744073709551614 ∷ []) (0xfe ∷ [])
    ∷ put_case 1 3 (200 ∷ []) (0xc8 ∷ [])
    ∷ put_case 2 4 (1065353216 ∷ []) (0x00 ∷ 0x00 ∷ 0x80 ∷ 0x3f ∷ [])
    ∷ put_case 3 5 (4607182418800017408 ∷ []) (0x00 ∷ 0x00 ∷ 0x00 ∷ 0x00 ∷ 0x00 ∷ 0x00 ∷ 0xf0 ∷ 0x3f ∷ [])
    ∷ put_case 4 6 (1700000000 ∷ 7 ∷ []) (0x65 ∷ 0x53 ∷ 0xf1 ∷ 0x00 ∷ 0x00 ∷ 0x00 ∷ 0x07 ∷ [])
    ∷ put_case 5 7 (2000 ∷ []) (0x64 ∷ [])
    ∷ put_case 6 8 (2000 ∷ 1 ∷ 31 ∷ []) (0x3f ∷ 0xa0 ∷ 0x0f ∷ [])
    ∷ put_case 7 9 (1983 ∷ 2 ∷ 28 ∷ 7 ∷ 5 ∷ 9 ∷ 123 ∷ []) (0x99 ∷ 0x2d ∷ 0x78 ∷ 0x71 ∷ 0x49 ∷ 0x00 ∷ 0x00 ∷ 0x7b ∷ [])
    ∷ put_case 8 10 (1 ∷ 1 ∷ 2 ∷ 3 ∷ 4 ∷ []) (0x7f ∷ 0xef ∷ 0x7c ∷ 0xff ∷ 0xff ∷ 0xfc ∷ [])
    ∷ put_case 9 11 (1 ∷ 2 ∷ []) (0x02 ∷ 0x00 ∷ 0x61 ∷ 0x62 ∷ [])
    ∷ put_case 10 1 [] []
    ∷ []

-- an update of the second edition, with the rows 5 and 6 of one TINYINT column
abbrev pub update : List ℕ
update = 0x2a ∷ 0x00 ∷ 0x00 ∷ 0x00 ∷ 0x00 ∷ 0x00 ∷ 0x01 ∷ 0x00 ∷ 0x02 ∷ 0x00 ∷ 0x01 ∷ 0x01 ∷ 0x01 ∷ 0xfe ∷ 0x05 ∷ 0xfe ∷ 0x06 ∷ []

-- the record of that column
abbrev pub tiny_record : List ℕ
tiny_record = 0x0c ∷ 0x00 ∷ 0x01 ∷ 0x00 ∷ 0x01 ∷ 0x00 ∷ 0x01 ∷ 0x08 ∷ 0x00 ∷ 0x00 ∷ 0x00 ∷ 0x00 ∷ []

-- a step over its images, with a second set or none, from an offset, of the first set or the second
abbrev pub image_from : ℕ → ℕ → ℕ → Outcome (List ℕ)
image_from hasSecond offset second = feed_image tiny_record update 11 1 hasSecond 12 1 offset second

-- an event of one column of a type, with these optional bytes
abbrev pub one_of : ℕ → List ℕ → List ℕ
one_of kind optional =
    0x2a ∷ 0x00 ∷ 0x00 ∷ 0x00 ∷ 0x00 ∷ 0x00 ∷ 0x01 ∷ 0x00 ∷ 0x01 ∷ 0x74 ∷ 0x00 ∷ 0x01 ∷ 0x72 ∷ 0x00 ∷ 0x01 ∷ kind ∷ 0x00 ∷ 0x00 ∷ optional

-- of an INT, and of a YEAR
abbrev pub one_int : List ℕ → List ℕ
one_int optional = one_of 3 optional

abbrev pub one_year : List ℕ → List ℕ
one_year optional = one_of 13 optional

-- two groups of strings, "a" and "bc" in the first and "" in the second
abbrev pub two_groups : List ℕ
two_groups = 0x02 ∷ 0x01 ∷ 0x61 ∷ 0x02 ∷ 0x62 ∷ 0x63 ∷ 0x01 ∷ 0x00 ∷ []

pub record Numbers : Type 0 where
  -- ---- every call
  -- status 0 and the numbers, or the refusal's number and its place; 8, and nothing changed, without room for the numbers. Bytes are left
  -- as the writer leaves them
  pub answered : (status_of 2 (ok (5 ∷ 6 ∷ [])) (7 ∷ 7 ∷ 7 ∷ []) ≡ 0) × (numbers_left 2 (ok (5 ∷ 6 ∷ [])) (7 ∷ 7 ∷ 7 ∷ []) ≡ 5 ∷ 6 ∷ 7 ∷ [])
  pub refused : (status_of 2 (refuse 14 9) (7 ∷ 7 ∷ 7 ∷ []) ≡ 14) × (numbers_left 2 (refuse 14 9) (7 ∷ 7 ∷ 7 ∷ []) ≡ 9 ∷ 0 ∷ 7 ∷ [])
  pub part_told : (status_of 2 (refused_as (out_of 9 2)) (7 ∷ 7 ∷ 7 ∷ []) ≡ 10)
      × (numbers_left 2 (refused_as (out_of 9 2)) (7 ∷ 7 ∷ 7 ∷ []) ≡ 9 ∷ 2 ∷ 7 ∷ [])
  pub no_room : (status_of 2 (ok (5 ∷ 6 ∷ [])) (7 ∷ []) ≡ 8) × (numbers_left 2 (ok (5 ∷ 6 ∷ [])) (7 ∷ []) ≡ 7 ∷ [])
  pub bytes_left_lem : (bytes_left 1 (ok (5 ∷ [], 2 ∷ [])) (7 ∷ []) (1 ∷ []) ≡ 2 ∷ [])
      × (bytes_left 1 (refuse 8 0) (7 ∷ []) (1 ∷ []) ≡ 1 ∷ []) × (bytes_left 1 (ok (5 ∷ [], 2 ∷ [])) [] (1 ∷ []) ≡ 1 ∷ [])
  -- ---- maps
  -- table id, flags, start and length of the database's name and of the table's
  pub map_numbers : feed_map
      (0x2a ∷ 0x00 ∷ 0x00 ∷ 0x00 ∷ 0x00 ∷ 0x00 ∷ 0x01 ∷ 0x00 ∷ 0x02 ∷ 0x61 ∷ 0x62 ∷ 0x00 ∷ 0x03 ∷ 0x63 ∷ 0x64 ∷ 0x65 ∷ 0x00 ∷ 0x00
      ∷ 0x00 ∷ []) 8
      ≡ ok (42 ∷ 1 ∷ 9 ∷ 2 ∷ 13 ∷ 3 ∷ [])
  -- 0 is the document, 1 MySQL, 2 MariaDB, and 3 is none
  pub dialects : (dialect_of 0 ≡ ok Document) × (dialect_of 1 ≡ ok Mysql) × (dialect_of 2 ≡ ok Mariadb) × (dialect_of 3 ≡ refuse 13 0)
  -- the length of the record, which stands at the buffer's start
  pub check_numbers : feed_check worked_event 8 0 (replicate 24 0) ≡ ok (24 ∷ 3 ∷ [], worked)
  -- real type, flags, m0, m1, charset; and 14 for a column that there is not
  pub column_numbers : feed_column every_kind 9 ≡ ok (15 ∷ 8 ∷ 20 ∷ 1 ∷ 545 ∷ [])
  pub no_column : feed_column every_kind 11 ≡ refuse 14 11
  -- 1, start and length of the names in an event of one column, which may have no bytes; zeros where there are none; and the refusal of a
  -- field before them
  pub names_numbers : (feed_names (one_int (0x04 ∷ 0x03 ∷ 0x02 ∷ 0x61 ∷ 0x62 ∷ [])) 8 0 ≡ ok (1 ∷ 20 ∷ 3 ∷ []))
      × (feed_names (one_int (0x04 ∷ 0x00 ∷ [])) 8 0 ≡ ok (1 ∷ 20 ∷ 0 ∷ []))
      × (feed_names (one_int []) 8 0 ≡ ok (0 ∷ 0 ∷ 0 ∷ []))
      × (feed_names (one_int (0x01 ∷ 0x00 ∷ 0x04 ∷ 0x03 ∷ 0x02 ∷ 0x61 ∷ 0x62 ∷ [])) 8 0 ≡ refuse 7 18)
  -- start and length of a name in a list: the operator's where there are no names
  pub name_numbers : (feed_name (0x01 ∷ 0x61 ∷ 0x02 ∷ 0x62 ∷ 0x63 ∷ []) (0x00 ∷ []) 1 ≡ ok (3 ∷ 2 ∷ []))
      × (feed_name [] (0x01 ∷ 0x61 ∷ 0x02 ∷ 0x62 ∷ 0x63 ∷ []) 1 ≡ ok (3 ∷ 2 ∷ []))
      × (feed_name (0x01 ∷ 0x61 ∷ []) (0x00 ∷ 0x00 ∷ []) 1 ≡ refuse 14 1)
  -- ---- what a map says beside its record
  -- of document 01's event, start and length each: types, metadata, nullable bits, optional fields
  pub parts_numbers : (feed_parts worked_event 8 ≡ ok (15 ∷ 3 ∷ 19 ∷ 2 ∷ 21 ∷ 1 ∷ 22 ∷ 3 ∷ [])) × (feed_parts (0x2a ∷ []) 8 ≡ refuse 1 0)
  -- where its first optional field stands, how many columns have a signedness bit, and how many there are; of one YEAR by MySQL's counting
  -- and by the letter
  pub fields_numbers : (feed_fields worked_event 8 0 ≡ ok (22 ∷ 2 ∷ 3 ∷ [])) × (feed_fields (0x2a ∷ []) 8 0 ≡ refuse 1 0)
      × (feed_fields (one_year []) 8 1 ≡ ok (18 ∷ 1 ∷ 1 ∷ [])) × (feed_fields (one_year []) 8 0 ≡ ok (18 ∷ 0 ∷ 1 ∷ []))
  -- 1, the field's type, start and length of its value, and where the next stands; zeros at the end; 7 for bits of another number of
  -- columns
  pub field_numbers : (feed_field worked_event 22 2 3 ≡ ok (1 ∷ 1 ∷ 24 ∷ 1 ∷ 25 ∷ []))
      × (feed_field worked_event 25 2 3 ≡ ok (0 ∷ 0 ∷ 0 ∷ 0 ∷ 0 ∷ []))
      × (feed_field worked_event 22 9 3 ≡ refuse 7 22)
      × (feed_field (one_int (0x0c ∷ 0x01 ∷ 0x80 ∷ [])) 18 0 9 ≡ refuse 7 18)
  -- 1, and of an integer itself and 0, of a pair both, of a string start and length, of a group how many strings and where the first
  -- stands; and where the next item stands. Zeros at the end
  pub item_numbers : (feed_item 1 (0x07 ∷ 0xfc ∷ 0x01 ∷ 0x01 ∷ []) 1 ≡ ok (1 ∷ 257 ∷ 0 ∷ 4 ∷ []))
      × (feed_item 2 (0x07 ∷ 0x08 ∷ 0x09 ∷ []) 1 ≡ ok (1 ∷ 8 ∷ 9 ∷ 3 ∷ []))
      × (feed_item 3 two_groups 3 ≡ ok (1 ∷ 4 ∷ 2 ∷ 6 ∷ []))
      × (feed_item 4 two_groups 0 ≡ ok (1 ∷ 2 ∷ 1 ∷ 6 ∷ []))
      × (feed_item 4 two_groups 6 ≡ ok (1 ∷ 1 ∷ 7 ∷ 8 ∷ []))
  pub items_end : (feed_item 1 two_groups 8 ≡ ok (0 ∷ 0 ∷ 0 ∷ 0 ∷ [])) × (feed_item 2 two_groups 8 ≡ ok (0 ∷ 0 ∷ 0 ∷ 0 ∷ []))
      × (feed_item 3 two_groups 8 ≡ ok (0 ∷ 0 ∷ 0 ∷ 0 ∷ [])) × (feed_item 4 two_groups 8 ≡ ok (0 ∷ 0 ∷ 0 ∷ 0 ∷ []))
  -- an item of each list that is cut short or no packed integer; and a list that there is not
  pub items_broken : (feed_item 1 (0xfc ∷ []) 0 ≡ refuse 1 0) × (feed_item 2 (0x07 ∷ 0xfb ∷ []) 0 ≡ refuse 2 1)
      × (feed_item 3 (0x02 ∷ 0x61 ∷ []) 0 ≡ refuse 1 0) × (feed_item 4 (0x02 ∷ 0x01 ∷ 0x61 ∷ 0xfb ∷ []) 0 ≡ refuse 2 3)
  pub no_list : (feed_item 0 [] 0 ≡ refuse 13 0) × (feed_item 5 [] 0 ≡ refuse 13 0)
  -- ---- rows
  -- column and offset; the start sets spare null bits
  pub first_numbers : feed_first every_kind all_present ≡ ok (0 ∷ 2 ∷ [])
  pub start_numbers : feed_start every_kind all_present (0x00 ∷ 0x04 ∷ []) (0 ∷ 0 ∷ 0 ∷ []) ≡ ok (0 ∷ 2 ∷ [], 0x00 ∷ 0xfc ∷ 0 ∷ [])
  pub step_numbers : EachRow StepTells steps
  -- null bits, and each column at its largest: the VARCHAR(276) has two length bytes
  pub room_numbers : feed_room every_kind all_present ≡ ok (65579 ∷ 0 ∷ [])
  -- under document 01's record with the first column absent, the third from its own cursor: its null bit is the second
  pub step_absent : feed_step worked (0x06 ∷ []) (0x02 ∷ 0x00 ∷ []) 2 2 ≡ ok (1 ∷ 2 ∷ 3 ∷ 2 ∷ 0 ∷ 0 ∷ 0 ∷ 0 ∷ 0 ∷ 0 ∷ 0 ∷ [])
  -- an offset past the image is 9 at the cursor's column; a value for NULL and NULL for a value are 13 at the column found
  pub step_past : feed_step worked (0x07 ∷ []) worked_image 2 10 ≡ refuse 9 2
  -- "Image calls test 11, 12, 14, then 9", and 9 for null bits that are not whole before 9 for an offset
  pub step_order : (feed_step worked [] [] 4 10 ≡ refuse 12 0)
      × (feed_step worked (0x07 ∷ []) [] 4 10 ≡ refuse 14 4)
      × (feed_step worked (0x07 ∷ []) [] 2 10 ≡ refuse 9 0)
  -- "writers 11, 12, 14, 13, 8"
  pub start_order : feed_start worked (0x07 ∷ []) (0x00 ∷ 0x00 ∷ []) [] ≡ refuse 12 0
  pub put_order : (feed_put worked (0x07 ∷ []) [] 4 0 1 [] [] [] ≡ refuse 12 0)
      × (feed_put worked (0x07 ∷ []) (0x00 ∷ []) 4 0 1 [] [] [] ≡ refuse 14 4)
  -- NULL takes no bytes, and still its offset must be in the buffer
  pub put_past : feed_put every_kind all_present nulls 10 2 1 [] [] (0 ∷ []) ≡ refuse 8 0
  pub put_null : feed_put worked (0x05 ∷ []) (0x00 ∷ []) 1 0 1 [] [] [] ≡ refuse 13 2
  pub put_value : feed_put worked (0x05 ∷ []) (0x02 ∷ []) 1 0 3 (200 ∷ []) [] [] ≡ refuse 13 2
  pub put_numbers : EachRow PutStores puts
  -- a sort that there is not, a part too few, and one that is too great
  pub no_put : (feed_put every_kind all_present nulls 0 0 0 [] [] [] ≡ refuse 13 0)
      × (feed_put every_kind all_present nulls 0 0 12 [] [] [] ≡ refuse 13 0)
      × (feed_put every_kind all_present nulls 6 0 8 (2000 ∷ 1 ∷ []) [] [] ≡ refuse 13 0)
      × (feed_put every_kind all_present nulls 8 0 10 (2 ∷ 0 ∷ 0 ∷ 1 ∷ 0 ∷ []) [] [] ≡ refuse 13 0)
  -- ---- rows events
  -- flags; whether there is extra data, its start and length; start and length of the presence bits; whether there is a second set, its
  -- start and length; where the images begin
  pub rows_numbers : feed_rows 31 every_kind 42
      (0x2a ∷ 0x00 ∷ 0x00 ∷ 0x00 ∷ 0x00 ∷ 0x00 ∷ 0x03 ∷ 0x00 ∷ 0x04 ∷ 0x00 ∷ 0xaa ∷ 0xbb ∷ 0x0b ∷ 0xff ∷ 0x07 ∷ 0x01 ∷ 0x00 ∷ [])
      ≡ ok (3 ∷ 1 ∷ 10 ∷ 2 ∷ 13 ∷ 2 ∷ 1 ∷ 15 ∷ 2 ∷ 17 ∷ [])
  pub flags_numbers : feed_rows 23 every_kind 42
      (0x2a ∷ 0x00 ∷ 0x00 ∷ 0x00 ∷ 0x00 ∷ 0x00 ∷ 0x03 ∷ 0x02 ∷ 0x0b ∷ 0xff ∷ 0x07 ∷ [])
      ≡ ok (515 ∷ 0 ∷ 0 ∷ 0 ∷ 9 ∷ 2 ∷ 0 ∷ 0 ∷ 0 ∷ 11 ∷ [])
  pub absent_numbers : feed_rows 23 every_kind 42
      (0x2a ∷ 0x00 ∷ 0x00 ∷ 0x00 ∷ 0x00 ∷ 0x00 ∷ 0x03 ∷ 0x00 ∷ 0x0b ∷ 0xff ∷ 0x07 ∷ [])
      ≡ ok (3 ∷ 0 ∷ 0 ∷ 0 ∷ 9 ∷ 2 ∷ 0 ∷ 0 ∷ 0 ∷ 11 ∷ [])
  -- under one TINYINT column, the rows 5 to 6 and nothing behind them: 1, start and length of the image, whether it stands under the second
  -- set, the next offset and whether that is the second's; zeros at the end. The sets are asked for by start and length, the second behind
  -- whether there is one
  pub image_numbers : (image_from 1 13 0 ≡ ok (1 ∷ 13 ∷ 2 ∷ 0 ∷ 15 ∷ 1 ∷ [])) × (image_from 1 15 1 ≡ ok (1 ∷ 15 ∷ 2 ∷ 1 ∷ 17 ∷ 0 ∷ []))
      × (image_from 1 17 0 ≡ ok (0 ∷ 0 ∷ 0 ∷ 0 ∷ 0 ∷ 0 ∷ [])) × (image_from 0 15 1 ≡ ok (1 ∷ 15 ∷ 2 ∷ 0 ∷ 17 ∷ 0 ∷ []))
  -- any other number than 0 says yes
  pub image_flags : (image_from 2 13 0 ≡ ok (1 ∷ 13 ∷ 2 ∷ 0 ∷ 15 ∷ 1 ∷ [])) × (image_from 2 15 2 ≡ ok (1 ∷ 15 ∷ 2 ∷ 1 ∷ 17 ∷ 0 ∷ []))
  -- a set that runs past the event has no bytes
  pub image_set_past : feed_image tiny_record update 16 2 0 0 0 13 0 ≡ refuse 12 0

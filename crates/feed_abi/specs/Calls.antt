-- What each call answers: the rule of the library's call, its answer in numbers. Assumes nothing.
use Rattle.std.specs.Prelude.{ℕ, ◌-◌, ◌/◌, ◌≡◌, true, cond, not, List, [], ◌∷◌, ◌++◌, ltb, eqb, Option, Some, None}
use Rattle.wire.specs.Outcome.{Outcome, ok, refused, refuse, after}
use Rattle.wire.specs.declared.part.Part.{Part}
use Rattle.wire.specs.Parts.{part}
use Rattle.value.specs.declared.classes.Dialect.{Dialect}
use Rattle.value.specs.declared.classes.Dialect.TheVariants.{Document, Mysql, Mariadb}
use Rattle.value.specs.declared.datum.Value.TheVariants.{Null}
use Rattle.value_parts.specs.Parts.{sort_of, parts_of, padded, value_of, is_held}
use Rattle.table_map.specs.declared.event.Event.{Event}
use Rattle.table_map.specs.Events.{read_event}
use Rattle.record.specs.declared.entry.Entry.{Entry}
use Rattle.record.specs.Records.{entry_in, read_record}
use Rattle.map_check.specs.Ranks.{table_place}
use Rattle.map_check.specs.Names.{column_name, names_field}
use Rattle.map_check.specs.Profile.{one_if}
use Rattle.map_check.specs.Check.{check}
use Rattle.image.specs.declared.cursor.Cursor.{Cursor}
use Rattle.image.specs.declared.step.Step.TheVariants.{Null as null, Value as value, End as end}
use Rattle.image.specs.Split.{ColumnStepped, cursor, first_cursor, step_from}
use Rattle.image.specs.Puts.{start_image, put_from}
use Rattle.image.specs.Room.{read_room}
use Rattle.row_plan.specs.declared.row.RowCursor.{RowCursor}
use Rattle.row_plan.specs.declared.put.ItemCursor.{ItemCursor}
use Rattle.row_plan.specs.Plan.{row_cursor, make_plan}
use Rattle.row_plan.specs.Runs.{read_run}
use Rattle.row_plan.specs.Puts.{item_cursor, plan_put}
use Rattle.rows_event.specs.declared.event.Rows.{Rows}
use Rattle.rows_event.specs.declared.images.Images.{Images}
use Rattle.rows_event.specs.Events.{read_rows}
use Rattle.rows_event.specs.Images.{ImageStepped as Told₁, end as end₁, next_image}

-- ---- answers in numbers
abbrev pub said : {A : Type 0} → (A → List ℕ) → Outcome A → Outcome (List ℕ)
said f o = after o (λ a. ok (f a))

-- the same of a writer, which leaves a buffer too
abbrev pub said_with : {A : Type 0} → (A → List ℕ) → Outcome (A × List ℕ) → Outcome (List ℕ × List ℕ)
said_with f o = after o (λ x. ok (f x.0, x.1))

-- the length of a record, and how many entries of 6 bytes stand behind its first 6
abbrev pub record_numbers : ℕ → List ℕ
record_numbers n = n ∷ (n - 6) / 6 ∷ []

abbrev pub part_numbers : Part → List ℕ
part_numbers p = p.start ∷ (p.len ∷ [])

-- table id, flags, and where the names of the database and of the table stand
abbrev pub map_numbers : Event → List ℕ
map_numbers e = e.id ∷ (e.flags ∷ (part_numbers e.database ++ part_numbers e.table))

abbrev pub entry_numbers : Entry → List ℕ
entry_numbers e = e.real ∷ (e.flags ∷ (e.m0 ∷ (e.m1 ∷ (e.charset ∷ []))))

abbrev pub cursor_numbers : Cursor → List ℕ
cursor_numbers c = c.column ∷ (c.offset ∷ [])

-- sort, column, next column, next offset, and seven parts
abbrev pub step_numbers : ℕ → ℕ → Cursor → List ℕ → List ℕ
step_numbers sort column next ps = (sort ∷ (column ∷ (next.column ∷ (next.offset ∷ [])))) ++ padded 7 ps

-- sort 0 is the end, with the bytes used as the next offset
unfoldable pub told_numbers : ColumnStepped → List ℕ
unfolding padded sort_of parts_of
told_numbers (null column next) = step_numbers (sort_of Null) column next (parts_of Null)
told_numbers (value column v next) = step_numbers (sort_of v) column next (parts_of v)
told_numbers (end used) = step_numbers 0 0 (cursor 0 used) []

-- a part that may be absent: 1 with its start and length, or zeros
pub record Given : Type 0 where
  pub there : ℕ
  pub start : ℕ
  pub len : ℕ

abbrev pub given : ℕ → ℕ → ℕ → Given
given there start len = record { there = there; start = start; len = len }

abbrev pub names_given : Option Part → Given
names_given None = given 0 0 0
names_given (Some p) = given 1 p.start p.len

abbrev pub extra_given : Option Part → Given
extra_given extra = names_given extra

abbrev pub second_given : Option Part → Given
second_given second = names_given second

abbrev pub given_numbers : Given → List ℕ
given_numbers g = g.there ∷ (g.start ∷ (g.len ∷ []))

-- flags, extra data, presence bits, the second set, and where the images begin
abbrev pub rows_numbers : Rows → List ℕ
rows_numbers w =
    w.flags ∷ (given_numbers (extra_given w.extra)
    ++ (part_numbers w.before ++ (given_numbers (second_given w.after) ++ (w.images ∷ []))))

-- 1, the image, whether it stands under the second set, and the next cursor; zeros are the end
abbrev pub image_numbers : Told₁ → List ℕ
image_numbers (Some (image, next)) =
    1 ∷ (image.part.start ∷ (image.part.len ∷ (one_if image.second ∷ (next.at ∷ (one_if next.second ∷ [])))))
image_numbers end₁ = 0 ∷ (0 ∷ (0 ∷ (0 ∷ (0 ∷ (0 ∷ [])))))

-- how many bytes a plan has, and how many items
abbrev pub plan_numbers : ℕ × ℕ → List ℕ
plan_numbers x = x.0 ∷ (x.1 ∷ [])

-- how many values were stored, and the cursor of the next
abbrev pub run_numbers : ℕ × RowCursor → List ℕ
run_numbers x = x.0 ∷ (x.1.start ∷ (x.1.item ∷ (x.1.offset ∷ [])))

-- the next item, and where its value goes
abbrev pub put_numbers : ItemCursor → List ℕ
put_numbers c = c.item ∷ (c.offset ∷ [])

-- how many bytes an image can take; and 0, since every call has room for the two numbers of a refusal
abbrev pub room_numbers : ℕ → List ℕ
room_numbers n = n ∷ (0 ∷ [])

-- ---- maps
-- whose map it is
unfoldable pub feed_map : List ℕ → ℕ → Outcome (List ℕ)
unfolding read_event
feed_map event post_header = said map_numbers (read_event event post_header)

-- 0 document, 1 mysql, 2 mariadb
unfoldable pub dialect_of : ℕ → Outcome Dialect
dialect_of d = cond (eqb d 0) (ok Document) (cond (eqb d 1) (ok Mysql) (cond (eqb d 2) (ok Mariadb) (refuse 13 0)))

-- the record's length and its columns, with the record at the buffer's start
unfoldable pub feed_check : List ℕ → ℕ → ℕ → List ℕ → Outcome (List ℕ × List ℕ)
unfolding dialect_of
feed_check event post_header d buf = after (dialect_of d) (λ d. said_with record_numbers (check d event post_header buf))

-- 11 for a record that is not valid, 14 for a column that it has not
unfoldable pub feed_column : List ℕ → ℕ → Outcome (List ℕ)
unfolding read_record entry_in
feed_column profile j = after (read_record profile) (λ n. cond (ltb j n) (ok (entry_numbers (entry_in profile j))) (refuse 14 j))

-- 1 with start and length of the names in the event, which may have no bytes, or zeros where it has none
unfoldable pub feed_names : List ℕ → ℕ → ℕ → Outcome (List ℕ)
unfolding dialect_of
feed_names event post_header d = after (dialect_of d) (λ d. said (λ f. given_numbers (names_given f)) (names_field d event post_header))

-- start and length of a name in the list that is looked at
unfoldable pub feed_name : List ℕ → List ℕ → ℕ → Outcome (List ℕ)
unfolding column_name
feed_name names operator column = said part_numbers (column_name names operator (table_place column))

-- ---- rows
-- the first cursor
unfoldable pub feed_first : List ℕ → List ℕ → Outcome (List ℕ)
unfolding first_cursor
feed_first profile presence = said cursor_numbers (first_cursor profile presence)

-- a step from any cursor
unfoldable pub feed_step : List ℕ → List ℕ → List ℕ → ℕ → ℕ → Outcome (List ℕ)
unfolding step_from told_numbers
feed_step profile presence image column offset = said told_numbers (step_from profile presence image (cursor column offset))

-- the value that a step tells, if it tells one, is one that the machine can hold, so its sort and parts make it again
abbrev pub Held : Outcome ColumnStepped → Type 0
Held (ok (null column next)) = Unit {0}
Held (ok (value column v next)) = is_held v ≡ true
Held (ok (end used)) = Unit {0}
Held (refused r) = Unit {0}

-- the null bits stored, and the cursor of the first value
unfoldable pub feed_start : List ℕ → List ℕ → List ℕ → List ℕ → Outcome (List ℕ × List ℕ)
unfolding start_image
feed_start profile presence nulls image = said_with cursor_numbers (start_image profile presence nulls image)

-- a value stored, and the cursor of the next
unfoldable pub feed_put : List ℕ → List ℕ → List ℕ → ℕ → ℕ → ℕ → List ℕ → List ℕ → List ℕ → Outcome (List ℕ × List ℕ)
unfolding value_of put_from
feed_put profile presence nulls column offset sort ps lent image =
    after (value_of sort ps) (λ v. said_with cursor_numbers (put_from profile presence nulls (cursor column offset) lent v image))

-- the most bytes that an image can take
unfoldable pub feed_room : List ℕ → List ℕ → Outcome (List ℕ)
unfolding read_room
feed_room profile presence = said room_numbers (read_room profile presence)

-- ---- rows events
-- the parts of an event of a code, under the record and the table id of its map
unfoldable pub feed_rows : ℕ → List ℕ → ℕ → List ℕ → Outcome (List ℕ)
unfolding read_rows
feed_rows code profile id s = said rows_numbers (read_rows code profile id s)

-- the sets that numbers ask for: 0 is no second set, any other number one. A step over images looks at nothing else of an event that was
-- read
abbrev pub second_asked : ℕ → ℕ → ℕ → Option Part
second_asked there start len = cond (eqb there 0) None (Some (part start len))

abbrev pub sets_asked : Part → Option Part → Rows
sets_asked before second = record { flags = 0; extra = None; before = before; after = second; images = 0 }

-- the cursor that numbers ask for: 0 is the first set, any other number the second
abbrev pub images_at : ℕ → ℕ → Images
images_at offset second = record { at = offset; second = not (eqb second 0) }

-- a step from any cursor, under any sets
unfoldable pub feed_image : List ℕ → List ℕ → ℕ → ℕ → ℕ → ℕ → ℕ → ℕ → ℕ → Outcome (List ℕ)
unfolding next_image
feed_image profile s firstStart firstLength hasSecond secondStart secondLength offset second =
    said image_numbers (next_image profile (sets_asked (part firstStart firstLength) (second_asked hasSecond secondStart secondLength)) s
    (images_at offset second))

-- ---- rows by a plan
-- the plan's length and its items, with the plan at the buffer's start
unfoldable pub feed_plan : List ℕ → List ℕ → List ℕ → Outcome (List ℕ × List ℕ)
unfolding make_plan
feed_plan profile presence plan = said_with plan_numbers (make_plan profile presence plan)

-- as many values as the buffer of numbers holds, from any cursor, by any plan
unfoldable pub feed_run : List ℕ → List ℕ → ℕ → ℕ → ℕ → List ℕ → Outcome (List ℕ × List ℕ)
unfolding read_run
feed_run plan images start item offset values = said_with run_numbers (read_run plan images (row_cursor start item offset) values)

-- one value, for an item of any plan
unfoldable pub feed_put_item : List ℕ → List ℕ → ℕ → ℕ → ℕ → List ℕ → List ℕ → List ℕ → Outcome (List ℕ × List ℕ)
unfolding value_of plan_put
feed_put_item plan nulls item offset sort ps lent image =
    after (value_of sort ps) (λ v. said_with put_numbers (plan_put plan nulls (item_cursor item offset) lent v image))

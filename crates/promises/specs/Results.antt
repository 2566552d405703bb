-- "Any two results it allows are proved equal." A line for each public call of the libraries that answers a Result, and for those of
-- `blocks`. The call's own contract stands in it, as the checker has it from the clauses beside the code in src/ (`clauses`): two results
-- that it allows on the same arguments are the same. So no contract leaves a choice of answer; one that forgot a place, or spoke of some
-- answers alone, would be refused here. A contract sees a cursor over a list by its Model, as the place where it stands. So the calls that
-- hand one out have a second part: by the Model's own view no two answers of the code look the same. No other type in these answers has a
-- Model: a contract sees its fields. Calls that answer a number, a truth value, a struct, an enum that is no Result, or bytes have contracts
-- that say by an equality which. `results` in proofs/Demand1/Results.antt proves all of it. Assumes nothing.
use Rattle.std.specs.Prelude.{ℕ, ◌≡◌, Some}
use seplogic.Ra.Ura.{Ura}
use base.Logic.{SProp, ent}
use types.Logic.{Logic}
use prog.Memory.{Memory}
use prog.Routine.{Routine}
use contract.Lifetimes.{Lfts}
use contract.Monad.{Fun, conj, fact}
use denote.RattleType.{RattleType}
use denote.Triple.Clauses.{Ended, Clauses, AtExit}
use denote.Triple.Entry.{Args, Res}
use mir.Syntax.{Dict}
use Rattle.std.specs.declared.clone.Clone.{Ghosts as Cloned}
use Rattle.wire.specs.Outcome.{Outcome, ok, refused}
use Rattle.wire.specs.declared.part.Part.{Part}
use Rattle.table_map.specs.Lists.{Stepped, end}
use Rattle.table_map.specs.declared.list.ListItem.{Ghosts as Ruled}
use Rattle.table_map.specs.declared.list.Integers.TheView as Integers
use Rattle.table_map.specs.declared.list.Pairs.TheView as Pairs
use Rattle.table_map.specs.declared.list.Strings.TheView as Strings
use Rattle.table_map.specs.declared.list.Groups.TheView as Groups
use Rattle.wire.specs.contracts.within
use Rattle.wire.specs.contracts.read_fixed
use Rattle.wire.specs.contracts.read_packed
use Rattle.wire.specs.contracts.write_bytes
use Rattle.wire.specs.contracts.write_le
use Rattle.wire.specs.contracts.write_be
use Rattle.wire.specs.contracts.write_packed
use Rattle.temporal.specs.contracts.write_temporal
use Rattle.temporal.specs.contracts.read_temporal
use Rattle.temporal.specs.contracts.read_newdate
use Rattle.temporal.specs.contracts.read_timestamp2
use Rattle.temporal.specs.contracts.read_datetime2
use Rattle.temporal.specs.contracts.read_time2
use Rattle.value.specs.contracts.write_value
use Rattle.value.specs.contracts.write_lone
use Rattle.value.specs.contracts.write_op
use Rattle.value.specs.contracts.read_value
use Rattle.value.specs.contracts.read_lone
use Rattle.value.specs.contracts.read_op
use Rattle.value.specs.contracts.value_size
use Rattle.value.specs.contracts.lone_size
use Rattle.value_parts.specs.contracts.value_of
use Rattle.table_map.specs.contracts.write_event
use Rattle.table_map.specs.contracts.event_size
use Rattle.table_map.specs.contracts.read_event
use Rattle.table_map.specs.contracts.field.Fields.next as fields_next
use Rattle.table_map.specs.contracts.list.Integers.next as integers_next
use Rattle.table_map.specs.contracts.list.Pairs.next as pairs_next
use Rattle.table_map.specs.contracts.list.Strings.next as strings_next
use Rattle.table_map.specs.contracts.list.Groups.next as groups_next
use Rattle.table_map.specs.contracts.cut_field
use Rattle.table_map.specs.contracts.field.Fields.judge as fields_judge
use Rattle.table_map.specs.contracts.default_charset
use Rattle.table_map.specs.contracts.next_item
use Rattle.table_map.specs.contracts.list.U64ListItem.read as integer_read
use Rattle.table_map.specs.contracts.list.Tuple2U64U64ListItem.read as pair_read
use Rattle.table_map.specs.contracts.list.PartListItem.read as string_read
use Rattle.table_map.specs.contracts.list.Tuple2U64UsizeListItem.read as group_read
use Rattle.record.specs.contracts.write_entry
use Rattle.record.specs.contracts.write_head
use Rattle.record.specs.contracts.read_record
use Rattle.map_check.specs.contracts.check
use Rattle.map_check.specs.contracts.column_name
use Rattle.map_check.specs.contracts.names_field
use Rattle.image.specs.contracts.read_head
use Rattle.image.specs.contracts.first_cursor
use Rattle.image.specs.contracts.cursor.Cursor.step as cursor_step
use Rattle.image.specs.contracts.walk_end
use Rattle.image.specs.contracts.start
use Rattle.image.specs.contracts.cursor.Cursor.put as cursor_put
use Rattle.image.specs.contracts.image_room
use Rattle.row_plan.specs.contracts.make_plan
use Rattle.row_plan.specs.contracts.row.RowCursor.step as row_cursor_step
use Rattle.row_plan.specs.contracts.row.RowCursor.read as row_cursor_read
use Rattle.row_plan.specs.contracts.put.ItemCursor.put as item_cursor_put
use Rattle.rows_event.specs.contracts.read_rows
use Rattle.rows_event.specs.contracts.images.Images.next as images_next
use Rattle.blocks.specs.contracts.begin
use Rattle.blocks.specs.contracts.state.Arriving.give as arriving_give
use Rattle.blocks.specs.contracts.state.Arriving.end as arriving_end

-- any two results of which the contract holds on the same arguments are equal, whatever it says of the bytes that were lent. κs are the
-- lifetimes, a the arguments, g what the contract binds beside them, r the result, and e the arguments as the call leaves them
abbrev pub Decided : {M : Type 1} {𝓤 : Ura M} (T : Ended) → Clauses 𝓤 T → Type 1
Decided {M} {𝓤} T c =
    (κs : Lfts T.signature.lifetimes) (a : Args T.signature κs) (g g' : (c κs a).ghost) (r r' : Res T.signature κs)
    (e e' : AtExit T κs) →
    ent 𝓤 (conj 𝓤 ((c κs a).ensures g r e) ((c κs a).ensures g' r' e')) (fact 𝓤 (r ≡ r'))

-- answers that look the same are the same
abbrev pub Apart : {A B : Type 0} → (A → B) → Type 0
Apart {A} view = (a b : A) → view a ≡ view b → a ≡ b

-- a step over a list, as a contract sees it: the next cursor by the view of its Model, all else as it is
abbrev pub step_seen : {A C D : Type 0} → (C → D) → Outcome (Stepped A C) → Outcome (Stepped A D)
step_seen view (ok end) = ok end
step_seen view (ok (Some (a, next))) = ok (Some (a, view next))
step_seen view (refused w) = refused w

-- a charset and the cursor behind it, so seen
abbrev pub charset_seen : {C D : Type 0} → (C → D) → Outcome (ℕ × C) → Outcome (ℕ × D)
charset_seen view (ok (charset, pairs)) = ok (charset, view pairs)
charset_seen view (refused w) = refused w

pub record Results {M : Type 1} {𝓤 : Ura M} (𝓛 : Logic 𝓤) (mem : Memory → SProp 𝓤) (returns : Routine → Fun 𝓤) : Type 2 where
  -- `within`
  pub reach : Decided within.ended (within.clauses 𝓛 mem returns)
  -- `read_fixed`, `read_packed`
  pub packed :
      Decided read_fixed.ended (read_fixed.clauses 𝓛 mem returns)
      × Decided read_packed.ended (read_packed.clauses 𝓛 mem returns)
  -- every writer of bytes, among them `write_event` and `check`
  pub written :
      Decided write_bytes.ended (write_bytes.clauses 𝓛 mem returns)
      × Decided write_le.ended (write_le.clauses 𝓛 mem returns)
      × Decided write_be.ended (write_be.clauses 𝓛 mem returns)
      × Decided write_packed.ended (write_packed.clauses 𝓛 mem returns)
      × Decided write_temporal.ended (write_temporal.clauses 𝓛 mem returns)
      × Decided write_value.ended (write_value.clauses 𝓛 mem returns)
      × Decided write_lone.ended (write_lone.clauses 𝓛 mem returns)
      × Decided write_op.ended (write_op.clauses 𝓛 mem returns)
      × Decided write_entry.ended (write_entry.clauses 𝓛 mem returns)
      × Decided write_head.ended (write_head.clauses 𝓛 mem returns)
      × Decided write_event.ended (write_event.clauses 𝓛 mem returns)
      × Decided check.ended (check.clauses 𝓛 mem returns)
  -- `read_temporal`, `read_newdate`, `read_timestamp2`, `read_datetime2`, `read_time2`
  pub temporal :
      Decided read_temporal.ended (read_temporal.clauses 𝓛 mem returns)
      × Decided read_newdate.ended (read_newdate.clauses 𝓛 mem returns)
      × Decided read_timestamp2.ended (read_timestamp2.clauses 𝓛 mem returns)
      × Decided read_datetime2.ended (read_datetime2.clauses 𝓛 mem returns)
      × Decided read_time2.ended (read_time2.clauses 𝓛 mem returns)
  -- `read_value`, `read_lone`, `read_op`
  pub value :
      Decided read_value.ended (read_value.clauses 𝓛 mem returns)
      × Decided read_lone.ended (read_lone.clauses 𝓛 mem returns)
      × Decided read_op.ended (read_op.clauses 𝓛 mem returns)
  -- `value_size`, `lone_size`, `event_size`
  pub size :
      Decided value_size.ended (value_size.clauses 𝓛 mem returns)
      × Decided lone_size.ended (lone_size.clauses 𝓛 mem returns)
      × Decided event_size.ended (event_size.clauses 𝓛 mem returns)
  -- `value_of`
  pub made : Decided value_of.ended (value_of.clauses 𝓛 mem returns)
  -- `read_event`
  pub event : Decided read_event.ended (read_event.clauses 𝓛 mem returns)
  -- `next` of `Fields`, `Integers`, `Pairs`, `Strings` and `Groups`
  pub field : Decided fields_next.ended (fields_next.clauses 𝓛 mem returns)
  pub integer :
      Decided integers_next.ended (integers_next.clauses 𝓛 mem returns)
      × Apart (step_seen {A = ℕ} Integers.view)
  pub pair :
      Decided pairs_next.ended (pairs_next.clauses 𝓛 mem returns)
      × Apart (step_seen {A = ℕ × ℕ} Pairs.view)
  pub string :
      Decided strings_next.ended (strings_next.clauses 𝓛 mem returns)
      × Apart (step_seen {A = Part} Strings.view)
  pub group :
      Decided groups_next.ended (groups_next.clauses 𝓛 mem returns)
      × Apart (step_seen {A = ℕ × ℕ} Groups.view)
  -- `cut_field`, `Fields::judge`
  pub cut : Decided cut_field.ended (cut_field.clauses 𝓛 mem returns)
  pub judged : Decided fields_judge.ended (fields_judge.clauses 𝓛 mem returns)
  -- `default_charset`
  pub charset :
      Decided default_charset.ended (default_charset.clauses 𝓛 mem returns)
      × Apart (charset_seen Pairs.view)
  -- `next_item`, the step over any list, whatever its items are (I) and the rule by which they are read
  pub item :
      (I : RattleType) (rule : Ruled I.Denot) (i : Dict) (cloned : Cloned I.Denot) (j : Dict) →
      Decided (next_item.ended I rule i cloned j) (next_item.clauses I rule i cloned j 𝓛 mem returns)
  -- `read` of `ListItem` for integers, pairs, strings and groups
  pub integer_item : Decided integer_read.ended (integer_read.clauses 𝓛 mem returns)
  pub pair_item : Decided pair_read.ended (pair_read.clauses 𝓛 mem returns)
  pub string_item : Decided string_read.ended (string_read.clauses 𝓛 mem returns)
  pub group_item : Decided group_read.ended (group_read.clauses 𝓛 mem returns)
  -- `read_record`
  pub columns : Decided read_record.ended (read_record.clauses 𝓛 mem returns)
  -- `column_name`, `names_field`
  pub name : Decided column_name.ended (column_name.clauses 𝓛 mem returns)
  pub names : Decided names_field.ended (names_field.clauses 𝓛 mem returns)
  -- `read_head`, `first_cursor`, `Cursor::step`, `walk_end`, and `start` with `Cursor::put`
  pub head : Decided read_head.ended (read_head.clauses 𝓛 mem returns)
  pub first : Decided first_cursor.ended (first_cursor.clauses 𝓛 mem returns)
  pub step : Decided cursor_step.ended (cursor_step.clauses 𝓛 mem returns)
  pub end : Decided walk_end.ended (walk_end.clauses 𝓛 mem returns)
  pub put :
      Decided start.ended (start.clauses 𝓛 mem returns)
      × Decided cursor_put.ended (cursor_put.clauses 𝓛 mem returns)
  -- `image_room`
  pub room : Decided image_room.ended (image_room.clauses 𝓛 mem returns)
  -- `make_plan`, `RowCursor::step`, `RowCursor::read`, `ItemCursor::put`
  pub planned : Decided make_plan.ended (make_plan.clauses 𝓛 mem returns)
  pub row_step : Decided row_cursor_step.ended (row_cursor_step.clauses 𝓛 mem returns)
  pub run : Decided row_cursor_read.ended (row_cursor_read.clauses 𝓛 mem returns)
  pub item_put : Decided item_cursor_put.ended (item_cursor_put.clauses 𝓛 mem returns)
  -- `read_rows`, `Images::next`
  pub rows : Decided read_rows.ended (read_rows.clauses 𝓛 mem returns)
  pub image : Decided images_next.ended (images_next.clauses 𝓛 mem returns)
  -- `begin`, `Arriving::give`, `Arriving::end`
  pub begun : Decided begin.ended (begin.clauses 𝓛 mem returns)
  pub given : Decided arriving_give.ended (arriving_give.clauses 𝓛 mem returns)
  pub closed : Decided arriving_end.ended (arriving_end.clauses 𝓛 mem returns)

-- whatever the model of the machine's memory (M, 𝓤, 𝓛), and whatever contracts may say of memory (mem) and of code that is called (returns)
abbrev pub EveryResult : Type 2
EveryResult = (M : Type 1) (𝓤 : Ura M) (𝓛 : Logic 𝓤) (mem : Memory → SProp 𝓤) (returns : Routine → Fun 𝓤) → Results 𝓛 mem returns

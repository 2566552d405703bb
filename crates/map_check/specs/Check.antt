-- The check of a map: "After event reading, in order: n at most 255; each column's type then metadata; no metadata left over; optional
-- fields one by one, contents in full; a repeated key index; room." Request 6: "raise the check to 4,096". Assumes nothing.
use Rattle.std.specs.Prelude.{ℕ, cond, List, length, leb}
use Rattle.wire.specs.Outcome.{Outcome, ok, refuse, after}
use Rattle.wire.specs.Stored.{store}
use Rattle.wire.specs.declared.part.Part.{Part}
use Rattle.wire.specs.Parts.{lent_part}
use Rattle.value.specs.declared.classes.Dialect.{Dialect}
use Rattle.table_map.specs.declared.event.Event.{Event}
use Rattle.table_map.specs.Events.{read_event}
use Rattle.record.specs.declared.entry.Entry.{Entry}
use Rattle.record.specs.Records.{most_columns, record_bytes}
use Rattle.map_check.specs.declared.declare.Declared.{Declared}
use Rattle.map_check.specs.Columns.{take_columns}
use Rattle.map_check.specs.Ranks.{table_place, no_ranks, ranks_from, sizes_of}
use Rattle.map_check.specs.Fields.{fields_at, keep_steps, keep_fields}
use Rattle.map_check.specs.Keys.{keys_hold}
use Rattle.map_check.specs.Profile.{facts_of, entries_from}

-- "refusal 3 now begins at 4,097": at 0
unfoldable pub few_enough : List ℕ → Outcome (Unit {0})
few_enough types = cond (leb (length types) most_columns) (ok tt) (refuse 3 0)

-- an event's columns, as its record says them
abbrev pub entries_of : Dialect → List ℕ → Event → List Declared → List (ℕ × Part) → List Entry
entries_of d s e cs fs = entries_from d s (facts_of e.bits fs) cs (table_place 0) no_ranks

-- the entries of a map that passes
unfoldable pub check_event : Dialect → List ℕ → Event → Outcome (List Entry)
unfolding few_enough take_columns keep_steps ranks_from keys_hold entries_from
check_event d s e =
    after (few_enough (lent_part s e.types)) (λ few.
    after (take_columns (lent_part s e.types) (lent_part s e.metadata) 0) (λ cs.
    after (keep_fields (sizes_of d cs) (fields_at d (lent_part s e.types) e.optional.start) s) (λ fs.
    after (keys_hold s fs) (λ once.
    ok (entries_of d s e cs fs)))))

unfoldable pub check_map : Dialect → List ℕ → ℕ → Outcome (List Entry)
unfolding read_event check_event
check_map d s post_header = after (read_event s post_header) (λ e. check_event d s e)

-- its record in a buffer: the record's length and the buffer with the record at its start, or 8 at 0 for room
abbrev pub written : Outcome (List Entry) → List ℕ → Outcome (ℕ × List ℕ)
written o buf = after o (λ es. store (record_bytes es) buf 0)

-- the call
unfoldable pub check : Dialect → List ℕ → ℕ → List ℕ → Outcome (ℕ × List ℕ)
unfolding check_map record_bytes store
check d s post_header buf = written (check_map d s post_header) buf

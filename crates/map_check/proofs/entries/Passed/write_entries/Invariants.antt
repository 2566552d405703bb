-- `map_check::entries::Passed::write_entries` meets its contract. The loop's invariant: what is to be stored from here on is what was to be
-- stored from the start. Assumes nothing.
use mathlib.Core.Path.{◌≡◌}
use lib.ListN.{length}
use Rattle.wire.specs.Stored.{stored}
use Rattle.record.specs.Records.{entry_at, entries_bytes}
use Rattle.map_check.specs.Inner.Columns.{declare_all}
use Rattle.map_check.specs.Ranks.{table_place, no_ranks}
use Rattle.map_check.specs.Profile.{entries_from}
use Rattle.map_check.specs.Inner.Making.{Ready, to_come}
use Rattle.map_check.proofs.entries.Passed.write_entries.Given as goal

abbrev pub invariant-loop-j : goal.invariant-loop-j
invariant-loop-j l =
    let m = l.self in
    Ready m.event.now m.facts l.j l.progress × (length l.buf ≡ length l.initial.buf)
    × (stored (entries_bytes (to_come m.dialect m.event.now m.facts m.types.now m.metadata.now l.j l.progress)) l.buf (entry_at l.j)
    ≡ stored (entries_bytes (entries_from m.dialect m.event.now m.facts (declare_all m.types.now m.metadata.now) (table_place 0) no_ranks))
    l.initial.buf (entry_at 0))

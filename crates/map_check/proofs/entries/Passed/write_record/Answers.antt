-- `map_check::entries::Passed::write_record` meets its contract. Assumes nothing.
use mathlib.Core.Path.{ap, ◌∙◌}
use native.Mathlib.Omega.{arith}
use lib.ListN.{length}
use Rattle.wire.proofs.Stores.{not_wrote}
use Rattle.record.specs.Records.{entry_at, record_bytes}
use Rattle.record.proofs.Made.{made_length}
use Rattle.record.proofs.Places.{place_few}
use Rattle.map_check.specs.Inner.Columns.{declare_all}
use Rattle.map_check.specs.Ranks.{table_place, no_ranks}
use Rattle.map_check.specs.Profile.{entries_from}
use Rattle.map_check.proofs.EntryLaws.Making.{map_entries_length, record_written}
use Rattle.map_check.proofs.entries.Passed.write_record.Goals as goal

pub returns-then-buf-size : goal.returns-then-buf-size
returns-then-buf-size c =
    let a = c.args in
    let es = entries_from a.self.now.dialect a.self.now.event.now a.self.now.facts (declare_all a.self.now.types.now a.self.now.metadata.now) (table_place 0) no_ranks in
    let e = map_entries_length a.self.now.dialect a.self.now.event.now a.self.now.facts a.self.now.types.now a.self.now.metadata.now in
    let q =
    c.entry_at-size.ensures
    ∙ place_few (length a.self.now.types.now) c.requires.few in
    let p = not_wrote a.buf.now (record_bytes es) 0 (entry_at (length a.self.now.types.now)) _ (made_length es ∙ ap entry_at e)
    (omega (arith, c.if-buf-size.true, q)) c.refuse.ensures in record { result_value = p.0; buf_after = p.1 }

pub returns : goal.returns
returns c =
    let a = c.args in
    let es = entries_from a.self.now.dialect a.self.now.event.now a.self.now.facts (declare_all a.self.now.types.now a.self.now.metadata.now) (table_place 0) no_ranks in
    let e = map_entries_length a.self.now.dialect a.self.now.event.now a.self.now.facts a.self.now.types.now a.self.now.metadata.now in
    let q =
    c.entry_at-size.ensures
    ∙ place_few (length a.self.now.types.now)
    c.requires.few in
    rw q (let p = record_written es _ a.buf.now _ _ e
    (omega (arith, c.if-buf-size.false, q))
    c.write_head.ensures.buf_after c.write_entries.ensures in record { result_value = p.0; buf_after = p.1 })

pub write_entries-requires : goal.write_entries-requires
write_entries-requires c =
    let q = c.entry_at-size.ensures ∙ place_few (length c.args.self.now.types.now) c.requires.few in
    (c.requires, omega (arith, c.if-buf-size.false, q, c.write_head.auto.buf))

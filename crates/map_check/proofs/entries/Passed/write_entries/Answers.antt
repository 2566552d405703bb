-- `map_check::entries::Passed::write_entries` meets its contract. The loop's invariant: what is to be stored from here on is what was to be
-- stored from the start. Assumes nothing.
use mathlib.Core.Path.{refl, ◌∙◌}
use native.Mathlib.Omega.{arith}
use Rattle.record.proofs.Places.{place_few}
use Rattle.map_check.proofs.EntryLaws.Making.{start_stored, turn_stored, all_stored}
use Rattle.map_check.proofs.entries.Passed.write_entries.Goals as goal

pub first_progress-progress-requires : goal.first_progress-progress-requires
first_progress-progress-requires c = (c.requires.0.characters, c.requires.0.choices)

pub loop-j-init : goal.loop-j-init
loop-j-init c =
    let m = c.args.self.now in (
      c.first_progress-progress.ensures.ready,
      refl,
      start_stored m.dialect m.event.now m.facts m.types.now m.metadata.now _ _ c.first_progress-progress.ensures,
    )

pub next_entry-turn-requires : goal.next_entry-turn-requires
next_entry-turn-requires c = (c.loop-j-test.true, c.requires.0.few, c.loop-j.invariant.0)

pub loop-j-preserved : goal.loop-j-preserved
loop-j-preserved c =
    let m = c.args.self.now in
    let q = c.entry_at-at.ensures ∙ place_few c.loop-j.j (omega (arith, c.loop-j-test.true, c.requires.0.few)) in
    let w =
    turn_stored m.dialect m.event.now m.facts m.types.now m.metadata.now c.loop-j.j c.loop-j.progress c.next_entry-turn.result c.loop-j.buf
    _ _
    c.next_entry-turn.ensures c.loop-j-test.true
    (omega (arith, c.requires.1, c.loop-j.invariant.1))
    (rw q at c.write_entry.ensures.buf_after) c.loop-j.invariant.2 in
    (c.next_entry-turn.ensures.ready, w.0 ∙ c.loop-j.invariant.1, w.1)

pub shape_of-buf : goal.shape_of-buf
shape_of-buf c = c.loop-j.invariant.1

pub returns : goal.returns
returns c =
    let m = c.args.self.now in
    all_stored m.dialect m.event.now m.facts m.types.now m.metadata.now c.loop-j.j c.loop-j.progress c.loop-j.buf _ _ c.loop-j-test.false
    c.loop-j.invariant.2

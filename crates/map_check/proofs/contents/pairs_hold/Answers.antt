-- `map_check::contents::pairs_hold` meets its contract. The loop's invariant: what is to come from here, above the last rank, is what was
-- to come from the start. Assumes nothing.
use mathlib.Core.Path.{sym, ◌∙◌}
use borrow.Author.Tests.{le-leb, lt-leb, lt-ltb, le-ltb}
use Rattle.map_check.proofs.ContentsLaws.Tallies.{pairs_item}
use Rattle.map_check.proofs.contents.pairs_hold.Goals as goal

pub returns-then-rank-low : goal.returns-then-rank-low
returns-then-rank-low c = rw (
  ← c.loop-rank.invariant,
  pairs_item _ _ _ _ _ _ _ (sym (rw c.in-Ok-Some.field-0-is at c.in-Ok-Some.ensures)),
  lt-leb _ _ c.if-rank-low.true,
)

pub returns-then-above-rank : goal.returns-then-above-rank
returns-then-above-rank c = rw (
  ← c.loop-rank.invariant,
  pairs_item _ _ _ _ _ _ _
      (sym (rw c.in-Ok-Some.field-0-is at c.in-Ok-Some.ensures)),
  le-leb _ _ c.if-rank-low.false,
  le-ltb _ _ c.if-above-rank.true,
)

pub returns-then-not-is_charset : goal.returns-then-not-is_charset
returns-then-not-is_charset c = rw (
  ← c.loop-rank.invariant,
  pairs_item _ _ _ _ _ _ _
      (sym (rw c.in-Ok-Some.field-0-is at c.in-Ok-Some.ensures)),
  le-leb _ _ c.if-rank-low.false,
  lt-ltb _ _ c.if-above-rank.false,
  sym c.is_charset.ensures ∙ c.if-not-is_charset.true,
)

pub loop-rank-preserved : goal.loop-rank-preserved
loop-rank-preserved c = rw (
  ← c.loop-rank.invariant,
  pairs_item _ _ _ _ _ _ _
      (sym (rw c.in-Ok-Some.field-0-is at c.in-Ok-Some.ensures)),
  le-leb _ _ c.if-rank-low.false,
  lt-ltb _ _ c.if-above-rank.false,
  sym c.is_charset.ensures ∙ c.if-not-is_charset.false,
)

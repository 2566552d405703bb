-- `map_check::keys::keys_below` meets its contract. Assumes nothing.
use mathlib.Core.Path.{sym, ◌∙◌}
use native.Mathlib.Omega.{arith}
use borrow.Author.Tests.{lt-ltb, le-ltb}
use Rattle.map_check.proofs.KeyLaws.KeyItems.{key_moved, key_below, key_unread, keys_end}
use Rattle.map_check.proofs.keys.keys_below.Goals as goal

pub returns-in_default : goal.returns-in_default
returns-in_default c =
    sym (key_unread _ _ _ _ _ c.loop-at-test.true (sym c.in_default.ensures)) ∙ c.loop-at.invariant.1

pub returns-then-above-key : goal.returns-then-above-key
returns-then-above-key c = rw (
  ← c.loop-at.invariant.1,
  key_below _ c.args.columns.0 _ _ _ _ c.loop-at-test.true (sym c.in-Ok.ensures),
  le-ltb _ _ c.if-above-key.true,
)

pub loop-at-preserved : goal.loop-at-preserved
loop-at-preserved c = (
  (key_moved _ _ _ _ _ (sym c.in-Ok.ensures)).1,
  rw (
    ← c.loop-at.invariant.1,
    key_below _ c.args.columns.0 _ _ _ _ c.loop-at-test.true (sym c.in-Ok.ensures),
    lt-ltb _ _ c.if-above-key.false,
  ),
)

pub returns : goal.returns
returns c = sym (keys_end _ _ _ _ (omega arith)) ∙ c.loop-at.invariant.1

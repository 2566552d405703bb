-- `wire::bits::digit_at` meets its contract. Assumes nothing.
use mathlib.Core.Path.{sym}
use lib.ListN.{get_or-eq_default}
use Rattle.wire.proofs.Digits.{digit_none}
use borrow.Author.Rules.{rules}
use Rattle.wire.proofs.bits.digit_at.Goals as goal

pub returns-then-s-at : goal.returns-then-s-at
returns-then-s-at c = let a = c.args in
    sym (rw (get_or-eq_default a.s.now 0 {n = a.at} (search rules)) (digit_none a.j))

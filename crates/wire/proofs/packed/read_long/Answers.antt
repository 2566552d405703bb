-- `wire::packed::read_long` meets its contract. Assumes nothing.
use Rattle.std.proofs.Common.{◌≡◌, ◌+◌, ◌-◌, ◌≤◌, ◌<◌, length, arith}
use borrow.Author.Tests.{le-leb, lt-leb}
use Rattle.wire.specs.Packed.{long_form}
use Rattle.wire.proofs.packed.read_long.Goals as goal

pub returns-then-s-body : goal.returns-then-s-body
unfolding long_form
returns-then-s-body c = let a = c.args in
    let h : length a.s.now < a.at + 1 + a.k = omega arith in
    rw (lt-leb _ _ h, c.refuse.ensures)

pub returns : goal.returns
unfolding long_form
returns c = let a = c.args in
    let h : a.at + 1 + a.k ≤ length a.s.now = omega arith in
    let n : a.at + 1 + a.k - (a.at + 1) ≡ a.k = omega arith in
    rw (le-leb _ _ h, c.le.ensures.0, n)

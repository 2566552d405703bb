-- `wire::store::has_room` meets its contract. Assumes nothing.
use Prim.Native.Nat.{◌+◌, ◌-◌}
use mathlib.Core.Path.{sym, ◌∙◌}
use mathlib.Core.Logic.{dite}
use native.Mathlib.Decide.{dec_le}
use native.Mathlib.Omega.{arith}
use borrow.Author.Tests.{le-leb, lt-leb}
use Rattle.wire.proofs.store.has_room.Goals as goal

pub returns-then-len-at : goal.returns-then-len-at
returns-then-len-at c = sym (lt-leb (c.args.at + c.args.n) c.args.len (omega arith))

pub returns : goal.returns
returns c = let a = c.args in
    dite (dec_le a.n (a.len - a.at))
    (λ h. le-leb a.n (a.len - a.at) h ∙ sym (le-leb (a.at + a.n) a.len (omega arith)))
    (λ h. lt-leb a.n (a.len - a.at) (omega arith) ∙ sym (lt-leb (a.at + a.n) a.len (omega arith)))

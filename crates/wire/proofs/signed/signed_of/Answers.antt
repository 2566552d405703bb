-- `wire::signed::signed_of` meets its contract. Assumes nothing.
use Prim.Native.Nat.{◌-◌, ◌/◌, ◌^◌, ◌≤◌, ◌<◌, min}
use mathlib.Core.Path.{◌≡◌, ap, ◌∙◌}
use native.Mathlib.Omega.{arith}
use borrow.Author.Tests.{lt-ltb, le-ltb}
use lib.IntN.{negsuc}
use Rattle.wire.specs.Signed.{signed_of}
use Rattle.wire.proofs.Signs.{neg_fits, neg_is}
use Rattle.wire.proofs.signed.signed_of.Goals as goal

pub returns-then-x-top : goal.returns-then-x-top
unfolding signed_of
returns-then-x-top c =
    let a = c.args in
    let m = 256 ^ min a.k 8 in
    let h : a.x < m / 2 = omega (arith, c.top_of-top.ensures) in
    simp (lt-ltb a.x (2 ^ 63) (omega arith), lt-ltb a.x (m / 2) h)

pub overflow_sub-result : goal.overflow_sub-result
overflow_sub-result c = neg_fits c.saturating_sub-n.result (omega (arith, c.saturating_sub-n.ensures))

pub returns : goal.returns
unfolding signed_of
returns c =
    let a = c.args in
    let m = 256 ^ min a.k 8 in
    let h : m / 2 ≤ a.x = omega (arith, c.top_of-top.ensures) in
    let e : c.saturating_sub-n.result ≡ m - 1 - a.x = omega (arith, c.top_of-top.ensures, c.saturating_sub-n.ensures) in
    neg_is c.saturating_sub-n.result (omega (arith, c.saturating_sub-n.ensures)) ∙ ap negsuc e ∙ simp (le-ltb a.x (m / 2) h)

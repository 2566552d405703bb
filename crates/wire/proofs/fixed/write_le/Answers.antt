-- `wire::fixed::write_le` meets its contract. Assumes nothing.
use Rattle.std.proofs.Common.{◌≡◌, ◌∙◌, ◌≤◌, ap, arith, take, min}
use Rattle.wire.specs.Number.{le_bytes}
use Rattle.wire.proofs.Eight.{to_le_eight, le_bytes_take}
use Rattle.wire.proofs.fixed.write_le.Goals as goal

pub returns : goal.returns
returns c =
    let a = c.args in
    let h : min a.k 8 ≤ 8 = omega arith in
    let e : take (min a.k 8) c.to_le_bytes.result ≡ le_bytes (min a.k 8) a.v =
    ap (take (min a.k 8)) (c.to_le_bytes.ensures ∙ to_le_eight a.v) ∙ le_bytes_take (min a.k 8) 8 a.v h in
    rw (c.min.ensures, e) at c.write_some.ensures

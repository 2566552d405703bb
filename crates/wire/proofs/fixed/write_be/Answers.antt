-- `wire::fixed::write_be` meets its contract. Assumes nothing.
use Rattle.std.proofs.Common.{◌≡◌, ◌∙◌, ◌≤◌, ◌-◌, ap, arith, take, drop, min}
use Rattle.wire.specs.Number.{be_bytes}
use Rattle.wire.proofs.Eight.{to_be_eight, be_bytes_last}
use Rattle.wire.proofs.fixed.write_be.Goals as goal

pub returns : goal.returns
returns c =
    let a = c.args in
    let m = min a.k 8 in
    let h : m ≤ 8 = omega arith in
    let e : take (8 - (8 - m)) (drop (8 - m) c.to_be_bytes.result) ≡ be_bytes m a.v =
    ap (λ l. take (8 - (8 - m)) (drop (8 - m) l)) (c.to_be_bytes.ensures ∙ to_be_eight a.v) ∙ be_bytes_last m a.v h in
    rw (c.min.ensures, e) at c.write_some.ensures

-- `temporal::read::stored_in` meets its contract. The whole part of the bytes is at their front, and the fraction behind it; the least
-- significant byte first there is none. Assumes nothing.
use mathlib.Core.Path.{sym, ◌∙◌}
use mathlib.Core.List.{[]}
use Rattle.temporal.proofs.Steps.{whole_big, whole_little, units_big, units_little}
use Rattle.temporal.proofs.read.stored_in.Goals as goal

pub returns-then-is_big-clause-whole : goal.returns-then-is_big-clause-whole
returns-then-is_big-clause-whole c =
    let a = c.args in
    whole_big a.storage a.s.now a.at _ _ c.whole_bytes-k.ensures.0 c.whole_bytes-k.ensures.1 (sym c.is_big.ensures ∙ c.if-is_big.true)
    c.read_be-whole.ensures.value c.read_be-whole.ensures.upper_bound

pub returns-then-is_big-clause-units : goal.returns-then-is_big-clause-units
returns-then-is_big-clause-units c =
    let a = c.args in
    (units_big a.storage a.s.now a.at _ _ _ c.whole_bytes-k.ensures.0 c.fraction_width-width.ensures c.fraction_width-width.result.few
    (sym c.is_big.ensures ∙ c.if-is_big.true) c.read_be-units.ensures.value c.read_be-units.ensures.upper_bound).0

pub invariant_of-result-2 : goal.invariant_of-result-2
invariant_of-result-2 c =
    let b = sym c.is_big.ensures ∙ c.if-is_big.false in
    record { told = rw c.fraction_width-width.ensures (units_little c.args.storage [] b).1 }

pub returns-clause-whole : goal.returns-clause-whole
returns-clause-whole c =
    let a = c.args in
    whole_little a.storage a.s.now a.at _ _ c.whole_bytes-k.ensures.0 c.whole_bytes-k.ensures.1 (sym c.is_big.ensures ∙ c.if-is_big.false)
    c.read_le.ensures.value c.read_le.ensures.upper_bound

pub returns-clause-units : goal.returns-clause-units
returns-clause-units c = (units_little c.args.storage _ (sym c.is_big.ensures ∙ c.if-is_big.false)).0

-- `map_check::field::keep_fields` meets its contract. The loop's invariant: what it has noted are the fields before this one, and what is
-- to come decides the rest. Assumes nothing.
use mathlib.Core.Path.{sym, ap, ◌∙◌}
use native.Mathlib.Omega.{arith}
use Rattle.wire.specs.Outcome.{ok}
use Rattle.map_check.specs.declared.facts.KeptFields.{KeptFields}
use Rattle.map_check.proofs.Handed.{handed_on}
use Rattle.map_check.proofs.FieldLaws.FieldTurns.{cursor_moves, kind_low, rival_low, noted_tells, kept_to_first}
use Rattle.map_check.proofs.FieldLaws.FieldTurns.{kept_to_next, kept_to_refused, kept_to_end, kept_to_broken}
use Rattle.map_check.proofs.field.keep_fields.Goals as goal

pub loop-kind-init : goal.loop-kind-init
loop-kind-init c = kept_to_first _ _ _

pub bounds-places-k : goal.bounds-places-k
bounds-places-k c = omega (arith, c.from-k.ensures, kind_low _ _ _ _ (sym (rw c.in-Some.is at c.in_ok-kind.ensures)))

pub bounds-places-rival : goal.bounds-places-rival
bounds-places-rival c = omega (arith, c.from-rival.ensures, c.rival_of.ensures, rival_low c.in-Some.kind)

pub returns-then-not-stands_given : goal.returns-then-not-stands_given
returns-then-not-stands_given c =
    let e = sym (rw c.in-Some.is at c.in_ok-kind.ensures) in
    let k =
    noted_tells c.loop-kind.invariant _ _ _ _ _ (kind_low _ _ _ _ e) (c.from-rival.ensures ∙ c.rival_of.ensures)
    (rw c.from-k.ensures at c.is_some-twice.ensures) c.is_some-rivalled.ensures
    c.stands_given.ensures ∙ c.if-not-stands_given.true in
    rw c.refuse.ensures (sym (kept_to_refused c.loop-kind.invariant _ _ _ e k))

pub bounds-places-k-in-Some : goal.bounds-places-k-in-Some
bounds-places-k-in-Some c = omega (arith, c.from-k.ensures, kind_low _ _ _ _ (sym (rw c.in-Some.is at c.in_ok-kind.ensures)))

pub loop-kind-smaller : goal.loop-kind-smaller
loop-kind-smaller c =
    let w = cursor_moves _ _ _ _ (sym (rw c.in-Some.is at c.in_ok-kind.ensures)) in
    omega (arith, w.0, w.1)

pub loop-kind-preserved : goal.loop-kind-preserved
loop-kind-preserved c =
    let e = sym (rw c.in-Some.is at c.in_ok-kind.ensures) in
    let k =
    noted_tells c.loop-kind.invariant _ _ _ _ _ (kind_low _ _ _ _ e) (c.from-rival.ensures ∙ c.rival_of.ensures)
    (rw c.from-k.ensures at c.is_some-twice.ensures) c.is_some-rivalled.ensures
    c.stands_given.ensures ∙ c.if-not-stands_given.false in
    rw c.from-k.ensures (kept_to_next c.loop-kind.invariant _ _ e k)

pub returns : goal.returns
returns c =
    ap (λ (x : KeptFields). ok x) c.kept_of.ensures
    ∙ sym (kept_to_end c.loop-kind.invariant _ (sym (rw c.in_default.is at c.in_ok-kind.ensures)))

pub returns-in_err-kind : goal.returns-in_err-kind
returns-in_err-kind c =
    handed_on c.from_residual.ensures.1 ∙ sym (kept_to_broken c.loop-kind.invariant _ _ (sym c.in_err-kind.ensures))

-- `temporal::direct::read_newdate` meets its contract: three bytes, all of them the whole part. Assumes nothing.
use native.Mathlib.Omega.{arith}
use mathlib.Core.Path.{◌≡◌, refl, sym, ap, ◌∙◌}
use Rattle.std.proofs.Common.{rules, Err}
use Rattle.wire.specs.Outcome.{refused}
use Rattle.temporal.specs.declared.storage.Storage.TheVariants.{Newdate}
use Rattle.temporal.specs.Storage.{whole_bytes, is_big}
use Rattle.temporal.proofs.Steps.{ends, ends_not}
use Rattle.temporal.proofs.DirectLaws.{little_told, little_short, newdate_judged}
use Rattle.temporal.proofs.direct.read_newdate.Goals as goal

pub returns-in_err-next : goal.returns-in_err-next
unfolding whole_bytes is_big
returns-in_err-next c =
    let a = c.args in
    let r : c.from_residual.result ≡ Err c.in_err-next.field-0.0 = search rules in
    let e = ends_not a.s.now a.at 3 a.place _ (sym c.in_err-next.ensures) in
    r ∙ ap refused e.1 ∙ sym (little_short Newdate a.place a.s.now a.at 3 refl refl e.0)

pub returns : goal.returns
unfolding whole_bytes is_big
returns c =
    let a = c.args in
    let e = ends a.s.now a.at 3 a.place _ (sym c.in_ok-next.ensures) in
    let x = c.read_le.ensures in
    c.answer.ensures
    ∙ rw e.1 (little_told Newdate a.place a.s.now a.at 3 refl refl _ (omega arith) e.0 x.value x.upper_bound _
    (c.date_of.ensures ∙ newdate_judged _ _))

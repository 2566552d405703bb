-- `temporal::direct::read_time2` meets its contract: the widths are the storage's, and so is the judge. Assumes nothing.
use mathlib.Core.Path.{◌≡◌, sym, ap, ◌∙◌}
use Rattle.std.proofs.Common.{rules, Err}
use Rattle.wire.specs.Outcome.{refused}
use Rattle.temporal.specs.declared.storage.Storage.TheVariants.{Time2}
use Rattle.temporal.proofs.DirectLaws.{big_told, big_short, time2_big, time2_judged}
use Rattle.temporal.proofs.direct.read_time2.Goals as goal

pub returns-in_err-stored : goal.returns-in_err-stored
returns-in_err-stored c =
    let a = c.args in
    let x = c.in_err-stored.ensures.short in
    let r : c.from_residual.result ≡ Err c.in_err-stored.field-0.0 = search rules in
    r ∙ ap refused x.0 ∙ sym (big_short (Time2 a.m0) a.place a.s.now a.at 3 _ (time2_big a.m0) x.1)

pub returns : goal.returns
returns c =
    let a = c.args in
    let x = c.in_ok-stored.ensures.read in
    let j =
    c.time_from_packed.ensures
    ∙ time2_judged a.m0 _ _ _ x.width _ c.my_time_packed_from_binary-packed.ensures in
    c.answer.ensures ∙ big_told (Time2 a.m0) a.place a.s.now a.at 3 _ (time2_big a.m0) _ _ x _ j

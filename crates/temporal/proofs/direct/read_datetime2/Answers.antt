-- `temporal::direct::read_datetime2` meets its contract: the widths are the storage's, and so is the judge. Assumes nothing.
use mathlib.Core.Path.{◌≡◌, sym, ap, ◌∙◌}
use Rattle.std.proofs.Common.{rules, Err}
use Rattle.wire.specs.Outcome.{refused}
use Rattle.temporal.specs.declared.storage.Storage.TheVariants.{Datetime2}
use Rattle.temporal.specs.Inner.Ranged.{ranged_signed}
use Rattle.temporal.proofs.DirectLaws.{big_told, big_short, datetime2_big, datetime2_judged}
use Rattle.temporal.proofs.direct.read_datetime2.Goals as goal

pub returns-in_err-stored : goal.returns-in_err-stored
returns-in_err-stored c =
    let a = c.args in
    let x = c.in_err-stored.ensures.short in
    let r : c.from_residual.result ≡ Err c.in_err-stored.field-0.0 = search rules in
    r ∙ ap refused x.0 ∙ sym (big_short (Datetime2 a.m0) a.place a.s.now a.at 5 _ (datetime2_big a.m0) x.1)

pub returns : goal.returns
returns c =
    let a = c.args in
    let x = c.in_ok-stored.ensures.read in
    let j =
    c.datetime_from_packed.ensures
    ∙ ap ranged_signed c.my_datetime_packed_from_binary-packed.ensures
    ∙ datetime2_judged a.m0 _ _ _ x.width in
    c.answer.ensures ∙ big_told (Datetime2 a.m0) a.place a.s.now a.at 5 _ (datetime2_big a.m0) _ _ x _ j

-- `image::presence::first_set` meets its contract. Assumes nothing.
use Rattle.std.proofs.Common.{◌≡◌, ℕ, true, false, rules, ap, ◌∙◌}
use Rattle.std.specs.Option.{unwrap_or}
use Rattle.std.proofs.lemmas.Iterator.{first_from_Range}
use Rattle.wire.specs.Bits.{bit_lsb0}
use Rattle.image.proofs.PresenceLaws.Firsts.{first_told}
use Rattle.image.proofs.presence.first_set.Goals as goal

pub returns : goal.returns
returns c =
    let a = c.args in
    c.unwrap_or.ensures ∙ ap (unwrap_or c.find.result) c.max.ensures
    ∙ first_told a.s.now a.from a.n c.find.result
    (first_from_Range _ _ _ _ (λ (j : ℕ). bit_lsb0 a.s.now j ≡ true) (λ (j : ℕ). bit_lsb0 a.s.now j ≡ false) c.find.ensures.ran
    (λ x q k. search rules) (λ x q k. search rules))

-- `record::profile::entries_hold` meets its contract. Assumes nothing.
use Rattle.std.proofs.Common.{◌≡◌, ℕ, true, false, rules, arith}
use Rattle.std.proofs.lemmas.Iterator.{cases_from_all, YieldsList-from_range}
use Rattle.record.specs.Entries.{entry_holds}
use Rattle.record.specs.Records.{entry_in}
use Rattle.record.proofs.Turns.{told_by_each}
use Rattle.record.proofs.profile.entries_hold.Goals as goal

pub returns : goal.returns
returns c =
    let a = c.args in
    told_by_each a.n a.profile.now c.all.result
    (cases_from_all _ _ _ (λ (j : ℕ). entry_holds (entry_in a.profile.now j) ≡ true) (λ (j : ℕ). entry_holds (entry_in a.profile.now j) ≡ false)
    c.all.ensures.ran (YieldsList-from_range 0 a.n a.n (cc) (omega arith)) (λ x q k. search rules) (λ x q k. search rules))

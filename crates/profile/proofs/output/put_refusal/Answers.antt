-- `output::put_refusal`: the word is put, and the two numbers behind it; that is short. Assumes nothing.
use mathlib.Core.List.{◌∷◌, []}
use native.Mathlib.Omega.{arith}
use Rattle.profile.specs.Text.{line, refused_word, refused_line}
use Rattle.profile.proofs.Lines.{both}
use Rattle.profile.proofs.output.put_refusal.Goals as goal

pub returns-clause-out_after : goal.returns-clause-out_after
unfolding refused_line
returns-clause-out_after c =
    let w = c.args.refusal in
    let first = c.put_text-next.ensures in
    let last = c.put_line-len.ensures in
    let p = both refused_word (line (w.number ∷ w.place ∷ [])) c.args.out.now _ _ 0 _ _ (omega arith) (first.value, first.out_after)
    (rw c.from.ensures at last.value, rw c.from.ensures at last.out_after) in
    p.1

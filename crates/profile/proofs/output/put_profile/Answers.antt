-- `output::put_profile`: too long an input, a map that is kept, and one that is not. Assumes nothing.
use mathlib.Core.Path.{sym, ◌∙◌}
use native.Mathlib.Omega.{arith}
use borrow.Author.Rules.{rules}
use lib.Seq.{length-take-le}
use Rattle.profile.proofs.Profiles.{Kept, kept, not_kept, read_back, too_long_lem, taken}
use Rattle.profile.proofs.output.put_profile.Goals as goal
use Rattle.profile.proofs.output.put_profile.Goals.{In-Ok}

pub returns-then-event-gt-MOST_INPUT-clause-value : goal.returns-then-event-gt-MOST_INPUT-clause-value
returns-then-event-gt-MOST_INPUT-clause-value c =
    rw (too_long_lem c.args.dialect c.args.event.now _ (omega arith) c.refuse.ensures) c.put_refusal.ensures.value

pub returns-then-event-gt-MOST_INPUT-clause-out_after : goal.returns-then-event-gt-MOST_INPUT-clause-out_after
returns-then-event-gt-MOST_INPUT-clause-out_after c =
    rw (too_long_lem c.args.dialect c.args.event.now _ (omega arith) c.refuse.ensures) c.put_refusal.ensures.out_after

-- what the check has left in the record
kept_here : (c : In-Ok) → Kept c.args.dialect c.args.event.now c.in-Ok.len c.check.new.buf
kept_here c = kept _ _ _ _ _ (sym c.in-Ok.is ∙ c.check.ensures.result_value) c.check.ensures.buf_after (search rules)

pub slice_bounds-profile-end : goal.slice_bounds-profile-end
slice_bounds-profile-end c =
    let k = kept_here c in
    omega (arith, k.size, k.columns.few, c.check.auto.buf)

pub slice_bounds-put_columns-end : goal.slice_bounds-put_columns-end
slice_bounds-put_columns-end c =
    let k = kept_here (goal.at.slice_bounds-put_columns-end c).In-Ok in
    sym (length-take-le _ _ (omega (arith, k.size, k.columns.few, c.check.auto.buf)))

pub put_columns-requires-clause-n_bound : goal.put_columns-requires-clause-n_bound
put_columns-requires-clause-n_bound c =
    let k = kept_here (goal.at.put_columns-requires-clause-n_bound c).In-Ok in
    omega (arith, k.size, k.columns.few, c.columns_of.ensures)

pub put_columns-requires-clause-n_in_bounds : goal.put_columns-requires-clause-n_in_bounds
put_columns-requires-clause-n_in_bounds c =
    let k = kept_here (goal.at.put_columns-requires-clause-n_in_bounds c).In-Ok in
    omega (arith, k.size, k.columns.few, c.columns_of.ensures)

pub returns-in-Ok-clause-value : goal.returns-in-Ok-clause-value
returns-in-Ok-clause-value c =
    let k = kept_here (goal.at.returns-in-Ok-clause-value c).In-Ok in
    let t = taken c.args.dialect c.args.event.now (omega arith) in
    rw (t, k.passed, ← read_back k, ← c.columns_of.ensures) c.put_columns.ensures.value

pub returns-in-Ok-clause-out_after : goal.returns-in-Ok-clause-out_after
returns-in-Ok-clause-out_after c =
    let k = kept_here (goal.at.returns-in-Ok-clause-out_after c).In-Ok in
    let t = taken c.args.dialect c.args.event.now (omega arith) in
    rw (t, k.passed, ← read_back k, ← c.columns_of.ensures) c.put_columns.ensures.out_after

pub returns-in-Err-clause-value : goal.returns-in-Err-clause-value
returns-in-Err-clause-value c =
    let p = not_kept _ _ _ _ (sym c.in-Err.is ∙ c.check.ensures.result_value) (search rules) in
    rw (taken c.args.dialect c.args.event.now (omega arith), p) c.put_refusal-in-Err.ensures.value

pub returns-in-Err-clause-out_after : goal.returns-in-Err-clause-out_after
returns-in-Err-clause-out_after c =
    let p = not_kept _ _ _ _ (sym c.in-Err.is ∙ c.check.ensures.result_value) (search rules) in
    rw (taken c.args.dialect c.args.event.now (omega arith), p) c.put_refusal-in-Err.ensures.out_after

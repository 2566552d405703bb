-- `map_check::column::take_columns` meets its contract. The loop's invariant: what is to come from this column on, by the ranks reached, is
-- what was to come from the first. Assumes nothing.
use mathlib.Core.Path.{◌≡◌, sym, ◌∙◌, refl}
use native.Mathlib.Omega.{arith}
use borrow.Author.Tests.{eqb-true, eqb-false}
use lib.ListN.{length}
use Rattle.std.proofs.lemmas.List.{nil_from_length}
use Rattle.map_check.proofs.Handed.{handed_on}
use Rattle.map_check.proofs.ColumnLaws.Counts.{at_most_after}
use Rattle.map_check.proofs.ColumnLaws.Declares.{taken_is, cut_rest, rest_turn, no_rest, some_rest}
use Rattle.map_check.proofs.column.take_columns.Goals as goal

pub returns-in_err-column : goal.returns-in_err-column
returns-in_err-column c =
    let a = c.args in
    handed_on c.from_residual.ensures.1
    ∙ sym (rest_turn a.dialect c.loop-j.ranks a.types.now c.loop-j.rest.now _ c.loop-j-test.true ∙ rw (sym c.in_err-column.ensures) refl)
    ∙ c.loop-j.invariant.1

pub slice_bounds-rest-start : goal.slice_bounds-rest-start
slice_bounds-rest-start c = omega (arith, c.metadata_bytes.ensures, (taken_is _ _ _ _ (sym c.in_ok-column.ensures)).2)

pub slice_bounds-rest-count : goal.slice_bounds-rest-count
slice_bounds-rest-count c = omega (arith, c.metadata_bytes.ensures, (taken_is _ _ _ _ (sym c.in_ok-column.ensures)).2)

pub loop-j-preserved : goal.loop-j-preserved
loop-j-preserved c =
    let a = c.args in
    rw c.ranks_after-ranks.ensures (
      at_most_after a.dialect _ c.loop-j.invariant.0,
      rw (cut_rest c.metadata_bytes.result c.loop-j.rest.now, c.metadata_bytes.ensures)
          (sym (rest_turn a.dialect c.loop-j.ranks a.types.now c.loop-j.rest.now _ c.loop-j-test.true ∙ rw (sym c.in_ok-column.ensures) refl)
          ∙ c.loop-j.invariant.1),
    )

pub returns-then-not-is_empty : goal.returns-then-not-is_empty
returns-then-not-is_empty c =
    let l : length c.loop-j.rest.now ≡ 0 → ⊥ = eqb-false _ _ (sym c.if-not-is_empty.ensures) in
    let e : c.loop-j.j ≡ length c.args.types.now = omega (arith, c.loop-j-test.false, c.loop-j.auto.j-end) in
    rw (c.refuse.ensures, ← e) (sym (some_rest c.args.dialect c.loop-j.ranks c.args.types.now c.loop-j.rest.now _ c.loop-j-test.false l) ∙ c.loop-j.invariant.1)

pub returns : goal.returns
returns c =
    let z = nil_from_length c.loop-j.rest.now (eqb-true _ _ (sym c.if-not-is_empty.ensures)) in
    sym (no_rest c.args.dialect c.loop-j.ranks c.args.types.now _ c.loop-j-test.false) ∙ rw z at c.loop-j.invariant.1

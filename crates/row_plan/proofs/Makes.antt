-- What the maker of a plan answers and leaves, by what the code finds. Assumes nothing.
use Prim.Native.Nat.{ℕ, ◌+◌, ◌*◌, ◌≤◌, ◌<◌}
use mathlib.Core.Path.{◌≡◌, sym, ap, ◌∙◌}
use mathlib.Core.List.{List}
use native.Mathlib.Omega.{arith}
use borrow.Author.Tests.{lt-leb}
use lib.ListN.{length}
use Rattle.wire.specs.declared.refusal.Refusal.{Refusal}
use Rattle.wire.specs.Outcome.{ok, refused, refuse}
use Rattle.wire.specs.Stored.{stored, store}
use Rattle.wire.proofs.Stores.{store_fits}
use Rattle.record.specs.Records.{count_of, most_columns}
use Rattle.record.proofs.Valid.{valid_few}
use Rattle.image.specs.declared.cursor.Head.{Head}
use Rattle.image.specs.Present.{present, count_bits}
use Rattle.image.specs.Split.{head_of}
use Rattle.image.proofs.CursorLaws.Heads.{head_tested}
use Rattle.image.proofs.PresenceLaws.Presents.{present_length}
use Rattle.image.proofs.PresenceLaws.Firsts.{count_at_most}
use Rattle.row_plan.specs.Plan.{plan_of, make_plan}
use Rattle.row_plan.proofs.Items.{plan_length}

-- the record or the presence bits are refused, and so is the plan
pub make_refused : (r p d : List ℕ) (w : Refusal) → head_of r p ≡ refused w → make_plan r p d ≡ refused w
unfolding make_plan
make_refused r p d w e = rw e

-- no record has more columns than a number can count
pub few_items : (r p : List ℕ) (h : Head) → head_of r p ≡ ok h → h.present ≤ most_columns
few_items r p h e =
    let t = head_tested r p e in
    omega (arith, t.present, t.columns, count_at_most p h.columns, valid_few r t.valid)

module _ (r p d : List ℕ) (h : Head) (e : head_of r p ≡ ok h) where
  pub columns_are : h.columns ≡ count_of r
  columns_are = (head_tested r p e).columns

  pub items_are : length (present r p) ≡ h.present
  items_are = present_length r p ∙ sym (ap (count_bits p) columns_are) ∙ sym (head_tested r p e).present

  -- three bytes for each present column
  size_is : length (plan_of r p) ≡ 3 * h.present
  unfolding plan_of
  size_is = plan_length (present r p) ∙ ap (λ (i : ℕ). 3 * i) items_are

  pub make_full : length d < 3 * h.present → make_plan r p d ≡ refuse 8 0
  unfolding make_plan store
  make_full f = rw (e, lt-leb (0 + length (plan_of r p)) (length d) (omega (arith, size_is)))

  pub make_done : 3 * h.present ≤ length d → make_plan r p d ≡ ok ((3 * h.present, h.present), stored (plan_of r p) d 0)
  unfolding make_plan
  make_done f =
      let z : 0 + length (plan_of r p) ≡ 3 * h.present = omega (arith, size_is) in
      rw (e, store_fits d (plan_of r p) 0 (omega (arith, size_is)), z)

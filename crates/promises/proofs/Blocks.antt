-- Request 10, proved. Assumes nothing.
use Prim.Native.Nat.{ℕ, ◌-◌, ◌<◌}
use mathlib.Core.Path.{◌≡◌, refl, sym, ap, subst, ◌∙◌}
use mathlib.Core.List.{List, [], ◌∷◌}
use native.Mathlib.Nat.{zero-add}
use borrow.Author.Tests.{lt-ltb}
use lib.ListN.{length}
use Rattle.wire.specs.declared.refusal.Refusal.{Refusal}
use Rattle.wire.specs.Outcome.{Outcome, ok, refused, refuse}
use Rattle.wire.specs.Number.{are_bytes, Bytes}
use Rattle.wire.proofs.Inverse.{are_bytes_lem, bytes_append}
use Rattle.wire.proofs.Outcomes.{ok_not_refused, same_refused}
use Rattle.image.specs.Present.{present}
use Rattle.image.specs.Split.{head_of}
use Rattle.image.specs.Walk.{walk_image}
use Rattle.image.specs.Rows.{Says}
use Rattle.image.proofs.CursorLaws.Heads.{Over, head_is}
use Rattle.image.proofs.EndLaws.Images.{every_image, every_row}
use Rattle.blocks.specs.declared.state.Arriving.{Arriving}
use Rattle.blocks.specs.declared.state.Arrival.TheVariants.{More as more, Long as long, Part as part}
use Rattle.blocks.specs.declared.state.BlockGiven.{BlockGiven}
use Rattle.blocks.specs.States.{begun, Arrived}
use Rattle.blocks.specs.Gives.{head_carry, give_block, begin_blocks}
use Rattle.blocks.specs.Ends.{end_blocks}
use Rattle.blocks.specs.Streams.{Stream}
use Rattle.blocks.specs.Joins.{joined}
use Rattle.blocks.specs.Runs.{Run, concat, AllBytes}
use Rattle.blocks.proofs.Fits.{begun_left}
use Rattle.blocks.proofs.Runs.{blocks, same_pieces, runs}
use Rattle.blocks.proofs.Answers.{Not9, fine, other, give_not_9, closed_refused, unfit_refused, begins_begun}
use Rattle.blocks.proofs.Taken.{Truly, give_given, run_taken, came_fit, fit_ten, fit_nine}
use Rattle.blocks.proofs.Lasts.{end_only, end_told_lem}
use Rattle.promises.specs.RowPlans.{Under}
use Rattle.promises.specs.Blocks.{Lent, nulls_of, Blocks}

over : {r p : List ℕ} → Under r p → Over r p
over u = record { valid = u.valid; bits = u.bits }

all_bytes_lem : (bs : List (List ℕ)) → AllBytes bs → Bytes (concat bs)
unfolding are_bytes
all_bytes_lem [] h = are_bytes_lem [] refl
all_bytes_lem (b ∷ bs) h = bytes_append b (concat bs) h.0 (all_bytes_lem bs h.1)

same : (r p carry : List ℕ) (bs : List (List ℕ)) (s : Stream) (n : ℕ) → Under r p → Lent carry → AllBytes bs → Run r p begun carry bs s n
    → joined s ≡ walk_image r p (concat bs)
same r p carry bs s n u l b x = blocks r p carry bs s n (over u) l.room l.bytes b x

not_9 : {A : Type 0} (o : Outcome A) {w : Refusal} → Not9 o → o ≡ refused w → w.number ≡ 9 → ⊥
not_9 _ (fine a) e h = ok_not_refused e
not_9 _ (other v k) e h = k (ap (λ (z : Refusal). z.number) (same_refused e) ∙ h)

first : (r p : List ℕ) (st : Arriving) (carry block : List ℕ) (w : Refusal) → head_of r p ≡ refused w
    → (give_block r p st carry block ≡ refused w) × (end_blocks r p st carry ≡ refused w) × (begin_blocks r p carry ≡ refused w)
unfolding give_block end_blocks begin_blocks head_carry
first r p st carry block w e = rw e (refl, refl, refl)

small : (r p : List ℕ) (st : Arriving) (carry block : List ℕ) → Under r p → length carry < 1024
    → (give_block r p st carry block ≡ refuse 20 0) × (end_blocks r p st carry ≡ refuse 20 0) × (begin_blocks r p carry ≡ refuse 20 0)
unfolding give_block end_blocks begin_blocks head_carry
small r p st carry block u h = rw (head_is r p (over u), lt-ltb (length carry) 1024 h) (refl, refl, refl)

-- what an accepted answer says
given : (r p : List ℕ) (st : Arriving) (carry block : List ℕ) (g : BlockGiven) (left : List ℕ) (a : Arrived)
    → give_block r p st carry block ≡ ok (g, left) → g.arrival ≡ a
    → Truly r (length carry - nulls_of r p) carry block g.taken left a
given r p st carry block g left a e h =
    subst (Truly r (length carry - nulls_of r p) carry block g.taken left) h (give_given r p st carry block e).truly

pub blocks_of : Blocks
blocks_of = record {
  same_as_one = same;
  always_ends = λ r p carry bs u l b. runs r p bs begun carry b (begun_left (Unit {0}) r p carry (over u) l.room (λ k. l.bytes));
  however_cut = λ r p carry carry' cs bs s t m n u l l' a b e x y.
      same r p carry cs s m u l a x ∙ ap (walk_image r p) e ∙ sym (same r p carry' bs t n u l' b y);
  every_row = λ r p carry nulls rest ds bs s n u l b d m k e x.
      same r p carry bs s n u l b x ∙ ap (walk_image r p) e ∙ every_row r p nulls rest ds u.valid u.bits d m k;
  every_block = λ r p carry bs s n u l b x.
      subst (Says (present r p) (concat bs)) (sym (same r p carry bs s n u l b x))
      (every_image r p (concat bs) u.valid u.bits (all_bytes_lem bs b));
  only_used = λ r p carry bs s n used x e. sym (run_taken r p x e ∙ zero-add n);
  same_pieces = λ r p carry carry' cs bs s t m n u l l' k a b e x y.
      same_pieces r p carry carry' cs bs s t m n (over u) l.room k l.bytes l'.bytes a b e x y;
  end_only = λ r p st carry block g left used u c b e a. end_only r p block g left used (over u) c b e a;
  end_told = λ r p st carry block g left used u c h e a. end_told_lem r p block g left used (over u) c h e a;
  begins = λ r p carry u h. begins_begun r p carry (over u) h;
  taken_within = λ r p st carry block g left e. (give_given r p st carry block e).front;
  more_all = λ r p st carry block g left e h. given r p st carry block g left more e h;
  only_end_9 = λ r p st carry block w e h. not_9 (give_block r p st carry block) (give_not_9 r p st carry block) e h;
  long_over = λ r p st carry block g left j n e h. given r p st carry block g left (long j n) e h;
  part_kept = λ r p st carry block g left j n e h. given r p st carry block g left (part j n) e h;
  tests_first = first;
  small_carry = small;
  refusal_closes = λ w. refl;
  end_closes = λ used. refl;
  closed_refused = λ r p st carry block u h e. closed_refused r p st carry block (over u) h e;
  left_fit = λ r p st carry u c. came_fit r p (over u) c;
  unfit_refused = λ r p st carry block u h e. unfit_refused r p st carry block (over u) h e;
  fit_gives = λ r p st carry block w u h f e. fit_ten r p st carry (over u) h f block e;
  fit_ends = λ r p st carry w u h f e. fit_nine r p st carry (over u) h f e;
}

-- An event that was read: its sets of presence bits are of the record's length, and its images begin within it. Assumes nothing.
use Rattle.std.specs.Prelude.{Option}
use Prim.Native.Nat.{ℕ, ◌+◌, ◌≤◌}
use mathlib.Core.Path.{◌≡◌, refl, sym, ap, subst, ◌∙◌}
use mathlib.Core.Bool.{Bool, true, false, cond, ◌&&◌, not, true≢false}
use mathlib.Core.Logic.{◌⊎◌, inl, inr}
use mathlib.Core.List.{List}
use native.Mathlib.Omega.{arith}
use borrow.Author.Tests.{ltb-false, eqb-true}
use lib.ListN.{length, drop}
use lib.Dec.{ltb, eqb}
use Rattle.wire.specs.declared.refusal.Refusal.{Refusal}
use Rattle.wire.specs.declared.part.Part.{Part}
use Rattle.wire.specs.Outcome.{Outcome, ok, refused, why, refuse}
use Rattle.wire.specs.Bits.{bytes_for}
use Rattle.wire.specs.Packed.{read_fixed, read_packed}
use Rattle.wire.specs.Parts.{part, lent_part, within}
use Rattle.wire.specs.Layouts.{PartForm, integer, sized, Whole, all_bytes, all_sized, Layout, ◌then◌, Starts, count as at_count}
use Rattle.wire.specs.Layouts.{behind as behind_part}
use Rattle.wire.proofs.Outcomes.{same_ok, same_refused, ok_not_refused, after_is_ok, after_refuses, test_is_ok, by_test}
use Rattle.wire.specs.Number.{Bytes}
use Rattle.wire.proofs.Inverse.{bytes_drop}
use Rattle.wire.proofs.Parts.{within_ok, part_length, lent_is, fixed_ok}
use Rattle.record.specs.Records.{count_of, record_valid, read_record}
use Rattle.record.proofs.Valid.{read_valid}
use Rattle.image.specs.Walk.{walk_image}
use Rattle.image.specs.Rows.{WalkRefusal, in_nulls, ends_early, out_of_range}
use Rattle.image.proofs.EndLaws.Images.{no_other}
use Rattle.rows_event.specs.declared.form.Form.{Form}
use Rattle.rows_event.specs.declared.parts.Sets.{Sets}
use Rattle.rows_event.specs.declared.parts.RowsParts.{RowsParts}
use Rattle.rows_event.specs.declared.event.Rows.{Rows}
use Rattle.rows_event.specs.declared.images.Images.{Images}
use Rattle.rows_event.specs.Events.{form_of, extra_data, extra_at, second_set, second_at, sets_at, read_sets, read_parts, rows_of, fitting}
use Rattle.rows_event.specs.Events.{read_rows}
use Rattle.rows_event.specs.Layouts.{sets_layout, form_layout}
use Rattle.rows_event.specs.Images.{is_there, in_pairs, second_bits, set_of, is_empty, ImageStepped, image_met, end, is_second, behind_image}
use Rattle.rows_event.specs.Images.{next_image}
use Rattle.rows_event.proofs.Says.{Fits, cursor_set}

-- a part of n bytes that ends within those lent
lent_length : (s : List ℕ) (at n : ℕ) → at + n ≤ length s → length (lent_part s (part at n)) ≡ n
lent_length s at n h = ap length (lent_is s (part at n) h) ∙ part_length s (part at n) h

-- ---- the sets: of so many bytes each, and within the event
record Sized (s : List ℕ) (n : ℕ) (first : Part) (second : Option Part) (images : ℕ) : Type 0 where
  before : length (lent_part s first) ≡ n
  after : is_there second ≡ true → length (second_bits s second) ≡ n
  place : images ≤ length s

second_sized : (has : Bool) (n : ℕ) (s : List ℕ) (at : ℕ) (x : Option Part × ℕ) → at ≤ length s → second_at has n s at ≡ ok x
    → (is_there x.0 ≡ true → length (second_bits s x.0) ≡ n) × (x.1 ≤ length s)
unfolding second_at second_set
second_sized true n s at x l e =
    let w = after_is_ok (within s at n at) _ x e in
    let h = within_ok s at n at w.0 w.1 in
    let q = same_ok w.2 in
    subst (λ (y : Option Part × ℕ). (is_there y.0 ≡ true → length (second_bits s y.0) ≡ n) × (y.1 ≤ length s)) q
    (λ t. lent_length s at n (omega (arith, h.0, h.1)), h.1)
second_sized false n s at x l e =
    subst (λ (y : Option Part × ℕ). (is_there y.0 ≡ true → length (second_bits s y.0) ≡ n) × (y.1 ≤ length s)) (same_ok e)
    (λ t. absurd (true≢false (sym t)), l)

sets_sized : (second : Bool) (count : ℕ) (s : List ℕ) (at : ℕ) (x : Sets) → sets_at second count s at ≡ ok x
    → (x.count ≡ count) × Sized s (bytes_for count) x.before x.after x.images
unfolding sets_at
sets_sized second count s at x e =
    let n = bytes_for count in
    let w = after_is_ok (within s at n at) _ x e in
    let h = within_ok s at n at w.0 w.1 in
    let b = after_is_ok (second_at second n s w.0) _ x w.2 in
    let k = second_sized second n s w.0 b.0 h.1 b.1 in
    subst (λ (y : Sets). (y.count ≡ count) × Sized s n y.before y.after y.images) (same_ok b.2)
    (refl, record { before = lent_length s at n (omega (arith, h.0, h.1)); after = k.0; place = k.1 })

parts_sized : (f : Form) (s : List ℕ) (p : RowsParts) → read_parts f s ≡ ok p
    → Sized s (bytes_for p.sets.count) p.sets.before p.sets.after p.sets.images
unfolding read_parts read_sets
parts_sized f s p e =
    let i = after_is_ok (read_fixed 6 s 0) _ p e in
    let g = after_is_ok (read_fixed 2 s 6) _ p i.2 in
    let x = after_is_ok (extra_at f.extra s 8) _ p g.2 in
    let t = after_is_ok (read_sets f.second s x.0.1) _ p x.2 in
    let n = after_is_ok (read_packed s x.0.1) _ t.0 t.1 in
    let k = sets_sized f.second n.0.0 s n.0.1 t.0 n.2 in
    let z = subst (λ (j : ℕ). Sized s (bytes_for j) t.0.before t.0.after t.0.images) (sym k.0) k.1 in
    subst (λ (y : RowsParts). Sized s (bytes_for y.sets.count) y.sets.before y.sets.after y.sets.images) (same_ok t.2) z

-- ---- where the count stands: behind the extra data, if there is such
extra_whole : (s : List ℕ) (x : Option Part × ℕ) → extra_at true s 8 ≡ ok x → Whole s sized 8 x.1
unfolding extra_at extra_data
extra_whole s x e =
    let n = after_is_ok (read_fixed 2 s 8) _ x e in
    let f = fixed_ok 2 s 8 n.0.0 n.0.1 n.1 in
    by_test (ltb n.0.0 2) _ _ (ok x) n.2 (λ u g. absurd (ok_not_refused (sym g)))
    (λ u g.
    let l = ltb-false n.0.0 2 u in
    let w = after_is_ok (within s 8 n.0.0 8) _ x g in
    let i = within_ok s 8 n.0.0 8 w.0 w.1 in
    let q : 8 + n.0.0 ≡ x.1 = sym i.0 ∙ ap (λ (y : Option Part × ℕ). y.1) (same_ok w.2) in
    subst (λ (y : ℕ). Whole s sized 8 y) q (all_sized (sym f.value) l (omega (arith, i.0, i.1))))

-- what starts behind it
pub behind_extra : (has : Bool) (s : List ℕ) (l : Layout) (x : Option Part × ℕ) → extra_at has s 8 ≡ ok x → {f : PartForm} {q : ℕ}
    → Starts s l x.1 f q
    → Starts s (cond has (sized then l) l) 8 f q
unfolding extra_at
behind_extra true s l x e a = behind_part (extra_whole s x e) a
behind_extra false s l x e {f} {q} a =
    let z : 8 ≡ x.1 = ap (λ (y : Option Part × ℕ). y.1) (same_ok e) in
    subst (λ (o : ℕ). Starts s l o f q) (sym z) a

pub record CountedAt (f : Form) (s : List ℕ) (p : RowsParts) : Type 0 where
  pub starts : Starts s (form_layout f) 0 integer p.counted
  pub next : ℕ
  pub read : read_packed s p.counted ≡ ok (p.sets.count, next)

pub counted_at : (f : Form) (s : List ℕ) (p : RowsParts) → read_parts f s ≡ ok p → CountedAt f s p
unfolding read_parts read_sets
counted_at f s p e =
    let i = after_is_ok (read_fixed 6 s 0) _ p e in
    let g = after_is_ok (read_fixed 2 s 6) _ p i.2 in
    let b = fixed_ok 2 s 6 g.0.0 g.0.1 g.1 in
    let x = after_is_ok (extra_at f.extra s 8) _ p g.2 in
    let y = after_is_ok (read_sets f.second s x.0.1) _ p x.2 in
    let n = after_is_ok (read_packed s x.0.1) _ y.0 y.1 in
    let k = sets_sized f.second n.0.0 s n.0.1 y.0 n.2 in
    subst (CountedAt f s) (same_ok y.2) (record {
      starts =
          behind_part (all_bytes (omega (arith, b.next_is, b.ends)))
          (behind_part (all_bytes (omega (arith, b.next_is, b.ends)))
          (behind_extra f.extra s (sets_layout f.second) x.0 x.1 at_count));
      next = n.0.1;
      read = n.1 ∙ ap (λ (m : ℕ). ok (m, n.0.1)) (sym k.0);
    })

-- ---- the event
fits_sized : (r : List ℕ) (w : Rows) (s : List ℕ) → record_valid r ≡ true → Sized s (bytes_for (count_of r)) w.before w.after w.images
    → Fits r w s
fits_sized r w s v z = record { valid = v; sets = sets }
  where
    sets : (b : Bool) → (in_pairs w ≡ false → b ≡ false) → length (set_of w s b) ≡ bytes_for (count_of r)
    sets false g = z.before
    sets true g = go (in_pairs w) refl
      where
        go : (t : Bool) → in_pairs w ≡ t → length (set_of w s true) ≡ bytes_for (count_of r)
        go true e = z.after e
        go false e = absurd (true≢false (g e))

-- of two tests that a chain passed, the second and what it gave
two_tests : (a b : Bool) (x : Rows) (v v' : Refusal) (w : Rows) → cond a (cond b (ok x) (refused v)) (refused v') ≡ ok w
    → (b ≡ true) × (x ≡ w)
two_tests true b x v v' w e = test_is_ok b x v w e
two_tests false b x v v' w e = absurd (ok_not_refused (sym e))

pub accepted : (code : ℕ) (r : List ℕ) (id : ℕ) (s : List ℕ) (w : Rows) → read_rows code r id s ≡ ok w → Fits r w s × (w.images ≤ length s)
unfolding read_rows fitting
accepted code r id s w e =
    let n = after_is_ok (read_record r) _ w e in
    let v = read_valid r n.0 n.1 in
    let f = after_is_ok (form_of code) _ w n.2 in
    let p = after_is_ok (read_parts f.0 s) _ w f.2 in
    let a = two_tests (eqb p.0.id id) (eqb p.0.sets.count n.0) (rows_of p.0) (why 16 p.0.counted) (why 16 0) w p.2 in
    let c : p.0.sets.count ≡ count_of r = eqb-true p.0.sets.count n.0 a.0 ∙ v.1 in
    let z =
    subst (λ (j : ℕ). Sized s (bytes_for j) p.0.sets.before p.0.sets.after p.0.sets.images) c
    (parts_sized f.0 s p.0 p.1) in
    let y = subst (λ (x : Rows). Sized s (bytes_for (count_of r)) x.before x.after x.images) a.1 z in
    (fits_sized r w s v.0 y, y.place)

-- ---- a step under what was read refuses with 9 or 10 alone
refusal_number_lem : {r p im : List ℕ} {v : Refusal} → WalkRefusal r p im v → (v.number ≡ 9) ⊎ (v.number ≡ 10)
refusal_number_lem (in_nulls l) = inl refl
refusal_number_lem (ends_early j a) = inl refl
refusal_number_lem (out_of_range j part h l a) = inr refl

pub own_record : (r : List ℕ) (w : Rows) (s : List ℕ) (c : Images) (v : Refusal) → Fits r w s → Bytes s → next_image r w s c ≡ refused v
    → (v.number ≡ 9) ⊎ (v.number ≡ 10)
unfolding next_image
own_record r w s c v f y e =
    by_test (ltb (length s) c.at) (refuse 9 0) _ (refused v) e (λ t q. left_short q)
    (λ t q. by_test (eqb c.at (length s) && not (is_second w c)) (ok end) _ (refused v) q (λ t q. absurd (ok_not_refused q))
    (λ t q. read (after_refuses (walk_image r (set_of w s (is_second w c)) (drop c.at s)).how _ v q)))
  where
    left_short : ◌≡◌ {A = Outcome ImageStepped} (refuse 9 0) (refused v) → (v.number ≡ 9) ⊎ (v.number ≡ 10)
    left_short q = inl (sym (ap (λ (x : Refusal). x.number) (same_refused q)))

    read : ((walk_image r (set_of w s (is_second w c)) (drop c.at s)).how ≡ refused v)
        ⊎ ((u : ℕ) × ((walk_image r (set_of w s (is_second w c)) (drop c.at s)).how ≡ ok u)
        × (cond (is_empty r w s) (refuse 9 0) (ok (image_met (part c.at u) (is_second w c) (behind_image w (c.at + u) (is_second w c))))
        ≡ refused v)) → (v.number ≡ 9) ⊎ (v.number ≡ 10)
    read (inl q) =
        refusal_number_lem (no_other r (set_of w s (is_second w c)) (drop c.at s) v f.valid (f.sets (is_second w c) (cursor_set w c))
        (bytes_drop c.at s y) q)
    read (inr x) = by_test (is_empty r w s) (refuse 9 0) _ (refused v) x.2 (λ t q. left_short q) (λ t q. absurd (ok_not_refused q))

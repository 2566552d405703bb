-- Rows events: which refusals their calls give, and what `RowsEvents` states of their images. Assumes nothing.
use Prim.Native.Nat.{ℕ, ◌<◌}
use mathlib.Core.Path.{◌≡◌, sym, subst, ◌∙◌}
use mathlib.Core.Bool.{Bool, true, false, cond, ◌&&◌, not}
use mathlib.Core.List.{List}
use native.Mathlib.Omega.{arith}
use borrow.Author.Tests.{eqb-false}
use lib.ListN.{length, drop}
use lib.Dec.{ltb, eqb}
use Rattle.wire.specs.Outcome.{why}
use Rattle.wire.specs.Bits.{bytes_for}
use Rattle.wire.specs.Packed.{read_fixed, read_packed}
use Rattle.wire.specs.Parts.{within}
use Rattle.wire.specs.Layouts.{bytes, integer, sized, all_bytes, few_bytes, few_size, few_sized, Layout, ◌then◌, whatever, Starts, here}
use Rattle.wire.specs.Layouts.{cut_at}
use Rattle.wire.proofs.Parts.{fixed_ok}
use Rattle.wire.proofs.Layouts.{bytes_whole}
use Rattle.record.specs.Records.{count_of, read_record}
use Rattle.record.proofs.Valid.{read_valid}
use Rattle.image.specs.Walk.{walk_image}
use Rattle.rows_event.specs.declared.event.Rows.{Rows}
use Rattle.rows_event.specs.declared.images.Images.{Images}
use Rattle.rows_event.specs.Events.{form, form_of, extra_data, extra_at, second_set, second_at, sets_at, read_sets, read_parts, fitting, read_rows}
use Rattle.rows_event.specs.Layouts.{sets_layout, form_layout, layout_by, rows_layout, CountUnlike, unlike}
use Rattle.rows_event.specs.Images.{set_of, is_empty, is_second, next_image}
use Rattle.rows_event.proofs.Steps.{images_on}
use Rattle.rows_event.proofs.Says.{rows_say, rows_exactly}
use Rattle.rows_event.proofs.Accepted.{behind_extra, counted_at, accepted, own_record}
use Rattle.promises.specs.Refusals.{Line, OneOf}
use Rattle.promises.specs.RowsEvents.{RowsEvents}
use Rattle.promises.proofs.Demand1.Only.{Listed, done, stop, chain, test, bytes_there, fixed, Told, further, then_told, count_told}
use Rattle.promises.proofs.Demand1.Only.{bytes_laid, count_laid, Tens}
use Rattle.promises.proofs.Demand1.Rows.{record_read, walk_ended}

-- ---- `read_rows`: part by part, 15 at 8, 16 at 0 and at the count
form_read : {ls : List Line} (code : ℕ) → OneOf ls (why 16 0) → Listed ls (form_of code)
unfolding form_of
form_read code sixteen =
    test (eqb code 23) (λ u. done _)
    (λ u. test (eqb code 24) (λ u. done _)
    (λ u. test (eqb code 25) (λ u. done _)
    (λ u. test (eqb code 30) (λ u. done _)
    (λ u. test (eqb code 31) (λ u. done _)
    (λ u. test (eqb code 32) (λ u. done _) (λ u. stop sixteen))))))

extra_read : {ls : List Line} (s : List ℕ) (l : Layout) (has : Bool) → Told ls s (cond has (sized then l) l) 8 → OneOf ls (why 15 8)
    → Listed ls (extra_at has s 8)
unfolding extra_at extra_data
extra_read s l true t fifteen =
    chain (read_fixed 2 s 8) _ (fixed 2 s 8 (λ h. t.cut 8 (cut_at here (few_size h)))) (λ n e.
    let f = fixed_ok 2 s 8 n.0 n.1 e in
    test (ltb n.0 2) (λ u. stop fifteen)
    (λ u. chain (within s 8 n.0 8) _
    (bytes_there s 8 n.0 8 (λ h. t.cut 8 (cut_at here (few_sized (sym f.value) h)))) (λ q g. done _)))
extra_read s l false t fifteen = done _

second_read : {ls : List Line} (s : List ℕ) (has : Bool) (k o : ℕ) → Told ls s (cond has (bytes k then whatever) whatever) o
    → Listed ls (second_at has k s o)
unfolding second_at second_set
second_read s true k o t = chain (within s o k o) _ (bytes_laid t) (λ q e. done _)
second_read s false k o t = done _

sets_read : {ls : List Line} (s : List ℕ) (second : Bool) (o : ℕ) → Told ls s (sets_layout second) o → Listed ls (read_sets second s o)
unfolding read_sets sets_at
sets_read s second o t =
    chain (read_packed s o) _ (count_laid t) (λ n e.
    let t₁ = count_told t e in
    chain (within s n.1 (bytes_for n.0) n.1) _ (bytes_laid t₁) (λ a f.
    let t₂ = then_told t₁ (bytes_whole s n.1 (bytes_for n.0) n.1 a f) in
    chain (second_at second (bytes_for n.0) s a) _ (second_read s second (bytes_for n.0) a t₂) (λ b g. done _)))

parts_read : {ls : List Line} (s : List ℕ) (extra second : Bool) → Told ls s (form_layout (form extra second)) 0 → OneOf ls (why 15 8)
    → Listed ls (read_parts (form extra second) s)
unfolding read_parts
parts_read s extra second t fifteen =
    chain (read_fixed 6 s 0) _ (fixed 6 s 0 (λ h. t.cut 0 (cut_at here (few_bytes h)))) (λ i e.
    let a = fixed_ok 6 s 0 i.0 i.1 e in
    let t₁ = then_told t (all_bytes {k = 6} {p = 0} (omega (arith, a.next_is, a.ends))) in
    chain (read_fixed 2 s 6) _ (fixed 2 s 6 (λ h. t₁.cut 6 (cut_at here (few_bytes h)))) (λ g e.
    let b = fixed_ok 2 s 6 g.0 g.1 e in
    let t₂ = then_told t₁ (all_bytes {k = 2} {p = 6} (omega (arith, b.next_is, b.ends))) in
    let l = sets_layout second in
    chain (extra_at extra s 8) _ (extra_read s l extra t₂ fifteen) (λ x e.
    chain (read_sets second s x.1) _ (sets_read s second x.1 (further (λ h q a. behind_extra extra s l x e a) t₂)) (λ y e. done _))))

pub rows_read : {ls : List Line} (code : ℕ) (r : List ℕ) (id : ℕ) (s : List ℕ) → OneOf ls (why 11 0) → OneOf ls (why 16 0)
    → OneOf ls (why 15 8)
    → ((p : ℕ) → CountUnlike s (rows_layout code) (count_of r) p → OneOf ls (why 16 p)) → Told ls s (rows_layout code) 0
    → Listed ls (read_rows code r id s)
unfolding read_rows fitting
rows_read {ls} code r id s eleven sixteen fifteen unlikely t =
    chain (read_record r) _ (record_read r eleven) (λ n e.
    chain (form_of code) _ (form_read code sixteen) (λ f g.
    chain (read_parts f s) _ (parts_read s f.extra f.second (subst (λ x. Told ls s (layout_by x) 0) g t) fifteen) (λ p i.
    let c = counted_at f s p i in
    test (eqb p.id id)
    (λ u. test (eqb p.sets.count n) (λ v. done _)
    (λ v.
    let m : p.sets.count ≡ count_of r → ⊥ =
    λ (q : p.sets.count ≡ count_of r). eqb-false p.sets.count n v (q ∙ sym (read_valid r n e).1) in
    let at_count : Starts s (rows_layout code) 0 integer p.counted =
    subst (λ x. Starts s (layout_by x) 0 integer p.counted) (sym g) c.starts in
    stop (unlikely p.counted (unlike at_count c.read m))))
    (λ u. stop sixteen))))

-- ---- `Images::next`: those of a walk over an image, and 9 at 0
pub image_met_lem : {ls : List Line} (r : List ℕ) (w : Rows) (s : List ℕ) (c : Images) → OneOf ls (why 11 0) → OneOf ls (why 12 0)
    → OneOf ls (why 9 0)
    → ((j : ℕ) → j < count_of r → OneOf ls (why 9 j)) → ((j : ℕ) → j < count_of r → Tens ls j) → Listed ls (next_image r w s c)
unfolding next_image
image_met_lem r w s c eleven twelve none nine ten =
    test (ltb (length s) c.at) (λ u. stop none)
    (λ u. test (eqb c.at (length s) && not (is_second w c)) (λ u. done _)
    (λ u. chain (walk_image r (set_of w s (is_second w c)) (drop c.at s)).how _
    (walk_ended r (set_of w s (is_second w c)) (drop c.at s) eleven twelve none nine ten) (λ used e.
    test (is_empty r w s) (λ u. stop none) (λ u. done _))))

-- ---- what is stated
pub rows_events : RowsEvents
rows_events = record {
  rows_walked = λ code r id s w e y. let a = accepted code r id s w e in rows_say r w s a.0 y a.1;
  rows_exactly = λ code r id s w x e h. let a = accepted code r id s w e in rows_exactly r w s x a.0 a.1 h;
  own_record = λ code r id s w c v e y h. own_record r w s c v (accepted code r id s w e).0 y h;
  image_by_image = images_on;
}

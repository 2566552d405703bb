-- What the walk over the images of an event gives is what its bytes say, and nothing else. Assumes nothing.
use Prim.Native.Nat.{ℕ, zero, suc, ◌+◌, ◌≤◌, ◌<◌}
use mathlib.Core.Path.{◌≡◌, refl, sym, ap, subst, ◌∙◌}
use mathlib.Core.Bool.{Bool, true, false, ◌&&◌, not, true≢false}
use mathlib.Core.List.{List, [], ◌∷◌, ◌++◌, append-nil, append_assoc}
use native.Mathlib.Omega.{arith}
use borrow.Author.Tests.{eqb-true, eq-eqb, le-ltb}
use lib.ListN.{length, take, drop, length-append, length-drop, take-append-drop}
use lib.Seq.{drop-drop, drop-length, take-append_seam, drop-append_seam, take-append-add}
use lib.Dec.{eqb}
use Rattle.wire.specs.declared.refusal.Refusal.{Refusal}
use Rattle.wire.specs.Outcome.{Outcome, ok, refused, refuse, after}
use Rattle.wire.specs.Number.{Bytes}
use Rattle.wire.specs.Bits.{bytes_for}
use Rattle.wire.specs.Parts.{part}
use Rattle.wire.proofs.Inverse.{bytes_drop}
use Rattle.wire.proofs.Outcomes.{same_ok, ok_not_refused, both_true}
use Rattle.value.specs.Data.{Datum}
use Rattle.record.specs.Records.{count_of, record_valid}
use Rattle.image.specs.Present.{Present, present}
use Rattle.image.specs.Walk.{RowWalked as ImageWalked, walk_image}
use Rattle.image.specs.Rows.{Says, read, short, broken as stops_at, row_bytes, answers_of}
use Rattle.image.proofs.CursorLaws.Heads.{Over}
use Rattle.image.proofs.EndLaws.Images.{every_image, only_says}
use Rattle.image.proofs.EndLaws.Used.{walk_over, walk_used, walk_none}
use Rattle.rows_event.specs.declared.event.Rows.{Rows}
use Rattle.rows_event.specs.declared.images.Images.{Images}
use Rattle.rows_event.specs.Images.{in_pairs, set_of, is_empty, ImageStepped, image_met, end, is_second, behind_image, next_image, Met}
use Rattle.rows_event.specs.Images.{ImagesWalked, images_stopped, with_image, met_image, images_onward, images_from, first_image, images_of}
use Rattle.rows_event.specs.Says.{WholeImage, Laid, none, more, RowsSay, covered, left_over, broken}
use Rattle.rows_event.proofs.Steps.{counted, left, falls, images_on}

-- ---- what an image says, cut or with bytes behind it
-- an image that was read says the same where just its bytes are there
cut_says : (cs : List Present) (im : List ℕ) (x : ImageWalked) (u : ℕ) → Says cs im x → x.how ≡ ok u
    → Says cs (take u im) (record { answers = x.answers; how = ok (length (take u im)) })
cut_says cs im _ u (read nulls rest ds l d m q) e =
    let row = row_bytes cs ds in
    let n : length nulls + length row ≡ u = same_ok e in
    let t : take u im ≡ nulls ++ (row ++ []) =
    ap (λ (k : ℕ). take k im) (sym n)
    ∙ ap (take (length nulls + length row)) q
    ∙ take-append-add nulls (row ++ rest) (length row)
    ∙ ap (λ (y : List ℕ). nulls ++ y) (take-append_seam row rest ∙ sym (append-nil row)) in
    let k : length nulls + length row ≡ length (take u im) =
    sym (ap length t ∙ length-append nulls (row ++ []) ∙ ap (λ (y : List ℕ). length nulls + length y) (append-nil row)) in
    subst (λ (j : ℕ). Says cs (take u im) (record { answers = answers_of cs ds; how = ok j })) k (read nulls [] ds l d m t)
cut_says cs im _ u (short l) e = absurd (ok_not_refused (sym e))
cut_says cs im _ u (stops_at nulls rest before c behind_image ds n x l d m k q f) e = absurd (ok_not_refused (sym e))

-- and with any bytes behind them
grown_says : (cs : List Present) (im behind_image : List ℕ) (x : ImageWalked) (u : ℕ) → Says cs im x → x.how ≡ ok u
    → Says cs (im ++ behind_image) x
grown_says cs im behind_image _ u (read nulls rest ds l d m q) e =
    let row = row_bytes cs ds in
    read nulls (rest ++ behind_image) ds l d m
    (ap (λ (y : List ℕ). y ++ behind_image) q ∙ append_assoc nulls (row ++ rest) behind_image
    ∙ ap (λ (y : List ℕ). nulls ++ y) (append_assoc row rest behind_image))
grown_says cs im behind_image _ u (short l) e = absurd (ok_not_refused (sym e))
grown_says cs im behind_image _ u (stops_at nulls rest before c after ds n x l d m k q f) e = absurd (ok_not_refused (sym e))

-- ---- an event under its record: each set that it has is of the record's length
pub record Fits (r : List ℕ) (w : Rows) (s : List ℕ) : Type 0 where
  pub valid : record_valid r ≡ true
  pub sets : (b : Bool) → (in_pairs w ≡ false → b ≡ false) → length (set_of w s b) ≡ bytes_for (count_of r)

over : (r : List ℕ) (w : Rows) (s : List ℕ) (b : Bool) → Fits r w s → (in_pairs w ≡ false → b ≡ false) → Over r (set_of w s b)
over r w s b f g = record { valid = f.valid; bits = f.sets b g }

-- which set is next: always the first, where there is no second
next_set : (w : Rows) (b : Bool) → in_pairs w ≡ false → (in_pairs w && not b) ≡ false
next_set w b p = rw p

pub cursor_set : (w : Rows) (c : Images) → in_pairs w ≡ false → is_second w c ≡ false
cursor_set w c p = rw p

next_second : (w : Rows) (n : ℕ) (b : Bool) → is_second w (behind_image w n b) ≡ (in_pairs w && not b)
next_second w n b = go (in_pairs w) b
  where
    go : (a b : Bool) → (a && (a && not b)) ≡ (a && not b)
    go true b = refl
    go false b = refl

-- ---- a step
-- it has not ended: bytes are left, or a `before` stands alone
abbrev Goes : Rows → List ℕ → Images → Type 0
Goes w s c = is_second w c ≡ false → drop c.at s ≡ [] → ⊥

at_end_lem : (s : List ℕ) (n : ℕ) → n ≤ length s → drop n s ≡ [] → n ≡ length s
at_end_lem s n l e =
    let d : length (drop n s) ≡ 0 = ap length e in
    omega (arith, d, length-drop n s, l)

goes_on_lem : (w : Rows) (s : List ℕ) (c : Images) → Goes w s c → (eqb c.at (length s) && not (is_second w c)) ≡ false
goes_on_lem w s c g = go (eqb c.at (length s)) refl (is_second w c) refl
  where
    go : (a : Bool) → eqb c.at (length s) ≡ a → (b : Bool) → is_second w c ≡ b → (eqb c.at (length s) && not (is_second w c)) ≡ false
    go true e true f = rw (e, f)
    go true e false f = absurd (g f (ap (λ (n : ℕ). drop n s) (eqb-true c.at (length s) e) ∙ drop-length s))
    go false e b f = rw e

-- at the end, behind whole pairs
step_ends : (r : List ℕ) (w : Rows) (s : List ℕ) (c : Images) → c.at ≡ length s → is_second w c ≡ false → next_image r w s c ≡ ok end
unfolding next_image
step_ends r w s c e b = rw (le-ltb (length s) c.at (omega arith), eq-eqb c.at (length s) e, b)

step_refuses : (r : List ℕ) (w : Rows) (s : List ℕ) (c : Images) (v : Refusal) → c.at ≤ length s → Goes w s c
    → (walk_image r (set_of w s (is_second w c)) (drop c.at s)).how ≡ refused v → next_image r w s c ≡ refused v
unfolding next_image
step_refuses r w s c v l g e = rw (le-ltb (length s) c.at l, goes_on_lem w s c g, e)

step_reads : (r : List ℕ) (w : Rows) (s : List ℕ) (c : Images) (u : ℕ) → c.at ≤ length s → Goes w s c
    → (walk_image r (set_of w s (is_second w c)) (drop c.at s)).how ≡ ok u → is_empty r w s ≡ false
    → next_image r w s c ≡ ok (image_met (part c.at u) (is_second w c) (behind_image w (c.at + u) (is_second w c)))
unfolding next_image
step_reads r w s c u l g e n = rw (le-ltb (length s) c.at l, goes_on_lem w s c g, e, n)

-- where no set has a column, what there is is left over
step_left : (r : List ℕ) (w : Rows) (s : List ℕ) (c : Images) (u : ℕ) → c.at ≤ length s → Goes w s c
    → (walk_image r (set_of w s (is_second w c)) (drop c.at s)).how ≡ ok u → is_empty r w s ≡ true → next_image r w s c ≡ refuse 9 0
unfolding next_image
step_left r w s c u l g e n = rw (le-ltb (length s) c.at l, goes_on_lem w s c g, e, n)

-- ---- every event
-- as `RowsSay`, from an image under the set b on, where some set has a column
data From (r : List ℕ) (w : Rows) (s : List ℕ) (b : Bool) (t : List ℕ) : ImagesWalked → Type 0 where
  ends : {ms : List Met} → Laid r w s b t ms false [] → From r w s b t (record { images = ms; how = ok tt })
  stops : {ms : List Met} {e : Bool} (rest : List ℕ) (xs : List (ℕ × Datum)) (v : Refusal) → Laid r w s b t ms e rest
      → (e ≡ false → rest ≡ [] → ⊥)
      → Says (present r (set_of w s e)) rest (record { answers = xs; how = refused v })
      → From r w s b t (record { images = ms; how = refused v })

from_more : (r : List ℕ) (w : Rows) (s : List ℕ) (b : Bool) (t im rest : List ℕ) (xs : List (ℕ × Datum)) (x : ImagesWalked) → t ≡ im ++ rest
    → (b ≡ false → t ≡ [] → ⊥) → WholeImage r w s b im xs
    → From r w s (in_pairs w && not b) rest x → From r w s b t (with_image (record { second = b; bytes = im; answers = xs }) x)
from_more r w s b t im rest xs _ q g h (ends l) = ends (more im rest xs q g h l)
from_more r w s b t im rest xs _ q g h (stops left xs' v l n y) = stops left xs' v (more im rest xs q g h l) n y

-- the image that a step met, as the walk over its bytes has it
met_is : (r : List ℕ) (w : Rows) (s : List ℕ) (b : Bool) (at u : ℕ) (xs : List (ℕ × Datum)) → Fits r w s → (in_pairs w ≡ false → b ≡ false)
    → WholeImage r w s b (take u (drop at s)) xs
    → met_image r w s (part at u) b ≡ record { second = b; bytes = take u (drop at s); answers = xs }
unfolding met_image
met_is r w s b at u xs f g h =
    ap (λ (x : ImageWalked). record { second = b; bytes = take u (drop at s); answers = x.answers })
    (only_says r (set_of w s b) (take u (drop at s)) _ f.valid (f.sets b g) h)

walked_from : (m : ℕ) (r : List ℕ) (w : Rows) (s : List ℕ) (c : Images) → Fits r w s → Bytes s → is_empty r w s ≡ false → c.at ≤ length s
    → left r w s c < m
    → From r w s (is_second w c) (drop c.at s) (images_from r w s c)
walked_from zero r w s c f y n l h = absurd (omega arith)
walked_from (suc m) r w s c f y n l h =
    rw (images_on r w s c) (at_start (λ c' z k. walked_from m r w s c' f y n z (omega (arith, k))) (eqb c.at (length s)) refl
    (is_second w c) refl)
  where
    -- the walk from a later cursor
    Later : Type 0
    Later = (c' : Images) → c'.at ≤ length s → left r w s c' < left r w s c
        → From r w s (is_second w c') (drop c'.at s) (images_from r w s c')

    b : Bool
    b = is_second w c

    im : List ℕ
    im = drop c.at s

    p : List ℕ
    p = set_of w s b

    said : Says (present r p) im (walk_image r p im)
    said = every_image r p im f.valid (f.sets b (cursor_set w c)) (bytes_drop c.at s y)

    on : Outcome ImageStepped → ImagesWalked
    on = images_onward (λ c'. images_from r w s c') r w s

    goes : Later → Goes w s c → (x : Outcome ℕ) → (walk_image r p im).how ≡ x → From r w s b im (on (next_image r w s c))
    goes k g (refused v) e =
        rw (step_refuses r w s c v l g e)
        (stops im (walk_image r p im).answers v none g
        (subst (λ (x : Outcome ℕ). Says (present r p) im (record { answers = (walk_image r p im).answers; how = x })) e said))
    goes later g (ok u) e =
        let k = cut_says (present r p) im (walk_image r p im) u said e in
        let d : drop (c.at + u) s ≡ drop u im = sym (drop-drop u c.at s) in
        let x = walk_used r p im u e in
        let z : c.at + u ≤ length s = omega (arith, x.1, length-drop c.at s, l) in
        let t = later (behind_image w (c.at + u) b) z (falls r w s c u l e n) in
        let t₁ =
        subst (λ (q : Bool). From r w s q (drop (c.at + u) s) (images_from r w s (behind_image w (c.at + u) b)))
        (next_second w (c.at + u) b) t in
        let t₂ = subst (λ (q : List ℕ). From r w s (in_pairs w && not b) q (images_from r w s (behind_image w (c.at + u) b))) d t₁ in
        rw (step_reads r w s c u l g e n, met_is r w s b c.at u (walk_image r p im).answers f (cursor_set w c) k)
        (from_more r w s b im (take u im) (drop u im) (walk_image r p im).answers _ (sym (take-append-drop u im)) g k t₂)

    at_start : Later → (a : Bool) → eqb c.at (length s) ≡ a → (q : Bool) → is_second w c ≡ q → From r w s b im (on (next_image r w s c))
    at_start later true e false v =
        let z = eqb-true c.at (length s) e in
        let i : im ≡ [] = ap (λ (k : ℕ). drop k s) z ∙ drop-length s in
        rw (step_ends r w s c z v)
        (subst (λ (q : Bool). From r w s q im (images_stopped (ok tt))) (sym v)
        (subst (λ (t : List ℕ). From r w s false t (images_stopped (ok tt))) (sym i) (ends none)))
    at_start later true e true v = goes later (λ u. absurd (true≢false (sym v ∙ u))) (walk_image r p im).how refl
    at_start later false e q v =
        goes later (λ u i. absurd (true≢false (sym (eq-eqb c.at (length s) (at_end_lem s c.at l i)) ∙ e))) (walk_image r p im).how refl

-- where no set has a column, no image takes a byte
empty_set : (r : List ℕ) (w : Rows) (s : List ℕ) (b : Bool) → is_empty r w s ≡ true → counted r w s b ≡ 0
unfolding is_empty
empty_set r w s b e = go b (both_true (eqb (counted r w s false) 0) (eqb (counted r w s true) 0) e)
  where
    go : (b : Bool) → (eqb (counted r w s false) 0 ≡ true) × (eqb (counted r w s true) 0 ≡ true) → counted r w s b ≡ 0
    go true x = eqb-true (counted r w s true) 0 x.1
    go false x = eqb-true (counted r w s false) 0 x.0

empty_walk : (r : List ℕ) (w : Rows) (s : List ℕ) (b : Bool) (im : List ℕ) → Fits r w s → (in_pairs w ≡ false → b ≡ false)
    → is_empty r w s ≡ true → (walk_image r (set_of w s b) im).how ≡ ok 0
empty_walk r w s b im f g e = walk_none r (set_of w s b) im (over r w s b f g) (empty_set r w s b e)

-- so where one took some, a set has a column; the record and the set need not be good, as the walk had them tested
pub some_used : (r : List ℕ) (w : Rows) (s : List ℕ) (b : Bool) (im : List ℕ) (u : ℕ) → (walk_image r (set_of w s b) im).how ≡ ok u
    → (u ≡ 0 → ⊥) → is_empty r w s ≡ false
some_used r w s b im u e n = go (is_empty r w s) refl
  where
    go : (a : Bool) → is_empty r w s ≡ a → is_empty r w s ≡ false
    go true i = absurd (n (same_ok (sym e ∙ walk_none r (set_of w s b) im (walk_over r (set_of w s b) im u e) (empty_set r w s b i))))
    go false i = i

-- an event's first image stands under the first set
first_set : (w : Rows) → is_second w (first_image w) ≡ false
first_set w = go (in_pairs w)
  where
    go : (a : Bool) → (a && false) ≡ false
    go true = refl
    go false = refl

-- ---- the walk over an event gives what its bytes say
says_from : (r : List ℕ) (w : Rows) (s t : List ℕ) (x : ImagesWalked) → From r w s false t x → RowsSay r w s t x
says_from r w s t _ (ends l) = covered l
says_from r w s t _ (stops rest xs v l n y) = broken rest xs v l n y

pub rows_say : (r : List ℕ) (w : Rows) (s : List ℕ) → Fits r w s → Bytes s → w.images ≤ length s
    → RowsSay r w s (drop w.images s) (images_of r w s)
rows_say r w s f y l = go (is_empty r w s) refl (eqb w.images (length s)) refl
  where
    t : List ℕ
    t = drop w.images s

    go : (a : Bool) → is_empty r w s ≡ a → (b : Bool) → eqb w.images (length s) ≡ b → RowsSay r w s t (images_of r w s)
    go false n b e =
        let x = walked_from (suc (left r w s (first_image w))) r w s (first_image w) f y n l (omega arith) in
        says_from r w s t (images_of r w s) (subst (λ (q : Bool). From r w s q t (images_of r w s)) (first_set w) x)
    go true n true e =
        let z = eqb-true w.images (length s) e in
        let i : t ≡ [] = ap (λ (k : ℕ). drop k s) z ∙ drop-length s in
        rw (images_on r w s (first_image w), step_ends r w s (first_image w) z (first_set w)) (rw i (covered none))
    go true n false e =
        let g : t ≡ [] → ⊥ = λ i. true≢false (sym (eq-eqb w.images (length s) (at_end_lem s w.images l i)) ∙ e) in
        let u = empty_walk r w s (is_second w (first_image w)) t f (cursor_set w (first_image w)) n in
        rw (images_on r w s (first_image w), step_left r w s (first_image w) 0 l (λ b. g) u n) (left_over n g)

-- ---- and nothing else: whatever the bytes say is what the walk gives
abbrev with_images : List Met → ImagesWalked → ImagesWalked
with_images ms x = record { images = ms ++ x.images; how = x.how }

-- behind images that are laid, the walk goes on from a cursor there
record Behind (r : List ℕ) (w : Rows) (s : List ℕ) (c : Images) (ms : List Met) (e : Bool) (rest : List ℕ) : Type 0 where
  cursor : Images
  place : cursor.at ≤ length s
  which : is_second w cursor ≡ e
  bytes : drop cursor.at s ≡ rest
  walked : images_from r w s c ≡ with_images ms (images_from r w s cursor)

whole_length : (r : List ℕ) (w : Rows) (s : List ℕ) (b : Bool) (im rest : List ℕ) (xs : List (ℕ × Datum)) → Fits r w s
    → (in_pairs w ≡ false → b ≡ false) → WholeImage r w s b im xs
    → (walk_image r (set_of w s b) (im ++ rest)).how ≡ ok (length im)
whole_length r w s b im rest xs f g h =
    ap (λ (x : ImageWalked). x.how)
    (only_says r (set_of w s b) (im ++ rest) _ f.valid (f.sets b g)
    (grown_says (present r (set_of w s b)) im rest _ (length im) h refl))

laid_walks : (r : List ℕ) (w : Rows) (s : List ℕ) (c : Images) {b e : Bool} {t rest : List ℕ} {ms : List Met} → Fits r w s
    → is_empty r w s ≡ false → c.at ≤ length s
    → is_second w c ≡ b → drop c.at s ≡ t → Laid r w s b t ms e rest → Behind r w s c ms e rest
laid_walks r w s c f n l i q none = record { cursor = c; place = l; which = i; bytes = q; walked = refl }
laid_walks r w s c {b = b} {t = t} f n l i q (more im rest xs z g h x) =
    let u = length im in
    let good : in_pairs w ≡ false → b ≡ false = λ p. sym i ∙ cursor_set w c p in
    let d : drop c.at s ≡ im ++ rest = q ∙ z in
    let goes : Goes w s c = λ a y. g (sym i ∙ a) (sym q ∙ y) in
    let e =
    ap (λ (k : List ℕ). (walk_image r (set_of w s (is_second w c)) k).how) d
    ∙ ap (λ (k : Bool). (walk_image r (set_of w s k) (im ++ rest)).how) i ∙ whole_length r w s b im rest xs f good h in
    let k : take u (drop c.at s) ≡ im = ap (take u) d ∙ take-append_seam im rest in
    let v : drop (c.at + u) s ≡ rest = sym (drop-drop u c.at s) ∙ ap (drop u) d ∙ drop-append_seam im rest in
    let m : met_image r w s (part c.at u) (is_second w c) ≡ record { second = b; bytes = im; answers = xs } =
    ap (met_image r w s (part c.at u)) i
    ∙ met_is r w s b c.at u xs f good (subst (λ (y : List ℕ). WholeImage r w s b y xs) (sym k) h)
    ∙ ap (λ (y : List ℕ). record { second = b; bytes = y; answers = xs }) k in
    let j = walk_used r (set_of w s (is_second w c)) (drop c.at s) u e in
    let place : c.at + u ≤ length s = omega (arith, j.1, length-drop c.at s, l) in
    let on =
    laid_walks r w s (behind_image w (c.at + u) (is_second w c)) f n place
    (next_second w (c.at + u) (is_second w c) ∙ ap (λ (y : Bool). in_pairs w && not y) i) v x in
    record {
      cursor = on.cursor;
      place = on.place;
      which = on.which;
      bytes = on.bytes;
      walked =
          images_on r w s c ∙ rw (step_reads r w s c u l goes e n)
          (ap (λ (y : Met). with_image y (images_from r w s (behind_image w (c.at + u) (is_second w c)))) m ∙ ap (with_image _) on.walked);
    }

-- which set comes behind images that are laid: the first, where there is no second
laid_set : (r : List ℕ) (w : Rows) (s : List ℕ) {b e : Bool} {t rest : List ℕ} {ms : List Met} → (in_pairs w ≡ false → b ≡ false)
    → Laid r w s b t ms e rest → in_pairs w ≡ false → e ≡ false
laid_set r w s g none = g
laid_set r w s {b = b} g (more im rest xs z n h x) = laid_set r w s (next_set w b) x

-- over no bytes no image is laid from the first set on
laid_nothing : (r : List ℕ) (w : Rows) (s : List ℕ) {b e : Bool} {t rest : List ℕ} {ms : List Met} → b ≡ false → t ≡ []
    → Laid r w s b t ms e rest → ms ≡ []
laid_nothing r w s i q none = refl
laid_nothing r w s i q (more im rest xs z g h x) = absurd (g i q)

no_bytes : (im : List ℕ) → length im ≡ 0 → im ≡ []
no_bytes [] e = refl
no_bytes (b ∷ im) e = absurd (omega arith)

-- where no set has a column, images that are laid take no bytes
empty_laid : (r : List ℕ) (w : Rows) (s : List ℕ) {b e : Bool} {t rest : List ℕ} {ms : List Met} → Fits r w s → is_empty r w s ≡ true
    → (in_pairs w ≡ false → b ≡ false)
    → Laid r w s b t ms e rest → t ≡ rest
empty_laid r w s f n g none = refl
empty_laid r w s {b = b} f n g (more im rest xs z o h x) =
    let k : length im ≡ 0 = same_ok (sym (whole_length r w s b im rest xs f g h) ∙ empty_walk r w s b (im ++ rest) f g n) in
    z ∙ ap (λ (y : List ℕ). y ++ rest) (no_bytes im k) ∙ empty_laid r w s f n (next_set w b) x

-- at the end of the event, behind whole pairs
from_end : (r : List ℕ) (w : Rows) (s : List ℕ) (c : Images) → c.at ≤ length s → is_second w c ≡ false → drop c.at s ≡ []
    → images_from r w s c ≡ images_stopped (ok tt)
from_end r w s c l i e = images_on r w s c ∙ rw (step_ends r w s c (at_end_lem s c.at l e) i)

pub rows_exactly : (r : List ℕ) (w : Rows) (s : List ℕ) (x : ImagesWalked) → Fits r w s → w.images ≤ length s
    → RowsSay r w s (drop w.images s) x → images_of r w s ≡ x
rows_exactly r w s _ f l (covered {ms = ms} d) = go (is_empty r w s) refl
  where
    go : (a : Bool) → is_empty r w s ≡ a → images_of r w s ≡ record { images = ms; how = ok tt }
    go true n =
        let q = empty_laid r w s f n (λ p. refl) d in
        from_end r w s (first_image w) l (first_set w) q
        ∙ ap (λ (y : List Met). record { images = y; how = ok tt }) (sym (laid_nothing r w s refl q d))
    go false n =
        let b = laid_walks r w s (first_image w) f n l (first_set w) refl d in
        b.walked
        ∙ ap (with_images ms) (from_end r w s b.cursor b.place b.which b.bytes)
        ∙ ap (λ (y : List Met). record { images = y; how = ok tt }) (append-nil ms)
rows_exactly r w s _ f l (left_over n g) =
    let u = empty_walk r w s (is_second w (first_image w)) (drop w.images s) f (cursor_set w (first_image w)) n in
    images_on r w s (first_image w) ∙ rw (step_left r w s (first_image w) 0 l (λ b. g) u n)
rows_exactly r w s _ f l (broken {ms = ms} {b = b} rest xs v d g y) = go (is_empty r w s) refl
  where
    good : in_pairs w ≡ false → b ≡ false
    good = laid_set r w s (λ p. refl) d

    refuses : (walk_image r (set_of w s b) rest).how ≡ refused v
    refuses = ap (λ (x : ImageWalked). x.how) (only_says r (set_of w s b) rest _ f.valid (f.sets b good) y)

    go : (a : Bool) → is_empty r w s ≡ a → images_of r w s ≡ record { images = ms; how = refused v }
    go true n = absurd (ok_not_refused (sym (empty_walk r w s b rest f good n) ∙ refuses))
    go false n =
        let k = laid_walks r w s (first_image w) f n l (first_set w) refl d in
        let c = k.cursor in
        let goes : Goes w s c = λ i e. g (sym k.which ∙ i) (sym k.bytes ∙ e) in
        let e =
        ap (λ (z : List ℕ). (walk_image r (set_of w s (is_second w c)) z).how) k.bytes
        ∙ ap (λ (z : Bool). (walk_image r (set_of w s z) rest).how) k.which ∙ refuses in
        let stop : images_from r w s c ≡ images_stopped (refused v) = images_on r w s c ∙ rw (step_refuses r w s c v k.place goes e) in
        k.walked ∙ ap (with_images ms) stop ∙ ap (λ (z : List Met). record { images = z; how = refused v }) (append-nil ms)

-- ---- as the code comes to an image's end: over a set and bytes that it was handed
pub told_walk : (r p p' im im' : List ℕ) (x : Outcome ℕ) → p ≡ p' → im ≡ im' → x ≡ (walk_image r p im).how
    → (walk_image r p' im').how ≡ x
told_walk r p p' im im' x e f h =
    sym (ap (λ (y : List ℕ). (walk_image r y im').how) e) ∙ sym (ap (λ (y : List ℕ). (walk_image r p y).how) f) ∙ sym h

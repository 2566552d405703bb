-- The key index that stands twice, by where items stand in their list: none does exactly where all keys are apart, and what is told is the
-- earliest item that repeats one. Assumes nothing.
use Prim.Native.Nat.{ℕ, zero, suc, ◌+◌, ◌<◌}
use mathlib.Core.Path.{◌≡◌, refl, sym, ap, ◌∙◌}
use mathlib.Core.Bool.{Bool, true, false, ◌||◌, true≢false, false≢true}
use mathlib.Core.Logic.{dite, ◌⊎◌, inl, inr, ⊎_elim}
use mathlib.Core.List.{List, [], ◌∷◌, ◌++◌}
use native.Mathlib.Decide.{dec_le}
use native.Mathlib.Omega.{arith}
use borrow.Author.Tests.{eqb-true, eqb-false}
use lib.ListN.{length, get_or}
use lib.Dec.{eqb}
use Rattle.wire.specs.declared.refusal.Refusal.{Refusal}
use Rattle.wire.specs.Outcome.{Outcome, ok, refused, refuse, why}
use Rattle.wire.specs.Packed.{read_packed, packed_form}
use Rattle.wire.proofs.Outcomes.{by_test, ok_not_refused, same_refused}
use Rattle.table_map.specs.Lists.{step, walk_steps}
use Rattle.map_check.specs.Contents.{key_item}
use Rattle.map_check.specs.Fields.{stood}
use Rattle.map_check.specs.Keys.{with_place, keys_from, keys_once}

-- item j: its place, and its key
abbrev pub place_at : List (ℕ × ℕ) → ℕ → ℕ
place_at items j = (get_or items j (0, 0)).0

abbrev pub key_at : List (ℕ × ℕ) → ℕ → ℕ
key_at items j = (get_or items j (0, 0)).1

-- ---- one more before
neither : (a b : Bool) → (a || b) ≡ false → (a ≡ false) × (b ≡ false)
neither true b e = absurd (true≢false e)
neither false b e = (refl, e)

one_or_other : (a b : Bool) → (a || b) ≡ true → (a ≡ true) ⊎ (b ≡ true)
one_or_other true b e = inl refl
one_or_other false b e = inr e

-- what stood, or not, where one more is put behind
more_false : (key : ℕ) (before : List ℕ) (k : ℕ) → stood key (before ++ (k ∷ [])) ≡ false → (stood key before ≡ false) × (k ≡ key → ⊥)
unfolding stood
more_false key [] k e = (refl, eqb-false k key (neither (eqb k key) false e).0)
more_false key (b ∷ before) k e =
    let x = neither (eqb b key) (stood key (before ++ (k ∷ []))) e in
    let y = more_false key before k x.1 in
    (rw x.0 y.0, y.1)

more_true : (key : ℕ) (before : List ℕ) (k : ℕ) → stood key (before ++ (k ∷ [])) ≡ true → (stood key before ≡ true) ⊎ (k ≡ key)
unfolding stood
more_true key [] k e = ⊎_elim (λ t. inr (eqb-true k key t)) (λ t. inl t) (one_or_other (eqb k key) false e)
more_true key (b ∷ before) k e =
    ⊎_elim (λ t. inl (ap (λ (x : Bool). x || stood key before) t))
    (λ t. ⊎_elim (λ r. inl (or_right (eqb b key) r)) (λ r. inr r) (more_true key before k t))
    (one_or_other (eqb b key) (stood key (before ++ (k ∷ []))) e)
  where
    or_right : (a : Bool) {b : Bool} → b ≡ true → (a || b) ≡ true
    or_right true e = refl
    or_right false e = e

-- ---- the first m items: their keys are apart, and stand in none of `before`
record Clear (before : List ℕ) (items : List (ℕ × ℕ)) (m : ℕ) : Type 0 where
  new : (j : ℕ) → j < m → stood (key_at items j) before ≡ false
  apart : (i j : ℕ) → i < j → j < m → key_at items i ≡ key_at items j → ⊥

clear_none : (before : List ℕ) (items : List (ℕ × ℕ)) → Clear before items 0
clear_none before items = record { new = λ j h. absurd (omega arith); apart = λ i j l h e. absurd (omega arith) }

clear_more : (before : List ℕ) (k : ℕ × ℕ) (items : List (ℕ × ℕ)) (m : ℕ) → stood k.1 before ≡ false
    → Clear (before ++ (k.1 ∷ [])) items m
    → Clear before (k ∷ items) (suc m)
clear_more before k items m t c = record { new = new; apart = apart }
  where
    behind : (j : ℕ) → j < m → (stood (key_at items j) before ≡ false) × (k.1 ≡ key_at items j → ⊥)
    behind j h = more_false (key_at items j) before k.1 (c.new j h)

    new : (j : ℕ) → j < suc m → stood (key_at (k ∷ items) j) before ≡ false
    new zero h = t
    new (suc j) h = (behind j (omega arith)).0

    apart : (i j : ℕ) → i < j → j < suc m → key_at (k ∷ items) i ≡ key_at (k ∷ items) j → ⊥
    apart i zero l h e = omega arith
    apart zero (suc j) l h e = (behind j (omega arith)).1 e
    apart (suc i) (suc j) l h e = c.apart i j (omega arith) (omega arith) e

clear_all : (start : ℕ) (before : List ℕ) (items : List (ℕ × ℕ)) → keys_once start before items ≡ ok tt → Clear before items (length items)
unfolding keys_once
clear_all start before [] e = clear_none before []
clear_all start before (k ∷ items) e =
    by_test (stood k.1 before) _ _ _ e (λ t f. absurd (ok_not_refused (sym f)))
    (λ t f. clear_more before k items (length items) t (clear_all start (before ++ (k.1 ∷ [])) items f))

-- item j is told: it repeats one of `before` or an earlier item, and none before it does
record Stops (start : ℕ) (before : List ℕ) (items : List (ℕ × ℕ)) (w : Refusal) : Type 0 where
  j : ℕ
  there : j < length items
  clear : Clear before items j
  repeats : (stood (key_at items j) before ≡ true) ⊎ ((i : ℕ) × (i < j) × (key_at items i ≡ key_at items j))
  told : w ≡ why 7 (start + place_at items j)

stops : (start : ℕ) (before : List ℕ) (items : List (ℕ × ℕ)) (w : Refusal) → keys_once start before items ≡ refused w
    → Stops start before items w
unfolding keys_once
stops start before [] w e = absurd (ok_not_refused e)
stops start before (k ∷ items) w e =
    by_test (stood k.1 before) _ _ _ e
    (λ t f. record { j = 0; there = omega arith; clear = clear_none before (k ∷ items); repeats = inl t; told = sym (same_refused f) })
    (λ t f.
    let x = stops start (before ++ (k.1 ∷ [])) items w f in
    record {
      j = suc x.j;
      there = omega (arith, x.there);
      clear = clear_more before k items x.j t x.clear;
      repeats =
          ⊎_elim
          (λ r. ⊎_elim (λ l. inl l) (λ q. inr (0, omega arith, q)) (more_true (key_at items x.j) before k.1 r))
          (λ r. inr (suc r.0, omega (arith, r.1), r.2))
          x.repeats;
      told = x.told;
    })

-- ---- all of it, from the first item on
-- the keys of the first m items are apart
pub record Apart (items : List (ℕ × ℕ)) (m : ℕ) : Type 0 where
  pub apart : (i j : ℕ) → i < j → j < m → key_at items i ≡ key_at items j → ⊥

-- item j is the earliest that repeats one
pub record Repeat (items : List (ℕ × ℕ)) (j : ℕ) : Type 0 where
  pub earlier : ℕ
  pub before : earlier < j
  pub there : j < length items
  pub same : key_at items earlier ≡ key_at items j
  pub first : Apart items j

-- nothing is told only where all are apart
pub once_apart : (start : ℕ) (items : List (ℕ × ℕ)) → keys_once start [] items ≡ ok tt → Apart items (length items)
once_apart start items e = record { apart = (clear_all start [] items e).apart }

-- a refusal tells the earliest item that repeats one
pub refused_repeat : (start : ℕ) (items : List (ℕ × ℕ)) (w : Refusal) → keys_once start [] items ≡ refused w
    → (j : ℕ) × Repeat items j × (w ≡ why 7 (start + place_at items j))
unfolding stood
refused_repeat start items w e =
    let x = stops start [] items w e in
    ⊎_elim (λ t. absurd (false≢true t))
    (λ r. (
      x.j,
      record { earlier = r.0; before = r.1; there = x.there; same = r.2; first = record { apart = x.clear.apart } },
      x.told,
    ))
    x.repeats

-- and the other way, both
pub apart_once : (start : ℕ) (items : List (ℕ × ℕ)) → Apart items (length items) → keys_once start [] items ≡ ok tt
apart_once start items a = go (keys_once start [] items) refl
  where
    go : (o : Outcome (Unit {0})) → keys_once start [] items ≡ o → o ≡ ok tt
    go (ok tt) e = refl
    go (refused w) e =
        let x = refused_repeat start items w e in
        absurd (a.apart x.1.earlier x.0 x.1.before x.1.there x.1.same)

pub repeat_refused : (start : ℕ) (items : List (ℕ × ℕ)) (j : ℕ) → Repeat items j
    → keys_once start [] items ≡ refuse 7 (start + place_at items j)
repeat_refused start items j r = go (keys_once start [] items) refl
  where
    only : (j k : ℕ) → Repeat items j → Repeat items k → j < k → ⊥
    only j k a b h = b.first.apart a.earlier j a.before h a.same

    go : (o : Outcome (Unit {0})) → keys_once start [] items ≡ o → o ≡ refuse 7 (start + place_at items j)
    go (ok tt) e = absurd ((once_apart start items e).apart r.earlier j r.before r.there r.same)
    go (refused w) e =
        let x = refused_repeat start items w e in
        let q : x.0 ≡ j =
        dite (dec_le x.0 j)
        (λ a. dite (dec_le j x.0) (λ b. omega arith) (λ b. absurd (only x.0 j x.1 r (omega arith))))
        (λ a. absurd (only j x.0 r x.1 (omega arith)))
        in ap (λ (v : Refusal). refused v) (x.2 ∙ ap (λ (i : ℕ). why 7 (start + place_at items i)) q)

-- ---- keys 1, 2, 2, 1: the third item is told and not the fourth
third : keys_once 40 [] (keys_from false (1 ∷ 2 ∷ 2 ∷ 1 ∷ []) 0) ≡ refuse 7 42
unfolding read_packed packed_form step walk_steps with_place key_item stood keys_once
third = refl

-- Contents, a clause for each type: they are what the walk and the check ask of a field. Ranks, by counting. Assumes nothing.
use Prim.Native.Nat.{ℕ, suc, ◌+◌, ◌≤◌, ◌<◌}
use mathlib.Core.Path.{◌≡◌, refl, sym, ap, subst, ◌∙◌}
use mathlib.Core.Logic.{dite}
use mathlib.Core.Bool.{Bool, true, false, cond}
use mathlib.Core.List.{List, [], ◌∷◌, ◌++◌}
use native.Mathlib.Decide.{dec_le}
use native.Mathlib.Omega.{arith}
use borrow.Author.Tests.{lt-ltb, le-leb, leb-true, ltb-true, eq-eqb}
use lib.ListN.{length}
use lib.Dec.{leb, ltb}
use Rattle.wire.proofs.Outcomes.{both_true}
use Rattle.value.specs.declared.classes.Dialect.{Dialect}
use Rattle.table_map.specs.Lists.{walk_items, integer_item, string_item, group_item}
use Rattle.table_map.specs.Fields.{is_field, contents_hold}
use Rattle.table_map.proofs.Items.{integer_moves, string_moves, group_moves}
use Rattle.table_map.proofs.Optional.{signs_there, visible_there}
use Rattle.map_check.specs.declared.declare.Declared.{Declared}
use Rattle.map_check.specs.declared.contents.Meaning.TheVariants.{Charset, GeometryType, Dimension}
use Rattle.map_check.specs.declared.rank.Ranks.{Ranks}
use Rattle.map_check.specs.Ranks.{no_ranks, ranks_after, ranks_from}
use Rattle.map_check.specs.Contents.{whatever, exactly, integer_holds, key_item, contents_full}
use Rattle.map_check.specs.Passes.{Member, here, later, firsts, signed, character, choice, of_type, count, CharsetList}
use Rattle.map_check.specs.Passes.{DefaultCharsets, Contents, signedness, default_charset_lem, column_charsets, names, set_strings}
use Rattle.map_check.specs.Passes.{enum_strings, geometry_types, simple_key, prefix_key, default_choice, choice_charsets, visibility}
use Rattle.map_check.specs.Passes.{dimensions}
use Rattle.map_check.proofs.KeyLaws.KeyItems.{key_moves}
use Rattle.map_check.proofs.ContentsLaws.Laid.{list_laid, laid_list, exact_laid, laid_exact, charset_is, is_charset_lem, default_holds_lem}
use Rattle.map_check.proofs.ContentsLaws.Laid.{holds_default, simple_laid, laid_simple, prefixed_laid, laid_prefixed}

-- ---- ranks, by counting
ranked : (d : Dialect) (get : Ranks → ℕ) (class : Declared → Bool)
    → ((k : Ranks) (c : Declared) → get (ranks_after d k c) ≡ get k + cond (class c) 1 0)
    → (k : Ranks) (cs : List Declared) → get (ranks_from d k cs) ≡ get k + count class cs
unfolding ranks_from count
ranked d get class h k [] = omega arith
ranked d get class h k (c ∷ cs) =
    let e = ranked d get class h (ranks_after d k c) cs in
    omega (arith, e, h k c)

pub record Sized (d : Dialect) (cs : List Declared) (k : Ranks) : Type 0 where
  pub sign : k.sign.0 ≡ count (signed d) cs
  pub character : k.character.0 ≡ count (character d) cs
  pub choice : k.choice.0 ≡ count choice cs
  pub set : k.set.0 ≡ count (of_type 248) cs
  pub enumeration : k.enumeration.0 ≡ count (of_type 247) cs
  pub geometry : k.geometry.0 ≡ count (of_type 255) cs
  pub vector : k.vector.0 ≡ count (of_type 242) cs

pub sized : (d : Dialect) (cs : List Declared) → Sized d cs (ranks_from d no_ranks cs)
unfolding ranks_after
sized d cs = record {
  sign = from_none (ranked d (λ k. k.sign.0) (signed d) (λ k c. refl) no_ranks cs);
  character = from_none (ranked d (λ k. k.character.0) (character d) (λ k c. refl) no_ranks cs);
  choice = from_none (ranked d (λ k. k.choice.0) choice (λ k c. refl) no_ranks cs);
  set = from_none (ranked d (λ k. k.set.0) (of_type 248) (λ k c. refl) no_ranks cs);
  enumeration = from_none (ranked d (λ k. k.enumeration.0) (of_type 247) (λ k c. refl) no_ranks cs);
  geometry = from_none (ranked d (λ k. k.geometry.0) (of_type 255) (λ k c. refl) no_ranks cs);
  vector = from_none (ranked d (λ k. k.vector.0) (of_type 242) (λ k c. refl) no_ranks cs);
}
  where
    from_none : {n m : ℕ} → n ≡ 0 + m → n ≡ m
    from_none e = omega arith

-- behind one column more
pub ranks_behind : (d : Dialect) (k : Ranks) (before : List Declared) (c : Declared)
    → ranks_from d k (before ++ (c ∷ [])) ≡ ranks_after d (ranks_from d k before) c
unfolding ranks_from
ranks_behind d k [] c = refl
ranks_behind d k (b ∷ before) c = ranks_behind d (ranks_after d k b) before c

-- ---- what is asked of a field: by the walk, and by the check
pub record Held (numeric columns : ℕ) (sizes : Ranks) (kind : ℕ) (value : List ℕ) : Type 0 where
  pub known : is_field kind ≡ true
  pub holds : contents_hold numeric columns kind value ≡ true
  pub full : contents_full sizes columns kind value ≡ true

-- the first of a pair that stands in a list, and the pair
pub first_member : {B : Type 0} {p : ℕ × B} {ps : List (ℕ × B)} → Member p ps → Member p.0 (firsts ps)
first_member {B} (here q) = here (ap (λ (x : ℕ × B). x.0) q)
first_member (later m) = later (first_member m)

pub pair_member : {B : Type 0} (ps : List (ℕ × B)) (x : ℕ) → Member x (firsts ps) → (p : ℕ × B) × Member p ps × (p.0 ≡ x)
pair_member {B = B} [] x x3 = elim x3 [ ]
pair_member (p ∷ ps) x (here q) = (p, here refl, sym q)
pair_member (p ∷ ps) x (later m) =
    let y = pair_member ps x m in
    (y.0, later y.1, y.2)

-- ---- a field that is as its clause says
-- a charset for each of n columns
said_list : {m n : ℕ} (value : List ℕ) → n ≡ m → CharsetList m value → exactly integer_item (integer_holds Charset) n value ≡ true
unfolding integer_holds
said_list value e x =
    laid_exact integer_item integer_moves (integer_holds Charset) _ value x.charsets x.items (x.one_each ∙ sym e)
    (λ a m. is_charset_lem a (x.each a m))

pub contents_held : {d : Dialect} {cs : List Declared} {sizes : Ranks} → Sized d cs sizes → {kind : ℕ} {value : List ℕ}
    → Contents d cs kind value
    → Held (count (signed d) cs) (length cs) sizes kind value
unfolding contents_hold contents_full integer_holds
contents_held z (signedness {value = value} e) = record { known = refl; holds = eq-eqb (length value) _ e; full = refl }
contents_held z (default_charset_lem {value = value} x) =
    record { known = refl; holds = rw x.holds.start; full = rw z.character (holds_default _ value x) }
contents_held z (column_charsets {value = value} x) = record { known = refl; holds = refl; full = said_list value z.character x }
contents_held z (names {value = value} items b n) =
    record { known = refl; holds = refl; full = laid_exact string_item string_moves whatever _ value items b n (λ a m. refl) }
contents_held z (set_strings {value = value} items b n) =
    record {
      known = refl;
      holds = refl;
      full = laid_exact group_item group_moves whatever _ value items b (n ∙ sym z.set) (λ a m. refl);
    }
contents_held z (enum_strings {value = value} items b n) =
    record {
      known = refl;
      holds = refl;
      full = laid_exact group_item group_moves whatever _ value items b (n ∙ sym z.enumeration) (λ a m. refl);
    }
contents_held z (geometry_types {value = value} items b n h) =
    record {
      known = refl;
      holds = refl;
      full =
          laid_exact integer_item integer_moves (integer_holds GeometryType) _ value items b (n ∙ sym z.geometry)
          (λ a m. le-leb a 7 (h a m));
    }
contents_held {d} {cs} z (simple_key {value = value} keys b h) =
    record {
      known = refl;
      holds = refl;
      full = laid_list (key_item false) (key_moves false) (λ k. ltb k (length cs)) value keys (laid_simple b) (λ a m. lt-ltb a _ (h a m));
    }
contents_held {d} {cs} z (prefix_key {value = value} keys b h) =
    record {
      known = refl;
      holds = refl;
      full =
          laid_list (key_item true) (key_moves true) (λ k. ltb k (length cs)) value (firsts keys) (laid_prefixed b)
          (λ a m.
          let y = pair_member keys a m in
          lt-ltb a _ (subst (λ (x : ℕ). x < length cs) y.2 (h y.0 y.1)));
    }
contents_held z (default_choice {value = value} x) =
    record { known = refl; holds = rw x.holds.start; full = rw z.choice (holds_default _ value x) }
contents_held z (choice_charsets {value = value} x) = record { known = refl; holds = refl; full = said_list value z.choice x }
contents_held z (visibility {value = value} e) = record { known = refl; holds = eq-eqb (length value) _ e; full = refl }
contents_held z (dimensions {value = value} items b n) =
    record {
      known = refl;
      holds = refl;
      full = laid_exact integer_item integer_moves (integer_holds Dimension) _ value items b (n ∙ sym z.vector) (λ a m. refl);
    }

-- ---- and the other way: of a known type there is a clause
least : (P : ℕ → Type 0) (k n : ℕ) → k ≤ n → P k → (suc k ≤ n → P n) → P n
least P k n h p f = dite (dec_le (suc k) n) (λ l. f l) (λ l. let e : k ≡ n = omega arith in subst P e p)

by_type : (P : ℕ → Type 0) → P 1 → P 2 → P 3 → P 4 → P 5 → P 6 → P 7 → P 8 → P 9 → P 10 → P 11 → P 12 → P 13
    → (kind : ℕ) → is_field kind ≡ true → P kind
by_type P p₁ p₂ p₃ p₄ p₅ p₆ p₇ p₈ p₉ p₁₀ p₁₁ p₁₂ p₁₃ kind e =
    let x = both_true (leb 1 kind) (leb kind 13) e in
    let h = leb-true 1 kind x.0 in
    let l = leb-true kind 13 x.1 in
    least P 1 kind h p₁ (λ h₂. least P 2 kind h₂ p₂ (λ h₃. least P 3 kind h₃ p₃ (λ h₄. least P 4 kind h₄ p₄ (λ h₅. least P 5 kind h₅ p₅
    (λ h₆. least P 6 kind h₆ p₆ (λ h₇. least P 7 kind h₇ p₇ (λ h₈. least P 8 kind h₈ p₈ (λ h₉. least P 9 kind h₉ p₉
    (λ h₁₀. least P 10 kind h₁₀ p₁₀ (λ h₁₁. least P 11 kind h₁₁ p₁₁ (λ h₁₂. least P 12 kind h₁₂ p₁₂ (λ h₁₃. least P 13 kind h₁₃ p₁₃
    (λ h₁₄. absurd (omega arith))))))))))))))

-- a charset for each of n columns
list_said : (n : ℕ) (value : List ℕ) → exactly integer_item (integer_holds Charset) n value ≡ true → CharsetList n value
unfolding integer_holds
list_said n value e =
    let x = exact_laid integer_item integer_moves (integer_holds Charset) n value e in
    record { charsets = (walk_items integer_item value 0).items; items = x.0; one_each = x.1; each = λ a m. charset_is a (x.2 a m) }

abbrev Clause : Dialect → List Declared → Ranks → List ℕ → ℕ → Type 0
Clause d cs sizes value k = Held (count (signed d) cs) (length cs) sizes k value → Contents d cs k value

pub held_contents : {d : Dialect} {cs : List Declared} {sizes : Ranks} → Sized d cs sizes → (kind : ℕ) (value : List ℕ)
    → Held (count (signed d) cs) (length cs) sizes kind value → Contents d cs kind value
unfolding contents_full integer_holds
held_contents {d} {cs} {sizes} z kind value h =
    by_type (Clause d cs sizes value) f₁ f₂ f₃ f₄ f₅ f₆ f₇ f₈ f₉ f₁₀ f₁₁ f₁₂ f₁₃ kind h.known h
  where
    f₁ : Clause d cs sizes value 1
    f₁ x = signedness (signs_there _ _ value x.holds)

    f₂ : Clause d cs sizes value 2
    f₂ x = default_charset_lem (subst (λ (n : ℕ). DefaultCharsets n value) z.character (default_holds_lem _ value x.full))

    f₃ : Clause d cs sizes value 3
    f₃ x = column_charsets (subst (λ (n : ℕ). CharsetList n value) z.character (list_said _ value x.full))

    f₄ : Clause d cs sizes value 4
    f₄ x =
        let y = exact_laid string_item string_moves whatever (length cs) value x.full in
        names _ y.0 y.1

    f₅ : Clause d cs sizes value 5
    f₅ x =
        let y = exact_laid group_item group_moves whatever sizes.set.0 value x.full in
        set_strings _ y.0 (y.1 ∙ z.set)

    f₆ : Clause d cs sizes value 6
    f₆ x =
        let y = exact_laid group_item group_moves whatever sizes.enumeration.0 value x.full in
        enum_strings _ y.0 (y.1 ∙ z.enumeration)

    f₇ : Clause d cs sizes value 7
    f₇ x =
        let y = exact_laid integer_item integer_moves (integer_holds GeometryType) sizes.geometry.0 value x.full in
        geometry_types _ y.0 (y.1 ∙ z.geometry) (λ a m. leb-true a 7 (y.2 a m))

    f₈ : Clause d cs sizes value 8
    f₈ x =
        let y = list_laid (key_item false) (key_moves false) (λ k. ltb k (length cs)) value x.full in
        simple_key _ (simple_laid y.0) (λ a m. ltb-true a _ (y.1 a m))

    f₉ : Clause d cs sizes value 9
    f₉ x =
        let y = list_laid (key_item true) (key_moves true) (λ k. ltb k (length cs)) value x.full in
        let w = prefixed_laid y.0 in
        prefix_key w.0 w.2 (λ p m. ltb-true p.0 _ (y.1 p.0 (subst (Member p.0) w.1 (first_member m))))

    f₁₀ : Clause d cs sizes value 10
    f₁₀ x = default_choice (subst (λ (n : ℕ). DefaultCharsets n value) z.choice (default_holds_lem _ value x.full))

    f₁₁ : Clause d cs sizes value 11
    f₁₁ x = choice_charsets (subst (λ (n : ℕ). CharsetList n value) z.choice (list_said _ value x.full))

    f₁₂ : Clause d cs sizes value 12
    f₁₂ x = visibility (visible_there _ _ value x.holds)

    f₁₃ : Clause d cs sizes value 13
    f₁₃ x =
        let y = exact_laid integer_item integer_moves (integer_holds Dimension) sizes.vector.0 value x.full in
        dimensions _ y.0 (y.1 ∙ z.vector)

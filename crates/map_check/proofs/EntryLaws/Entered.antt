-- Entries as columns and fields say them: the charset of a rank, the signedness bit of a rank, the bits of a place. Assumes nothing.
use Rattle.std.specs.Prelude.{None, Option, Some}
use Prim.Native.Nat.{ℕ, suc}
use mathlib.Core.Path.{◌≡◌, refl, sym, ap, subst, ◌∙◌}
use mathlib.Core.Logic.{◌⊎◌, inl, inr, ⊎_elim}
use mathlib.Core.Bool.{Bool, true, false, cond, ◌&&◌}
use mathlib.Core.List.{List, [], ◌∷◌, ◌++◌}
use native.Mathlib.Omega.{arith}
use borrow.Author.Tests.{eqb-true, eqb-false, eq-eqb, ne_eqb}
use lib.ListN.{length, length-append}
use lib.Dec.{eqb}
use Rattle.wire.specs.Bits.{bit_msb0}
use Rattle.wire.specs.declared.part.Part.{Part}
use Rattle.wire.specs.Parts.{lent_part}
use Rattle.wire.proofs.Outcomes.{same_ok}
use Rattle.value.specs.declared.classes.Dialect.{Dialect}
use Rattle.value.specs.Types.{family_of, is_numeric}
use Rattle.value.specs.Classes.{is_character, is_enum_or_set}
use Rattle.table_map.specs.Lists.{ItemsWalked, walk_items, integer_item, pair_item}
use Rattle.table_map.proofs.Items.{integer_moves, pair_moves}
use Rattle.record.specs.declared.entry.Entry.{Entry}
use Rattle.map_check.specs.declared.declare.Declared.{Declared}
use Rattle.map_check.specs.declared.contents.Meaning.TheVariants.{Charset}
use Rattle.map_check.specs.declared.rank.Ranks.{Ranks}
use Rattle.map_check.specs.declared.facts.Charsets.{Charsets}
use Rattle.map_check.specs.Ranks.{table_place, rank, no_ranks, ranks_after, ranks_from}
use Rattle.map_check.specs.Contents.{integer_holds, pairs_hold, default_holds}
use Rattle.map_check.specs.Fields.{first_of, value_in}
use Rattle.map_check.specs.Profile.{facts_of, stands, pair_or, from_list, charset_by, charset_for, is_sign_known, is_unsigned, is_visible}
use Rattle.map_check.specs.Profile.{flags_of, entry_for, entries_from}
use Rattle.map_check.specs.Inner.Making.{ClassHolds}
use Rattle.map_check.specs.Passes.{Member, here, later, Distinct, firsts, NotBoth, DefaultIs, CharsetGiven, listed}
use Rattle.map_check.specs.Passes.{paired, unpaired, not_given, CharsetIs, of_character, of_choice, of_other, SignIs, told, untold}
use Rattle.map_check.specs.Passes.{not_numeric, VisibleIs, by_bit, all_are, EntryIs, EntriesAre, no_entry, an_entry}
use Rattle.map_check.proofs.ContentsLaws.Bounds.{charset_default}
use Rattle.map_check.proofs.ColumnLaws.Accepts.{one_of}
use Rattle.map_check.proofs.ContentsLaws.Laid.{laid_walk, exact_laid, default_holds_lem, pair_first, pairs_each}
use Rattle.map_check.proofs.ContentsLaws.Filled.{Sized, sized, ranks_behind}
use Rattle.map_check.proofs.FieldLaws.Lined.{bare, no_member, found_member, member_found, nothing_absent, absent_nothing}

-- ---- the charset of a rank, by pairs: its pair's, or the default
pair_or_lem : (default r : ℕ) (ps : List (ℕ × ℕ))
    → Member (r, pair_or default r ps) ps ⊎ ((pair_or default r ps ≡ default) × ((v : ℕ) → Member (r, v) ps → ⊥))
unfolding pair_or
pair_or_lem default r [] = inr (refl, λ v m. no_member m refl)
pair_or_lem default r (p ∷ ps) = go (eqb p.0 r) refl (pair_or_lem default r ps)
  where
    go : (t : Bool) → eqb p.0 r ≡ t
        → Member (r, pair_or default r ps) ps ⊎ ((pair_or default r ps ≡ default) × ((v : ℕ) → Member (r, v) ps → ⊥))
        → Member (r, cond t p.1 (pair_or default r ps)) (p ∷ ps)
        ⊎ ((cond t p.1 (pair_or default r ps) ≡ default) × ((v : ℕ) → Member (r, v) (p ∷ ps) → ⊥))
    go true e x = inl (here (ap (λ (k : ℕ). (k, p.1)) (sym (eqb-true p.0 r e))))
    go false e (inl m) = inl (later m)
    go false e (inr n) = inr (n.0, λ v m. neither e n v m)
      where
        neither : eqb p.0 r ≡ false → (pair_or default r ps ≡ default) × ((v : ℕ) → Member (r, v) ps → ⊥) → (v : ℕ)
            → Member (r, v) (p ∷ ps) → ⊥
        neither e n v (here q) = eqb-false p.0 r e (sym (ap (λ (x : ℕ × ℕ). x.0) q))
        neither e n v (later m) = n.1 v m

-- where ranks rise, it is the one pair's
pair_found : {r v : ℕ} {ps : List (ℕ × ℕ)} → Member (r, v) ps → (size low default : ℕ) → pairs_hold size low ps ≡ true
    → pair_or default r ps ≡ v
unfolding pair_or
pair_found {r} {v} (here {b = b} q) size low default e =
    rw (eq-eqb b.0 r (sym (ap (λ (x : ℕ × ℕ). x.0) q))) (sym (ap (λ (x : ℕ × ℕ). x.1) q))
pair_found {r} {v} (later {b = b} {l = l} m) size low default e =
    let x = pair_first size low b l e in
    let y = pairs_each m size (suc b.0) x.3 in
    let n : b.0 ≡ r → ⊥ = λ z. omega (arith, y.0, z) in
    rw (ne_eqb b.0 r n) (pair_found m size (suc b.0) default x.3)

-- the pairs of a value that holds do
pairs_hold_lem : (size : ℕ) (value : List ℕ) (first : ℕ) (pairs : List (ℕ × ℕ)) → default_holds size value ≡ true → DefaultIs value first pairs
    → pairs_hold size 0 pairs ≡ true
pairs_hold_lem size value first pairs h i =
    let z = charset_default size value h in
    let u : z.pairs ≡ i.behind = ap (λ (w : ℕ × ℕ). w.1) (same_ok (sym z.read ∙ i.start)) in
    let l = ap (λ (w : ItemsWalked (ℕ × ℕ)). w.items) (laid_walk pair_item pair_moves i.items refl) in
    subst (λ (ps : List (ℕ × ℕ)). pairs_hold size 0 ps ≡ true) (ap (λ (at : ℕ). (walk_items pair_item value at).items) u ∙ l) z.hold

-- ---- the charset of a rank, by the fields of its class
abbrev class : ℕ → ℕ → List (ℕ × Part) → Charsets
class default list fs = record { default = first_of default fs; list = first_of list fs }

given : (s : List ℕ) (fs : List (ℕ × Part)) (default list r : ℕ) → ClassHolds s (class default list fs) → Distinct (firsts (bare s fs))
    → CharsetGiven (bare s fs) default list r (charset_by s (class default list fs) (rank r))
unfolding charset_by
given s fs default list r h d = go (first_of default fs) (first_of list fs) refl refl
  where
    go : (a b : Option Part) → first_of default fs ≡ a → first_of list fs ≡ b → CharsetGiven (bare s fs) default list r (from_list s r a b)
    go a (Some p) x y =
        let w = exact_laid integer_item integer_moves (integer_holds Charset) h.size (lent_part s p) (h.list p y) in
        listed (lent_part s p) (walk_items integer_item (lent_part s p) 0).items (found_member s fs list p y) w.0
    go (Some p) None x y =
        let w = default_holds_lem h.size (lent_part s p) (h.default p x) in
        let m = found_member s fs default p x in
        let e : from_list s r (Some p) None ≡ pair_or w.default r w.pairs
        = rw (w.holds.start, laid_walk pair_item pair_moves w.holds.items refl) in
        subst (CharsetGiven (bare s fs) default list r) (sym e)
        (⊎_elim (λ z. paired (lent_part s p) w.default (pair_or w.default r w.pairs) w.pairs m w.holds z)
        (λ z. subst (CharsetGiven (bare s fs) default list r) (sym z.0)
        (unpaired (lent_part s p) w.default w.pairs m w.holds z.1))
        (pair_or_lem w.default r w.pairs))
    go None None x y = not_given (nothing_absent s fs default d x) (nothing_absent s fs list d y)

given_is : (s : List ℕ) (fs : List (ℕ × Part)) {default list r v : ℕ} → ClassHolds s (class default list fs) → Distinct (firsts (bare s fs))
    → NotBoth default list (bare s fs) → CharsetGiven (bare s fs) default list r v → v ≡ charset_by s (class default list fs) (rank r)
unfolding charset_by
given_is s fs {default} {list} {r} h d n (listed value charsets m b) =
    let x = member_found s fs list value d m in
    rw (x.1, x.2, laid_walk integer_item integer_moves b refl)
given_is s fs {default} {list} {r} h d n (paired value first v pairs m i q) =
    let x = member_found s fs default value d m in
    let y = absent_nothing s fs list (λ w o. n value w m o) in
    let g = subst (λ (b : List ℕ). default_holds h.size b ≡ true) x.2 (h.default x.0 x.1) in
    let k = pairs_hold_lem h.size value first pairs g i in
    rw (x.1, y, x.2, i.start, laid_walk pair_item pair_moves i.items refl) (sym (pair_found q h.size 0 first k))
given_is s fs {default} {list} {r} h d n (unpaired value first pairs m i q) =
    let x = member_found s fs default value d m in
    let y = absent_nothing s fs list (λ w o. n value w m o) in
    rw (x.1, y, x.2, i.start, laid_walk pair_item pair_moves i.items refl)
    (sym (⊎_elim (λ z. absurd (q (pair_or first r pairs) z)) (λ z. z.0) (pair_or_lem first r pairs)))
given_is s fs {default} {list} {r} h d n (not_given a b) = rw (absent_nothing s fs default a, absent_nothing s fs list b)

-- ---- what is known of the fields that are kept
pub record Known (s : List ℕ) (bits : Part) (fs : List (ℕ × Part)) : Type 0 where
  pub once : Distinct (firsts (bare s fs))
  pub not_2_3 : NotBoth 2 3 (bare s fs)
  pub not_10_11 : NotBoth 10 11 (bare s fs)
  pub characters : ClassHolds s (facts_of bits fs).characters
  pub choices : ClassHolds s (facts_of bits fs).choices

-- ---- the charset of a column
not_character : (t : ℕ) → is_enum_or_set t ≡ true → is_character t ≡ false
unfolding is_character is_enum_or_set
not_character t e = one_of (eqb t 247) (eqb t 248) e (λ a. rw (eqb-true t 247 a) refl) (λ a. rw (eqb-true t 248 a) refl)

charset_given : {s : List ℕ} {bits : Part} {fs : List (ℕ × Part)} {before : List Declared} {k : Ranks} (d : Dialect) (c : Declared)
    → Known s bits fs
    → Sized d before k → CharsetIs d (bare s fs) before c (charset_for s (facts_of bits fs) c k)
unfolding charset_for
charset_given {s} {bits} {fs} {before} {k} d c x z = go (is_character c.real) (is_enum_or_set c.real) refl refl
  where
    go : (t u : Bool) → is_character c.real ≡ t → is_enum_or_set c.real ≡ u
        → CharsetIs d (bare s fs) before c
        (cond t (charset_by s (class 2 3 fs) k.character) (cond u (charset_by s (class 10 11 fs) k.choice) 0))
    go true u e f =
        of_character e
        (subst (λ (r : ℕ). CharsetGiven (bare s fs) 2 3 r (charset_by s (class 2 3 fs) k.character)) z.character
        (given s fs 2 3 k.character.0 x.characters x.once))
    go false true e f =
        of_choice f
        (subst (λ (r : ℕ). CharsetGiven (bare s fs) 10 11 r (charset_by s (class 10 11 fs) k.choice)) z.choice
        (given s fs 10 11 k.choice.0 x.choices x.once))
    go false false e f = of_other e f

charset_said : {s : List ℕ} {bits : Part} {fs : List (ℕ × Part)} {before : List Declared} {k : Ranks} {d : Dialect} {c : Declared} {v : ℕ}
    → Known s bits fs
    → Sized d before k → CharsetIs d (bare s fs) before c v → v ≡ charset_for s (facts_of bits fs) c k
unfolding charset_for
charset_said {s} {bits} {fs} {before} {k} {d} {c} {v} x z (of_character e g) =
    rw e (given_is s fs x.characters x.once x.not_2_3 (subst (λ (r : ℕ). CharsetGiven (bare s fs) 2 3 r v) (sym z.character) g))
charset_said {s} {bits} {fs} {before} {k} {d} {c} {v} x z (of_choice e g) =
    rw (not_character c.real e, e)
    (given_is s fs x.choices x.once x.not_10_11 (subst (λ (r : ℕ). CharsetGiven (bare s fs) 10 11 r v) (sym z.choice) g))
charset_said x z (of_other e f) = rw (e, f)

-- ---- its flags
sign_given : {s : List ℕ} {bits : Part} {fs : List (ℕ × Part)} {before : List Declared} {k : Ranks} (d : Dialect) (c : Declared)
    → Known s bits fs
    → Sized d before k → SignIs d (bare s fs) before c (is_unsigned s (facts_of bits fs) c k.sign) (is_sign_known (facts_of bits fs) c)
sign_given {s} {bits} {fs} {before} {k} d c x z = go (is_numeric (family_of c.kind)) (first_of 1 fs) refl refl
  where
    go : (t : Bool) (o : Option Part) → is_numeric (family_of c.kind) ≡ t → first_of 1 fs ≡ o
        → SignIs d (bare s fs) before c ((t && stands o) && bit_msb0 (value_in s o) k.sign.0) (t && stands o)
    go true (Some p) e f =
        subst (λ (r : ℕ). SignIs d (bare s fs) before c (bit_msb0 (lent_part s p) r) true) (sym z.sign)
        (told (lent_part s p) e (found_member s fs 1 p f))
    go true None e f = untold e (nothing_absent s fs 1 x.once f)
    go false o e f = not_numeric e

sign_said : {s : List ℕ} {bits : Part} {fs : List (ℕ × Part)} {before : List Declared} {k : Ranks} {d : Dialect} {c : Declared}
    {unsigned known : Bool} → Known s bits fs → Sized d before k → SignIs d (bare s fs) before c unsigned known
    → (unsigned ≡ is_unsigned s (facts_of bits fs) c k.sign) × (known ≡ is_sign_known (facts_of bits fs) c)
sign_said {s} {bits} {fs} x z (told value e m) =
    let y = member_found s fs 1 value x.once m in
    (rw (e, y.1, y.2, z.sign), rw (e, y.1))
sign_said {s} {bits} {fs} x z (untold e a) =
    let y = absent_nothing s fs 1 a in
    (rw (e, y), rw (e, y))
sign_said x z (not_numeric e) = (rw e, rw e)

visible_given : {s : List ℕ} {bits : Part} {fs : List (ℕ × Part)} (j : ℕ) → Known s bits fs
    → VisibleIs (bare s fs) j (is_visible s (facts_of bits fs) (table_place j))
visible_given {s} {bits} {fs} j x = go (first_of 12 fs) refl
  where
    go : (o : Option Part) → first_of 12 fs ≡ o → VisibleIs (bare s fs) j (cond (stands o) (bit_msb0 (value_in s o) j) true)
    go (Some p) f = by_bit (lent_part s p) (found_member s fs 12 p f)
    go None f = all_are (nothing_absent s fs 12 x.once f)

visible_said : {s : List ℕ} {bits : Part} {fs : List (ℕ × Part)} {j : ℕ} {visible : Bool} → Known s bits fs
    → VisibleIs (bare s fs) j visible
    → visible ≡ is_visible s (facts_of bits fs) (table_place j)
visible_said {s} {bits} {fs} x (by_bit value m) =
    let y = member_found s fs 12 value x.once m in
    rw (y.1, y.2)
visible_said {s} {bits} {fs} x (all_are a) = rw (absent_nothing s fs 12 a)

-- ---- the entry
same_entry : (x : Entry) (real flags m0 m1 charset : ℕ) → x.real ≡ real → x.flags ≡ flags → x.m0 ≡ m0 → x.m1 ≡ m1 → x.charset ≡ charset
    → x ≡ record { real = real; flags = flags; m0 = m0; m1 = m1; charset = charset }
same_entry x real flags m0 m1 charset a b c d e = rw (← a, ← b, ← c, ← d, ← e)

entry_given : {s : List ℕ} {bits : Part} {fs : List (ℕ × Part)} {before : List Declared} {k : Ranks} (d : Dialect) (c : Declared)
    → Known s bits fs
    → Sized d before k → EntryIs d (lent_part s bits) (bare s fs) before c (entry_for s (facts_of bits fs) c (table_place (length before)) k)
unfolding flags_of
entry_given {s} {bits} {fs} {before} {k} d c x z = record {
  real_is = refl;
  m0_is = refl;
  m1_is = refl;
  charset_is = charset_given d c x z;
  unsigned = is_unsigned s (facts_of bits fs) c k.sign;
  known = is_sign_known (facts_of bits fs) c;
  visible = is_visible s (facts_of bits fs) (table_place (length before));
  sign_is = sign_given d c x z;
  visible_is = visible_given (length before) x;
  flags_are = refl;
}

entry_said : {s : List ℕ} {bits : Part} {fs : List (ℕ × Part)} {before : List Declared} {k : Ranks} {d : Dialect} {c : Declared}
    {y : Entry} → Known s bits fs
    → Sized d before k → EntryIs d (lent_part s bits) (bare s fs) before c y
    → y ≡ entry_for s (facts_of bits fs) c (table_place (length before)) k
unfolding flags_of
entry_said {s} {bits} {fs} {before} {k} {d} {c} {y} x z i =
    let g = sign_said x z i.sign_is in
    let f : y.flags ≡ flags_of s (facts_of bits fs) c (table_place (length before)) k
    = i.flags_are ∙ rw (g.0, g.1, visible_said x i.visible_is) in
    same_entry y c.real _ c.m0 c.m1 _ i.real_is f i.m0_is i.m1_is (charset_said x z i.charset_is)

-- ---- all of them, behind the columns before
behind_one : (before : List Declared) (c : Declared) → length (before ++ (c ∷ [])) ≡ suc (length before)
behind_one before c = omega (arith, length-append before (c ∷ []))

pub entries_given : {s : List ℕ} {bits : Part} {fs : List (ℕ × Part)} (d : Dialect) → Known s bits fs → (cs before : List Declared)
    → EntriesAre d (lent_part s bits) (bare s fs) before cs
    (entries_from d s (facts_of bits fs) cs (table_place (length before)) (ranks_from d no_ranks before))
unfolding entries_from
entries_given d x [] before = no_entry
entries_given {s} {bits} {fs} d x (c ∷ cs) before =
    let later = before ++ (c ∷ []) in
    let e : entries_from d s (facts_of bits fs) cs (table_place (length later)) (ranks_from d no_ranks later)
    ≡ entries_from d s (facts_of bits fs) cs (table_place (suc (length before))) (ranks_after d (ranks_from d no_ranks before) c)
    = rw (behind_one before c, ranks_behind d no_ranks before c) in
    an_entry (entry_given d c x (sized d before))
    (subst (EntriesAre d (lent_part s bits) (bare s fs) later cs) e (entries_given d x cs later))

pub entries_said : {s : List ℕ} {bits : Part} {fs : List (ℕ × Part)} {d : Dialect} {before cs : List Declared} {es : List Entry}
    → Known s bits fs
    → EntriesAre d (lent_part s bits) (bare s fs) before cs es
    → es ≡ entries_from d s (facts_of bits fs) cs (table_place (length before)) (ranks_from d no_ranks before)
unfolding entries_from
entries_said x no_entry = refl
entries_said {s} {bits} {fs} {d} {before} x (an_entry {cs = cs} {c = c} {x = y} {es = es} i r) =
    let e : es ≡ entries_from d s (facts_of bits fs) cs (table_place (suc (length before))) (ranks_after d (ranks_from d no_ranks before) c)
    = entries_said x r ∙ rw (behind_one before c, ranks_behind d no_ranks before c) in
    rw (entry_said x (sized d before) i, e)

-- The cursors in a class's charsets: what stands there fits 16 bits, and a turn gives a rank's charset and leaves the cursor where the next
-- rank's is the next. Assumes nothing.
use Rattle.std.specs.Prelude.{None, Option, Some}
use Prim.Native.Nat.{ℕ, suc, ◌+◌, ◌≤◌, ◌<◌}
use mathlib.Core.Path.{◌≡◌, refl, sym, ap, ◌∙◌}
use mathlib.Core.Bool.{Bool, true, false, cond}
use mathlib.Core.List.{List, [], ◌∷◌}
use native.Mathlib.Nat.{add-zero}
use native.Mathlib.Omega.{arith}
use borrow.Author.Tests.{le-leb, leb-true, eqb-true, eqb-false, eq-eqb, ne_eqb}
use lib.ListN.{get_or, drop}
use lib.Seq.{get_or-drop, drop-drop}
use lib.Dec.{leb, ltb, eqb}
use Rattle.wire.specs.Outcome.{Outcome, ok, refused}
use Rattle.wire.specs.Packed.{read_packed}
use Rattle.wire.specs.declared.part.Part.{Part}
use Rattle.wire.specs.Parts.{lent_part}
use Rattle.wire.proofs.Outcomes.{same_ok, ok_not_refused, both_true}
use Rattle.table_map.specs.Lists.{Rule, Stepped, end, step, ItemsWalked, items_onward, walk_items, walk_steps, integer_item, pair_item}
use Rattle.table_map.proofs.Items.{Moves, integer_moves, pair_moves}
use Rattle.table_map.proofs.Walks.{walk_steps_lem}
use Rattle.map_check.specs.declared.contents.Meaning.TheVariants.{Charset}
use Rattle.map_check.specs.declared.rank.Rank.{Rank}
use Rattle.map_check.specs.declared.facts.Charsets.{Charsets}
use Rattle.map_check.specs.declared.charset.CharsetCursor.{CharsetCursor}
use Rattle.map_check.specs.declared.charset.CharsetTurn.{CharsetTurn}
use Rattle.map_check.specs.Contents.{exactly, is_charset, integer_holds, pairs_hold, default_holds}
use Rattle.map_check.specs.Fields.{value_in}
use Rattle.map_check.specs.Profile.{pair_or, from_pairs, from_list, charset_by}
use Rattle.map_check.specs.Inner.Making.{ClassHolds, charset_cursor, charset_turn, behind_default, list_turn, pair_turn, IntegerFits}
use Rattle.map_check.specs.Inner.Making.{PairFits, ListLeft, PairsLeft, StandsIn, Stands, CharsetTurned}
use Rattle.map_check.proofs.ContentsLaws.Between.{items_next}
use Rattle.map_check.proofs.ContentsLaws.Bounds.{charset_fits, charset_list, Defaults, charset_default}
use Rattle.map_check.proofs.FieldLaws.KeptFields.{nothing_not_value}

-- a walk's items, from its first step
items_step : {A : Type 0} (rule : Rule A) → Moves rule → (value : List ℕ) (at : ℕ)
    → (walk_items rule value at).items ≡ (items_onward (walk_items rule value) (step rule value at)).items
items_step {A} rule m value at = ap (λ (w : ItemsWalked A). w.items) (walk_steps_lem rule m value at)

-- ---- in a list
-- what is left of a list of which r are gone, and its first
left_first : (l gone : List ℕ) (r : ℕ) → gone ≡ drop r l → (get_or l r 0 ≡ get_or gone 0 0) × (drop (r + 1) l ≡ drop 1 gone)
left_first l gone r e = (
  ap (λ (i : ℕ). get_or l i 0) (sym (add-zero r)) ∙ sym (get_or-drop r l 0 0) ∙ ap (λ (g : List ℕ). get_or g 0 0) (sym e),
  sym (drop-drop 1 r l) ∙ ap (λ (g : List ℕ). drop 1 g) (sym e),
)

pub listed_fits : {value : List ℕ} {r : ℕ} {c : CharsetCursor} → ListLeft value r c → IntegerFits value c.at
listed_fits {value} {r} {c} h charset next e =
    let f = items_next integer_item integer_moves value c.at charset next e in
    let x = left_first (walk_items integer_item value 0).items (charset ∷ (walk_items integer_item value next).items) r (sym f ∙ h.left) in
    omega (arith, x.0, h.fits r)

list_turned : (value : List ℕ) (r : ℕ) (c : CharsetCursor) (o : Outcome (Stepped ℕ ℕ))
    → (walk_items integer_item value c.at).items ≡ (items_onward (walk_items integer_item value) o).items
    → (items_onward (walk_items integer_item value) o).items ≡ drop r (walk_items integer_item value 0).items
    → ((list_turn c o).charset ≡ get_or (walk_items integer_item value 0).items r 0)
    × ((walk_items integer_item value (list_turn c o).next.at).items ≡ drop (r + 1) (walk_items integer_item value 0).items)
list_turned value r c (ok end) w e = let x = left_first (walk_items integer_item value 0).items [] r e in (sym x.0, w ∙ sym x.1)
list_turned value r c (ok (Some (a, next))) w e =
    let x = left_first (walk_items integer_item value 0).items (a ∷ (walk_items integer_item value next).items) r e in
    (sym x.0, sym x.1)
list_turned value r c (refused v) w e = let x = left_first (walk_items integer_item value 0).items [] r e in (sym x.0, w ∙ sym x.1)

pub listed_turn : {value : List ℕ} {r : ℕ} {c : CharsetCursor} (t : CharsetTurn) → t ≡ list_turn c (step integer_item value c.at)
    → ListLeft value r c
    → (t.charset ≡ get_or (walk_items integer_item value 0).items r 0) × ListLeft value (r + 1) t.next
listed_turn {value} {r} {c} t e h =
    let o = step integer_item value c.at in
    let w = items_step integer_item integer_moves value c.at in
    let x = list_turned value r c o w (sym w ∙ h.left) in
    rw e (x.0, record { left = x.1; fits = h.fits })

-- ---- in pairs
-- the first of pairs that hold
record First (size low : ℕ) (p : ℕ × ℕ) (ps : List (ℕ × ℕ)) : Type 0 where
  rank : low ≤ p.0
  fits : p.1 ≤ 65535
  below : ltb p.0 size ≡ true
  charset : is_charset p.1 ≡ true
  rise : pairs_hold size (suc p.0) ps ≡ true

first_pair : (size low : ℕ) (p : ℕ × ℕ) (ps : List (ℕ × ℕ)) → pairs_hold size low (p ∷ ps) ≡ true → First size low p ps
unfolding pairs_hold
first_pair size low p ps e =
    let a = both_true (leb low p.0) _ e in
    let b = both_true (ltb p.0 size) _ a.1 in
    let d = both_true (is_charset p.1) _ b.1 in
    record { rank = leb-true low p.0 a.0; fits = charset_fits p.1 d.0; below = b.0; charset = d.0; rise = d.1 }

-- pairs that hold from a rank on hold from a later one, if the first is no earlier
later_hold : (size low later : ℕ) (p : ℕ × ℕ) (ps : List (ℕ × ℕ)) → pairs_hold size low (p ∷ ps) ≡ true → later ≤ p.0
    → pairs_hold size later (p ∷ ps) ≡ true
unfolding pairs_hold
later_hold size low later p ps e h =
    let f = first_pair size low p ps e in
    rw (le-leb later p.0 h, f.below, f.charset, f.rise)

-- they tell nothing of an earlier rank
none_earlier : (size low default r : ℕ) (ps : List (ℕ × ℕ)) → pairs_hold size low ps ≡ true → r < low → pair_or default r ps ≡ default
unfolding pair_or
none_earlier size low default r [] e h = refl
none_earlier size low default r (p ∷ ps) e h =
    let f = first_pair size low p ps e in
    let n : p.0 ≡ r → ⊥ = λ (q : p.0 ≡ r). omega (arith, f.rank) in
    rw (ne_eqb p.0 r n) (none_earlier size (suc p.0) default r ps f.rise (omega (arith, f.rank)))

pub paired_fits : {value : List ℕ} {r : ℕ} {c : CharsetCursor} → PairsLeft value r c → PairFits value c.at
paired_fits {value} {r} {c} h q charset next e =
    let f = items_next pair_item pair_moves value c.at (q, charset) next e in
    (first_pair h.size r (q, charset) (walk_items pair_item value next).items (ap (pairs_hold h.size r) (sym f) ∙ h.rise)).fits

-- what a turn gives and leaves, of pairs ps
record Turned (size r default : ℕ) (value : List ℕ) (ps : List (ℕ × ℕ)) (t : CharsetTurn) : Type 0 where
  charset : t.charset ≡ pair_or default r ps
  default_kept : t.next.default ≡ default
  left : (i : ℕ) → r + 1 ≤ i → pair_or default i ps ≡ pair_or default i (walk_items pair_item value t.next.at).items
  rise : pairs_hold size (r + 1) (walk_items pair_item value t.next.at).items ≡ true

-- there is none: the default, and nothing moves
none_turned : (size r : ℕ) (value : List ℕ) (c : CharsetCursor) → (walk_items pair_item value c.at).items ≡ []
    → Turned size r c.default value [] (charset_turn c.default c)
unfolding pair_or pairs_hold
none_turned size r value c w = record { charset = refl; default_kept = refl; left = λ i l. rw w; rise = rw w }

-- it is the rank's own: its charset, and the cursor moves on
own_turned : (size r : ℕ) (value : List ℕ) (c : CharsetCursor) (p : ℕ × ℕ) (next : ℕ)
    → pairs_hold size r (p ∷ (walk_items pair_item value next).items) ≡ true → p.0 ≡ r
    → Turned size r c.default value (p ∷ (walk_items pair_item value next).items) (charset_turn p.1 (charset_cursor next c.default))
unfolding pair_or
own_turned size r value c p next e q =
    let f = first_pair size r p (walk_items pair_item value next).items e in
    let n : suc p.0 ≡ r + 1 = omega arith in
    record {
      charset = rw (eq-eqb p.0 r q);
      default_kept = refl;
      left = λ i l.
          let m : p.0 ≡ i → ⊥ = λ (z : p.0 ≡ i). omega arith in
          rw (ne_eqb p.0 i m);
      rise = ap (λ (low : ℕ). pairs_hold size low (walk_items pair_item value next).items) (sym n) ∙ f.rise;
    }

-- it is of a later rank: the default, and it is met again
later_turned : (size r : ℕ) (value : List ℕ) (c : CharsetCursor) (p : ℕ × ℕ) (ps : List (ℕ × ℕ))
    → (walk_items pair_item value c.at).items ≡ p ∷ ps
    → pairs_hold size r (p ∷ ps) ≡ true → (p.0 ≡ r → ⊥) → Turned size r c.default value (p ∷ ps) (charset_turn c.default c)
later_turned size r value c p ps w e n =
    let f = first_pair size r p ps e in
    let l : r + 1 ≤ p.0 = omega (arith, f.rank) in
    let g = later_hold size r (r + 1) p ps e l in
    record {
      charset = sym (none_earlier size (r + 1) c.default r (p ∷ ps) g (omega arith));
      default_kept = refl;
      left = λ i m. rw w;
      rise = rw w g;
    }

pair_turned : (size r : ℕ) (value : List ℕ) (c : CharsetCursor) (o : Outcome (Stepped (ℕ × ℕ) ℕ))
    → (walk_items pair_item value c.at).items ≡ (items_onward (walk_items pair_item value) o).items
    → pairs_hold size r (items_onward (walk_items pair_item value) o).items ≡ true
    → Turned size r c.default value (items_onward (walk_items pair_item value) o).items (pair_turn c r o)
pair_turned size r value c (ok end) w e = none_turned size r value c w
pair_turned size r value c (ok (Some (p, next))) w e = go (eqb p.0 r) refl
  where
    go : (b : Bool) → eqb p.0 r ≡ b
        → Turned size r c.default value (p ∷ (walk_items pair_item value next).items)
        (cond b (charset_turn p.1 (charset_cursor next c.default)) (charset_turn c.default c))
    go true f = own_turned size r value c p next e (eqb-true p.0 r f)
    go false f = later_turned size r value c p (walk_items pair_item value next).items w e (eqb-false p.0 r f)
pair_turned size r value c (refused v) w e = none_turned size r value c w

pub paired_turn : {value : List ℕ} {r : ℕ} {c : CharsetCursor} (t : CharsetTurn) → t ≡ pair_turn c r (step pair_item value c.at)
    → PairsLeft value r c
    → (t.charset ≡ from_pairs value r (read_packed value 0)) × PairsLeft value (r + 1) t.next
paired_turn {value} {r} {c} t e h =
    let o = step pair_item value c.at in
    let w = items_step pair_item pair_moves value c.at in
    let x = pair_turned h.size r value c o w (ap (pairs_hold h.size r) (sym w) ∙ h.rise) in
    let q = pair_turn c r o in
    let left : (i : ℕ) → r + 1 ≤ i
    → from_pairs value i (read_packed value 0) ≡ pair_or q.next.default i (walk_items pair_item value q.next.at).items
    =
    λ i l. h.left i (omega arith) ∙ ap (pair_or c.default i) w ∙ x.left i l
    ∙ ap (λ (d : ℕ). pair_or d i (walk_items pair_item value q.next.at).items) (sym x.default_kept) in
    rw e (
      x.charset ∙ sym (h.left r (omega arith) ∙ ap (pair_or c.default r) w),
      record { left = left; size = h.size; rise = x.rise },
    )

-- ---- the first cursors
pub listed_first : (n : ℕ) (value : List ℕ) → exactly integer_item (integer_holds Charset) n value ≡ true
    → ListLeft value 0 (charset_cursor 0 0)
listed_first n value e = record { left = refl; fits = charset_list n value e }

paired_first : (size : ℕ) (value : List ℕ) → Defaults size value → PairsLeft value 0 (behind_default (read_packed value 0))
paired_first size value d =
    rw d.read (record { left = λ i l. rw d.read; size = size; rise = d.hold })

-- whether a default stands or not
pub first_paired : (s : List ℕ) (default : Option Part) (size : ℕ) → ((p : Part) → default ≡ Some p → default_holds size (lent_part s p) ≡ true)
    → PairsLeft (value_in s default) 0 (behind_default (read_packed (value_in s default) 0))
unfolding read_packed step walk_steps pair_or pairs_hold
first_paired s (Some p) size h = paired_first size (lent_part s p) (charset_default size (lent_part s p) (h p refl))
first_paired s None size h = record { left = λ i l. refl; size = size; rise = refl }

pub first_fits : (s : List ℕ) (default : Option Part) (size : ℕ) → ((p : Part) → default ≡ Some p → default_holds size (lent_part s p) ≡ true)
    → IntegerFits (value_in s default) 0
unfolding read_packed
first_fits s (Some p) size h charset next e =
    let d = charset_default size (lent_part s p) (h p refl) in
    let f : d.charset ≡ charset = ap (λ (x : ℕ × ℕ). x.0) (same_ok (sym d.read ∙ e)) in
    omega (arith, d.fits)
first_fits s None size h charset next e = absurd (ok_not_refused (sym e))

-- ---- a class, by the field that stands
pub first_in_list : (s : List ℕ) (class : Charsets) (p : Part) → class.list ≡ Some p → ClassHolds s class
    → Stands s class 0 (charset_cursor 0 0)
first_in_list s class p e h = rw e (listed_first h.size (lent_part s p) (h.list p e))

pub first_in_pairs : (s : List ℕ) (class : Charsets) (c : CharsetCursor) → class.list ≡ None → ClassHolds s class
    → c ≡ behind_default (read_packed (value_in s class.default) 0) → Stands s class 0 c
first_in_pairs s class c e h f = rw (e, f) (first_paired s class.default h.size h.default)

pub fits_in_list : (s : List ℕ) (default list : Option Part) (p : Part) (r : ℕ) (c : CharsetCursor) → list ≡ Some p → StandsIn s default list r c
    → IntegerFits (value_in s list) c.at
fits_in_list s default (Some q) p r c e h = listed_fits h
fits_in_list s default None p r c e h = absurd (nothing_not_value e)

pub fits_in_pairs : (s : List ℕ) (default list : Option Part) (r : ℕ) (c : CharsetCursor) → list ≡ None → StandsIn s default list r c
    → PairFits (value_in s default) c.at
fits_in_pairs s default (Some q) r c e h = absurd (nothing_not_value (sym e))
fits_in_pairs s default None r c e h = paired_fits h

turn_in_list : (s : List ℕ) (default list : Option Part) (p : Part) (r : ℕ) (c : CharsetCursor) (t : CharsetTurn) → list ≡ Some p
    → StandsIn s default list r c
    → t ≡ list_turn c (step integer_item (value_in s list) c.at)
    → (t.charset ≡ from_list s r default list) × StandsIn s default list (r + 1) t.next
turn_in_list s default (Some q) p r c t e h f = listed_turn t f h
turn_in_list s default None p r c t e h f = absurd (nothing_not_value e)

turn_in_pairs : (s : List ℕ) (default list : Option Part) (r : ℕ) (c : CharsetCursor) (t : CharsetTurn) → list ≡ None
    → StandsIn s default list r c
    → t ≡ pair_turn c r (step pair_item (value_in s default) c.at)
    → (t.charset ≡ from_list s r default list) × StandsIn s default list (r + 1) t.next
unfolding read_packed
turn_in_pairs s default (Some q) r c t e h f = absurd (nothing_not_value (sym e))
turn_in_pairs s (Some p) None r c t e h f = paired_turn t f h
turn_in_pairs s None None r c t e h f = paired_turn t f h

pub taken_in_list : (s : List ℕ) (class : Charsets) (p : Part) (k : Rank) (c : CharsetCursor) (t : CharsetTurn) → class.list ≡ Some p
    → Stands s class k.0 c
    → t ≡ list_turn c (step integer_item (value_in s class.list) c.at) → CharsetTurned s class k t
unfolding charset_by
taken_in_list s class p k c t e h f =
    let x = turn_in_list s class.default class.list p k.0 c t e h f in
    record { charset = x.0; next = x.1 }

pub taken_in_pairs : (s : List ℕ) (class : Charsets) (k : Rank) (c : CharsetCursor) (t : CharsetTurn) → class.list ≡ None
    → Stands s class k.0 c
    → t ≡ pair_turn c k.0 (step pair_item (value_in s class.default) c.at) → CharsetTurned s class k t
unfolding charset_by
taken_in_pairs s class k c t e h f =
    let x = turn_in_pairs s class.default class.list k.0 c t e h f in
    record { charset = x.0; next = x.1 }

-- Charsets of fields that hold take two bytes, as the record gives them. Assumes nothing.
use Prim.Native.Nat.{ℕ, zero, suc, ◌≤◌}
use mathlib.Core.Path.{◌≡◌, refl}
use mathlib.Core.Bool.{Bool, true, false, cond, ◌&&◌, false≢true}
use mathlib.Core.List.{List, [], ◌∷◌}
use native.Mathlib.Omega.{arith}
use borrow.Author.Tests.{leb-true}
use lib.ListN.{get_or}
use lib.Dec.{leb, ltb, eqb}
use Rattle.wire.specs.Outcome.{Outcome, ok, refused}
use Rattle.wire.specs.Packed.{read_packed}
use Rattle.wire.proofs.Outcomes.{both_true}
use Rattle.table_map.specs.Lists.{walk_items, integer_item, pair_item}
use Rattle.map_check.specs.declared.contents.Meaning.TheVariants.{Charset}
use Rattle.map_check.specs.Contents.{every, exactly, is_charset, integer_holds, pairs_hold, pairs_whole, read_holds, default_holds}
use Rattle.map_check.specs.Profile.{pair_or}
use Rattle.map_check.proofs.ContentsLaws.Tallies.{list_true, exactly_true, pairs_true}

-- one of two numbers is at most what both are
pub either_at_most : (n : ℕ) (t : Bool) (a b : ℕ) → a ≤ n → b ≤ n → cond t a b ≤ n
either_at_most n true a b h l = h
either_at_most n false a b h l = l

pub charset_fits : (c : ℕ) → is_charset c ≡ true → c ≤ 65535
unfolding is_charset
charset_fits c e = leb-true c 65535 (both_true (leb 1 c) (leb c 65535) e).1

-- ---- a list
each_fits : (l : List ℕ) → every (integer_holds Charset) l ≡ true → (i : ℕ) → get_or l i 0 ≤ 65535
unfolding every integer_holds
each_fits [] e i = omega arith
each_fits (c ∷ l) e zero = charset_fits c (both_true (is_charset c) (every (integer_holds Charset) l) e).0
each_fits (c ∷ l) e (suc i) = each_fits l (both_true (is_charset c) (every (integer_holds Charset) l) e).1 i

pub charset_list : (n : ℕ) (value : List ℕ) → exactly integer_item (integer_holds Charset) n value ≡ true
    → (i : ℕ) → get_or (walk_items integer_item value 0).items i 0 ≤ 65535
charset_list n value e =
    let x = exactly_true integer_item (integer_holds Charset) n value e in
    each_fits (walk_items integer_item value 0).items (list_true integer_item (integer_holds Charset) value 0 x.0).1

-- ---- a default and pairs
pairs_fit : (size low : ℕ) (ps : List (ℕ × ℕ)) (c : ℕ) → c ≤ 65535 → pairs_hold size low ps ≡ true → (r : ℕ) → pair_or c r ps ≤ 65535
unfolding pairs_hold pair_or
pairs_fit size low [] c h e r = h
pairs_fit size low (p ∷ ps) c h e r =
    let rest = pairs_hold size (suc p.0) ps in
    let x = both_true (leb low p.0) (ltb p.0 size && (is_charset p.1 && rest)) e in
    let y = both_true (ltb p.0 size) (is_charset p.1 && rest) x.1 in
    let z = both_true (is_charset p.1) rest y.1 in
    either_at_most 65535 (eqb p.0 r) p.1 _ (charset_fits p.1 z.0) (pairs_fit size (suc p.0) ps c h z.1 r)

-- what such a field says: the default, where the pairs start, and what they are
pub record Defaults (size : ℕ) (value : List ℕ) : Type 0 where
  pub charset : ℕ
  pub pairs : ℕ
  pub read : read_packed value 0 ≡ ok (charset, pairs)
  pub fits : charset ≤ 65535
  pub hold : pairs_hold size 0 (walk_items pair_item value pairs).items ≡ true
  pub each : (r : ℕ) → pair_or charset r (walk_items pair_item value pairs).items ≤ 65535

pub charset_default : (size : ℕ) (value : List ℕ) → default_holds size value ≡ true → Defaults size value
unfolding default_holds
charset_default size value e = go (read_packed value 0) refl e
  where
    go : (o : Outcome (ℕ × ℕ)) → read_packed value 0 ≡ o → read_holds size value o ≡ true → Defaults size value
    go (ok c) f g =
        let x = both_true (is_charset c.0) (pairs_whole size 0 value c.1) g in
        let h = charset_fits c.0 x.0 in
        let y = (pairs_true size 0 value c.1 x.1).1 in
        record {
          charset = c.0;
          pairs = c.1;
          read = f;
          fits = h;
          hold = y;
          each = pairs_fit size 0 (walk_items pair_item value c.1).items c.0 h y;
        }
    go (refused w) f g = absurd (false≢true g)

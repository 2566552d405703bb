-- The contents of optional fields, in full: "3, 11: one charset per column of the class. 2, 10: ranks rise and lie below the class's size.
-- Charsets 1..65,535. 4: n names. 5, 6, 7, 13: one item per SET, ENUM, real type 255, 242 column; geometry types 0..7. Keys below n." Every
-- list ends exactly at the value's end. Assumes nothing.
use Rattle.std.specs.Prelude.{ℕ, suc, Bool, true, false, cond, ◌&&◌, List, [], ◌∷◌, length, leb, ltb, eqb}
use Rattle.wire.specs.Outcome.{Outcome, ok, refused, after}
use Rattle.wire.specs.Packed.{read_packed}
use Rattle.table_map.specs.Lists.{Rule, Ended, whole, broken, walk_items, walk_steps, integer_item, pair_item, string_item, group_item}
use Rattle.map_check.specs.declared.rank.Ranks.{Ranks}
use Rattle.map_check.specs.declared.contents.Meaning.{Meaning}
use Rattle.map_check.specs.declared.contents.Meaning.TheVariants.{Charset, GeometryType, Dimension}

-- whether a walk came to the end of the value
abbrev pub is_whole : Ended → Bool
is_whole whole = true
is_whole (broken r) = false

-- whether every item passes a test
unfoldable pub every : {A : Type 0} → (A → Bool) → List A → Bool
every p [] = true
every p (a ∷ l) = p a && every p l

-- the test that every item passes, whatever it is
abbrev pub whatever : {A : Type 0} → A → Bool
whatever a = true

-- the items from a place on are all there, up to the end of the value, and each holds
unfoldable pub list_holds : {A : Type 0} → Rule A → (A → Bool) → List ℕ → ℕ → Bool
unfolding walk_steps every
list_holds rule p value at = is_whole (walk_items rule value at).how && every p (walk_items rule value at).items

-- the value is n such items
unfoldable pub exactly : {A : Type 0} → Rule A → (A → Bool) → ℕ → List ℕ → Bool
unfolding walk_steps list_holds
exactly rule p n value = list_holds rule p value 0 && eqb (length (walk_items rule value 0).items) n

-- ---- the integers of a list, by what they mean
unfoldable pub is_charset : ℕ → Bool
is_charset c = leb 1 c && leb c 65535

unfoldable pub integer_holds : Meaning → ℕ → Bool
unfolding is_charset
integer_holds Charset v = is_charset v
integer_holds GeometryType v = leb v 7
integer_holds Dimension v = true

-- ---- a default charset and pairs (rank, charset): ranks rise strictly, from `low` on, and lie below the size of the class
unfoldable pub pairs_hold : ℕ → ℕ → List (ℕ × ℕ) → Bool
unfolding is_charset
pairs_hold size low [] = true
pairs_hold size low (p ∷ ps) = leb low p.0 && (ltb p.0 size && (is_charset p.1 && pairs_hold size (suc p.0) ps))

unfoldable pub pairs_whole : ℕ → ℕ → List ℕ → ℕ → Bool
unfolding walk_steps pairs_hold
pairs_whole size low value at = is_whole (walk_items pair_item value at).how && pairs_hold size low (walk_items pair_item value at).items

-- the default that was read at the start, and the pairs behind it
abbrev pub read_holds : ℕ → List ℕ → Outcome (ℕ × ℕ) → Bool
read_holds size value (ok c) = is_charset c.0 && pairs_whole size 0 value c.1
read_holds size value (refused r) = false

unfoldable pub default_holds : ℕ → List ℕ → Bool
unfolding read_packed is_charset pairs_whole
default_holds size value = read_holds size value (read_packed value 0)

-- ---- keys: the column's index, before its prefix length in field 9
unfoldable pub key_item : Bool → Rule ℕ
unfolding read_packed
key_item paired value at =
    after (read_packed value at) (λ k. cond paired (after (read_packed value k.1) (λ l. ok (k.0, l.1))) (ok k))

-- ---- a field of the type `kind`, in a map of n columns
unfoldable pub contents_full : Ranks → ℕ → ℕ → List ℕ → Bool
unfolding exactly list_holds default_holds key_item integer_holds
contents_full sizes n kind value =
    cond (eqb kind 2) (default_holds sizes.character.0 value)
    (cond (eqb kind 3) (exactly integer_item (integer_holds Charset) sizes.character.0 value)
    (cond (eqb kind 4) (exactly string_item whatever n value)
    (cond (eqb kind 5) (exactly group_item whatever sizes.set.0 value)
    (cond (eqb kind 6) (exactly group_item whatever sizes.enumeration.0 value)
    (cond (eqb kind 7) (exactly integer_item (integer_holds GeometryType) sizes.geometry.0 value)
    (cond (eqb kind 8) (list_holds (key_item false) (λ k. ltb k n) value 0)
    (cond (eqb kind 9) (list_holds (key_item true) (λ k. ltb k n) value 0)
    (cond (eqb kind 10) (default_holds sizes.choice.0 value)
    (cond (eqb kind 11) (exactly integer_item (integer_holds Charset) sizes.choice.0 value)
    (cond (eqb kind 13) (exactly integer_item (integer_holds Dimension) sizes.vector.0 value)
    true))))))))))

-- What may be said of a column's entry: it has a charset of two bytes, and charset and flags stand where a record may have them. Assumes
-- nothing.
use Rattle.std.specs.Prelude.{None, Option, Some}
use Prim.Native.Nat.{ℕ, ◌+◌, ◌*◌, ◌/◌, ◌%◌, ◌≤◌, ◌<◌, ◌^◌}
use mathlib.Core.Path.{◌≡◌, refl}
use mathlib.Core.Bool.{Bool, true, false, cond, ◌&&◌, ◌||◌}
use mathlib.Core.List.{List}
use native.Mathlib.Omega.{arith}
use lib.Dec.{leb, ltb, eqb}
use Rattle.wire.specs.Bits.{bit_lsb0, bit_msb0}
use Rattle.wire.specs.Parts.{lent_part}
use Rattle.wire.specs.declared.part.Part.{Part}
use Rattle.value.specs.Types.{family_of, is_numeric}
use Rattle.value.specs.Classes.{is_character, is_enum_or_set}
use Rattle.table_map.specs.Lists.{integer_item}
use Rattle.record.specs.Entries.{flags_hold, charset_holds}
use Rattle.map_check.specs.declared.declare.Declared.{Declared}
use Rattle.map_check.specs.declared.contents.Meaning.TheVariants.{Charset}
use Rattle.map_check.specs.declared.rank.TablePlace.{TablePlace}
use Rattle.map_check.specs.declared.rank.Rank.{Rank}
use Rattle.map_check.specs.declared.rank.Ranks.{Ranks}
use Rattle.map_check.specs.declared.facts.Facts.{Facts}
use Rattle.map_check.specs.declared.facts.Charsets.{Charsets}
use Rattle.map_check.specs.Contents.{exactly, integer_holds, default_holds}
use Rattle.map_check.specs.Fields.{value_in}
use Rattle.map_check.specs.Profile.{stands, from_list, charset_by, charset_for, one_if, is_visible, flags_of, entry_for}
use Rattle.map_check.specs.Inner.Making.{ClassHolds}
use Rattle.map_check.proofs.ContentsLaws.Bounds.{either_at_most, charset_list, charset_default}

-- ---- charsets
class_narrow : (s : List ℕ) (r : ℕ) (default list : Option Part) (size : ℕ)
    → ((p : Part) → list ≡ Some p → exactly integer_item (integer_holds Charset) size (lent_part s p) ≡ true)
    → ((p : Part) → default ≡ Some p → default_holds size (lent_part s p) ≡ true)
    → from_list s r default list ≤ 65535
class_narrow s r default (Some p) size h g = charset_list size (lent_part s p) (h p refl) r
class_narrow s r (Some p) None size h g =
    let d = charset_default size (lent_part s p) (g p refl) in
    rw d.read (d.each r)
class_narrow s r None None size h g = omega arith

-- of a class whose fields hold
pub charset_narrow : (s : List ℕ) (class : Charsets) (r : Rank) → ClassHolds s class → charset_by s class r < 2 ^ 16
unfolding charset_by
charset_narrow s class r h = omega (arith, class_narrow s r.0 class.default class.list h.size h.list h.default)

pub column_narrow : (s : List ℕ) (x : Facts) (c : Declared) (k : Ranks) → ClassHolds s x.characters → ClassHolds s x.choices
    → charset_for s x c k < 2 ^ 16
unfolding charset_for
column_narrow s x c k h g =
    let a : charset_by s x.characters k.character ≤ 65535 = omega (arith, charset_narrow s x.characters k.character h) in
    let b : charset_by s x.choices k.choice ≤ 65535 = omega (arith, charset_narrow s x.choices k.choice g) in
    let z : 0 ≤ 65535 = omega arith in
    omega (arith, either_at_most 65535 (is_character c.real) _ _ a (either_at_most 65535 (is_enum_or_set c.real) _ 0 b z))

-- and 0 on other than character, ENUM and SET columns
none_elsewhere : (character choice : Bool) (u w : ℕ) → (character || (choice || eqb (cond character u (cond choice w 0)) 0)) ≡ true
none_elsewhere true choice u w = refl
none_elsewhere false true u w = refl
none_elsewhere false false u w = refl

pub charset_holds_lem : (s : List ℕ) (x : Facts) (c : Declared) (j : TablePlace) (k : Ranks) → charset_holds (entry_for s x c j k) ≡ true
unfolding charset_holds charset_for
charset_holds_lem s x c j k = none_elsewhere (is_character c.real) (is_enum_or_set c.real) _ _

-- ---- flags
-- the sum of the four, by whether the column is numeric, the field of signs stands, and the three bits
abbrev flags_by : Bool → Bool → Bool → Bool → Bool → ℕ
flags_by numeric known unsigned nullable visible =
    one_if ((numeric && known) && unsigned) + 2 * one_if nullable + 4 * one_if (numeric && known) + 8 * one_if visible

-- it is below 16, with flag 1 only beside 4, and both on numeric columns alone
by_four : (numeric known unsigned nullable visible : Bool) → (ltb (flags_by numeric known unsigned nullable visible) 16
    && cond numeric (leb (flags_by numeric known unsigned nullable visible % 2) (flags_by numeric known unsigned nullable visible / 4 % 2))
    (eqb (flags_by numeric known unsigned nullable visible % 2) 0 && eqb (flags_by numeric known unsigned nullable visible / 4 % 2) 0)) ≡ true
by_four false known unsigned true true = refl
by_four false known unsigned true false = refl
by_four false known unsigned false true = refl
by_four false known unsigned false false = refl
by_four true false unsigned true true = refl
by_four true false unsigned true false = refl
by_four true false unsigned false true = refl
by_four true false unsigned false false = refl
by_four true true true true true = refl
by_four true true true true false = refl
by_four true true true false true = refl
by_four true true true false false = refl
by_four true true false true true = refl
by_four true true false true false = refl
by_four true true false false true = refl
by_four true true false false false = refl

pub flags_hold_lem : (s : List ℕ) (x : Facts) (c : Declared) (j : TablePlace) (k : Ranks)
    → is_numeric (family_of c.kind) ≡ is_numeric (family_of c.real)
    → flags_hold (entry_for s x c j k) ≡ true
unfolding flags_hold flags_of
flags_hold_lem s x c j k e =
    rw (← e) (by_four (is_numeric (family_of c.kind)) (stands x.signs) (bit_msb0 (value_in s x.signs) k.sign.0)
    (bit_lsb0 (lent_part s x.bits) j.0) (is_visible s x j))

-- What a map's record says of each column: "real type; flags; m0; m1; charset (pair, list or default), 0 if none given. Flags: 1 unsigned,
-- 2 nullable, 4 signedness known, 8 visible (all, if type 12 is absent)"; 1 and 4 on numeric columns. Bits of signedness and visibility run
-- from the highest down, nullable bits from the lowest up. Assumes nothing.
use Rattle.std.specs.Prelude.{None, Option, Some}
use Rattle.std.specs.Option.{is_some}
use Rattle.std.specs.Prelude.{ℕ, suc, ◌+◌, ◌*◌, Bool, true, cond, ◌&&◌, List, [], ◌∷◌, get_or, eqb}
use Rattle.wire.specs.Outcome.{Outcome, ok, refused}
use Rattle.wire.specs.Packed.{read_packed}
use Rattle.wire.specs.Bits.{bit_lsb0, bit_msb0}
use Rattle.wire.specs.declared.part.Part.{Part}
use Rattle.wire.specs.Parts.{lent_part}
use Rattle.value.specs.declared.classes.Dialect.{Dialect}
use Rattle.value.specs.Types.{family_of, is_numeric}
use Rattle.value.specs.Classes.{is_character, is_enum_or_set}
use Rattle.table_map.specs.Lists.{walk_items, walk_steps, integer_item, pair_item}
use Rattle.record.specs.declared.entry.Entry.{Entry}
use Rattle.map_check.specs.declared.declare.Declared.{Declared}
use Rattle.map_check.specs.declared.rank.TablePlace.{TablePlace}
use Rattle.map_check.specs.declared.rank.Rank.{Rank}
use Rattle.map_check.specs.declared.rank.Ranks.{Ranks}
use Rattle.map_check.specs.declared.facts.Facts.{Facts}
use Rattle.map_check.specs.declared.facts.Charsets.{Charsets}
use Rattle.map_check.specs.Ranks.{table_place, ranks_after}
use Rattle.map_check.specs.Fields.{first_of, value_in}

-- what the record needs of a map besides its columns: where the nullable bits and the fields' values stand
abbrev pub facts_of : Part → List (ℕ × Part) → Facts
facts_of bits fs =
    record {
      bits = bits;
      signs = first_of 1 fs;
      visibility = first_of 12 fs;
      characters = record { default = first_of 2 fs; list = first_of 3 fs };
      choices = record { default = first_of 10 fs; list = first_of 11 fs };
    }

abbrev pub stands : Option Part → Bool
stands o = is_some o

-- ---- charsets
-- the charset of a rank: that of its pair, else the default
unfoldable pub pair_or : ℕ → ℕ → List (ℕ × ℕ) → ℕ
pair_or default r [] = default
pair_or default r (p ∷ ps) = cond (eqb p.0 r) p.1 (pair_or default r ps)

abbrev pub from_pairs : List ℕ → ℕ → Outcome (ℕ × ℕ) → ℕ
from_pairs value r (ok c) = pair_or c.0 r (walk_items pair_item value c.1).items
from_pairs value r (refused w) = 0

-- of the two fields that tell a class's charsets, the one that stands
abbrev pub from_default : List ℕ → ℕ → Option Part → ℕ
from_default s r (Some p) = from_pairs (lent_part s p) r (read_packed (lent_part s p) 0)
from_default s r None = 0

abbrev pub from_list : List ℕ → ℕ → Option Part → Option Part → ℕ
from_list s r default (Some p) = get_or (walk_items integer_item (lent_part s p) 0).items r 0
from_list s r default None = from_default s r default

unfoldable pub charset_by : List ℕ → Charsets → Rank → ℕ
unfolding read_packed walk_steps pair_item pair_or
charset_by s x r = from_list s r.0 x.default x.list

unfoldable pub charset_for : List ℕ → Facts → Declared → Ranks → ℕ
unfolding charset_by is_character is_enum_or_set
charset_for s x c k =
    cond (is_character c.real) (charset_by s x.characters k.character)
    (cond (is_enum_or_set c.real) (charset_by s x.choices k.choice)
    0)

-- ---- flags
-- a flag as a number
abbrev pub one_if : Bool → ℕ
one_if t = cond t 1 0

abbrev pub is_sign_known : Facts → Declared → Bool
is_sign_known x c = is_numeric (family_of c.kind) && stands x.signs

abbrev pub is_unsigned : List ℕ → Facts → Declared → Rank → Bool
is_unsigned s x c r = is_sign_known x c && bit_msb0 (value_in s x.signs) r.0

abbrev pub is_visible : List ℕ → Facts → TablePlace → Bool
is_visible s x j = cond (stands x.visibility) (bit_msb0 (value_in s x.visibility) j.0) true

unfoldable pub flags_of : List ℕ → Facts → Declared → TablePlace → Ranks → ℕ
unfolding is_numeric family_of bit_lsb0 bit_msb0
flags_of s x c j k =
    one_if (is_unsigned s x c k.sign) + 2 * one_if (bit_lsb0 (lent_part s x.bits) j.0) + 4 * one_if (is_sign_known x c) + 8
    * one_if (is_visible s x j)

-- ---- the entry of a column: with a charset given, and with its own
abbrev pub entry_with : List ℕ → Facts → Declared → TablePlace → Ranks → ℕ → Entry
entry_with s x c j k charset = record { real = c.real; flags = flags_of s x c j k; m0 = c.m0; m1 = c.m1; charset = charset }

abbrev pub entry_for : List ℕ → Facts → Declared → TablePlace → Ranks → Entry
entry_for s x c j k = entry_with s x c j k (charset_for s x c k)

-- the entries of columns, from a place and ranks on
unfoldable pub entries_from : Dialect → List ℕ → Facts → List Declared → TablePlace → Ranks → List Entry
unfolding flags_of charset_for ranks_after
entries_from d s x [] j k = []
entries_from d s x (c ∷ cs) j k = entry_for s x c j k ∷ entries_from d s x cs (table_place (suc j.0)) (ranks_after d k c)

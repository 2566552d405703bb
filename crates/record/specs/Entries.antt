-- A column's entry: "real type; flags; m0; m1 (as in the map, else zero); charset, little-endian, 0 if none given. Flags: 1 unsigned, 2
-- nullable, 4 signedness known, 8 visible; the rest zero. 1 and 4 only on numeric columns, 1 only with 4." Assumes nothing.
use Rattle.std.specs.Prelude.{ℕ, ◌/◌, ◌%◌, Bool, cond, ◌&&◌, ◌||◌, List, ◌∷◌, get_or, take, drop, leb, ltb, eqb}
use Rattle.wire.specs.Number.{le_value, le_bytes}
use Rattle.value.specs.declared.column.Column.{Column}
use Rattle.value.specs.Types.{family_of, is_numeric}
use Rattle.value.specs.Columns.{shape_of, is_taken}
use Rattle.value.specs.Classes.{is_character, is_enum_or_set}
use Rattle.record.specs.declared.entry.Entry.{Entry}

-- flag 1
abbrev pub unsigned_flag : ℕ → Bool
unsigned_flag flags = eqb (flags % 2) 1

-- the column, as its values are stored
abbrev pub column_of : Entry → Column
column_of e = record { real = e.real; m0 = e.m0; m1 = e.m1; unsigned = unsigned_flag e.flags }

-- no flag above 8; 1 needs 4 on a numeric column, and neither stands on another
unfoldable pub flags_hold : Entry → Bool
unfolding family_of is_numeric
flags_hold e =
    ltb e.flags 16
    && cond (is_numeric (family_of e.real)) (leb (e.flags % 2) (e.flags / 4 % 2)) (eqb (e.flags % 2) 0 && eqb (e.flags / 4 % 2) 0)

-- "with charset 0 on other than character, ENUM and SET columns"
unfoldable pub charset_holds : Entry → Bool
unfolding is_character is_enum_or_set
charset_holds e = is_character e.real || (is_enum_or_set e.real || eqb e.charset 0)

-- an entry that a record may have: the type and its metadata are accepted, by the one table
unfoldable pub entry_holds : Entry → Bool
unfolding shape_of is_taken flags_hold charset_holds
entry_holds e = is_taken (shape_of (column_of e)) && (flags_hold e && charset_holds e)

-- ---- its six bytes
unfoldable pub entry_bytes : Entry → List ℕ
unfolding le_bytes
entry_bytes e = e.real ∷ (e.flags ∷ (e.m0 ∷ (e.m1 ∷ le_bytes 2 e.charset)))

-- the entry at the head of some bytes
unfoldable pub entry_of : List ℕ → Entry
unfolding le_value
entry_of b = record { real = get_or b 0 0; flags = get_or b 1 0; m0 = get_or b 2 0; m1 = get_or b 3 0; charset = le_value (take 2 (drop 4 b)) }

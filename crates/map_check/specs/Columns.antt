-- The columns of a map: "each column's type then metadata; no metadata left over". Assumes nothing.
use Rattle.std.specs.Prelude.{ℕ, suc, Bool, true, false, cond, ◌&&◌, ◌||◌, List, [], ◌∷◌, length, get_or, drop, leb, eqb}
use Rattle.wire.specs.Outcome.{Outcome, ok, refuse, after}
use Rattle.value.specs.declared.column.Column.{Column}
use Rattle.value.specs.Types.{family_of, is_known, metadata_bytes, real_type}
use Rattle.value.specs.Columns.{shape_of, is_taken}
use Rattle.map_check.specs.declared.declare.Declared.{Declared}

-- how many bytes of metadata the type has
abbrev pub meta_bytes : ℕ → ℕ
meta_bytes kind = metadata_bytes (family_of kind)

-- byte i of the metadata of a type, "as in the map, else zero"
unfoldable pub meta_byte : ℕ → ℕ → List ℕ → ℕ
unfolding family_of metadata_bytes
meta_byte i kind meta = cond (leb (meta_bytes kind) i) 0 (get_or meta i 0)

-- what a type says of its column together with the metadata from its own on
unfoldable pub declared : ℕ → List ℕ → Declared
unfolding meta_byte real_type
declared kind meta =
    record { kind = kind; real = real_type kind (meta_byte 0 kind meta); m0 = meta_byte 0 kind meta; m1 = meta_byte 1 kind meta }

-- "254: m0 or-ed with 0x30 is the real type: 247, 248 as above, or 254"
unfoldable pub is_real : ℕ → ℕ → Bool
is_real kind real = cond (eqb kind 254) (eqb real 247 || (eqb real 248 || eqb real 254)) true

-- the column as its values are stored, if it is flagged unsigned or not
abbrev pub real_column : Declared → Bool → Column
real_column c unsigned = record { real = c.real; m0 = c.m0; m1 = c.m1; unsigned = unsigned }

-- whether a column is accepted: its real type is one that it may have, and the one table takes its metadata
unfoldable pub is_accepted : Declared → Bool
unfolding is_real shape_of is_taken
is_accepted c = is_real c.kind c.real && is_taken (shape_of (real_column c false))

-- a column: 4 for its type, 5 for metadata that is short or not accepted
unfoldable pub take_column : ℕ → List ℕ → ℕ → Outcome Declared
unfolding family_of is_known metadata_bytes declared is_accepted
take_column kind meta place =
    cond (is_known (family_of kind))
    (cond (leb (meta_bytes kind) (length meta))
    (cond (is_accepted (declared kind meta)) (ok (declared kind meta))
    (refuse 5 place))
    (refuse 5 place))
    (refuse 4 place)

-- all of them in turn, from a place on; 5 at n for metadata left over
unfoldable pub take_columns : List ℕ → List ℕ → ℕ → Outcome (List Declared)
unfolding take_column
take_columns [] meta place = cond (eqb (length meta) 0) (ok []) (refuse 5 place)
take_columns (kind ∷ types) meta place =
    after (take_column kind meta place) (λ c.
    after (take_columns types (drop (meta_bytes kind) meta) (suc place)) (λ cs.
    ok (c ∷ cs)))

-- Places and ranks: "a column's place in the table and its rank among character columns are kept apart". A rank is counted in a class: the
-- columns with a signedness bit, those with a charset in fields 2 and 3, ENUM with SET, SET, ENUM, real type 255, 242. Assumes nothing.
use Rattle.std.specs.Prelude.{ℕ, ◌+◌, Bool, cond, List, [], ◌∷◌, eqb}
use Rattle.value.specs.declared.classes.Dialect.{Dialect}
use Rattle.value.specs.Classes.{has_sign_bit, has_charset, is_enum_or_set}
use Rattle.map_check.specs.declared.declare.Declared.{Declared}
use Rattle.map_check.specs.declared.rank.TablePlace.{TablePlace}
use Rattle.map_check.specs.declared.rank.Rank.{Rank}
use Rattle.map_check.specs.declared.rank.Ranks.{Ranks}

abbrev pub table_place : ℕ → TablePlace
table_place n = record { 0 = n }

abbrev pub rank : ℕ → Rank
rank n = record { 0 = n }

-- the next rank of a class after a column, which may be of the class
abbrev pub rank_after : Rank → Bool → Rank
rank_after r member = rank (r.0 + cond member 1 0)

-- the first ranks
abbrev pub no_ranks : Ranks
no_ranks =
    record { sign = rank 0; character = rank 0; choice = rank 0; set = rank 0; enumeration = rank 0; geometry = rank 0; vector = rank 0 }

-- the next rank of every class, after a column
unfoldable pub ranks_after : Dialect → Ranks → Declared → Ranks
unfolding has_sign_bit has_charset is_enum_or_set
ranks_after d k c =
    record {
      sign = rank_after k.sign (has_sign_bit d c.kind);
      character = rank_after k.character (has_charset d c.real);
      choice = rank_after k.choice (is_enum_or_set c.real);
      set = rank_after k.set (eqb c.real 248);
      enumeration = rank_after k.enumeration (eqb c.real 247);
      geometry = rank_after k.geometry (eqb c.real 255);
      vector = rank_after k.vector (eqb c.real 242);
    }

-- and after all columns: how many there are of every class
unfoldable pub ranks_from : Dialect → Ranks → List Declared → Ranks
unfolding ranks_after
ranks_from d k [] = k
ranks_from d k (c ∷ cs) = ranks_from d (ranks_after d k c) cs

abbrev pub sizes_of : Dialect → List Declared → Ranks
sizes_of d cs = ranks_from d no_ranks cs

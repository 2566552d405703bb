-- Ranks as they are counted: a column moves each by one at most, and the ranks of signedness end at the count of the field walk. Assumes
-- nothing.
use Prim.Native.Nat.{ℕ, ◌+◌, ◌≤◌}
use mathlib.Core.Path.{◌≡◌, ap, ◌∙◌}
use mathlib.Core.Bool.{Bool, true, false, cond}
use mathlib.Core.List.{List, [], ◌∷◌}
use native.Mathlib.Omega.{arith}
use lib.ListN.{drop}
use lib.Dec.{eqb}
use Rattle.wire.specs.Outcome.{ok}
use Rattle.value.specs.declared.classes.Dialect.{Dialect}
use Rattle.value.specs.Classes.{has_sign_bit, has_charset, is_enum_or_set}
use Rattle.table_map.specs.Fields.{sign_bits, count_sign_bits}
use Rattle.map_check.specs.declared.declare.Declared.{Declared}
use Rattle.map_check.specs.declared.rank.Rank.{Rank}
use Rattle.map_check.specs.declared.rank.Ranks.{Ranks}
use Rattle.map_check.specs.Columns.{meta_bytes, declared, take_columns}
use Rattle.map_check.specs.Inner.Columns.{declare_all}
use Rattle.map_check.specs.Ranks.{rank, rank_after, no_ranks, ranks_after, ranks_from, sizes_of}
use Rattle.map_check.specs.Inner.Ranks.{AtMost}
use Rattle.map_check.proofs.ColumnLaws.Declares.{taken_all}

-- a column that is not of the class leaves its rank
pub not_passed : (r : Rank) → r ≡ rank_after r false
not_passed r =
    let e : r.0 ≡ r.0 + 0 = omega arith in
    ap rank e

one_at_most : (n m : ℕ) (member : Bool) → m ≤ n → m + cond member 1 0 ≤ n + 1
one_at_most n m true h = omega arith
one_at_most n m false h = omega arith

pub at_most_none : AtMost 0 no_ranks
at_most_none = record {
  sign = omega arith;
  character = omega arith;
  choice = omega arith;
  set = omega arith;
  enumeration = omega arith;
  geometry = omega arith;
  vector = omega arith;
}

pub at_most_wider : {m n : ℕ} {k : Ranks} → m ≤ n → AtMost m k → AtMost n k
at_most_wider h b = record {
  sign = omega (arith, b.sign);
  character = omega (arith, b.character);
  choice = omega (arith, b.choice);
  set = omega (arith, b.set);
  enumeration = omega (arith, b.enumeration);
  geometry = omega (arith, b.geometry);
  vector = omega (arith, b.vector);
}

pub at_most_after : {n : ℕ} {k : Ranks} (d : Dialect) (c : Declared) → AtMost n k → AtMost (n + 1) (ranks_after d k c)
unfolding ranks_after
at_most_after {n} d c b = record {
  sign = one_at_most n _ (has_sign_bit d c.kind) b.sign;
  character = one_at_most n _ (has_charset d c.real) b.character;
  choice = one_at_most n _ (is_enum_or_set c.real) b.choice;
  set = one_at_most n _ (eqb c.real 248) b.set;
  enumeration = one_at_most n _ (eqb c.real 247) b.enumeration;
  geometry = one_at_most n _ (eqb c.real 255) b.geometry;
  vector = one_at_most n _ (eqb c.real 242) b.vector;
}

-- ---- signedness
signs_from : (d : Dialect) (k : Ranks) (types meta : List ℕ)
    → (ranks_from d k (declare_all types meta)).sign.0 ≡ k.sign.0 + count_sign_bits d types
unfolding ranks_from ranks_after declare_all declared count_sign_bits sign_bits
signs_from d k [] meta = omega arith
signs_from d k (t ∷ types) meta =
    let e = signs_from d (ranks_after d k (declared t meta)) types (drop (meta_bytes t) meta) in
    omega (arith, e)

-- as many columns have a rank of signedness as the field walk counts
pub sizes_signs : (d : Dialect) (types meta : List ℕ) (p : ℕ) (cs : List Declared) → take_columns types meta p ≡ ok cs
    → (sizes_of d cs).sign.0 ≡ count_sign_bits d types
sizes_signs d types meta p cs e =
    let z : 0 + count_sign_bits d types ≡ count_sign_bits d types = omega arith in
    ap (λ (l : List Declared). (sizes_of d l).sign.0) (taken_all types meta p cs e) ∙ signs_from d no_ranks types meta ∙ z

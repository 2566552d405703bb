-- The classes by which a map's optional fields count columns, and the codes of rows events, over all 256 bytes, in document 01's numbers
-- and by dialect (docs/DIFFERENCES.md). `classes` in proofs/Readings/Classes.antt proves all of it. Assumes nothing.
use Rattle.std.specs.Prelude.{ℕ, ◌≡◌, Bool, cond, not, List, [], ◌∷◌, eqb}
use Rattle.wire.specs.Outcome.{ok, refuse, after}
use Rattle.value.specs.declared.classes.Dialect.TheVariants.{Document, Mysql, Mariadb}
use Rattle.value.specs.declared.types.Family.TheVariants.{Date}
use Rattle.value.specs.Types.{family_of, is_numeric, real_type}
use Rattle.value.specs.Classes.{has_sign_bit, is_character, has_charset, is_enum_or_set}
use Rattle.table_map.specs.Fields.{is_field}
use Rattle.map_check.specs.declared.rank.Rank.{Rank}
use Rattle.map_check.specs.declared.rank.Ranks.{Ranks}
use Rattle.map_check.specs.Ranks.{no_ranks, ranks_after}
use Rattle.map_check.specs.Fields.{rival_of}
use Rattle.rows_event.specs.Events.{form_of}
use Rattle.promises.specs.Tables.{bytes_that, is_answered}

-- the real types of which a column counts in a class
abbrev pub counted : (Ranks → Rank) → List ℕ
counted class = bytes_that (λ t. eqb (class (ranks_after Document no_ranks (record { kind = t; real = t; m0 = 0; m1 = 0 }))).0 1)

-- whether a rows event of a code has extra data, and whether it has a second set of presence bits
abbrev pub has_extra : ℕ → Bool
has_extra code = is_answered {A = ℕ} (after (form_of code) (λ f. cond f.extra (ok 0) (refuse 16 0)))

abbrev pub has_second : ℕ → Bool
has_second code = is_answered {A = ℕ} (after (form_of code) (λ f. cond f.second (ok 0) (refuse 16 0)))

pub record Classes : Type 0 where
  -- "Numeric are types 1, 2, 3, 4, 5, 8, 9, 246"
  pub numeric : bytes_that (λ t. is_numeric (family_of t)) ≡ 1 ∷ 2 ∷ 3 ∷ 4 ∷ 5 ∷ 8 ∷ 9 ∷ 246 ∷ []
  -- "Character columns have real type 15, 252, 253 or 254"
  pub character : bytes_that is_character ≡ 15 ∷ 252 ∷ 253 ∷ 254 ∷ []
  -- "types 10 and 11 rank ENUM and SET columns together"
  pub enum_or_set : bytes_that is_enum_or_set ≡ 247 ∷ 248 ∷ []
  -- a signedness bit: the numeric types, and YEAR with both servers
  pub sign_document : bytes_that (has_sign_bit Document) ≡ 1 ∷ 2 ∷ 3 ∷ 4 ∷ 5 ∷ 8 ∷ 9 ∷ 246 ∷ []
  pub sign_mysql : bytes_that (has_sign_bit Mysql) ≡ 1 ∷ 2 ∷ 3 ∷ 4 ∷ 5 ∷ 8 ∷ 9 ∷ 13 ∷ 246 ∷ []
  pub sign_mariadb : bytes_that (has_sign_bit Mariadb) ≡ 1 ∷ 2 ∷ 3 ∷ 4 ∷ 5 ∷ 8 ∷ 9 ∷ 13 ∷ 246 ∷ []
  -- a charset in fields 2 and 3: the character types, and VECTOR with MySQL, geometry with MariaDB
  pub charset_document : bytes_that (has_charset Document) ≡ 15 ∷ 252 ∷ 253 ∷ 254 ∷ []
  pub charset_mysql : bytes_that (has_charset Mysql) ≡ 15 ∷ 242 ∷ 252 ∷ 253 ∷ 254 ∷ []
  pub charset_mariadb : bytes_that (has_charset Mariadb) ≡ 15 ∷ 252 ∷ 253 ∷ 254 ∷ 255 ∷ []
  -- "5, 6, 7, 13: one item per SET, ENUM, real type 255, 242 column"
  pub sets : counted (λ k. k.set) ≡ 248 ∷ []
  pub enums : counted (λ k. k.enumeration) ≡ 247 ∷ []
  pub geometries : counted (λ k. k.geometry) ≡ 255 ∷ []
  pub vectors : counted (λ k. k.vector) ≡ 242 ∷ []
  -- "Real type of 10 is 14", that of 254 is told by m0, and every other is its own
  pub not_real : bytes_that (λ t. not (eqb (real_type t 0) t)) ≡ 10 ∷ 254 ∷ []
  pub real_of_10 : real_type 10 0 ≡ 14
  -- and it is a date, as 14 is
  pub family_of_10 : family_of 10 ≡ Date
  -- optional fields: 1 to 13, of which these have a rival (which one, `WorkedMaps` has)
  pub fields : bytes_that is_field ≡ 1 ∷ 2 ∷ 3 ∷ 4 ∷ 5 ∷ 6 ∷ 7 ∷ 8 ∷ 9 ∷ 10 ∷ 11 ∷ 12 ∷ 13 ∷ []
  pub rivals : bytes_that (λ k. not (eqb (rival_of k) 0)) ≡ 2 ∷ 3 ∷ 8 ∷ 9 ∷ 10 ∷ 11 ∷ []
  -- rows events: write, update and delete of both editions; extra data in the second, and a second set for updates
  pub codes : bytes_that (λ c. is_answered (form_of c)) ≡ 23 ∷ 24 ∷ 25 ∷ 30 ∷ 31 ∷ 32 ∷ []
  pub extra_codes : bytes_that has_extra ≡ 30 ∷ 31 ∷ 32 ∷ []
  pub update_codes : bytes_that has_second ≡ 24 ∷ 31 ∷ []

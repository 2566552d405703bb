-- The classes by which a map's optional fields count columns, by dialect. Assumes nothing.
use Rattle.std.specs.Prelude.{ℕ, Bool, true, false, ◌&&◌, ◌||◌, eqb}
use Rattle.value.specs.declared.classes.Dialect.{Dialect}
use Rattle.value.specs.declared.classes.Dialect.TheVariants.{Document, Mysql, Mariadb}
use Rattle.value.specs.Types.{family_of, is_numeric}

abbrev pub is_mysql : Dialect → Bool
is_mysql Document = false
is_mysql Mysql = true
is_mysql Mariadb = false

abbrev pub is_mariadb : Dialect → Bool
is_mariadb Document = false
is_mariadb Mysql = false
is_mariadb Mariadb = true

-- what the dialect gives a signedness bit, by type byte: YEAR too, on every server
unfoldable pub has_sign_bit : Dialect → ℕ → Bool
unfolding is_numeric family_of
has_sign_bit d t = is_numeric (family_of t) || (eqb t 13 && (is_mysql d || is_mariadb d))

-- "Character columns have real type 15, 252, 253 or 254"
unfoldable pub is_character : ℕ → Bool
is_character t = eqb t 15 || (eqb t 252 || (eqb t 253 || eqb t 254))

-- what the dialect gives a charset in fields 2 and 3, by real type: VECTOR too on MySQL, geometry on MariaDB
unfoldable pub has_charset : Dialect → ℕ → Bool
unfolding is_character
has_charset d t = is_character t || ((eqb t 242 && is_mysql d) || (eqb t 255 && is_mariadb d))

-- "types 10 and 11 rank ENUM and SET columns together", by real type
unfoldable pub is_enum_or_set : ℕ → Bool
is_enum_or_set t = eqb t 247 || eqb t 248

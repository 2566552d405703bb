-- What a word of the program asks for: the dialect that has its name, or how the program is used. Assumes nothing.
use Rattle.std.specs.Prelude.{ℕ, Bool, true, false, cond, ◌&&◌, List, [], ◌∷◌, eqb}
use Rattle.value.specs.declared.classes.Dialect.TheVariants.{Document, Mysql, Mariadb}
use Rattle.profile.specs.declared.words.Asked.{Asked}
use Rattle.profile.specs.declared.words.Asked.TheVariants.{For, Help, Unknown}

-- whether two lists are the same
unfoldable pub same_bytes : List ℕ → List ℕ → Bool
same_bytes [] [] = true
same_bytes [] (y ∷ b) = false
same_bytes (x ∷ a) [] = false
same_bytes (x ∷ a) (y ∷ b) = eqb x y && same_bytes a b

-- `document`, `mysql`, `mariadb` and `--help`, in ASCII
abbrev pub document_word : List ℕ
document_word = 100 ∷ 111 ∷ 99 ∷ 117 ∷ 109 ∷ 101 ∷ 110 ∷ 116 ∷ []

abbrev pub mysql_word : List ℕ
mysql_word = 109 ∷ 121 ∷ 115 ∷ 113 ∷ 108 ∷ []

abbrev pub mariadb_word : List ℕ
mariadb_word = 109 ∷ 97 ∷ 114 ∷ 105 ∷ 97 ∷ 100 ∷ 98 ∷ []

abbrev pub help_word : List ℕ
help_word = 45 ∷ 45 ∷ 104 ∷ 101 ∷ 108 ∷ 112 ∷ []

unfoldable pub asked_by : List ℕ → Asked
unfolding same_bytes
asked_by word =
    cond (same_bytes word document_word) (For Document)
    (cond (same_bytes word mysql_word) (For Mysql)
    (cond (same_bytes word mariadb_word) (For Mariadb)
    (cond (same_bytes word help_word) Help
    Unknown)))

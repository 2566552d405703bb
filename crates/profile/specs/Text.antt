-- What the program prints: "a line per column: place, real type, flags, m0, m1, charset .. A refusal prints `refused`, number, place. Input
-- over 65,536 bytes prints `refused 8 0`." Numbers are in decimal, with a space between two, and a newline ends a line. Assumes nothing.
use Rattle.std.specs.Prelude.{ℕ, zero, suc, ◌+◌, ◌/◌, ◌%◌, Bool, true, false, cond, List, [], ◌∷◌, ◌++◌, length, ltb, eqb}
use Rattle.wire.specs.declared.refusal.Refusal.{Refusal}
use Rattle.wire.specs.Outcome.{Outcome, ok, refused, refuse}
use Rattle.value.specs.declared.classes.Dialect.{Dialect}
use Rattle.record.specs.declared.entry.Entry.{Entry}
use Rattle.map_check.specs.Check.{check_map}

-- a number below 10^k in decimal: the digits before the last, if there are any, and the last
unfoldable pub decimal_in : ℕ → ℕ → List ℕ
decimal_in zero n = []
decimal_in (suc k) n = cond (ltb n 10) [] (decimal_in k (n / 10)) ++ ((48 + n % 10) ∷ [])

-- a number of a machine, which is below 2^64
abbrev pub decimal : ℕ → List ℕ
decimal n = decimal_in 20 n

-- what stands behind a number: a space, or a newline where none is left
unfoldable pub behind : ℕ → ℕ
behind left = cond (eqb left 0) 10 32

-- numbers, each with what stands behind it
unfoldable pub line : List ℕ → List ℕ
unfolding decimal_in behind
line [] = []
line (n ∷ ns) = (decimal n ++ (behind (length ns) ∷ [])) ++ line ns

-- "place, real type, flags, m0, m1, charset"
unfoldable pub column_line : ℕ → Entry → List ℕ
unfolding line
column_line place e = line (place ∷ e.real ∷ e.flags ∷ e.m0 ∷ e.m1 ∷ e.charset ∷ [])

-- a line per column, from a place on
unfoldable pub column_lines : ℕ → List Entry → List ℕ
unfolding column_line
column_lines place [] = []
column_lines place (e ∷ es) = column_line place e ++ column_lines (suc place) es

-- "refused, number, place"; the word and a space, in ASCII
abbrev pub refused_word : List ℕ
refused_word = 114 ∷ 101 ∷ 102 ∷ 117 ∷ 115 ∷ 101 ∷ 100 ∷ 32 ∷ []

unfoldable pub refused_line : Refusal → List ℕ
unfolding line
refused_line w = refused_word ++ line (w.number ∷ w.place ∷ [])

-- what is printed of an input in a dialect: its columns, or why it is refused. Its post-header length is 8
unfoldable pub profiled : Dialect → List ℕ → Outcome (List Entry)
unfolding check_map
profiled d event = cond (ltb 65536 (length event)) (refuse 8 0) (check_map d event 8)

abbrev pub printed : Outcome (List Entry) → List ℕ
printed (ok es) = column_lines 0 es
printed (refused w) = refused_line w

abbrev pub is_refusal : Outcome (List Entry) → Bool
is_refusal (ok es) = false
is_refusal (refused w) = true

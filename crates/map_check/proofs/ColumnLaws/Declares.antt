-- Columns one by one: the metadata of a type by the bytes where they stand, what a taken column is, and a turn of the loop over all of
-- them. Assumes nothing.
use Prim.Native.Nat.{ℕ, suc, min, ◌+◌, ◌-◌, ◌≤◌, ◌<◌}
use native.Mathlib.Decide.{dec_le}
use mathlib.Core.Logic.{dite}
use mathlib.Core.Path.{◌≡◌, refl, sym, ap, ◌∙◌}
use mathlib.Core.Bool.{true, cond, Bool, false}
use mathlib.Core.List.{List, [], ◌∷◌}
use native.Mathlib.Omega.{arith}
use borrow.Author.Tests.{leb-true, ne_eqb, lt-leb, eq-eqb}
use lib.ListN.{length, get_or, take, drop, length-drop, drop_of_length-le, get_or-eq_default}
use lib.Seq.{drop-cons, drop-drop, get_or-drop, take-length}
use lib.Dec.{leb, eqb}
use Rattle.wire.specs.Outcome.{Outcome, ok, refused, refuse, why, after}
use Rattle.wire.proofs.Outcomes.{after_is_ok, test_is_ok, by_test, ok_not_refused, same_ok}
use Rattle.value.specs.declared.classes.Dialect.{Dialect}
use Rattle.value.specs.Types.{family_of, is_known}
use Rattle.map_check.specs.declared.declare.Declared.{Declared}
use Rattle.map_check.specs.declared.rank.Ranks.{Ranks}
use Rattle.map_check.specs.Columns.{meta_bytes, meta_byte, declared, is_accepted, take_column, take_columns}
use Rattle.map_check.specs.Inner.Columns.{declare_all}
use Rattle.map_check.specs.Ranks.{ranks_after, ranks_from}
use Rattle.map_check.specs.Contents.{every}

-- ---- a byte of the metadata
constant : {A : Type 0} (t : Bool) (a b : A) → b ≡ a → cond t a b ≡ a
constant true a b e = refl
constant false a b e = e

-- past the end there are zeros
pub meta_past : (i kind at : ℕ) (meta : List ℕ) → length meta - at ≤ i → meta_byte i kind (drop at meta) ≡ 0
unfolding meta_byte
meta_past i kind at meta h =
    let l : length (drop at meta) ≤ i = omega (arith, length-drop at meta) in
    constant (leb (meta_bytes kind) i) 0 (get_or (drop at meta) i 0) (get_or-eq_default (drop at meta) 0 l)

pub meta_at : (i kind at : ℕ) (meta : List ℕ) → i < meta_bytes kind → meta_byte i kind (drop at meta) ≡ get_or meta (at + i) 0
unfolding meta_byte
meta_at i kind at meta h = rw (lt-leb (meta_bytes kind) i h, get_or-drop) refl

-- ---- a column that is taken
-- what there is of it: it is as its type says it, it is accepted, and its metadata are there
pub taken_is : (kind : ℕ) (meta : List ℕ) (p : ℕ) (c : Declared) → take_column kind meta p ≡ ok c
    → (c ≡ declared kind meta) × (is_accepted (declared kind meta) ≡ true) × (meta_bytes kind ≤ length meta)
unfolding take_column
taken_is kind meta p c e =
    by_test (is_known (family_of kind)) _ _ _ e
    (λ known e1.
    by_test (leb (meta_bytes kind) (length meta)) _ _ _ e1
    (λ long e2.
    let t = test_is_ok (is_accepted (declared kind meta)) (declared kind meta) (why 5 p) c e2 in
    (sym t.1, t.0, leb-true _ _ long))
    (λ short e2. absurd (ok_not_refused (sym e2))))
    (λ unknown e1. absurd (ok_not_refused (sym e1)))

-- the metadata of the next column stand within them too
pub taken_within : (kind : ℕ) (meta : List ℕ) (at p : ℕ) (c : Declared) → at ≤ length meta → take_column kind (drop at meta) p ≡ ok c
    → at + meta_bytes kind ≤ length meta
taken_within kind meta at p c h e = omega (arith, (taken_is kind (drop at meta) p c e).2, length-drop at meta)

-- the first of columns that are all taken, and the others
pub taken_turn : (kind : ℕ) (types meta : List ℕ) (p : ℕ) (cs : List Declared) → take_columns (kind ∷ types) meta p ≡ ok cs
    → (cs' : List Declared) × (cs ≡ declared kind meta ∷ cs') × (take_columns types (drop (meta_bytes kind) meta) (suc p) ≡ ok cs')
    × (is_accepted (declared kind meta) ≡ true) × (meta_bytes kind ≤ length meta)
unfolding take_columns
taken_turn kind types meta p cs e =
    let x =
    after_is_ok (take_column kind meta p) (λ c. after (take_columns types (drop (meta_bytes kind) meta) (suc p)) (λ cs. ok (c ∷ cs))) cs
    e in
    let y = after_is_ok (take_columns types (drop (meta_bytes kind) meta) (suc p)) (λ cs. ok (x.0 ∷ cs)) cs x.2 in
    let t = taken_is kind meta p x.0 x.1 in
    (y.0, sym (same_ok y.2) ∙ ap (λ (c : Declared). c ∷ y.0) t.0, y.1, t.1, t.2)

-- all of them are as the types say them
pub taken_all : (types meta : List ℕ) (p : ℕ) (cs : List Declared) → take_columns types meta p ≡ ok cs → cs ≡ declare_all types meta
unfolding declare_all take_columns
taken_all [] meta p cs e = sym (test_is_ok (eqb (length meta) 0) [] (why 5 p) cs e).1
taken_all (kind ∷ types) meta p cs e =
    let t = taken_turn kind types meta p cs e in
    t.1 ∙ ap (λ (l : List Declared). declared kind meta ∷ l) (taken_all types (drop (meta_bytes kind) meta) (suc p) t.0 t.2)

-- and accepted
pub taken_accepted : (types meta : List ℕ) (p : ℕ) (cs : List Declared) → take_columns types meta p ≡ ok cs → every is_accepted cs ≡ true
unfolding every take_columns
taken_accepted [] meta p cs e = rw (sym (test_is_ok (eqb (length meta) 0) [] (why 5 p) cs e).1)
taken_accepted (kind ∷ types) meta p cs e =
    let t = taken_turn kind types meta p cs e in
    rw (t.1, t.3) (taken_accepted types (drop (meta_bytes kind) meta) (suc p) t.0 t.2)

pub declared_length_lem : (types meta : List ℕ) → length (declare_all types meta) ≡ length types
unfolding declare_all
declared_length_lem [] meta = refl
declared_length_lem (kind ∷ types) meta = ap suc (declared_length_lem types (drop (meta_bytes kind) meta))

-- ---- what is left of a list, as the code cuts it
pub cut_rest : (n : ℕ) (xs : List ℕ) → take (length xs - n) (drop n xs) ≡ drop n xs
cut_rest n xs = ap (λ (k : ℕ). take k (drop n xs)) (sym (length-drop n xs)) ∙ take-length (drop n xs)

-- the code cuts no further than the end, and what is past it is nothing
pub cut_capped : (n m : ℕ) (xs : List ℕ) → m ≡ min n (length xs) → take (length xs - m) (drop m xs) ≡ drop n xs
cut_capped n m xs e =
    cut_rest m xs
    ∙ dite (dec_le n (length xs))
    (λ h. let q : m ≡ n = omega arith in ap (λ (k : ℕ). drop k xs) q)
    (λ h. drop_of_length-le xs (omega arith) ∙ sym (drop_of_length-le xs (omega arith)))

-- ---- the loop
-- what is to come from ranks and columns on: how many there are of every class in the end
abbrev pub sizes_to_come : Dialect → Ranks → List ℕ → List ℕ → ℕ → Outcome Ranks
sizes_to_come d k types meta p = after (take_columns types meta p) (λ cs. ok (ranks_from d k cs))

first : (d : Dialect) (k : Ranks) (kind : ℕ) (types meta : List ℕ) (p : ℕ)
    → sizes_to_come d k (kind ∷ types) meta p
    ≡ after (take_column kind meta p) (λ c. sizes_to_come d (ranks_after d k c) types (drop (meta_bytes kind) meta) (suc p))
unfolding take_columns ranks_from
first d k kind types meta p = go (take_column kind meta p) (take_columns types (drop (meta_bytes kind) meta) (suc p))
  where
    go : (o : Outcome Declared) (l : Outcome (List Declared))
        → after (after o (λ c. after l (λ cs. ok (c ∷ cs)))) (λ cs. ok (ranks_from d k cs))
        ≡ after o (λ c. after l (λ cs. ok (ranks_from d (ranks_after d k c) cs)))
    go (ok c) (ok cs) = refl
    go (ok c) (refused w) = refl
    go (refused w) l = refl

-- a turn, by the metadata that is left
pub rest_turn : (d : Dialect) (k : Ranks) (types rest : List ℕ) (j : ℕ) → j < length types
    → sizes_to_come d k (drop j types) rest j
    ≡ after (take_column (get_or types j 0) rest j)
    (λ c. sizes_to_come d (ranks_after d k c) (drop (j + 1) types) (drop (meta_bytes (get_or types j 0)) rest) (j + 1))
rest_turn d k types rest j h =
    let e : suc j ≡ j + 1 = omega arith in
    ap (λ (l : List ℕ). sizes_to_come d k l rest j) (drop-cons types j 0 h)
    ∙ first d k (get_or types j 0) (drop (suc j) types) rest j
    ∙ ap (λ (i : ℕ). after (take_column (get_or types j 0) rest j)
    (λ c. sizes_to_come d (ranks_after d k c) (drop i types) (drop (meta_bytes (get_or types j 0)) rest) i)) e

-- behind the last column, by what is left
pub no_rest : (d : Dialect) (k : Ranks) (types : List ℕ) (j : ℕ) → length types ≤ j → sizes_to_come d k (drop j types) [] j ≡ ok k
unfolding take_columns ranks_from
no_rest d k types j h =
    let e : drop j types ≡ [] = drop_of_length-le types h in
    rw e

pub some_rest : (d : Dialect) (k : Ranks) (types rest : List ℕ) (j : ℕ) → length types ≤ j → (length rest ≡ 0 → ⊥)
    → sizes_to_come d k (drop j types) rest j ≡ refuse 5 j
unfolding take_columns
some_rest d k types rest j h l =
    let e : drop j types ≡ [] = drop_of_length-le types h in
    rw (e, ne_eqb (length rest) 0 l)

-- a turn: the column at j decides, and then the rest
pub column_turn : (d : Dialect) (k : Ranks) (types meta : List ℕ) (at j : ℕ) → j < length types
    → sizes_to_come d k (drop j types) (drop at meta) j
    ≡ after (take_column (get_or types j 0) (drop at meta) j)
    (λ c. sizes_to_come d (ranks_after d k c) (drop (j + 1) types) (drop (at + meta_bytes (get_or types j 0)) meta) (j + 1))
column_turn d k types meta at j h =
    let e : suc j ≡ j + 1 = omega arith in
    ap (λ (l : List ℕ). sizes_to_come d k l (drop at meta) j) (drop-cons types j 0 h)
    ∙ first d k (get_or types j 0) (drop (suc j) types) (drop at meta) j
    ∙ ap (λ (i : ℕ). after (take_column (get_or types j 0) (drop at meta) j)
    (λ c. sizes_to_come d (ranks_after d k c) (drop i types) (drop (meta_bytes (get_or types j 0)) (drop at meta)) i)) e
    ∙ ap (λ (l : List ℕ). after (take_column (get_or types j 0) (drop at meta) j)
    (λ c. sizes_to_come d (ranks_after d k c) (drop (j + 1) types) l (j + 1))) (drop-drop (meta_bytes (get_or types j 0)) at meta)

-- behind the last column
none : (d : Dialect) (k : Ranks) (meta : List ℕ) (at j : ℕ)
    → sizes_to_come d k [] (drop at meta) j ≡ cond (eqb (length meta - at) 0) (ok k) (refuse 5 j)
unfolding take_columns ranks_from
none d k meta at j = rw (length-drop at meta) (go (eqb (length meta - at) 0))
  where
    go : (t : Bool) → after (cond t (ok []) (refuse 5 j)) (λ cs. ok (ranks_from d k cs)) ≡ cond t (ok k) (refuse 5 j)
    go true = refl
    go false = refl

pub none_left : (d : Dialect) (k : Ranks) (types meta : List ℕ) (at j : ℕ) → length types ≤ j → length meta ≤ at
    → sizes_to_come d k (drop j types) (drop at meta) j ≡ ok k
none_left d k types meta at j h l =
    let e : drop j types ≡ [] = drop_of_length-le types h in
    let z : length meta - at ≡ 0 = omega arith in
    ap (λ (ts : List ℕ). sizes_to_come d k ts (drop at meta) j) e ∙ none d k meta at j ∙ rw (eq-eqb (length meta - at) 0 z)

pub some_left : (d : Dialect) (k : Ranks) (types meta : List ℕ) (at j : ℕ) → length types ≤ j → at < length meta
    → sizes_to_come d k (drop j types) (drop at meta) j ≡ refuse 5 j
some_left d k types meta at j h l =
    let e : drop j types ≡ [] = drop_of_length-le types h in
    let z : length meta - at ≡ 0 → ⊥ = λ z. omega arith in
    ap (λ (ts : List ℕ). sizes_to_come d k ts (drop at meta) j) e ∙ none d k meta at j ∙ rw (ne_eqb (length meta - at) 0 z)

-- Lines of numbers: put one behind the other, and how long they are. Assumes nothing.
use Prim.Native.Nat.{ℕ, suc, ◌+◌, ◌-◌, ◌≤◌, ◌<◌, ◌^◌}
use mathlib.Core.Path.{◌≡◌, refl, sym, ◌∙◌}
use mathlib.Core.List.{List, [], ◌∷◌, ◌++◌}
use native.Mathlib.Numerals.{add-one}
use native.Mathlib.Omega.{arith}
use lib.ListN.{length, drop, get_or, length-append, length-drop, drop_of_length-le}
use lib.Seq.{drop-cons}
use Rattle.wire.specs.Stored.{stored}
use Rattle.wire.proofs.Stores.{stored_stored, stored_none}
use Rattle.record.specs.declared.entry.Entry.{Entry}
use Rattle.record.specs.Records.{entry_in, entries_in}
use Rattle.profile.specs.Text.{decimal, behind, line, column_line, column_lines}
use Rattle.profile.proofs.Decimals.{short}

-- what a function has done that put a text: the buffer, and the place after it
abbrev pub Put : List ℕ → List ℕ → ℕ → List ℕ → ℕ → Type 0
Put text d at x next = (next ≡ at + length text) × (x ≡ stored text d at)

-- w is still to be put behind v: to put it there is to put both
pub behind_it : (v w d x : List ℕ) (at next : ℕ) → at + length v ≤ length d → Put v d at x next
    → (next + length w ≡ at + length (v ++ w)) × (stored w x next ≡ stored (v ++ w) d at)
behind_it v w d x at next h p =
    (omega (arith, p.0, length-append v w), rw (p.0, p.1) (stored_stored d at v w h))

-- and there it is put
pub both : (v w d x y : List ℕ) (at next last : ℕ) → at + length v ≤ length d → Put v d at x next → Put w x next y last
    → Put (v ++ w) d at y last
both v w d x y at next last h p q =
    let b = behind_it v w d x at next h p in
    (q.0 ∙ b.0, q.1 ∙ b.1)

-- nothing is left to be put
pub none_left : (goal x : List ℕ) (next last : ℕ) → (next + 0 ≡ last) × (stored [] x next ≡ goal) → (next ≡ last) × (x ≡ goal)
none_left goal x next last p = (omega (arith, p.0), sym (stored_none x next) ∙ p.1)

-- ---- the numbers of a line
abbrev pub number : ℕ → ℕ → List ℕ
number n end = decimal n ++ (end ∷ [])

pub line_step : (ns : List ℕ) (i : ℕ) → i < length ns
    → line (drop i ns) ≡ number (get_or ns i 0) (behind (length ns - i - 1)) ++ line (drop (i + 1) ns)
unfolding line
line_step ns i h =
    let e : length (drop (suc i) ns) ≡ length ns - i - 1 = omega (arith, length-drop (suc i) ns) in
    rw (drop-cons ns i 0 h, add-one, e)

pub line_end : (ns : List ℕ) (i : ℕ) → length ns ≤ i → line (drop i ns) ≡ []
unfolding line
line_end ns i h = rw (drop_of_length-le ns {i = i} h) refl

-- ---- lengths
line_length : (n : ℕ) (ns : List ℕ) → length (line (n ∷ ns)) ≡ length (decimal n) + 1 + length (line ns)
unfolding line
line_length n ns = rw (length-append, length-append)

pub column_short : (place : ℕ) (e : Entry) → place < 10000 → e.real < 256 → e.flags < 256 → e.m0 < 256 → e.m1 < 256
    → e.charset < 65536 → length (column_line place e) ≤ 32
unfolding column_line line
column_short place e p r f m0 m1 c =
    let l6 = line_length e.charset [] in
    let l5 = line_length e.m1 (e.charset ∷ []) in
    let l4 = line_length e.m0 (e.m1 ∷ e.charset ∷ []) in
    let l3 = line_length e.flags (e.m0 ∷ e.m1 ∷ e.charset ∷ []) in
    let l2 = line_length e.real (e.flags ∷ e.m0 ∷ e.m1 ∷ e.charset ∷ []) in
    let l1 = line_length place (e.real ∷ e.flags ∷ e.m0 ∷ e.m1 ∷ e.charset ∷ []) in
    omega (
      arith,
      l1,
      l2,
      l3,
      l4,
      l5,
      l6,
      short 19 3 place (omega arith),
      short 19 2 e.real (omega arith),
      short 19 2 e.flags (omega arith),
      short 19 2 e.m0 (omega arith),
      short 19 2 e.m1 (omega arith),
      short 19 4 e.charset (omega arith),
    )

-- ---- the lines of columns
pub columns_step : (profile : List ℕ) (n j : ℕ) → j < n
    → column_lines j (entries_in (n - j) profile j)
    ≡ column_line j (entry_in profile j) ++ column_lines (j + 1) (entries_in (n - (j + 1)) profile (j + 1))
unfolding column_lines entries_in
columns_step profile n j h =
    let e : n - j ≡ suc (n - (j + 1)) = omega arith in
    rw (e, add-one)

pub columns_end : (profile : List ℕ) (n j : ℕ) → n ≤ j → column_lines j (entries_in (n - j) profile j) ≡ []
unfolding column_lines entries_in
columns_end profile n j h =
    let e : n - j ≡ 0 = omega arith in
    rw e refl

pub refusal_short : (number place : ℕ) → number < 2 ^ 64 → place < 2 ^ 64 → length (line (number ∷ place ∷ [])) ≤ 42
unfolding line
refusal_short number place h k =
    omega (
      arith,
      line_length number (place ∷ []),
      line_length place [],
      short 19 19 number (omega arith),
      short 19 19 place (omega arith),
    )

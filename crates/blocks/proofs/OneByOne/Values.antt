-- What the functions answer that take a value or a part of one, and what they ask, by what they find. Assumes nothing.
use Prim.Native.Nat.{ℕ, ◌+◌, ◌-◌, ◌≤◌, ◌<◌}
use mathlib.Core.Path.{◌≡◌, refl, sym, ap, ◌∙◌}
use mathlib.Core.Bool.{true, false}
use mathlib.Core.List.{List, [], ◌++◌}
use native.Mathlib.Nat.{add-zero}
use borrow.Author.Tests.{le-leb, lt-leb, eq-eqb, ne_eqb}
use lib.ListN.{length, take, drop}
use Rattle.wire.specs.declared.refusal.Refusal.{Refusal}
use Rattle.wire.specs.Outcome.{Outcome, ok, refused}
use Rattle.wire.specs.Stored.{stored, answer_of}
use Rattle.value.specs.declared.shape.Shape.{Shape}
use Rattle.value.specs.declared.column.Column.{Column}
use Rattle.value.specs.declared.datum.Value.{Value}
use Rattle.value.specs.Columns.{shape_of}
use Rattle.value.specs.Shapes.{need, fault, prefix}
use Rattle.value.specs.Reading.{read_value}
use Rattle.blocks.specs.declared.state.Arriving.{Arriving}
use Rattle.blocks.specs.States.{opened, longed, Arrived, more, value, long, part, BlockGiven}
use Rattle.blocks.specs.Turns.{TurnSaid, wait, long as long₁, whole, too_long, turn_of}
use Rattle.blocks.specs.Gives.{Handed, commit, used_to, waiting, by_turn, give_long}
use Rattle.blocks.specs.Inner.Hands.{Heads, turn_by, value_over, took_by, standing, longing, Holds as Holds₁, Wholes as Wholes₁}
use Rattle.blocks.proofs.Carries.{carried}
use Rattle.blocks.proofs.Turned.{turn_wait, turn_long, turn_whole, long_is}
use Rattle.blocks.proofs.Values.{stored_got as got, stored_not as not}
use Rattle.blocks.proofs.Values.{turn_is as turn_is₁, wait_fits as wait_fits₁, wait_answer as wait_answer₁, long_fits as long_fits₁}
use Rattle.blocks.proofs.Values.{long_answers as long_answers₁, whole_fits as whole_fits₁, whole_answers as whole_answers₁}
use Rattle.blocks.proofs.OneByOne.Hands.{Holds, Wholes}
use Rattle.blocks.proofs.OneByOne.Fitting.{Answers}

-- ---- answers that take bytes up to `upto`
module _ (at : Arriving) (carry block : List ℕ) (o : Outcome Handed) (upto : ℕ) where
  pub open_answer : (a : Arrived) (j h : ℕ) {g : Outcome BlockGiven} {c : List ℕ} {next : Arriving}
      → o ≡ ok (commit at carry block upto a (opened j h (used_to at upto))) → next ≡ standing j h
      → (g ≡ ok (took_by at (upto - at.held) a next)) × (c ≡ stored (take (upto - at.held) block) carry at.held)
      → Answers o carry g c
  unfolding commit
  open_answer a j h {g} {c} {next} e f w =
      rw e (w.0 ∙ ap (λ (z : Arriving). ok (took_by at (upto - at.held) a z)) f, w.1)

  pub long_answer : (a : Arrived) (j h left : ℕ) {g : Outcome BlockGiven} {c : List ℕ} {next : Arriving}
      → o ≡ ok (commit at carry block upto a (longed j h left (used_to at upto))) → next ≡ longing j h left
      → (g ≡ ok (took_by at (upto - at.held) a next)) × (c ≡ stored (take (upto - at.held) block) carry at.held)
      → Answers o carry g c
  unfolding commit
  long_answer a j h left {g} {c} {next} e f w =
      rw e (w.0 ∙ ap (λ (z : Arriving). ok (took_by at (upto - at.held) a z)) f, w.1)

-- ---- a part of a long value
module _ (at : Arriving) (nb : ℕ) (block : List ℕ) {g : Outcome BlockGiven} where
  pub part_none : length block ≡ 0 → g ≡ ok (took_by at 0 more at) → g ≡ answer_of (give_long nb at [] block)
  unfolding give_long
  part_none h e = e ∙ rw (eq-eqb (length block) 0 h, add-zero at.used)

  pub part_last : {next : Arriving} → (length block ≡ 0 → ⊥) → at.left ≤ length block → next ≡ standing (at.column + 1) nb
      → g ≡ ok (took_by at at.left (part at.column at.left) next) → g ≡ answer_of (give_long nb at [] block)
  unfolding give_long
  part_last h l f e =
      e ∙ ap (λ (z : Arriving). ok (took_by at at.left (part at.column at.left) z)) f
      ∙ rw (ne_eqb (length block) 0 h, le-leb at.left (length block) l)

  pub part_some : {next : Arriving} → (length block ≡ 0 → ⊥) → length block < at.left
      → next ≡ longing at.column at.held (at.left - length block)
      → g ≡ ok (took_by at (length block) (part at.column (length block)) next) → g ≡ answer_of (give_long nb at [] block)
  unfolding give_long
  part_some h l f e =
      e ∙ ap (λ (z : Arriving). ok (took_by at (length block) (part at.column (length block)) z)) f
      ∙ rw (ne_eqb (length block) 0 h, lt-leb at.left (length block) l)

-- ---- a value that is whole
module _ (sh : Shape) (carry block : List ℕ) (nb : ℕ) (at : Arriving) (j n : ℕ) (w : Wholes sh carry block nb at j n) where
  abbrev x : List ℕ
  x = drop nb (take at.held carry ++ block)

  abbrev after_it : Outcome Handed
  after_it = by_turn nb sh j x at carry block (whole n)

  -- its bytes, in the carry
  abbrev c : List ℕ
  c = carried carry block at.held (nb + n)

  whole_is : Wholes₁ sh carry block nb at n
  whole_is = record { fits = w.fits; there = w.there; upto = w.upto; high = w.high; size = w.size }

  module _ (z : (b : List ℕ) → fault sh b ≡ 0) where
    pub stored_returns : {v : Value} {m t : ℕ} {c' : List ℕ} {g : Outcome BlockGiven} {next : Arriving} → c' ≡ c
        → read_value sh j c' nb ≡ ok (v, m) → t ≡ nb + n - at.held → next ≡ standing (j + 1) nb
        → g ≡ ok (took_by at t (value j v) next) → Answers after_it carry g c'
    stored_returns {v} {m} {t} {c'} {g} {next} e r k f h =
        let r' : read_value sh j c nb ≡ ok (v, m) = ap (λ (s : List ℕ). read_value sh j s nb) (sym e) ∙ r in
        open_answer at carry block after_it (nb + n) (value j v) (j + 1) nb (got sh carry block nb at j n whole_is w.taken z r') f
        (h ∙ ap (λ (i : ℕ). ok (took_by at i (value j v) next)) k, e)

    pub stored_refuses : {v : Refusal} {c' : List ℕ} → c' ≡ c → read_value sh j c' nb ≡ refused v → ⊥
    stored_refuses e r = not sh carry block nb at j n whole_is w.taken z (ap (λ (s : List ℕ). read_value sh j s nb) (sym e) ∙ r)

-- ---- what a turn says
module _ (room : ℕ) (sh : Shape) (s : List ℕ) where
  pub is_wait : turn_of room sh s ≡ wait → (too_long room sh s ≡ false) × (length s < need sh s)
  is_wait e = turn_wait room sh s e

  pub is_long_turn : (n : ℕ) → turn_of room sh s ≡ long₁ n → (too_long room sh s ≡ true) × (need sh s - prefix sh ≡ n)
  is_long_turn n e =
      let w = turn_long room sh s n e in
      (long_is room sh s w.0.there w.0.over, w.1)

  pub is_whole : (n : ℕ) → turn_of room sh s ≡ whole n → (too_long room sh s ≡ false) × (need sh s ≤ length s) × (need sh s ≡ n)
  is_whole n e = turn_whole room sh s n e

-- ---- a value that is not NULL
module _ (kind : Column) (carry block head : List ℕ) (nb : ℕ) (at : Arriving) (j : ℕ) (q : Holds (length carry) (length block) nb at j kind)
    (h : Heads (take at.held carry ++ block) nb head 8) where
  abbrev sh : Shape
  sh = shape_of kind

  abbrev hand : List ℕ
  hand = take at.held carry ++ block

  abbrev rest : List ℕ
  rest = drop nb hand

  abbrev space : ℕ
  space = length carry - nb

  holds : Holds₁ (length carry) (length block) nb at
  holds = record { room = q.room; narrow = q.narrow; there = q.there; fits = q.fits }

  pub turn_is : (t : TurnSaid) → t
      ≡ turn_by (length carry - nb) (prefix (shape_of kind)) (at.held + length block - nb) (need (shape_of kind) head)
      → turn_of space sh rest ≡ t
  turn_is t e = turn_is₁ kind carry block holds h refl e

  -- by what the code has
  pub turn_found : (t : TurnSaid) (shape : Shape) → shape ≡ shape_of kind
      → t ≡ turn_by (length carry - nb) (prefix shape) (at.held + length block - nb) (need shape head) → turn_of space sh rest ≡ t
  turn_found t shape e f = turn_is₁ kind carry block holds h e f

  -- what its head tells is the turn
  told_is : {t : TurnSaid} → turn_of space sh rest ≡ t → turn_by space (prefix sh) (at.held + length block - nb) (need sh head) ≡ t
  told_is e = sym (turn_is _ refl) ∙ e

  pub wait_fits : turn_of space sh rest ≡ wait → at.held + length block ≤ length carry
  wait_fits e = wait_fits₁ kind carry block holds h refl refl (told_is e)

  pub wait_answer : turn_of space sh rest ≡ wait → value_over nb sh j at carry block ≡ waiting at carry block j
  wait_answer e = wait_answer₁ kind carry block holds h refl refl j (told_is e)

  pub long_fits : (n : ℕ) → turn_of space sh rest ≡ long₁ n → (nb + prefix sh ≤ length carry) × (nb + prefix sh ≤ at.held + length block)
  long_fits n e = long_fits₁ kind carry block holds h refl refl (told_is e)

  pub long_answers : (n : ℕ) → turn_of space sh rest ≡ long₁ n
      → value_over nb sh j at carry block
      ≡ ok (commit at carry block (nb + prefix sh) (long j n) (longed j (nb + prefix sh) n (used_to at (nb + prefix sh))))
  long_answers n e = long_answers₁ kind carry block holds h refl refl j (told_is e)

  pub whole_fits : (n : ℕ) → turn_of space sh rest ≡ whole n → Wholes sh carry block nb at j n
  whole_fits n e =
      let w = whole_fits₁ kind carry block holds h refl refl (told_is e) in
      record {
        fits = w.fits;
        there = w.there;
        upto = w.upto;
        high = w.high;
        small = q.small;
        column = q.column;
        taken = q.taken;
        size = w.size;
      }

  pub whole_answers : (n : ℕ) → turn_of space sh rest ≡ whole n → value_over nb sh j at carry block
      ≡ by_turn nb sh j rest at carry block (whole n)
  whole_answers n e = whole_answers₁ kind carry block holds h refl refl j (told_is e)

-- What the tests of a state, and the calls behind them, answer. Assumes nothing.
use Prim.Native.Nat.{ℕ, ◌+◌, ◌-◌, ◌≤◌, ◌<◌}
use mathlib.Core.Path.{◌≡◌, refl, sym, ap, subst, ◌∙◌}
use mathlib.Core.Bool.{Bool, true, false, cond, ◌&&◌}
use mathlib.Core.List.{List, [], ◌++◌, append-nil}
use native.Mathlib.Nat.{sub-zero}
use native.Mathlib.Omega.{arith}
use borrow.Author.Tests.{le-leb, lt-leb, lt-ltb, le-ltb, eq-eqb, ne_eqb}
use lib.ListN.{length, take, drop, length-drop}
use lib.Seq.{length-take-le}
use lib.Dec.{leb, eqb}
use Rattle.wire.specs.declared.refusal.Refusal.{Refusal}
use Rattle.wire.specs.Outcome.{Outcome, ok, refused, why}
use Rattle.wire.specs.Bits.{bytes_for, bit_lsb0}
use Rattle.wire.specs.Stored.{answer_of, left_of}
use Rattle.wire.proofs.Outcomes.{same_ok, ok_not_refused}
use Rattle.value.specs.declared.shape.Shape.{Shape}
use Rattle.value.specs.declared.shape.Shape.TheVariants.{NotTaken}
use Rattle.value.specs.declared.column.Column.{Column}
use Rattle.value.specs.Columns.{shape_of}
use Rattle.value.specs.Shapes.{need, prefix}
use Rattle.value.specs.Inner.Shapes.{Sized}
use Rattle.value.proofs.Tables.{sized}
use Rattle.record.specs.declared.entry.Entry.{Entry}
use Rattle.record.specs.Entries.{column_of}
use Rattle.record.specs.Records.{count_of, entry_in, record_valid}
use Rattle.image.specs.Present.{count_bits, shape_at}
use Rattle.image.specs.Split.{slots_at}
use Rattle.image.specs.Room.{image_room, read_room}
use Rattle.image.proofs.CursorLaws.Heads.{head_is}
use Rattle.blocks.specs.declared.state.Phase.{Phase}
use Rattle.blocks.specs.declared.state.Phase.TheVariants.{Open, Long, Closed}
use Rattle.blocks.specs.declared.state.Arriving.{Arriving}
use Rattle.blocks.specs.States.{opened, longed, more, part, BlockGiven}
use Rattle.blocks.specs.Turns.{TurnSaid, turn_of}
use Rattle.blocks.specs.Fits.{is_long, fits_in, is_counted, is_fit}
use Rattle.blocks.specs.Gives.{Handed, parted, give_open, give_long, give_in, given_fit}
use Rattle.blocks.specs.Ends.{end_in, ended_fit}
use Rattle.blocks.specs.Inner.Hands.{Heads, turn_by, held_shape, due_from, end_open}
use Rattle.blocks.proofs.Hands.{turn_head}
use Rattle.blocks.proofs.Counts.{counted, fit_counted}
use Rattle.blocks.proofs.Heldings.{is_wait, is_long_of, waits_turn, longs_turn, end_open_is}
use Rattle.blocks.proofs.OneByOne.Hands.{Numbered}

-- ---- the numbers
module _ (r p : List ℕ) (n len : ℕ) (at : Arriving) where
  pub no_column : n < at.column → false ≡ is_counted r p n len at
  unfolding is_counted
  no_column h = rw (lt-leb at.column n h)

  pub no_carry : at.column ≤ n → len < at.held → false ≡ is_counted r p n len at
  unfolding is_counted
  no_carry a h = rw (le-leb at.column n a, lt-leb at.held len h)

  pub no_count : at.column ≤ n → at.held ≤ len → at.used < at.held → false ≡ is_counted r p n len at
  unfolding is_counted
  no_count a b h = rw (le-leb at.column n a, le-leb at.held len b, lt-leb at.held at.used h)

  pub by_room : {b : Bool} → at.column ≤ n → at.held ≤ len → at.held ≤ at.used → b ≡ leb at.used (image_room r p) → b
      ≡ is_counted r p n len at
  unfolding is_counted
  by_room a b c e = e ∙ rw (le-leb at.column n a, le-leb at.held len b, le-leb at.held at.used c)

  pub numbered : {b : Bool} → b ≡ is_counted r p n len at → b ≡ true → Numbered len n at
  numbered e f = let c = counted e f in record { among = c.among; fits = c.fits }

module _ (r p : List ℕ) (v : record_valid r ≡ true) (l : length p ≡ bytes_for (count_of r)) where
  pub room_read : read_room r p ≡ ok (image_room r p)
  unfolding read_room
  room_read = rw (head_is r p (record { valid = v; bits = l }))

  pub in_room : (x : Outcome ℕ) (n used : ℕ) → x ≡ read_room r p → x ≡ ok n → leb used n ≡ leb used (image_room r p)
  in_room x n used e f = ap (leb used) (same_ok (sym f ∙ e ∙ room_read))

  pub not_refused : (x : Outcome ℕ) (w : Refusal) → x ≡ read_room r p → x ≡ refused w → ⊥
  not_refused x w e f = ok_not_refused (sym room_read ∙ sym e ∙ f)

-- ---- the value in progress
module _ (r p carry : List ℕ) (n : ℕ) (at : Arriving) where
  abbrev y : List ℕ
  y = take at.held carry

  pub shape_none : at.column ≡ n → NotTaken 0 ≡ held_shape r p (take at.held carry) n at.column
  unfolding held_shape
  shape_none e = rw (eq-eqb at.column n e)

  pub shape_absent : {b : Bool} → (at.column ≡ n → ⊥) → b ≡ bit_lsb0 p at.column → b ≡ false
      → NotTaken 0 ≡ held_shape r p (take at.held carry) n at.column
  unfolding held_shape
  shape_absent h e f = rw (ne_eqb at.column n h, sym e ∙ f)

  module _ {b c : Bool} {rank : ℕ} (h : at.column ≡ n → ⊥) (e : b ≡ bit_lsb0 p at.column) (f : b ≡ true)
      (g : rank ≡ count_bits p at.column)
      (i : c ≡ bit_lsb0 (take (at.held - 0) carry) rank) where
    bit_is : bit_lsb0 y (count_bits p at.column) ≡ c
    bit_is = sym (i ∙ ap (λ (k : ℕ). bit_lsb0 (take k carry) rank) (sub-zero at.held) ∙ ap (bit_lsb0 y) g)

    pub shape_null : c ≡ true → NotTaken 0 ≡ held_shape r p (take at.held carry) n at.column
    unfolding held_shape
    shape_null k = rw (ne_eqb at.column n h, sym e ∙ f, bit_is ∙ k)

    pub shape_there : {x : Entry} {kind : Column} {sh : Shape} → c ≡ false → x ≡ entry_in r at.column → kind ≡ column_of x → sh
        ≡ shape_of kind
        → sh ≡ held_shape r p (take at.held carry) n at.column
    unfolding held_shape shape_at
    shape_there {x} {kind} {sh} k u v w = w ∙ ap shape_of (v ∙ ap column_of u) ∙ rw (ne_eqb at.column n h, sym e ∙ f, bit_is ∙ k)

  pub held_sized : {sh : Shape} → sh ≡ held_shape r p (take at.held carry) n at.column → Sized sh
  unfolding held_shape shape_at
  held_sized {sh} e = subst Sized (sym e) (go (eqb at.column n) (bit_lsb0 p at.column) (bit_lsb0 y (count_bits p at.column)))
    where
      go : (a b c : Bool)
          → Sized (cond a (NotTaken 0) (cond b (cond c (NotTaken 0) (shape_of (column_of (entry_in r at.column)))) (NotTaken 0)))
      go true b c = tt
      go false true true = tt
      go false true false = sized (column_of (entry_in r at.column))
      go false false c = tt

  pub held_turn_is : (nb : ℕ) (t : TurnSaid) {sh : Shape} {head : List ℕ} → at.held ≤ length carry → nb ≤ at.held
      → sh ≡ held_shape r p (take at.held carry) n at.column → Heads (take at.held carry ++ []) nb head 8
      → t ≡ turn_by (length carry - nb) (prefix sh) (at.held - nb) (need sh head)
      → t ≡ turn_of (length carry - nb) (held_shape r p (take at.held carry) n at.column) (drop nb (take at.held carry))
  held_turn_is nb t {sh} {head} f l e h u =
      let m : length y ≡ at.held = length-take-le at.held carry f in
      let k : length (drop nb y) ≡ at.held - nb = length-drop nb y ∙ ap (λ (z : ℕ). z - nb) m in
      let h' : Heads y nb head 8 = subst (λ (s : List ℕ). Heads s nb head 8) (append-nil y) h in
      u ∙ ap (λ (z : ℕ). turn_by (length carry - nb) (prefix sh) z (need sh head)) (sym k)
      ∙ turn_head (length carry - nb) sh y nb head (held_sized e) h' (omega arith)
      ∙ ap (λ (s : Shape). turn_of (length carry - nb) s (drop nb y)) e

-- ---- the phases
module _ (r p carry : List ℕ) (nb : ℕ) (at : Arriving) where
  pub open_some_left : (at.left ≡ 0 → ⊥) → false ≡ fits_in Open r p nb at carry
  unfolding fits_in
  open_some_left h = rw (ne_eqb at.left 0 h)

  pub open_first : {b : Bool} → at.left ≡ 0 → at.held < nb → b ≡ (eqb at.column 0 && eqb at.used at.held) → b
      ≡ fits_in Open r p nb at carry
  unfolding fits_in
  open_first e h f = f ∙ rw (eq-eqb at.left 0 e, lt-ltb at.held nb h)

  pub open_none : at.left ≡ 0 → at.held ≡ nb → true ≡ fits_in Open r p nb at carry
  unfolding fits_in
  open_none e h = rw (eq-eqb at.left 0 e, le-ltb at.held nb (omega arith), eq-eqb at.held nb h)

  module _ (n : ℕ) (c : n ≡ count_of r) (a : at.column ≤ n) (t : TurnSaid)
      (u : t ≡ turn_of (length carry - nb) (held_shape r p (take at.held carry) n at.column) (drop nb (take at.held carry)))
    where
      turn_of_it : t ≡ turn_of (length carry - nb) (held_shape r p (take at.held carry) (count_of r) at.column) (drop nb (take at.held carry))
      turn_of_it =
          subst (λ (k : ℕ). t ≡ turn_of (length carry - nb) (held_shape r p (take at.held carry) k at.column)
          (drop nb (take at.held carry))) c u

      among : at.column ≤ count_of r
      among = omega arith

      pub open_held : {b : Bool} → at.left ≡ 0 → nb ≤ at.held → (at.held ≡ nb → ⊥) → b ≡ is_wait t → b ≡ fits_in Open r p nb at carry
      unfolding fits_in
      open_held e l h f =
          f ∙ ap is_wait turn_of_it ∙ waits_turn r p (take at.held carry) at.column among (length carry - nb)
          (drop nb (take at.held carry))
          ∙ rw (eq-eqb at.left 0 e, le-ltb at.held nb l, ne_eqb at.held nb h)

      abbrev y_sh : Shape
      y_sh = held_shape r p (take at.held carry) (count_of r) at.column

      pub long_held : {b : Bool} {sh : Shape} {k : ℕ} → at.held ≤ length carry → nb ≤ at.held → sh
          ≡ held_shape r p (take at.held carry) n at.column
          → k ≡ prefix sh → at.held - nb ≡ k → b ≡ is_long_of at.left t → b ≡ fits_in Long r p nb at carry
      unfolding fits_in
      long_held {b} {sh} {k} g l s m h f =
          let y = take at.held carry in
          let w : length (drop nb y) ≡ at.held - nb = length-drop nb y ∙ ap (λ (z : ℕ). z - nb) (length-take-le at.held carry g) in
          let s' : sh ≡ y_sh = s ∙ ap (λ (z : ℕ). held_shape r p y z at.column) c in
          let q : eqb (length (drop nb y)) (prefix y_sh) ≡ true = eq-eqb (length (drop nb y)) (prefix y_sh) (w ∙ h ∙ m ∙ ap prefix s') in
          let z : (eqb (length (drop nb y)) (prefix y_sh) && is_long_of at.left (turn_of (length carry - nb) y_sh (drop nb y)))
          ≡ is_long (length carry - nb) at.column at.left (slots_at r p y at.column) (drop nb y) =
          longs_turn r p y at.column among (length carry - nb) at.left (drop nb y) in
          f ∙ ap (is_long_of at.left) turn_of_it ∙ (rw q at z) ∙ rw (le-leb nb at.held l)

  pub long_low : at.held < nb → false ≡ fits_in Long r p nb at carry
  unfolding fits_in
  long_low h = rw (lt-leb nb at.held h)

  pub long_other : (n : ℕ) → n ≡ count_of r → at.column ≤ n → {sh : Shape} {k : ℕ} → at.held ≤ length carry → nb ≤ at.held
      → sh ≡ held_shape r p (take at.held carry) n at.column → k ≡ prefix sh → (at.held - nb ≡ k → ⊥) → false
      ≡ fits_in Long r p nb at carry
  unfolding fits_in
  long_other n c a {sh} {k} g l s m h =
      let y = take at.held carry in
      let w : length (drop nb y) ≡ at.held - nb = length-drop nb y ∙ ap (λ (z : ℕ). z - nb) (length-take-le at.held carry g) in
      let sh' = held_shape r p y (count_of r) at.column in
      let s' : sh ≡ sh' = s ∙ ap (λ (z : ℕ). held_shape r p y z at.column) c in
      let q : eqb (length (drop nb y)) (prefix sh') ≡ false =
      ne_eqb (length (drop nb y)) (prefix sh') (λ (e : length (drop nb y) ≡ prefix sh'). h (sym w ∙ e ∙ ap prefix (sym s') ∙ sym m)) in
      let z = longs_turn r p y at.column (omega arith) (length carry - nb) at.left (drop nb y) in
      (rw q at z) ∙ rw (le-leb nb at.held l)

-- ---- the state
module _ (r p carry : List ℕ) (n nb : ℕ) (at : Arriving) where
  pub fit_not : {b : Bool} → b ≡ is_counted r p n (length carry) at → b ≡ false → false ≡ is_fit r p n nb at carry
  unfolding is_fit
  fit_not e f = rw (sym e ∙ f)

  pub fit_in : (f : Phase) {b c : Bool} → b ≡ is_counted r p n (length carry) at → b ≡ true → at.phase ≡ f → c ≡ fits_in f r p nb at carry
      → c ≡ is_fit r p n nb at carry
  unfolding is_fit
  fit_in f e g h i = i ∙ ap (λ (z : Phase). fits_in z r p nb at carry) (sym h) ∙ rw (sym e ∙ g)

  pub fit_numbered : {b : Bool} → b ≡ is_fit r p n nb at carry → b ≡ true → Numbered (length carry) n at
  fit_numbered e f = let c = fit_counted r p carry n nb at e f in record { among = c.among; fits = c.fits }

-- ---- the calls behind the tests
abbrev pub Answers : Outcome Handed → List ℕ → Outcome BlockGiven → List ℕ → Type 0
Answers o carry g c = (g ≡ answer_of o) × (c ≡ left_of o carry)

abbrev parts : Arriving → ℕ → ℕ → List ℕ → Bool → Bool → Outcome Handed
parts at nb n c x z =
    cond x (parted at c more 0 at)
    (cond z (parted at c (part at.column at.left) at.left (opened (at.column + 1) nb (at.used + at.left)))
    (parted at c (part at.column n) n (longed at.column at.held (at.left - n) (at.used + n))))

module _ (r p carry block : List ℕ) (n nb : ℕ) (at : Arriving) where
  pub given_unfit : {b : Bool} {g : Outcome BlockGiven} {w : Refusal} → b ≡ is_fit r p n nb at carry → b ≡ false → w ≡ why 21 0
      → g ≡ refused w → Answers (given_fit r p n nb at carry block) carry g carry
  unfolding given_fit
  given_unfit {b} {g} {w} e f k h = rw (sym e ∙ f) (h ∙ ap refused k, refl)

  module _ {b : Bool} (e : b ≡ is_fit r p n nb at carry) (f : b ≡ true) where
    given_in : (q : Phase) → at.phase ≡ q → given_fit r p n nb at carry block ≡ give_in q r p nb at carry block
    unfolding given_fit
    given_in q h = rw (sym e ∙ f) (ap (λ (z : Phase). give_in z r p nb at carry block) h)

    opens : {g : Outcome BlockGiven} {c : List ℕ} → Answers (give_open r p nb at carry block) carry g c
        → Answers (give_in Open r p nb at carry block) carry g c
    unfolding give_in
    opens w = w

    pub given_open : {g : Outcome BlockGiven} {c : List ℕ} → at.phase ≡ Open → Answers (give_open r p nb at carry block) carry g c
        → Answers (given_fit r p n nb at carry block) carry g c
    given_open h w = rw (given_in Open h) (opens w)

    pub given_long : {g : Outcome BlockGiven} → at.phase ≡ Long → g ≡ answer_of (give_long nb at [] block)
        → Answers (given_fit r p n nb at carry block) carry g carry
    unfolding give_in give_long
    given_long {g} h w = rw (given_in Long h) (go (eqb (length block) 0) (leb at.left (length block)) w)
      where
        go : (x z : Bool) → g ≡ answer_of (parts at nb (length block) [] x z)
            → Answers (parts at nb (length block) carry x z) carry g carry
        go true z k = (k, refl)
        go false true k = (k, refl)
        go false false k = (k, refl)

    pub given_closed : {g : Outcome BlockGiven} {w : Refusal} → at.phase ≡ Closed → w ≡ why 21 0 → g ≡ refused w
        → Answers (given_fit r p n nb at carry block) carry g carry
    unfolding give_in
    given_closed {g} {w} h k i = rw (given_in Closed h) (i ∙ ap refused k, refl)

  pub ended_unfit : {b : Bool} {g : Outcome ℕ} {w : Refusal} → b ≡ is_fit r p n nb at carry → b ≡ false → w ≡ why 21 0 → g ≡ refused w
      → g ≡ ended_fit r p n nb at carry
  unfolding ended_fit
  ended_unfit {b} {g} {w} e f k h = h ∙ ap refused k ∙ rw (sym e ∙ f)

  module _ {b : Bool} (e : b ≡ is_fit r p n nb at carry) (f : b ≡ true) where
    pub ended_open : {g : Outcome ℕ} → n ≡ count_of r → at.phase ≡ Open → g ≡ end_open p n nb at carry → g
        ≡ ended_fit r p n nb at carry
    unfolding ended_fit
    ended_open {g} k h i =
        let a = fit_numbered r p carry n nb at e f in
        let z : end_open p n nb at carry ≡ end_in Open r p nb at carry =
        ap (λ (m : ℕ). end_open p m nb at carry) k ∙ end_open_is r p carry nb at (omega (arith, a.among)) in
        i ∙ z ∙ rw (sym e ∙ f, h)

    pub ended_long : {g : Outcome ℕ} {w : Refusal} → at.phase ≡ Long → w ≡ why 9 at.column → g ≡ refused w → g
        ≡ ended_fit r p n nb at carry
    unfolding ended_fit end_in
    ended_long {g} {w} h k i = i ∙ ap refused k ∙ rw (sym e ∙ f, h)

    pub ended_closed : {g : Outcome ℕ} {w : Refusal} → at.phase ≡ Closed → w ≡ why 21 0 → g ≡ refused w → g
        ≡ ended_fit r p n nb at carry
    unfolding ended_fit end_in
    ended_closed {g} {w} h k i = i ∙ ap refused k ∙ rw (sym e ∙ f, h)

-- the end in the Open phase
module _ (p carry : List ℕ) (n nb : ℕ) (at : Arriving) where
  pub end_nulls : {g : Outcome ℕ} {w : Refusal} → at.held < nb → w ≡ why 9 0 → g ≡ refused w → g ≡ end_open p n nb at carry
  unfolding end_open
  end_nulls {g} {w} h k i = i ∙ ap refused k ∙ rw (lt-ltb at.held nb h)

  module _ {due : ℕ} (l : nb ≤ at.held) (e : due ≡ due_from (n - at.column) p (take (at.held - 0) carry) at.column) where
    due_is : due ≡ due_from (n - at.column) p (take at.held carry) at.column
    due_is = e ∙ ap (λ (k : ℕ). due_from (n - at.column) p (take k carry) at.column) (sub-zero at.held)

    pub end_end : {g : Outcome ℕ} → due ≡ n → g ≡ ok at.used → g ≡ end_open p n nb at carry
    unfolding end_open
    end_end {g} h i = i ∙ rw (le-ltb at.held nb l, ← due_is, eq-eqb due n h)

    pub end_due : {g : Outcome ℕ} {w : Refusal} → (due ≡ n → ⊥) → w ≡ why 9 due → g ≡ refused w → g
        ≡ end_open p n nb at carry
    unfolding end_open
    end_due {g} {w} h k i = i ∙ ap refused k ∙ rw (le-ltb at.held nb l, ← due_is, ne_eqb due n h)

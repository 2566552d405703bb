-- What one step over the bytes at hand comes to, in the forms of code that the crate has no more: a carry of which `held` bytes count, a loop
-- over the first eight bytes, one from present column to present column, and tests one by one. Assumes nothing.
use Prim.Native.Nat.{ℕ, zero, suc, ◌+◌, ◌-◌, ◌*◌, ◌/◌, ◌%◌, ◌≤◌, ◌<◌}
use mathlib.Core.Path.{◌≡◌, refl, sym, ap, subst, ◌∙◌}
use mathlib.Core.Logic.{dite}
use mathlib.Core.Bool.{Bool, true, false, cond, ◌&&◌}
use mathlib.Core.List.{List, ◌++◌}
use native.Mathlib.Nat.{sub-zero}
use native.Mathlib.Decide.{dec_le}
use native.Mathlib.Omega.{arith}
use borrow.Author.Tests.{lt-ltb, le-ltb}
use lib.ListN.{length, get_or, set, take, length-set, get_or-append, get_or-eq_default}
use lib.Seq.{length-take-le, get_or-take, get_or-append-add, get_or-set_same, get_or-set_other}
use lib.Dec.{leb, ltb}
use Rattle.wire.specs.declared.refusal.Refusal.{Refusal}
use Rattle.wire.specs.Outcome.{Outcome, refused}
use Rattle.wire.specs.Bits.{digit, bit_lsb0}
use Rattle.wire.specs.Stored.{stored, store, left_of}
use Rattle.wire.proofs.Stores.{stored_none, store_fits}
use Rattle.image.specs.Present.{count_bits, first_from}
use Rattle.image.proofs.PresenceLaws.Firsts.{first_is}
use Rattle.blocks.specs.declared.state.Arriving.{Arriving}
use Rattle.blocks.specs.States.{Arrived, BlockGiven}
use Rattle.blocks.specs.Turns.{wait, long, whole}
use Rattle.blocks.specs.Gives.{Handed}
use Rattle.blocks.specs.Inner.Hands.{Heads, turn_by, took_by, due_from}
use Rattle.blocks.proofs.Fitting.{Answers}
use Rattle.blocks.proofs.Heldings.{DueFrom, due_null, due_stop as stop, due_end as end}

-- ---- the bytes at hand
pub short_sum : (held len n : ℕ) → held < n → ltb len (n - held) ≡ ltb (held + len) n
short_sum held len n h =
    dite (dec_le (n - held) len)
    (λ (a : n - held ≤ len). le-ltb len (n - held) a ∙ sym (le-ltb (held + len) n (omega arith)))
    (λ a. lt-ltb len (n - held) (omega arith) ∙ sym (lt-ltb (held + len) n (omega arith)))

pub byte_held : (c b : List ℕ) (held i : ℕ) → held ≤ length c → i < held → get_or c i 0 ≡ get_or (take held c ++ b) i 0
byte_held c b held i h l = sym (get_or-append (take held c) b 0 i (omega (arith, length-take-le held c h)) ∙ get_or-take held c i 0 l)

pub byte_block : (c b : List ℕ) (held i : ℕ) → held ≤ length c → held ≤ i → get_or b (i - held) 0 ≡ get_or (take held c ++ b) i 0
byte_block c b held i h l =
    let m : length (take held c) + (i - held) ≡ i = omega (arith, length-take-le held c h) in
    sym (get_or-append-add (take held c) b (i - held) 0) ∙ ap (λ (k : ℕ). get_or (take held c ++ b) k 0) m

pub byte_none : (c b : List ℕ) (held i : ℕ) → held ≤ length c → held ≤ i → length b ≤ i - held → 0 ≡ get_or (take held c ++ b) i 0
byte_none c b held i h l m = sym (get_or-eq_default b 0 {n = i - held} m) ∙ byte_block c b held i h l

pub bit_held : (c b : List ℕ) (held i : ℕ) → held ≤ length c → i / 8 < held → bit_lsb0 c i ≡ bit_lsb0 (take held c ++ b) i
unfolding bit_lsb0
bit_held c b held i h l = ap (λ (x : ℕ). digit x (i % 8)) (byte_held c b held (i / 8) h l)

pub bit_block : (c b : List ℕ) (held i : ℕ) → held ≤ length c → held ≤ i / 8 → bit_lsb0 b (i - 8 * held) ≡ bit_lsb0 (take held c ++ b) i
unfolding bit_lsb0
bit_block c b held i h l =
    let d : (i - 8 * held) / 8 ≡ i / 8 - held = omega arith in
    let m : (i - 8 * held) % 8 ≡ i % 8 = omega arith in
    rw (d, m) (ap (λ (x : ℕ). digit x (i % 8)) (byte_block c b held (i / 8) h l))

pub commit_none : (c b : List ℕ) (held upto : ℕ) → upto ≤ held → (0 ≡ upto - held) × (c ≡ stored (take (upto - held) b) c held)
commit_none c b held upto h =
    let e : upto - held ≡ 0 = omega arith in
    rw e (refl, sym (stored_none c held))

pub commit_some : (c b x : List ℕ) (held upto : ℕ) → held ≤ upto → upto ≤ length c → upto ≤ held + length b
    → x ≡ left_of (store (take (upto - held - 0) b) c held) c → x ≡ stored (take (upto - held) b) c held
commit_some c b x held upto h f l e =
    (rw (sub-zero (upto - held)) at e) ∙
    let n : length (take (upto - held) b) ≡ upto - held = length-take-le (upto - held) b (omega arith) in
    rw (store_fits c (take (upto - held) b) held (omega arith))

-- ---- the first eight of them
pub heads_none : (y : List ℕ) (from : ℕ) (head : List ℕ) → length head ≡ 8 → Heads y from head 0
heads_none y from head e = record { size = e; each = λ i (h : i < 0). absurd (omega arith) }

pub heads_more : (y : List ℕ) (from : ℕ) (head : List ℕ) (n b : ℕ) → Heads y from head n → n < 8 → b ≡ get_or y (from + n) 0
    → Heads y from (set head n b) (n + 1)
heads_more y from head n b h l e = record {
  size = length-set head n b ∙ h.size;
  each = λ i (k : i < n + 1).
      dite (dec_le n i)
      (λ (a : n ≤ i). let z : i ≡ n = omega arith in rw z (get_or-set_same head n b 0 (omega (arith, h.size)) ∙ e))
      (λ a. get_or-set_other head n i b 0 (λ (z : i ≡ n). absurd (omega arith)) ∙ h.each i (omega arith));
}

-- ---- the turn
pub turn_long : (room told len size : ℕ) (b : Bool) → b ≡ (leb told len && ltb room size) → b ≡ true → long (size - told)
    ≡ turn_by room told len size
unfolding turn_by
turn_long room told len size b e h = rw (sym e ∙ h)

pub turn_wait : (room told len size : ℕ) (b : Bool) → b ≡ (leb told len && ltb room size) → b ≡ false → len < size → wait
    ≡ turn_by room told len size
unfolding turn_by
turn_wait room told len size b e h l = rw (sym e ∙ h, lt-ltb len size l)

pub turn_whole : (room told len size : ℕ) (b : Bool) → b ≡ (leb told len && ltb room size) → b ≡ false → size ≤ len → whole size
    ≡ turn_by room told len size
unfolding turn_by
turn_whole room told len size b e h l = rw (sym e ∙ h, le-ltb len size l)

-- ---- answers
pub took_same : {g : BlockGiven} (at next : Arriving) (a : Arrived) {n k : ℕ} → g ≡ took_by at n a next → n ≡ k → g ≡ took_by at k a next
took_same at next a e f = e ∙ ap (λ (n : ℕ). took_by at n a next) f

pub no_answer : {o : Outcome Handed} {carry c : List ℕ} {g : Outcome BlockGiven} {w : Refusal} → o ≡ refused w → g ≡ refused w → c ≡ carry
    → Answers o carry g c
no_answer {o} {carry} {c} {g} e f k = rw e (f, k)

-- ---- a loop from present column to present column
due_bit : (n j : ℕ) (p y : List ℕ) → j < n → bit_lsb0 p j ≡ false → due_from (n - j) p y j ≡ due_from (n - suc j) p y (suc j)
unfolding due_from
due_bit n j p y h e = let k : n - j ≡ suc (n - suc j) = omega arith in rw (k, e)

due_first : (m n j : ℕ) (p y : List ℕ) → j + m ≡ n → due_from (n - j) p y j ≡ due_from (n - first_from m p j) p y (first_from m p j)
unfolding first_from
due_first zero n j p y h = refl
due_first (suc m) n j p y h = go (due_first m n (suc j) p y (omega arith)) (bit_lsb0 p j) refl
  where
    go : due_from (n - suc j) p y (suc j) ≡ due_from (n - first_from m p (suc j)) p y (first_from m p (suc j)) → (b : Bool) → bit_lsb0 p j ≡ b
        → due_from (n - j) p y j ≡ due_from (n - cond b j (first_from m p (suc j))) p y (cond b j (first_from m p (suc j)))
    go i true e = refl
    go i false e = due_bit n j p y (omega arith) e ∙ i

pub record DueAt (p y : List ℕ) (column n j rank : ℕ) : Type 0 where
  pub low : j ≤ n
  pub is_rank : rank ≡ count_bits p j
  pub set : j < n → bit_lsb0 p j ≡ true
  pub rest : due_from (n - column) p y column ≡ due_from (n - j) p y j

pub due_begin : (p y : List ℕ) (column n j rank : ℕ) → column ≤ n → rank ≡ count_bits p column → j ≡ first_from (n - column) p column
    → DueAt p y column n j rank
due_begin p y column n j rank h e f =
    let i = first_is (n - column) p column in
    let a : column + (n - column) ≡ n = omega arith in
    subst (λ (k : ℕ). DueAt p y column n k rank) (sym f) (record {
      low = omega (arith, i.high);
      is_rank = e ∙ sym i.rank;
      set = λ k. i.found (omega arith);
      rest = due_first (n - column) n column p y a;
    })

module _ (p y : List ℕ) (column n j rank : ℕ) (d : DueAt p y column n j rank) where
  from : DueFrom p y column n j rank
  from = record { is_rank = d.is_rank; rest = d.rest }

  pub due_next : (j' : ℕ) → j < n → bit_lsb0 y rank ≡ true → j' ≡ first_from (n - (j + 1)) p (j + 1) → DueAt p y column n j' (rank + 1)
  due_next j' h e f =
      let a = due_null p y column n j rank from h (d.set h) e in
      let w = due_begin p y (j + 1) n j' (rank + 1) (omega arith) a.is_rank f in
      record { low = w.low; is_rank = w.is_rank; set = w.set; rest = a.rest ∙ w.rest }

  pub due_stop : j < n → bit_lsb0 y rank ≡ false → j ≡ due_from (n - column) p y column
  due_stop h e = stop p y column n j rank from h (d.set h) e

  pub due_end : n ≤ j → j ≡ due_from (n - column) p y column
  due_end h =
      let l = d.low in
      let e : j ≡ n = omega arith in
      e ∙ end p y column n j rank from e

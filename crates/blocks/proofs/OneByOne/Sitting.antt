-- What the call asks and answers in the Open phase, behind the tests. Assumes nothing.
use Prim.Native.Nat.{ℕ, ◌+◌, ◌-◌, ◌≤◌, ◌<◌}
use mathlib.Core.Path.{◌≡◌, sym, ap, ◌∙◌}
use mathlib.Core.Bool.{Bool, true, false}
use mathlib.Core.List.{List, ◌++◌}
use native.Mathlib.Omega.{arith}
use borrow.Author.Tests.{ltb-true, ltb-false}
use lib.ListN.{length, take, length-append}
use lib.Seq.{length-take-le}
use lib.Dec.{ltb}
use Rattle.wire.specs.Outcome.{Outcome, ok}
use Rattle.wire.specs.Bits.{bit_lsb0}
use Rattle.wire.specs.Stored.{stored}
use Rattle.value.specs.declared.column.Column.{Column}
use Rattle.value.specs.Columns.{shape_of, is_taken}
use Rattle.record.specs.declared.entry.Entry.{Entry}
use Rattle.record.specs.Entries.{column_of}
use Rattle.record.specs.Records.{count_of, entry_in}
use Rattle.record.proofs.Valid.{valid_column}
use Rattle.image.specs.Present.{count_bits, first_from, shape_at}
use Rattle.image.proofs.PresenceLaws.Firsts.{first_below, count_at_most}
use Rattle.blocks.specs.declared.state.Arriving.{Arriving}
use Rattle.blocks.specs.States.{more, null, end, BlockGiven}
use Rattle.blocks.specs.Fits.{is_fit}
use Rattle.blocks.specs.Gives.{used_to, give_open}
use Rattle.blocks.specs.Inner.Hands.{value_over, took_by, standing}
use Rattle.blocks.proofs.Opens.{open_short, open_end, open_null, open_value}
use Rattle.blocks.proofs.Fitting.{Tested, sits as sits₁, used_fits, held_fits}
use Rattle.blocks.proofs.OneByOne.Hands.{Sits, Holds}
use Rattle.blocks.proofs.OneByOne.Fitting.{Answers}
use Rattle.blocks.proofs.OneByOne.Values.{open_answer}

-- a fit state, behind the tests
module _ (r p carry : List ℕ) (n nb : ℕ) (at : Arriving) where
  pub sits : {b : Bool} (block : List ℕ) → Tested r p (length carry) n nb → b ≡ is_fit r p n nb at carry → b ≡ true
      → length carry < 9223372036854775808 → length block < 9223372036854775808 → Sits r p (length carry) (length block) n nb at
  sits block t e f lc lb =
      let s = sits₁ r p carry n nb at t e f in
      record {
        valid = t.valid;
        count = t.count;
        bits = t.bits;
        few = t.few;
        room = s.room;
        among = s.among;
        fits = s.fits;
        small = used_fits r p carry n nb at t e f (length block) lb;
        sum = held_fits r p carry n nb at t e f (length block) lc lb;
      }

module _ {r p : List ℕ} {room len columns nb : ℕ} {at : Arriving} (q : Sits r p room len columns nb at) where
  pub short_fits : {b : Bool} → b ≡ ltb (at.held + len) nb → b ≡ true → at.held + len ≤ room
  short_fits e f = omega (arith, q.room, ltb-true (at.held + len) nb (sym e ∙ f))

  pub not_short : {b : Bool} → b ≡ ltb (at.held + len) nb → b ≡ false → nb ≤ at.held + len
  not_short e f = ltb-false (at.held + len) nb (sym e ∙ f)

  pub end_used : {k : ℕ} → nb ≤ at.held + len → k ≡ nb - at.held → at.used + k < 18446744073709551616
  end_used h e = omega (arith, q.small)

  pub found_below : {f : ℕ} → f ≡ first_from (columns - at.column) p at.column → (f ≡ columns → ⊥) → f < columns
  found_below e h = first_below p q.among e h

  pub value_holds : {f : ℕ} {e : Entry} {kind : Column} → nb ≤ at.held + len → f ≡ first_from (columns - at.column) p at.column
      → (f ≡ columns → ⊥) → e ≡ entry_in r f → kind ≡ column_of e → Holds room len nb at f kind
  value_holds {f} {e} {kind} l g h i k =
      let b = found_below g h in
      let t : is_taken (shape_of kind) ≡ true = rw (k, i) (valid_column r f q.valid (omega (arith, q.count))) in
      record {
        room = q.room;
        narrow = omega (arith, q.bits, count_at_most p columns, q.few);
        there = l;
        fits = q.fits;
        small = q.small;
        sum = q.sum;
        column = omega (arith, q.few);
        taken = t;
      }

module _ {r p : List ℕ} {columns nb : ℕ} {at : Arriving} (carry block : List ℕ)
    (q : Sits r p (length carry) (length block) columns nb at) where
  abbrev held : ℕ
  held = at.held

  abbrev y : List ℕ
  y = take held carry ++ block

  y_length : length y ≡ held + length block
  y_length = length-append (take held carry) block ∙ ap (λ (k : ℕ). k + length block) (length-take-le held carry q.fits)

  among : at.column ≤ count_of r
  among = omega (arith, q.among, q.count)

  pub short_returns : {b : Bool} {next : Arriving} {g : Outcome BlockGiven} {c : List ℕ} → b ≡ ltb (held + length block) nb → b ≡ true
      → next ≡ standing at.column (held + length block)
      → (g ≡ ok (took_by at (held + length block - held) more next)) × (c ≡ stored (take (held + length block - held) block) carry held)
      → Answers (give_open r p nb at carry block) carry g c
  short_returns e f h w =
      open_answer at carry block (give_open r p nb at carry block) (held + length block) more at.column (held + length block)
      (open_short r p nb at carry block (omega (arith, y_length, ltb-true (held + length block) nb (sym e ∙ f)))) h w

  module _ (l : nb ≤ held + length block) {f : ℕ} (e : f ≡ first_from (columns - at.column) p at.column) where
    found_is : f ≡ first_from (count_of r - at.column) p at.column
    found_is = e ∙ ap (λ (n : ℕ). first_from (n - at.column) p at.column) q.count

    there : nb ≤ length y
    there = omega (arith, y_length)

    pub end_returns : {k : ℕ} {next : Arriving} {g : Outcome BlockGiven} {c : List ℕ} → f ≡ columns → k ≡ nb - held → next ≡ standing at.column nb
        → (g ≡ ok (took_by at (nb - held) (end (at.used + k)) next)) × (c ≡ stored (take (nb - held) block) carry held)
        → Answers (give_open r p nb at carry block) carry g c
    end_returns {k} {next} h i n w =
        open_answer at carry block (give_open r p nb at carry block) nb (end (used_to at nb)) at.column nb
        (open_end r p nb at carry block there among found_is (h ∙ q.count)) n
        (w.0 ∙ ap (λ (m : ℕ). ok (took_by at (nb - held) (end (at.used + m)) next)) i, w.1)

    module _ (h : f ≡ columns → ⊥) {rank : ℕ} {b : Bool} (m : rank ≡ count_bits p f) (i : b ≡ bit_lsb0 (take held carry ++ block) rank) where
      below : f < count_of r
      below = omega (arith, found_below q e h, q.count)

      bit_is : bit_lsb0 y (count_bits p f) ≡ b
      bit_is = sym (i ∙ ap (bit_lsb0 y) m)

      pub null_returns : {next : Arriving} {g : Outcome BlockGiven} {c : List ℕ} → b ≡ true → next ≡ standing (f + 1) nb
          → (g ≡ ok (took_by at (nb - held) (null f) next)) × (c ≡ stored (take (nb - held) block) carry held)
          → Answers (give_open r p nb at carry block) carry g c
      null_returns t n w =
          open_answer at carry block (give_open r p nb at carry block) nb (null f) (f + 1) nb
          (open_null r p nb at carry block there among found_is below (bit_is ∙ t)) n w

      pub value_returns : {en : Entry} {kind : Column} {g : Outcome BlockGiven} {c : List ℕ} → b ≡ false → en ≡ entry_in r f → kind ≡ column_of en
          → Answers (value_over nb (shape_of kind) f at carry block) carry g c → Answers (give_open r p nb at carry block) carry g c
      unfolding shape_at
      value_returns {en} {kind} {g} {c} t u v w =
          let s : shape_of kind ≡ shape_at r f = ap shape_of (v ∙ ap column_of u) in
          rw (open_value r p nb at carry block there among found_is below (bit_is ∙ t), ← s) w

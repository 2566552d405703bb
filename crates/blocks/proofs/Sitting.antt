-- What the call asks and answers in the Open phase, behind the tests. Assumes nothing.
use Prim.Native.Nat.{ℕ, ◌+◌, ◌-◌, ◌≤◌, ◌<◌}
use mathlib.Core.Path.{◌≡◌, sym, ap, ◌∙◌}
use mathlib.Core.Bool.{Bool, true, false}
use mathlib.Core.List.{List, ◌++◌}
use native.Mathlib.Omega.{arith}
use lib.ListN.{length, take, length-append}
use lib.Seq.{length-take-le}
use Rattle.wire.specs.Bits.{bit_lsb0}
use Rattle.wire.specs.Outcome.{Outcome, ok}
use Rattle.value.specs.declared.column.Column.{Column}
use Rattle.value.specs.Columns.{shape_of, is_taken}
use Rattle.record.specs.declared.entry.Entry.{Entry}
use Rattle.record.specs.Entries.{column_of}
use Rattle.record.specs.Records.{count_of, entry_in}
use Rattle.record.proofs.Valid.{valid_few, valid_column}
use Rattle.image.specs.Present.{count_bits, first_from, shape_at}
use Rattle.image.proofs.PresenceLaws.Firsts.{first_below, count_at_most}
use Rattle.blocks.specs.declared.lent.Lent.{Lent}
use Rattle.blocks.specs.declared.state.Arriving.{Arriving}
use Rattle.blocks.specs.States.{opened, null, end}
use Rattle.blocks.specs.Gives.{Handed, commit, used_to, waiting, give_open}
use Rattle.blocks.specs.Inner.Hands.{value_over, Sits, Holds}
use Rattle.blocks.proofs.Opens.{open_short, open_end, open_null, open_value}

module _ (l : Lent) {at : Arriving} (carry block : List ℕ) (q : Sits (length carry) l.head.columns l.head.nulls at) where
  abbrev nb : ℕ
  nb = l.head.nulls

  abbrev r : List ℕ
  r = l.profile.now

  abbrev p : List ℕ
  p = l.presence.now

  abbrev y : List ℕ
  y = take at.held carry ++ block

  abbrev answer : Outcome Handed
  answer = give_open r p nb at carry block

  y_length : length y ≡ at.held + length block
  y_length = length-append (take at.held carry) block ∙ ap (λ (k : ℕ). k + length block) (length-take-le at.held carry q.fits)

  among : at.column ≤ count_of r
  among = omega (arith, q.among, l.columns)

  pub short_is : at.held + length block < nb → answer ≡ waiting at carry block at.column
  short_is h = open_short r p nb at carry block (omega (arith, y_length))

  module _ (low : nb ≤ at.held + length block) {f : ℕ} (e : f ≡ first_from (l.head.columns - at.column) p at.column) where
    found_is : f ≡ first_from (count_of r - at.column) p at.column
    found_is = e ∙ ap (λ (n : ℕ). first_from (n - at.column) p at.column) l.columns

    there : nb ≤ length y
    there = omega (arith, y_length)

    pub end_is : f ≡ l.head.columns → answer ≡ ok (commit at carry block nb (end (used_to at nb)) (opened at.column nb (used_to at nb)))
    end_is h = open_end r p nb at carry block there among found_is (h ∙ l.columns)

    module _ (h : f ≡ l.head.columns → ⊥) where
      pub found_below : f < l.head.columns
      found_below = first_below p q.among e h

      pub found_low : f < 65536
      found_low = omega (arith, found_below, l.columns, valid_few r l.valid)

      pub value_holds : Holds (length carry) (length block) nb at
      value_holds =
          let few = valid_few r l.valid in
          record { room = q.room; narrow = omega (arith, l.nulls, count_at_most p l.head.columns, l.columns); there = low; fits = q.fits }

      module _ {en : Entry} {kind : Column} (u : en ≡ entry_in r f) (v : kind ≡ column_of en) where
        pub value_taken : is_taken (shape_of kind) ≡ true
        value_taken = rw (v, u) (valid_column r f l.valid (omega (arith, found_below, l.columns)))

      module _ {rank : ℕ} {b : Bool} (m : rank ≡ count_bits p f) (i : b ≡ bit_lsb0 y rank) where
        bit_is : bit_lsb0 y (count_bits p f) ≡ b
        bit_is = sym (i ∙ ap (bit_lsb0 y) m)

        pub null_is : b ≡ true → answer ≡ ok (commit at carry block nb (null f) (opened (f + 1) nb (used_to at nb)))
        null_is t = open_null r p nb at carry block there among found_is (omega (arith, found_below, l.columns)) (bit_is ∙ t)

        pub value_is : b ≡ false → {en : Entry} {kind : Column} → en ≡ entry_in r f → kind ≡ column_of en
            → answer ≡ value_over nb (shape_of kind) f at carry block
        unfolding shape_at
        value_is t {en} {kind} u v =
            let s : shape_of kind ≡ shape_at r f = ap shape_of (v ∙ ap column_of u) in
            open_value r p nb at carry block there among found_is (omega (arith, found_below, l.columns)) (bit_is ∙ t) ∙ rw s

-- what the call answers, by what it finds
pub ruleset open_answers = (short_is, end_is, null_is, value_is)

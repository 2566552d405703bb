-- What the tests of a state, and the calls behind them, answer. Assumes nothing.
use Prim.Native.Nat.{ℕ, ◌+◌, ◌≤◌, ◌<◌}
use mathlib.Core.Path.{◌≡◌, refl, ap, subst, ◌∙◌}
use mathlib.Core.Bool.{Bool, true, false, cond}
use mathlib.Core.List.{List, []}
use native.Mathlib.Omega.{arith}
use borrow.Author.Tests.{eqb-true, ltb-false}
use lib.ListN.{length}
use lib.Dec.{ltb, eqb}
use Rattle.wire.specs.Outcome.{Outcome, ok, refused, refuse, after, why}
use Rattle.wire.specs.Bits.{bytes_for}
use Rattle.wire.specs.Stored.{answer_of}
use Rattle.wire.proofs.Outcomes.{same_ok, after_is_ok, test_is_ok}
use Rattle.record.specs.Records.{most_columns, count_of, record_valid, read_record}
use Rattle.record.proofs.Valid.{valid_few, read_valid}
use Rattle.image.specs.declared.cursor.Head.{Head}
use Rattle.image.specs.Present.{count_bits}
use Rattle.image.specs.Split.{head_of}
use Rattle.image.proofs.CursorLaws.Heads.{head_tested}
use Rattle.image.proofs.PresenceLaws.Firsts.{count_at_most}
use Rattle.image.proofs.RoomLaws.Adds.{room_small}
use Rattle.blocks.specs.declared.state.Phase.TheVariants.{Open, Long}
use Rattle.blocks.specs.declared.state.Arriving.{Arriving}
use Rattle.blocks.specs.States.{BlockGiven}
use Rattle.blocks.specs.Fits.{is_fit}
use Rattle.blocks.specs.Gives.{give_long, head_carry, give_block}
use Rattle.blocks.specs.Ends.{end_blocks}
use Rattle.blocks.specs.Inner.Hands.{Sits, end_open}
use Rattle.blocks.proofs.Counts.{fit_counted}
use Rattle.blocks.proofs.OneByOne.Fitting.{given_long as given_long₁, ended_open as ended_open₁}
pub use Rattle.blocks.proofs.OneByOne.Fitting.{Answers}

-- the tests for 11, 12 and 20 were passed
pub record Tested (r p : List ℕ) (carry columns nulls : ℕ) : Type 0 where
  pub valid : record_valid r ≡ true
  pub presence : length p ≡ bytes_for (count_of r)
  pub count : columns ≡ count_of r
  pub bits : nulls ≡ bytes_for (count_bits p columns)
  pub few : columns ≤ most_columns
  pub least : 1024 ≤ carry

-- ---- the state
module _ (r p carry : List ℕ) (n nb : ℕ) (at : Arriving) where
  module _ {b : Bool} (t : Tested r p (length carry) n nb) (e : b ≡ is_fit r p n nb at carry) (f : b ≡ true) where
    pub sits : Sits (length carry) n nb at
    sits =
        let w = fit_counted r p carry n nb at e f in
        record { room = omega (arith, t.bits, count_at_most p n, t.few, t.least); among = w.among; fits = w.fits }

    pub used_fits : (len : ℕ) → len < 9223372036854775808 → at.used + len < 18446744073709551616
    used_fits len h = omega (arith, (fit_counted r p carry n nb at e f).room, room_small r p t.valid)

    pub held_fits : (len : ℕ) → length carry < 9223372036854775808 → len < 9223372036854775808 → at.held + len < 18446744073709551616
    held_fits len g h = omega (arith, (fit_counted r p carry n nb at e f).fits)

-- ---- the calls
module _ (r p carry block : List ℕ) (at : Arriving) {h : Head} (t : head_carry r p carry ≡ ok h) where
  -- behind the tests they answer as the phase says
  module _ {b : Bool} (e : b ≡ is_fit r p h.columns h.nulls at carry) (f : b ≡ true) where
    pub given_long : {g : Outcome BlockGiven} → at.phase ≡ Long → g ≡ answer_of (give_long h.nulls at [] block)
        → Answers (give_block r p at carry block) carry g carry
    unfolding give_block
    given_long i w = rw t (given_long₁ r p carry block h.columns h.nulls at e f i w)

    pub ended_open : {g : Outcome ℕ} → h.columns ≡ count_of r → at.phase ≡ Open → g ≡ end_open p h.columns h.nulls at carry
        → g ≡ end_blocks r p at carry
    unfolding end_blocks
    ended_open k i w = rw t (ended_open₁ r p carry block h.columns h.nulls at e f k i w)

-- ---- the tests
presence_of : (r p : List ℕ) {h : Head} → head_of r p ≡ ok h → length p ≡ bytes_for (count_of r)
unfolding head_of read_record
presence_of r p {h} e =
    let w = after_is_ok (read_record r) _ h e in
    let c = read_valid r w.0 w.1 in
    eqb-true (length p) (bytes_for w.0) (test_is_ok (eqb (length p) (bytes_for w.0)) _ (why 12 0) h w.2).0 ∙ ap bytes_for c.1

pub carry_tested : (r p carry : List ℕ) {h : Head} → head_carry r p carry ≡ ok h → Tested r p (length carry) h.columns h.nulls
unfolding head_carry head_of
carry_tested r p carry {h} e = go (head_of r p) refl e
  where
    test : (k : Head) → head_of r p ≡ ok k → (b : Bool) → ltb (length carry) 1024 ≡ b → cond b (refuse 20 0) (ok k) ≡ ok h
        → Tested r p (length carry) h.columns h.nulls
    test k f true l g = absurd (cc)
    test k f false l g =
        let t = head_tested r p f in
        let s : k ≡ h = same_ok g in
        subst (λ (m : Head). Tested r p (length carry) m.columns m.nulls) s (record {
          valid = t.valid;
          presence = presence_of r p f;
          count = t.columns;
          bits = t.nulls ∙ ap bytes_for t.present;
          few = omega (arith, t.columns, valid_few r t.valid);
          least = ltb-false (length carry) 1024 l;
        })

    go : (o : Outcome Head) → head_of r p ≡ o → after o (λ k. cond (ltb (length carry) 1024) (refuse 20 0) (ok k)) ≡ ok h
        → Tested r p (length carry) h.columns h.nulls
    go (ok k) f g = test k f (ltb (length carry) 1024) refl g
    go (refused w) f g = absurd (cc)

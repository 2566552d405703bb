-- Whether a state is fit, by what its functions find. Assumes nothing.
use Prim.Native.Nat.{ℕ, ◌-◌, ◌≤◌, ◌<◌}
use mathlib.Core.Path.{◌≡◌, refl, subst, ◌∙◌}
use mathlib.Core.Bool.{Bool, false}
use mathlib.Core.List.{List, [], ◌++◌}
use native.Mathlib.Omega.{arith}
use lib.ListN.{length, take, drop}
use Rattle.wire.specs.declared.refusal.Refusal.{Refusal}
use Rattle.wire.specs.Outcome.{ok, refused}
use Rattle.wire.proofs.Rules.{tests}
use Rattle.wire.proofs.Outcomes.{same_ok}
use Rattle.value.specs.declared.shape.Shape.{Shape}
use Rattle.value.specs.Shapes.{need, prefix}
use Rattle.value.specs.Inner.Shapes.{Sized}
use Rattle.record.proofs.Valid.{valid_few}
use Rattle.image.specs.Room.{image_room, read_room}
use Rattle.image.proofs.PresenceLaws.Firsts.{count_at_most}
use Rattle.blocks.specs.declared.state.Phase.TheVariants.{Open, Long}
use Rattle.blocks.specs.declared.state.Arriving.{Arriving}
use Rattle.blocks.specs.Turns.{TurnSaid, wait, long, whole, turn_of}
use Rattle.blocks.specs.Fits.{fits_in}
use Rattle.blocks.specs.Inner.Hands.{Heads, turn_by, held_shape}
use Rattle.blocks.proofs.Heldings.{is_wait, is_long_of}
use Rattle.blocks.proofs.OneByOne.Fitting.{room_read, not_refused as not_refused₁, held_sized as held_sized₁, held_turn_is as held_turn_is₁}
use Rattle.blocks.proofs.OneByOne.Fitting.{open_held as open_held₁, long_low as long_low₁, long_held as long_held₁, long_other as long_other₁}
use Rattle.blocks.specs.declared.lent.Lent.{Lent}
use Rattle.blocks.specs.declared.lent.Seat.{Seat}

-- ---- the room
module _ (l : Lent) where
  read : read_room l.profile.now l.presence.now ≡ ok (image_room l.profile.now l.presence.now)
  read = room_read l.profile.now l.presence.now l.valid l.bits

  pub in_room : {n : ℕ} → ok n ≡ read_room l.profile.now l.presence.now → n ≡ image_room l.profile.now l.presence.now
  in_room e = same_ok (e ∙ read)

  pub not_refused : {w : Refusal} → refused w ≡ read_room l.profile.now l.presence.now → ⊥
  not_refused {w} e = not_refused₁ l.profile.now l.presence.now l.valid l.bits (refused w) w e refl

-- ---- by the turn
pub other_turn : (t : TurnSaid) → (t ≡ wait → ⊥) → is_wait t ≡ false
other_turn wait h = absurd (h refl)
other_turn (long n) h = refl
other_turn (whole n) h = refl

pub other_long : (t : TurnSaid) (left : ℕ) → ((n : ℕ) → t ≡ long n → ⊥) → is_long_of left t ≡ false
other_long wait left h = refl
other_long (long n) left h = absurd (h n refl)
other_long (whole n) left h = refl

module _ (s : Seat) where
  abbrev r : List ℕ
  r = s.lent.profile.now

  abbrev p : List ℕ
  p = s.lent.presence.now

  abbrev carry : List ℕ
  carry = s.carry.now

  abbrev n : ℕ
  n = s.lent.head.columns

  abbrev nb : ℕ
  nb = s.lent.head.nulls

  abbrev at : Arriving
  at = s.at

  -- what is held
  abbrev y : List ℕ
  y = take at.held carry

  -- ---- the value in progress
  abbrev pub shape : Shape
  shape = held_shape r p y n at.column

  pub held_sized : {sh : Shape} → sh ≡ shape → Sized sh
  held_sized e = held_sized₁ r p carry n at e

  pub nulls_few : nb < 65536
  nulls_few = omega (arith, s.lent.nulls, s.lent.columns, count_at_most p n, valid_few r s.lent.valid)

  -- ---- its turn
  abbrev pub turn : TurnSaid
  turn = turn_of (length carry - nb) shape (drop nb y)

  pub held_turn_is : {t : TurnSaid} {sh : Shape} {h head : List ℕ} → nb ≤ at.held → sh ≡ shape → h ≡ y → Heads (h ++ []) nb head 8
      → t ≡ turn_by (length carry - nb) (prefix sh) (at.held - nb) (need sh head) → t ≡ turn
  held_turn_is {t} {sh} {h} {head} l e i k u =
      held_turn_is₁ r p carry n at nb t s.fits l e (subst (λ (x : List ℕ). Heads (x ++ []) nb head 8) i k) u

  -- ---- the phases
  pub open_held : {b : Bool} {t : TurnSaid} → t ≡ turn → at.left ≡ 0 → nb ≤ at.held → (at.held ≡ nb → ⊥) → b ≡ is_wait t
      → b ≡ fits_in Open r p nb at carry
  open_held {b} {t} u e l h f = open_held₁ r p carry nb at n s.lent.columns s.among t u e l h f

  pub long_low : at.held < nb → false ≡ fits_in Long r p nb at carry
  long_low h = long_low₁ r p carry nb at h

  module _ (l : nb ≤ at.held) {sh : Shape} {k : ℕ} (e : sh ≡ shape) (m : k ≡ prefix sh) where
    pub long_held : {b : Bool} {t : TurnSaid} → at.held - nb ≡ k → t ≡ turn → b ≡ is_long_of at.left t
        → b ≡ fits_in Long r p nb at carry
    long_held {b} {t} h u f = long_held₁ r p carry nb at n s.lent.columns s.among t u s.fits l e m h f

    pub long_other : (at.held - nb ≡ k → ⊥) → false ≡ fits_in Long r p nb at carry
    long_other h = long_other₁ r p carry nb at n s.lent.columns s.among s.fits l e m h

-- what the two phases find
pub ruleset open_rules = (tests, open_held, other_turn)

pub ruleset long_rules = (tests, long_low, long_other, long_held, other_long)

-- What the numbers of a fit state obey. Assumes nothing.
use Prim.Native.Nat.{ℕ, ◌≤◌}
use mathlib.Core.Path.{◌≡◌, refl, sym, ◌∙◌}
use mathlib.Core.Bool.{Bool, true}
use mathlib.Core.List.{List}
use borrow.Author.Tests.{leb-true}
use lib.ListN.{length}
use lib.Dec.{leb}
use Rattle.wire.proofs.Outcomes.{both_true}
use Rattle.image.specs.Room.{image_room}
use Rattle.blocks.specs.declared.state.Arriving.{Arriving}
use Rattle.blocks.specs.Fits.{is_counted, fits_in, is_fit}

pub record Counted (r p : List ℕ) (n len : ℕ) (st : Arriving) : Type 0 where
  pub among : st.column ≤ n
  pub fits : st.held ≤ len
  pub counted : st.held ≤ st.used
  pub room : st.used ≤ image_room r p

pub counted : {r p : List ℕ} {n len : ℕ} {st : Arriving} {b : Bool} → b ≡ is_counted r p n len st → b ≡ true → Counted r p n len st
unfolding is_counted
counted {r} {p} {n} {len} {st} e f =
    let a = both_true (leb st.column n) _ (sym e ∙ f) in
    let b = both_true (leb st.held len) _ a.1 in
    let c = both_true (leb st.held st.used) _ b.1 in
    record {
      among = leb-true st.column n a.0;
      fits = leb-true st.held len b.0;
      counted = leb-true st.held st.used c.0;
      room = leb-true st.used (image_room r p) c.1;
    }

module _ (r p carry : List ℕ) (n nb : ℕ) (st : Arriving) {b : Bool} (e : b ≡ is_fit r p n nb st carry) (f : b ≡ true) where
  pub fit_counted : Counted r p n (length carry) st
  unfolding is_fit
  fit_counted = counted refl (both_true (is_counted r p n (length carry) st) _ (sym e ∙ f)).0

  pub fit_in : fits_in st.phase r p nb st carry ≡ true
  unfolding is_fit
  fit_in = (both_true (is_counted r p n (length carry) st) _ (sym e ∙ f)).1

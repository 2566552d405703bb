-- What the carry holds after a call, and the rest of the block behind it, are what was at hand. Assumes nothing.
use Prim.Native.Nat.{ℕ, ◌+◌, ◌-◌, ◌≤◌}
use mathlib.Core.Path.{◌≡◌, sym, ap, ◌∙◌}
use mathlib.Core.List.{List, ◌++◌, append_assoc}
use native.Mathlib.Omega.{arith}
use lib.ListN.{length, take, drop, length-append, take-append-drop}
use lib.Seq.{length-take-le, take_at, drop_at, take-take, take-append-le}
use Rattle.wire.specs.Stored.{stored}
use Rattle.wire.proofs.Stores.{length_stored}

-- the carry that a call leaves which takes the block up to `upto`
abbrev pub carried : List ℕ → List ℕ → ℕ → ℕ → List ℕ
carried carry block held upto = stored (take (upto - held) block) carry held

-- from where to where a call may take
pub record Within (carry block : List ℕ) (held upto : ℕ) : Type 0 where
  pub low : held ≤ upto
  pub high : upto ≤ held + length block
  pub fits : upto ≤ length carry

module _ (carry block : List ℕ) (held upto : ℕ) (w : Within carry block held upto) where
  taken_length : length (take (upto - held) block) ≡ upto - held
  taken_length = length-take-le (upto - held) block (omega (arith, w.low, w.high))

  pub carried_length : length (carried carry block held upto) ≡ length carry
  carried_length = length_stored carry held (take (upto - held) block) (omega (arith, taken_length, w.low, w.fits))

  -- its front
  pub carried_front : take upto (carried carry block held upto) ≡ take held carry ++ take (upto - held) block
  unfolding stored
  carried_front =
      let a = take held carry in
      let b = take (upto - held) block in
      let rest = drop (held + length b) carry in
      let l : length (a ++ b) ≡ upto = omega
      (arith, length-append a b, length-take-le held carry (omega (arith, w.low, w.fits)), taken_length, w.low) in
      ap (take upto) (sym (append_assoc a b rest)) ∙ take_at (a ++ b) rest upto l

  -- all that is at hand, with whatever comes behind it
  pub carried_same : (t : List ℕ) → take upto (carried carry block held upto) ++ (drop (upto - held) block ++ t)
      ≡ take held carry ++ (block ++ t)
  carried_same t =
      let a = take held carry in
      let b = take (upto - held) block in
      let c = drop (upto - held) block in
      ap (λ (l : List ℕ). l ++ (c ++ t)) carried_front
      ∙ append_assoc a b (c ++ t)
      ∙ ap (λ (l : List ℕ). a ++ l) (sym (append_assoc b c t) ∙ ap (λ (l : List ℕ). l ++ t) (take-append-drop (upto - held) block))

  pub front_length : length (take upto (carried carry block held upto)) ≡ upto
  front_length = length-take-le upto (carried carry block held upto) (omega (arith, carried_length, w.fits))

  -- so what stands behind `upto` is the rest of the block
  pub carried_behind : (t : List ℕ) → drop upto (take held carry ++ (block ++ t)) ≡ drop (upto - held) block ++ t
  carried_behind t =
      ap (drop upto) (sym (carried_same t)) ∙ drop_at (take upto (carried carry block held upto))
      (drop (upto - held) block ++ t) upto front_length

  -- and what stands before it is the carry's
  pub carried_before : (t : List ℕ) (n : ℕ) → n ≤ upto → take n (take held carry ++ (block ++ t)) ≡ take n (carried carry block held upto)
  carried_before t n h =
      ap (take n) (sym (carried_same t))
      ∙ take-append-le n (take upto (carried carry block held upto)) (drop (upto - held) block ++ t) (omega (arith, front_length))
      ∙ take-take n upto (carried carry block held upto) h

-- The same in the Long phase: what a part gives and what is to come behind it are what was to come. Assumes nothing.
use Prim.Native.Nat.{ℕ, ◌+◌, ◌-◌, ◌≤◌, ◌<◌}
use mathlib.Core.Path.{◌≡◌, refl, sym, ap, ◌∙◌}
use mathlib.Core.Logic.{dite}
use mathlib.Core.List.{List, [], ◌∷◌, ◌++◌, append_assoc}
use native.Mathlib.Decide.{dec_le}
use native.Mathlib.Omega.{arith}
use borrow.Author.Tests.{le-leb, lt-leb, eq-eqb, ne_eqb}
use lib.ListN.{length, take, drop, length-append}
use lib.Seq.{length-take-le, drop-append-le, drop_at, take-append-le, take-append-add, drop-append-add, take-length, drop-length}
use Rattle.wire.specs.Outcome.{refuse}
use Rattle.record.specs.Records.{count_of}
use Rattle.image.specs.Split.{slots_at}
use Rattle.image.proofs.CursorLaws.Heads.{null_bytes}
use Rattle.blocks.specs.declared.state.Arriving.{Arriving}
use Rattle.blocks.specs.States.{opened, longed}
use Rattle.blocks.specs.Gives.{give_long}
use Rattle.blocks.specs.Streams.{Piece, byte, Stream, with, byte_pieces}
use Rattle.blocks.specs.Inner.Futures.{stream_long, stream_slots, future_in, future}
use Rattle.blocks.proofs.Ons.{On, future_from, from_goes}

bytes_append : (j : ℕ) (a b : List ℕ) → byte_pieces j (a ++ b) ≡ byte_pieces j a ++ byte_pieces j b
bytes_append j [] b = refl
bytes_append j (x ∷ a) b = ap (λ (l : List Piece). byte j x ∷ l) (bytes_append j a b)

with_bytes : (j : ℕ) (a b : List ℕ) (w : Stream) → with (byte_pieces j (a ++ b)) w ≡ with (byte_pieces j a) (with (byte_pieces j b) w)
with_bytes j a b w =
    ap (λ (l : List Piece). record { pieces = l; how = w.how })
    (ap (λ (l : List Piece). l ++ w.pieces) (bytes_append j a b) ∙ append_assoc (byte_pieces j a) (byte_pieces j b) w.pieces)

-- all of a long value, or a part of it, and then the rest
long_whole : (j left : ℕ) (f : List ℕ → ℕ → Stream) (s t : List ℕ) (o : ℕ) → left ≤ length s
    → stream_long j left f (s ++ t) o ≡ with (byte_pieces j (take left s)) (f (drop left s ++ t) (o + left))
unfolding stream_long
long_whole j left f s t o h =
    let m = length-append s t in
    rw (le-leb left (length (s ++ t)) (omega arith), take-append-le left s t h, drop-append-le left s t h)

long_part_lem : (j left : ℕ) (f : List ℕ → ℕ → Stream) (s t : List ℕ) (o : ℕ) → length s < left
    → stream_long j left f (s ++ t) o ≡ with (byte_pieces j s) (stream_long j (left - length s) f t (o + length s))
unfolding stream_long
long_part_lem j left f s t o h =
    let m = length-append s t in
    let k = left - length s in
    let e : left ≡ length s + k = omega arith in
    let z : o + left ≡ o + length s + k = omega arith in
    dite (dec_le left (length (s ++ t)))
    (λ (a : left ≤ length (s ++ t)).
    let b : take left (s ++ t) ≡ s ++ take k t = ap (λ (n : ℕ). take n (s ++ t)) e ∙ take-append-add s t k in
    let d : drop left (s ++ t) ≡ drop k t = ap (λ (n : ℕ). drop n (s ++ t)) e ∙ drop-append-add s t k in
    rw (le-leb left (length (s ++ t)) a, le-leb k (length t) (omega arith), b, d, z)
    (with_bytes j s (take k t) (f (drop k t) (o + length s + k))))
    (λ a.
    rw (lt-leb left (length (s ++ t)) (omega arith), lt-leb k (length t) (omega arith))
    (ap (λ (l : List Piece). record { pieces = l; how = refuse 9 j }) (bytes_append j s t)))

empty : (s : List ℕ) → length s ≡ 0 → s ≡ []
empty [] e = refl
empty (x ∷ s) e = absurd (omega arith)

module _ (r p : List ℕ) (column held left used : ℕ) (carry block t : List ℕ) (h : column < count_of r) (m : null_bytes r p ≤ length carry)
    (some : 0 < left) where
  abbrev nulls : ℕ
  nulls = null_bytes r p

  abbrev st : Arriving
  st = longed column held left used

  abbrev rest : List ℕ → ℕ → Stream
  rest = stream_slots (length carry - nulls) (slots_at r p (take nulls carry) (column + 1))

  -- behind the value
  next_on : (used' : ℕ) (s : List ℕ) → future r p nulls (opened (column + 1) nulls used') carry s
      ≡ stream_slots (length carry - nulls) (slots_at r p (take nulls carry) (column + 1)) s used'
  next_on used' s =
      let k = length-take-le nulls carry m in
      let o : used' + nulls - nulls ≡ used' = omega arith in
      let z : drop nulls (take nulls carry) ++ s ≡ s = sym (drop-append-le nulls (take nulls carry) s (omega arith)) ∙ drop_at
      (take nulls carry) s nulls k in
      future_from r p nulls (column + 1) nulls used' carry s
      ∙ from_goes r p (length carry - nulls) (column + 1) (used' + nulls - nulls) (take nulls carry) s (omega arith) (omega arith)
      ∙ rw (o, z)

  none_to_come : (stream_long column left rest [] used).pieces ≡ []
  unfolding stream_long
  none_to_come = rw (lt-leb left 0 some)

  pub long_on : On r p nulls block t (future r p nulls st carry (block ++ t)) (give_long nulls st carry block)
  unfolding give_long future_in
  long_on =
      dite (dec_le (length block) 0)
      (λ (a : length block ≤ 0). let e : length block ≡ 0 = omega arith in rw (eq-eqb (length block) 0 e)
      (refl, (empty block e, none_to_come)))
      (λ a.
      let e : length block ≡ 0 → ⊥ = λ z. absurd (omega arith) in
      dite (dec_le left (length block))
      (λ (b : left ≤ length block).
      rw (ne_eqb (length block) 0 e, le-leb left (length block) b) (
        long_whole column left rest block t used b ∙ ap (with (byte_pieces column (take left block)))
            (sym (next_on (used + left) (drop left block ++ t))),
        omega (arith, length-take-le left block b, some),
      ))
      (λ b.
      rw (ne_eqb (length block) 0 e, lt-leb left (length block) (omega arith)) (
        long_part_lem column left rest block t used (omega arith)
            ∙ ap (λ (l : List ℕ). with (byte_pieces column l) (stream_long column (left - length block) rest t (used + length block)))
            (sym (take-length block))
            ∙ ap (λ (l : List ℕ). with (byte_pieces column (take (length block) block))
            (stream_long column (left - length block) rest (l ++ t) (used + length block))) (sym (drop-length block)),
        omega
            (arith, ap length (take-length block)),
      )))

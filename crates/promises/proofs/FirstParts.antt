-- Request 4, from the laws of `temporal`. Assumes nothing.
use Prim.Native.Nat.{ℕ, ◌+◌, ◌≤◌}
use mathlib.Core.Path.{◌≡◌, refl, sym, subst, ◌∙◌}
use mathlib.Core.Bool.{true}
use mathlib.Core.List.{List}
use native.Mathlib.Omega.{arith}
use lib.ListN.{length, take, drop, length-drop}
use lib.Seq.{length-take-le}
use Rattle.wire.specs.declared.refusal.Refusal.{Refusal}
use Rattle.wire.specs.Number.{is_among}
use Rattle.wire.specs.Outcome.{refused, out_of}
use Rattle.wire.proofs.Inverse.{bytes_take, bytes_drop}
use Rattle.temporal.specs.declared.storage.Storage.{Storage}
use Rattle.temporal.specs.Reading.{temporal_size, temporal_fault, read_temporal}
use Rattle.temporal.specs.Firsts.{FirstOut, tellable}
use Rattle.temporal.proofs.Forms.{Refuses, short, out, read_refuses, refuses_read}
use Rattle.temporal.proofs.Firsts.{first_out, out_first, some_part, parts_told}
use Rattle.promises.specs.FirstParts.{FirstParts}

-- a refusal with a part is for a part out of range, and the part is the first
record Out (k : Storage) (s : List ℕ) (at part : ℕ) : Type 0 where
  there : at + temporal_size k ≤ length s
  not_clear : temporal_fault k (take (temporal_size k) (drop at s)) ≡ 0 → ⊥
  told : temporal_fault k (take (temporal_size k) (drop at s)) ≡ part

out_of_lem : (k : Storage) (place : ℕ) (s : List ℕ) (at part : ℕ) → read_temporal k place s at ≡ refused (out_of place part) → Out k s at part
out_of_lem k place s at part e = go (read_refuses k place s at (out_of place part) e) refl refl
  where
    go : {w : Refusal} → Refuses k place s at w → w.number ≡ 10 → w.part ≡ part → Out k s at part
    go (short h) n p = absurd (omega arith)
    go (out h z) n p = record { there = h; not_clear = z; told = p }

told_so : (k : Storage) (place : ℕ) (s : List ℕ) (at part : ℕ) → at + temporal_size k ≤ length s
    → FirstOut k (take (temporal_size k) (drop at s)) part
    → (part ≡ 0 → ⊥) → read_temporal k place s at ≡ refused (out_of place part)
told_so k place s at part h f n =
    let e = out_first f in
    refuses_read k place s at (out_of place part)
    (subst (λ (q : ℕ). Refuses k place s at (out_of place q)) e (out h (λ z. n (sym e ∙ z))))

pub first_parts : FirstParts
first_parts = record {
  first_part = λ k place s at part e.
      let x = out_of_lem k place s at part e in (
        x.there,
        subst (FirstOut k (take (temporal_size k) (drop at s))) x.told
            (first_out k (take (temporal_size k) (drop at s)) x.not_clear),
      );
  part_told = λ k place s at part h f. told_so k place s at part h f (λ z. let l = some_part f in omega (arith, l, z));
  one_part = λ k b p q f g. sym (out_first f) ∙ out_first g;
  parts_told = λ k place s at part b e.
      let x = out_of_lem k place s at part e in
      let bs = take (temporal_size k) (drop at s) in
      let n : length bs ≡ temporal_size k = length-take-le (temporal_size k) (drop at s) (omega (arith, length-drop at s, x.there)) in
      subst (λ (q : ℕ). is_among q (tellable k) ≡ true) x.told
      (parts_told k bs n (bytes_take (temporal_size k) (drop at s) (bytes_drop at s b)) x.not_clear);
}

-- Numbers cut out of eight bytes. Assumes nothing.
use Prim.Native.Nat.{ℕ, ◌+◌, ◌-◌, ◌*◌, ◌/◌, ◌%◌, ◌^◌, ◌≤◌, ◌<◌}
use mathlib.Core.Path.{◌≡◌, refl, sym, ap, subst, ◌∙◌}
use mathlib.Core.List.{List}
use native.Mathlib.Omega.{arith}
use lib.ListN.{length, take, drop, length-drop}
use lib.Seq.{length-take-le}
use Rattle.wire.specs.Number.{Bytes, le_value, le_bytes, be_value}
use Rattle.wire.proofs.Inverse.{bytes_take, bytes_drop, le_sound, le_bound, be_bound, le_runs, be_runs}
use Rattle.temporal.proofs.Units.{widths}

module _ (s : List ℕ) (b : Bytes s) where
  run_length : (at k : ℕ) → at + k ≤ length s → length (take k (drop at s)) ≡ k
  run_length at k h = length-take-le k (drop at s) (rw length-drop (omega arith))

  run_bytes : (at k : ℕ) → Bytes (take k (drop at s))
  run_bytes at k = bytes_take k (drop at s) (bytes_drop at s b)

  pub le_below : (at k : ℕ) → at + k ≤ length s → le_value (take k (drop at s)) < 256 ^ k
  le_below at k h =
      subst (λ (n : ℕ). le_value (take k (drop at s)) < 256 ^ n) (run_length at k h) (le_bound (take k (drop at s)) (run_bytes at k))

  pub be_below : (at k : ℕ) → at + k ≤ length s → be_value (take k (drop at s)) < 256 ^ k
  be_below at k h =
      subst (λ (n : ℕ). be_value (take k (drop at s)) < 256 ^ n) (run_length at k h) (be_bound (take k (drop at s)) (run_bytes at k))

  -- ---- the low bytes, the least significant first
  module _ (at x : ℕ) (h : at + 8 ≤ length s) (e : x ≡ le_value (take 8 (drop at s))) where
    pub low1 : x % 256 ≡ le_value (take 1 (drop at s))
    low1 = omega (arith, e, le_runs s at 1 7 (omega arith), le_below at 1 (omega arith))

    pub low2 : x % 65536 ≡ le_value (take 2 (drop at s))
    low2 = omega (arith, e, le_runs s at 2 6 (omega arith), le_below at 2 (omega arith))

    pub low3 : x % 16777216 ≡ le_value (take 3 (drop at s))
    low3 = omega (arith, e, le_runs s at 3 5 (omega arith), le_below at 3 (omega arith))

    pub low4 : x % 4294967296 ≡ le_value (take 4 (drop at s))
    low4 = omega (arith, e, le_runs s at 4 4 (omega arith), le_below at 4 (omega arith))

    -- ---- the eight bytes turned: they are those of the number, the least significant first
    turned_list : take 8 (drop at s) ≡ le_bytes 8 x
    turned_list =
        sym (le_sound (take 8 (drop at s)) (run_bytes at 8)) ∙ ap (λ (n : ℕ). le_bytes n (le_value (take 8 (drop at s)))) (run_length at 8 h)
        ∙ ap (le_bytes 8) (sym e)

    pub turned : (((x % 256 * 256 + x / 256 % 256) * 256 + x / 256 / 256 % 256) * 256 + x / 256 / 256 / 256 % 256) * 4294967296
        + (((x / 256 / 256 / 256 / 256 % 256 * 256 + x / 256 / 256 / 256 / 256 / 256 % 256) * 256
        + x / 256 / 256 / 256 / 256 / 256 / 256 % 256) * 256 + x / 256 / 256 / 256 / 256 / 256 / 256 / 256 % 256)
        ≡ be_value (take 8 (drop at s))
    unfolding le_bytes be_value le_value
    turned =
        let z : be_value (le_bytes 8 x)
        ≡ x / 256 / 256 / 256 / 256 / 256 / 256 / 256 % 256 + 256 * (x / 256 / 256 / 256 / 256 / 256 / 256 % 256
        + 256 * (x / 256 / 256 / 256 / 256 / 256 % 256 + 256 * (x / 256 / 256 / 256 / 256 % 256
        + 256 * (x / 256 / 256 / 256 % 256 + 256 * (x / 256 / 256 % 256 + 256 * (x / 256 % 256 + 256 * (x % 256 + 256 * 0)))))))
        = refl in
        sum (x % 256) (x / 256 % 256) (x / 256 / 256 % 256) (x / 256 / 256 / 256 % 256) (x / 256 / 256 / 256 / 256 % 256)
        (x / 256 / 256 / 256 / 256 / 256 % 256) (x / 256 / 256 / 256 / 256 / 256 / 256 % 256)
        (x / 256 / 256 / 256 / 256 / 256 / 256 / 256 % 256) ∙ sym z ∙ ap be_value (sym turned_list)
      where
        sum : (p q r t u v y w : ℕ)
            → (((p * 256 + q) * 256 + r) * 256 + t) * 4294967296 + (((u * 256 + v) * 256 + y) * 256 + w)
            ≡ w + 256 * (y + 256 * (v + 256 * (u + 256 * (t + 256 * (r + 256 * (q + 256 * (p + 256 * 0)))))))
        sum p q r t u v y w = omega arith

  -- ---- the first w of three bytes, the most significant first
  pub front : (at w : ℕ) → w ≤ 3 → at + 3 ≤ length s → be_value (take 3 (drop at s)) / 256 ^ (3 - w) ≡ be_value (take w (drop at s))
  unfolding be_value le_value
  front at w l h =
      widths (λ (k : ℕ). be_value (take 3 (drop at s)) / 256 ^ (3 - k) ≡ be_value (take k (drop at s)))
      (omega (arith, be_below at 3 h))
      (omega (arith, be_runs s at 1 2 (omega arith), be_below (at + 1) 2 (omega arith)))
      (omega (arith, be_runs s at 2 1 (omega arith), be_below (at + 2) 1 (omega arith)))
      (omega arith) w l

  -- ---- a whole part of 3, 4 or 5 bytes and the three bytes behind it, cut out of the number of all eight
  module _ (at x : ℕ) (h : at + 8 ≤ length s) (e : x ≡ be_value (take 8 (drop at s))) where
    pub whole4 : x / 4294967296 ≡ be_value (take 4 (drop at s))
    whole4 = omega (arith, e, be_runs s at 4 4 (omega arith), be_below (at + 4) 4 (omega arith))

    pub behind4 : x / 256 % 16777216 ≡ be_value (take 3 (drop (at + 4) s))
    behind4 =
        omega (
          arith,
          e,
          be_runs s at 4 4 (omega arith),
          be_runs s (at + 4) 3 1 (omega arith),
          be_below (at + 4) 3 (omega arith),
          be_below (at + 4 + 3) 1 (omega arith),
        )

    pub whole5 : x / 16777216 ≡ be_value (take 5 (drop at s))
    whole5 = omega (arith, e, be_runs s at 5 3 (omega arith), be_below (at + 5) 3 (omega arith))

    pub behind5 : x % 16777216 ≡ be_value (take 3 (drop (at + 5) s))
    behind5 = omega (arith, e, be_runs s at 5 3 (omega arith), be_below (at + 5) 3 (omega arith))

    -- of both together the last bytes of the three are left out, so that w of them stay
    pub both3 : x / 65536 ≡ be_value (take 3 (drop at s)) * 16777216 + be_value (take 3 (drop (at + 3) s))
    both3 =
        omega (
          arith,
          e,
          be_runs s at 3 5 (omega arith),
          be_runs s (at + 3) 3 2 (omega arith),
          be_below (at + 3 + 3) 2 (omega arith),
        )

    pub kept3 : (w : ℕ) → w ≤ 3
        → x / 65536 / 256 ^ (3 - w) * 256 ^ (3 - w)
        ≡ be_value (take 3 (drop at s)) * 16777216 + be_value (take w (drop (at + 3) s)) * 256 ^ (3 - w)
    kept3 w l =
        rw (sym (front (at + 3) w l (omega arith)), both3)
        (cut w l (be_value (take 3 (drop at s))) (be_value (take 3 (drop (at + 3) s))))
      where
        cut : (w : ℕ) → w ≤ 3 → (a t : ℕ)
            → (a * 16777216 + t) / 256 ^ (3 - w) * 256 ^ (3 - w) ≡ a * 16777216 + t / 256 ^ (3 - w) * 256 ^ (3 - w)
        cut = widths (λ (w : ℕ). (a t : ℕ)
            → (a * 16777216 + t) / 256 ^ (3 - w) * 256 ^ (3 - w) ≡ a * 16777216 + t / 256 ^ (3 - w) * 256 ^ (3 - w))
            (λ a t. omega arith) (λ a t. omega arith) (λ a t. omega arith) (λ a t. omega arith)

-- Stored forms, once for all storages: what a column can hold is read back from its bytes, wherever they stand; what was read can be held,
-- and stands there in just these bytes; which refusals there are, and why. Assumes nothing.
use Prim.Native.Nat.{ℕ, ◌+◌, ◌^◌, ◌≤◌, ◌<◌}
use mathlib.Core.Path.{◌≡◌, refl, sym, ap, ◌∙◌, subst}
use mathlib.Core.Bool.{Bool, true, false}
use mathlib.Core.List.{List, ◌++◌}
use native.Mathlib.Nat.{add-zero}
use native.Mathlib.Omega.{arith}
use borrow.Author.Tests.{le-leb, lt-leb, leb-true, leb-false, eq-eqb, ne_eqb, eqb-true, eqb-false}
use lib.ListN.{length, take, drop, length-append, length-drop, take-append-drop}
use lib.Seq.{take_at, drop_at, drop-append_seam, length-take-le, drop-append-le, take-append-le}
use lib.Dec.{leb, eqb}
use Rattle.wire.specs.declared.refusal.Refusal.{Refusal}
use Rattle.wire.specs.Outcome.{ok, refused, why, out_of}
use Rattle.wire.specs.Number.{Bytes, le_value, be_value, le_bytes, be_bytes}
use Rattle.wire.specs.Stored.{store, stored}
use Rattle.wire.proofs.Outcomes.{by_test, test_is_ok, test_refuses, ok_not_refused, same_refused}
use Rattle.wire.proofs.Bytes.{le_bytes_length, be_bytes_length}
use Rattle.wire.proofs.Inverse.{le_back, be_back, le_sound, be_sound, le_bound, be_bound, bytes_take, bytes_drop}
use Rattle.wire.proofs.Stores.{store_fits, store_full}
use Rattle.temporal.specs.declared.storage.Storage.{Storage}
use Rattle.temporal.specs.declared.storage.Storage.TheVariants.{Timestamp, OldTime, OldDatetime, Newdate, Timestamp2, Datetime2}
use Rattle.temporal.specs.declared.storage.Storage.TheVariants.{Time2}
use Rattle.temporal.specs.declared.parts.Temporal.{Temporal}
use Rattle.temporal.specs.Storage.{whole_bytes, fraction_size, is_big, whole_of, units_of}
use Rattle.temporal.specs.Domains.{temporal_domain}
use Rattle.temporal.specs.Reading.{temporal_size, whole_in, units_in, temporal_fault, temporal_decode, temporal_bytes, read_temporal}
use Rattle.temporal.specs.Reading.{write_temporal}
use Rattle.temporal.proofs.Units.{fraction_small}
use Rattle.temporal.proofs.Numbers.{number_law}
use Rattle.temporal.proofs.Steps.{little_whole}

-- ---- sizes: at least one byte, and at most eight
pub size_least : (k : Storage) → 0 < temporal_size k
unfolding temporal_size whole_bytes
size_least Timestamp = omega arith
size_least OldTime = omega arith
size_least OldDatetime = omega arith
size_least Newdate = omega arith
size_least (Timestamp2 m0) = omega arith
size_least (Datetime2 m0) = omega arith
size_least (Time2 m0) = omega arith

-- at most eight
pub size_most : (k : Storage) → temporal_size k ≤ 8
unfolding temporal_size whole_bytes fraction_size
size_most Timestamp = omega arith
size_most OldTime = omega arith
size_most OldDatetime = omega arith
size_most Newdate = omega arith
size_most (Timestamp2 m0) = omega (arith, fraction_small m0)
size_most (Datetime2 m0) = omega (arith, fraction_small m0)
size_most (Time2 m0) = omega (arith, fraction_small m0)

-- ---- of the bytes alone
module _ (k : Storage) where
  -- every stored form of a storage has the storage's size
  sized_by : (b : Bool) → is_big k ≡ b → (t : Temporal) → length (temporal_bytes k t) ≡ temporal_size k
  unfolding temporal_bytes temporal_size
  sized_by true e t = rw (e, length-append, be_bytes_length (whole_bytes k) (whole_of k t), be_bytes_length (fraction_size k) (units_of k t))
  sized_by false e t = rw (e, le_bytes_length (whole_bytes k) (whole_of k t), little_whole k e, add-zero (whole_bytes k))

  -- of every temporal
  pub sized : (t : Temporal) → length (temporal_bytes k t) ≡ temporal_size k
  sized = sized_by (is_big k) refl

  -- the two numbers of a stored form are those that were stored
  numbers_by : (b : Bool) → is_big k ≡ b → (t : Temporal) → whole_of k t < 256 ^ whole_bytes k → units_of k t < 256 ^ fraction_size k
      → (whole_in k (temporal_bytes k t) ≡ whole_of k t) × (units_in k (temporal_bytes k t) ≡ units_of k t)
  unfolding temporal_bytes whole_in units_in
  numbers_by true e t g h =
      let x = be_bytes (whole_bytes k) (whole_of k t) in
      let y = be_bytes (fraction_size k) (units_of k t) in
      let n = be_bytes_length (whole_bytes k) (whole_of k t) in
      rw e (
        ap be_value (take_at x y (whole_bytes k) n) ∙ be_back (whole_bytes k) (whole_of k t) g,
        ap be_value (drop_at x y (whole_bytes k) n) ∙ be_back (fraction_size k) (units_of k t) h,
      )
  numbers_by false e t g h =
      let z : units_of k t < 256 ^ 0 = rw (little_whole k e) at h in
      rw e (le_back (whole_bytes k) (whole_of k t) g, omega arith)

  -- what can be held is read back, with no part out of range
  pub back : (t : Temporal) → temporal_domain k t ≡ true
      → (temporal_fault k (temporal_bytes k t) ≡ 0) × (temporal_decode k (temporal_bytes k t) ≡ t)
  unfolding temporal_fault temporal_decode
  back t d =
      let l = (number_law k).back t d in
      let n = numbers_by (is_big k) refl t l.1 l.2 in
      rw (n.0, n.1) (l.0, l.3)

  -- no two that can be held have the same form
  pub same_form : (t u : Temporal) → temporal_domain k t ≡ true → temporal_domain k u ≡ true → temporal_bytes k t ≡ temporal_bytes k u → t ≡ u
  same_form t u d e p = sym (back t d).1 ∙ ap (temporal_decode k) p ∙ (back u e).1

  -- the numbers of a form's bytes are of so many bytes, and their bytes are these
  record Numbers (b : List ℕ) : Type 0 where
    whole : whole_in k b < 256 ^ whole_bytes k
    units : units_in k b < 256 ^ fraction_size k
    again : (t : Temporal) → whole_of k t ≡ whole_in k b → units_of k t ≡ units_in k b → temporal_bytes k t ≡ b

  numbers_of : (big : Bool) → is_big k ≡ big → (b : List ℕ) → length b ≡ temporal_size k → Bytes b → Numbers b
  unfolding temporal_bytes whole_in units_in temporal_size
  numbers_of true e b n h =
      let m = whole_bytes k in
      let w = fraction_size k in
      let n₁ : length (take m b) ≡ m = length-take-le m b (omega arith) in
      let n₂ : length (drop m b) ≡ w = length-drop m b ∙ omega arith in
      let b₁ = bytes_take m b h in
      let b₂ = bytes_drop m b h in
      let p : be_bytes m (be_value (take m b)) ≡ take m b = rw n₁ at (be_sound (take m b) b₁) in
      let q : be_bytes w (be_value (drop m b)) ≡ drop m b = rw n₂ at (be_sound (drop m b) b₂) in
      record {
        whole = rw e (rw n₁ at (be_bound (take m b) b₁));
        units = rw e (rw n₂ at (be_bound (drop m b) b₂));
        again = λ t x y.
            let x₁ : whole_of k t ≡ be_value (take m b) = rw e at x in
            let y₁ : units_of k t ≡ be_value (drop m b) = rw e at y in
            rw (e, x₁, y₁, p, q) (take-append-drop m b);
      }
  numbers_of false e b n h =
      let m = whole_bytes k in
      let n₁ : length b ≡ m = rw (little_whole k e, add-zero m) at n in
      let p : le_bytes m (le_value b) ≡ b = rw n₁ at (le_sound b h) in
      record {
        whole = rw e (rw n₁ at (le_bound b h));
        units = rw (e, little_whole k e) (omega arith);
        again = λ t x y.
            let x₁ : whole_of k t ≡ le_value b = rw e at x in
            rw (e, x₁, p);
      }

  pub units_few : (b : List ℕ) → length b ≡ temporal_size k → Bytes b → units_in k b < 256 ^ fraction_size k
  units_few b n h = (numbers_of (is_big k) refl b n h).units

  -- what bytes say with no part out of range can be held, and is stored as just these bytes
  pub sound : (b : List ℕ) → length b ≡ temporal_size k → Bytes b → temporal_fault k b ≡ 0
      → (temporal_domain k (temporal_decode k b) ≡ true) × (temporal_bytes k (temporal_decode k b) ≡ b)
  unfolding temporal_fault temporal_decode
  sound b n h z =
      let m = numbers_of (is_big k) refl b n h in
      let l = (number_law k).sound (whole_in k b) (units_in k b) m.whole m.units z in
      (l.0, m.again (temporal_decode k b) l.1 l.2)

-- ---- at a place; `place` is what a refusal tells
module _ (k : Storage) (place : ℕ) where
  -- the bytes at the place, all there
  abbrev at_place : List ℕ → ℕ → List ℕ
  at_place s at = take (temporal_size k) (drop at s)

  -- what is stored is read back, at any place and with anything behind it
  pub read_back : (pre rest : List ℕ) (t : Temporal) → temporal_domain k t ≡ true
      → read_temporal k place (pre ++ (temporal_bytes k t ++ rest)) (length pre) ≡ ok (t, length pre + temporal_size k)
  unfolding read_temporal
  read_back pre rest t d =
      let n = sized k t in
      let b = back k t d in
      let h : length pre + temporal_size k ≤ length (pre ++ (temporal_bytes k t ++ rest)) = simp (length-append, n) (omega arith) in
      rw (le-leb _ _ h, drop-append_seam, take_at (temporal_bytes k t) rest (temporal_size k) n, b.1, eq-eqb _ _ b.0)

  -- and from a buffer that it was stored in
  pub read_stored : (d : List ℕ) (at : ℕ) (t : Temporal) → temporal_domain k t ≡ true → at + temporal_size k ≤ length d
      → read_temporal k place (stored (temporal_bytes k t) d at) at ≡ ok (t, at + temporal_size k)
  unfolding stored
  read_stored d at t g r =
      let n : length (take at d) ≡ at = length-take-le at d (omega arith) in
      rw n at (read_back (take at d) (drop (at + length (temporal_bytes k t)) d) t g)

  -- and from what the writer leaves, at the place where it wrote, up to the place that it answers
  pub read_written : (d : List ℕ) (at : ℕ) (t : Temporal) (other next : ℕ) (left : List ℕ) → write_temporal k other t d at ≡ ok (next, left)
      → read_temporal k place left at ≡ ok (t, next)
  unfolding write_temporal store
  read_written d at t other next left e =
      by_test (temporal_domain k t) _ _ _ e
      (λ g e₁.
      let w =
      test_is_ok (leb (at + length (temporal_bytes k t)) (length d)) (at + length (temporal_bytes k t), stored (temporal_bytes k t) d at)
      (why 8 0) (next, left) e₁ in
      let r = leb-true (at + length (temporal_bytes k t)) (length d) w.0 in
      let n : at + temporal_size k ≡ next = ap (λ (m : ℕ). at + m) (sym (sized k t)) ∙ ap (λ (x : ℕ × List ℕ). x.0) w.1 in
      let l : stored (temporal_bytes k t) d at ≡ left = ap (λ (x : ℕ × List ℕ). x.1) w.1 in
      subst (λ (x : List ℕ). read_temporal k place x at ≡ ok (t, next)) l
      (read_stored d at t g (omega (arith, sized k t)) ∙ ap (λ (m : ℕ). ok (t, m)) n))
      (λ g e₁. absurd (ok_not_refused (sym e₁)))

  -- what was read: the bytes are all there, no part of them is out of range, and they say it
  pub record Reads (s : List ℕ) (at : ℕ) (t : Temporal) (next : ℕ) : Type 0 where
    pub there : at + temporal_size k ≤ length s
    pub clear : temporal_fault k (at_place s at) ≡ 0
    pub says : temporal_decode k (at_place s at) ≡ t
    pub ends : next ≡ at + temporal_size k

  -- from the answer
  pub read_says : (s : List ℕ) (at : ℕ) (t : Temporal) (next : ℕ) → read_temporal k place s at ≡ ok (t, next) → Reads s at t next
  unfolding read_temporal
  read_says s at t next e =
      by_test (leb (at + temporal_size k) (length s)) _ _ _ e
      (λ h e₁.
      let w =
      test_is_ok (eqb (temporal_fault k (at_place s at)) 0) (temporal_decode k (at_place s at), at + temporal_size k)
      (out_of place (temporal_fault k (at_place s at))) (t, next) e₁ in
      record {
        there = leb-true (at + temporal_size k) (length s) h;
        clear = eqb-true (temporal_fault k (at_place s at)) 0 w.0;
        says = ap (λ (x : Temporal × ℕ). x.0) w.1;
        ends = sym (ap (λ (x : Temporal × ℕ). x.1) w.1);
      })
      (λ h e₁. absurd (ok_not_refused (sym e₁)))

  -- reading moves on, and never ends past the bytes
  pub read_moves : (s : List ℕ) (at : ℕ) (t : Temporal) (next : ℕ) → read_temporal k place s at ≡ ok (t, next)
      → (at < next) × (next ≤ length s)
  read_moves s at t next e =
      let r = read_says s at t next e in
      (omega (arith, size_least k), omega arith)

  -- what was read can be held, and its stored form is what stands at the place
  pub read_sound : (s : List ℕ) (at : ℕ) (t : Temporal) (next : ℕ) → Bytes s → read_temporal k place s at ≡ ok (t, next)
      → (temporal_domain k t ≡ true) × (take (temporal_size k) (drop at s) ≡ temporal_bytes k t) × (next ≡ at + temporal_size k)
  read_sound s at t next b e =
      let r = read_says s at t next e in
      let n : length (at_place s at) ≡ temporal_size k = length-take-le (temporal_size k) (drop at s) (omega (arith, length-drop at s)) in
      let x = sound k (at_place s at) n (bytes_take (temporal_size k) (drop at s) (bytes_drop at s b)) r.clear in
      (subst (λ (y : Temporal). temporal_domain k y ≡ true) r.says x.0, sym x.1 ∙ ap (temporal_bytes k) r.says, r.ends)

  -- where the bytes are all there, what stands behind them changes nothing
  pub read_more : (s more : List ℕ) (at : ℕ) → at + temporal_size k ≤ length s
      → read_temporal k place (s ++ more) at ≡ read_temporal k place s at
  unfolding read_temporal
  read_more s more at h =
      let n : temporal_size k ≤ length (drop at s) = rw length-drop (omega arith) in
      let l : take (temporal_size k) (drop at (s ++ more)) ≡ take (temporal_size k) (drop at s) =
      rw (drop-append-le at s more (omega arith)) (take-append-le (temporal_size k) (drop at s) more n) in
      let m : at + temporal_size k ≤ length (s ++ more) = rw length-append (omega arith) in
      rw (le-leb _ _ m, le-leb _ _ h, l)

  -- ---- a reader's refusals: 9 where bytes are missing and nowhere else, 10 where a part is out of range and nowhere else
  pub data Refuses (s : List ℕ) (at : ℕ) : Refusal → Type 0 where
    short : length s < at + temporal_size k → Refuses s at (why 9 place)
    out : at + temporal_size k ≤ length s → (temporal_fault k (take (temporal_size k) (drop at s)) ≡ 0 → ⊥)
        → Refuses s at (out_of place (temporal_fault k (take (temporal_size k) (drop at s))))

  -- each refusal has its reason
  pub read_refuses : (s : List ℕ) (at : ℕ) (w : Refusal) → read_temporal k place s at ≡ refused w → Refuses s at w
  unfolding read_temporal
  read_refuses s at w e =
      by_test (leb (at + temporal_size k) (length s)) _ _ _ e
      (λ h e₁.
      let x =
      test_refuses (eqb (temporal_fault k (at_place s at)) 0) (temporal_decode k (at_place s at), at + temporal_size k)
      (out_of place (temporal_fault k (at_place s at))) w e₁ in
      subst (Refuses s at) x.1
      (out (leb-true (at + temporal_size k) (length s) h) (eqb-false (temporal_fault k (at_place s at)) 0 x.0)))
      (λ h e₁. subst (Refuses s at) (same_refused e₁) (short (leb-false (at + temporal_size k) (length s) h)))

  -- and each reason its refusal
  pub refuses_read : (s : List ℕ) (at : ℕ) (w : Refusal) → Refuses s at w → read_temporal k place s at ≡ refused w
  unfolding read_temporal
  refuses_read s at w (short h) = rw (lt-leb (at + temporal_size k) (length s) h)
  refuses_read s at w (out h z) = rw (le-leb (at + temporal_size k) (length s) h, ne_eqb (temporal_fault k (at_place s at)) 0 z)

  -- ---- a writer's refusals: 13 where the column cannot hold it and nowhere else, then 8 where there is no room
  pub data NotWritten (d : List ℕ) (at : ℕ) (t : Temporal) : Refusal → Type 0 where
    alien : temporal_domain k t ≡ false → NotWritten d at t (why 13 place)
    full : temporal_domain k t ≡ true → length d < at + temporal_size k → NotWritten d at t (why 8 0)

  -- each refusal has its reason
  pub write_refuses : (d : List ℕ) (at : ℕ) (t : Temporal) (w : Refusal) → write_temporal k place t d at ≡ refused w → NotWritten d at t w
  unfolding write_temporal store
  write_refuses d at t w e =
      by_test (temporal_domain k t) _ _ _ e
      (λ g e₁.
      let x =
      test_refuses (leb (at + length (temporal_bytes k t)) (length d)) (at + length (temporal_bytes k t), stored (temporal_bytes k t) d at)
      (why 8 0) w e₁ in
      let r = leb-false (at + length (temporal_bytes k t)) (length d) x.0 in
      subst (NotWritten d at t) x.1 (full g (omega (arith, sized k t))))
      (λ g e₁. subst (NotWritten d at t) (same_refused e₁) (alien g))

  -- and each reason its refusal
  pub refuses_write : (d : List ℕ) (at : ℕ) (t : Temporal) (w : Refusal) → NotWritten d at t w → write_temporal k place t d at ≡ refused w
  unfolding write_temporal
  refuses_write d at t w (alien g) = rw g
  refuses_write d at t w (full g h) = rw g (store_full d (temporal_bytes k t) at (omega (arith, sized k t)))

  -- and where neither, all of it is written
  pub written : (d : List ℕ) (at : ℕ) (t : Temporal) → temporal_domain k t ≡ true → at + temporal_size k ≤ length d
      → write_temporal k place t d at ≡ ok (at + temporal_size k, stored (temporal_bytes k t) d at)
  unfolding write_temporal
  written d at t g h =
      rw g (store_fits d (temporal_bytes k t) at (omega (arith, sized k t))
      ∙ ap (λ (n : ℕ). ok (at + n, stored (temporal_bytes k t) d at)) (sized k t))

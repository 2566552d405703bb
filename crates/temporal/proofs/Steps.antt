-- What the functions of the crate do, step by step, is what the definitions say. Assumes nothing.
use Rattle.std.specs.Prelude.{Result, Ok, Err}
use Prim.Native.Nat.{ℕ, zero, suc, ◌+◌, ◌^◌, ◌≤◌, ◌<◌, min}
use mathlib.Core.Path.{◌≡◌, refl, sym}
use mathlib.Core.Bool.{Bool, true, false, cond, true≢false}
use mathlib.Core.List.{List, [], ◌∷◌, ◌++◌}
use native.Mathlib.Nat.{zero-add, suc-add, add-zero, min-eq_left}
use native.Mathlib.Omega.{arith}
use borrow.Author.Tests.{le-leb, lt-leb, leb-true, leb-false}
use lib.ListN.{length, take, drop}
use lib.Seq.{take-take, drop-drop, take-nil}
use lib.Dec.{eqb, leb}
use Rattle.wire.specs.declared.refusal.Refusal.{Refusal}
use Rattle.wire.specs.Outcome.{Outcome, ok, refuse, refused, why, out_of}
use Rattle.wire.proofs.Outcomes.{test_is_ok, test_refuses}
use Rattle.wire.specs.Number.{le_value, be_value, le_bytes, be_bytes}
use Rattle.wire.specs.Stored.{answer_of, left_of}
use Rattle.wire.proofs.Stores.{Wrote}
use Rattle.temporal.specs.declared.storage.Storage.{Storage}
use Rattle.temporal.specs.declared.storage.Storage.TheVariants.{Timestamp, OldTime, OldDatetime, Newdate, Timestamp2, Datetime2}
use Rattle.temporal.specs.declared.storage.Storage.TheVariants.{Time2}
use Rattle.temporal.specs.declared.parts.Temporal.{Temporal}
use Rattle.temporal.specs.Storage.{whole_bytes, fraction_size, is_big, temporal_of, fault_of, whole_of, units_of}
use Rattle.temporal.specs.Inner.Ranged.{ranged, ranged_told}
use Rattle.temporal.specs.Domains.{temporal_domain}
use Rattle.temporal.specs.Reading.{temporal_size, whole_in, units_in, temporal_fault, temporal_decode, temporal_bytes, read_temporal}
use Rattle.temporal.specs.Reading.{write_temporal}

-- ---- the bytes of an image are there up to their end, or they end early
pub ends : (s : List ℕ) (at n place next : ℕ) → cond (leb (at + n) (length s)) (ok (at + n)) (refuse 9 place) ≡ ok next
    → (at + n ≤ length s) × (next ≡ at + n)
ends s at n place next e = let x = test_is_ok (leb (at + n) (length s)) (at + n) _ next e in (leb-true _ _ x.0, sym x.1)

pub ends_not : (s : List ℕ) (at n place : ℕ) (w : Refusal) → cond (leb (at + n) (length s)) (ok (at + n)) (refuse 9 place) ≡ refused w
    → (length s < at + n) × (w ≡ why 9 place)
ends_not s at n place w e = let x = test_refuses (leb (at + n) (length s)) (at + n) _ w e in (leb-false _ _ x.0, sym x.1)

-- ---- the two numbers of the bytes at a place
-- the part after k bytes, of k + w
drop_take : (k w : ℕ) (l : List ℕ) → drop k (take (k + w) l) ≡ take w (drop k l)
drop_take zero w l = rw zero-add
drop_take (suc k) w [] = rw (suc-add k w) (sym (take-nil w))
drop_take (suc k) w (x ∷ l) = rw (suc-add k w) (drop_take k w l)

-- what is stored the least significant byte first has no fraction
pub little_whole : (k : Storage) → is_big k ≡ false → fraction_size k ≡ 0
unfolding is_big fraction_size
little_whole Timestamp e = refl
little_whole OldTime e = refl
little_whole OldDatetime e = refl
little_whole Newdate e = refl
little_whole (Timestamp2 m0) e = absurd (true≢false e)
little_whole (Datetime2 m0) e = absurd (true≢false e)
little_whole (Time2 m0) e = absurd (true≢false e)

module _ (storage : Storage) (s : List ℕ) (at r : ℕ) where
  -- the whole part, the most significant byte first
  pub whole_big : (k : ℕ) → k ≡ whole_bytes storage → k ≤ 8 → is_big storage ≡ true → r ≡ be_value (take (min k 8) (drop at s))
      → r < 256 ^ min k 8
      → (r ≡ whole_in storage (take (temporal_size storage) (drop at s))) × (r < 256 ^ whole_bytes storage)
  unfolding whole_in temporal_size
  whole_big k e h b p q =
      let p₁ : r ≡ be_value (take k (drop at s)) = rw (min-eq_left h) at p in
      let q₁ : r < 256 ^ k = rw (min-eq_left h) at q in
      rw (b, ← e, take-take k (k + fraction_size storage) (drop at s) (omega arith)) (p₁, q₁)

  -- the whole part, the least significant byte first
  pub whole_little : (k : ℕ) → k ≡ whole_bytes storage → k ≤ 8 → is_big storage ≡ false → r ≡ le_value (take (min k 8) (drop at s))
      → r < 256 ^ min k 8
      → (r ≡ whole_in storage (take (temporal_size storage) (drop at s))) × (r < 256 ^ whole_bytes storage)
  unfolding whole_in temporal_size
  whole_little k e h b p q =
      let p₁ : r ≡ le_value (take k (drop at s)) = rw (min-eq_left h) at p in
      let q₁ : r < 256 ^ k = rw (min-eq_left h) at q in
      rw (b, ← e, little_whole storage b, add-zero k) (p₁, q₁)

  -- the fraction behind it
  pub units_big : (k w : ℕ) → k ≡ whole_bytes storage → w ≡ fraction_size storage → w ≤ 3 → is_big storage ≡ true
      → r ≡ be_value (take (min w 8) (drop (at + k) s)) → r < 256 ^ min w 8
      → (r ≡ units_in storage (take (temporal_size storage) (drop at s))) × (r < 256 ^ fraction_size storage)
  unfolding units_in temporal_size
  units_big k w e f h b p q =
      let l : w ≤ 8 = omega arith in
      let p₁ : r ≡ be_value (take w (drop (at + k) s)) = rw (min-eq_left l) at p in
      let q₁ : r < 256 ^ w = rw (min-eq_left l) at q in
      rw (b, ← e, ← f, drop_take k w (drop at s), drop-drop k at s) (p₁, q₁)

-- no fraction
pub units_little : (storage : Storage) (b : List ℕ) → is_big storage ≡ false → (0 ≡ units_in storage b) × (0 < 256 ^ fraction_size storage)
unfolding units_in
units_little storage b e = rw (e, little_whole storage e) (refl, omega arith)

-- ---- what was judged is what is read
-- a judgement, told: by its test
told_by : (b : Bool) (place part : ℕ) (t : Temporal) (next : ℕ)
    → ranged_told (cond b (Ok t) (Err part)) next place ≡ cond b (ok (t, next)) (refused (out_of place part))
told_by true place part t next = refl
told_by false place part t next = refl

module _ (storage : Storage) (place : ℕ) (s : List ℕ) (at a f : ℕ) (there : at + temporal_size storage ≤ length s)
    (x : a ≡ whole_in storage (take (temporal_size storage) (drop at s))) (y : f ≡ units_in storage (take (temporal_size storage) (drop at s)))
  where
    pub read_judged : (r : Result Temporal ℕ) → r ≡ ranged (fault_of storage a f) (temporal_of storage a f)
        → ranged_told r (at + temporal_size storage) place ≡ read_temporal storage place s at
    unfolding read_temporal temporal_fault temporal_decode
    read_judged r e =
        rw (e, le-leb _ _ there, ← x, ← y) (told_by (eqb (fault_of storage a f) 0) place (fault_of storage a f) (temporal_of storage a f) _)

    -- all parts in range
    pub read_in : (t : Temporal) → ranged (fault_of storage a f) (temporal_of storage a f) ≡ Ok t
        → read_temporal storage place s at ≡ ok (t, at + temporal_size storage)
    read_in t e = sym (read_judged (Ok t) (sym e))

    -- one that is not
    pub read_out : (n : ℕ) → ranged (fault_of storage a f) (temporal_of storage a f) ≡ Err n
        → read_temporal storage place s at ≡ refused (out_of place n)
    read_out n e = sym (read_judged (Err n) (sym e))

-- bytes missing
pub read_short : (storage : Storage) (place : ℕ) (s : List ℕ) (at : ℕ) → length s < at + temporal_size storage
    → read_temporal storage place s at ≡ refuse 9 place
unfolding read_temporal
read_short storage place s at h = rw (lt-leb _ _ h)

-- ---- what was written is what is to be written
-- the answer r and the buffer x of a writer of a temporal
abbrev pub Writes : Storage → ℕ → List ℕ → ℕ → Temporal → Outcome ℕ → List ℕ → Type 0
Writes storage place d at t r x =
    (r ≡ answer_of (write_temporal storage place t d at)) × (x ≡ left_of (write_temporal storage place t d at) d)

module _ (storage : Storage) (place : ℕ) (d : List ℕ) (at : ℕ) (t : Temporal) where
  -- two numbers, the most significant byte first
  pub write_big : (r : Outcome ℕ) (x : List ℕ) (k w a f : ℕ) → temporal_domain storage t ≡ true → is_big storage ≡ true → k ≡ whole_bytes storage
      → w ≡ fraction_size storage
      → a ≡ whole_of storage t → f ≡ units_of storage t → Wrote d at (be_bytes k a ++ be_bytes w f) r x → Writes storage place d at t r x
  unfolding write_temporal temporal_bytes
  write_big r x k w a f g b ek ew ea ef o = rw (g, b, ← ek, ← ew, ← ea, ← ef) (o.0, o.1)

  -- one number, the least significant byte first
  pub write_little : (r : Outcome ℕ) (x : List ℕ) (k a : ℕ) → temporal_domain storage t ≡ true → is_big storage ≡ false → k ≡ whole_bytes storage
      → k ≤ 8
      → a ≡ whole_of storage t → Wrote d at (le_bytes (min k 8) a) r x → Writes storage place d at t r x
  unfolding write_temporal temporal_bytes
  write_little r x k a g b ek h ea o =
      let p : Wrote d at (le_bytes k a) r x = rw (min-eq_left h) at o in
      rw (g, b, ← ek, ← ea) (p.0, p.1)

  -- what the column cannot hold
  pub write_none : temporal_domain storage t ≡ false → write_temporal storage place t d at ≡ refuse 13 place
  unfolding write_temporal
  write_none g = rw g

-- Present columns rise, so whatever a reading is refused for stands at a column no earlier than its first. Assumes nothing.
use Prim.Native.Nat.{ℕ, zero, suc, ◌+◌, ◌≤◌}
use mathlib.Core.Path.{◌≡◌, refl}
use mathlib.Core.Bool.{Bool, true, false, cond}
use mathlib.Core.List.{List, [], ◌∷◌}
use native.Mathlib.Omega.{arith}
use lib.ListN.{drop}
use Rattle.wire.specs.declared.refusal.Refusal.{Refusal}
use Rattle.wire.specs.Outcome.{Outcome, ok, refused, why}
use Rattle.wire.specs.Bits.{bit_lsb0}
use Rattle.value.specs.declared.shape.Shape.{Shape}
use Rattle.value.specs.Data.{Datum}
use Rattle.value.specs.Reading.{Fails, short, range}
use Rattle.image.specs.Present.{Present, present_from}
use Rattle.image.specs.Split.{Slot, slots}
use Rattle.image.specs.Walk.{read_slot, answered, read_slots}
use Rattle.image.specs.Grown.{Later, answer, nine, ten}
use Rattle.image.proofs.PresenceLaws.Firsts.{present_at}
use Rattle.image.proofs.StepLaws.Slots.{slot_fails}
use Rattle.image.proofs.StepLaws.Splits.{Each, Good}

-- no column before j, and each no earlier than the one before it
unfoldable pub Rising : ℕ → List Present → Type 0
Rising j [] = Unit {0}
Rising j (c ∷ cs) = (j ≤ c.column) × Rising c.column cs

pub rising_less : (j k : ℕ) (cs : List Present) → j ≤ k → Rising k cs → Rising j cs
unfolding Rising
rising_less j k [] h u = tt
rising_less j k (c ∷ cs) h u = (omega (arith, u.0), u.1)

pub rising_from : (m : ℕ) (r p : List ℕ) (j : ℕ) → Rising j (present_from m r p j)
unfolding Rising present_from
rising_from zero r p j = tt
rising_from (suc m) r p j =
    go (rising_less j (suc j) (present_from m r p (suc j)) (omega arith) (rising_from m r p (suc j))) (bit_lsb0 p j)
  where
    go : Rising j (present_from m r p (suc j)) → (b : Bool)
        → Rising j (cond b (present_at r j ∷ present_from m r p (suc j)) (present_from m r p (suc j)))
    go u true = (omega arith, u)
    go u false = u

-- ---- refusals
pub fails_later : {A : Type 0} {sh : Shape} {s : List ℕ} {p : ℕ} {w : Refusal} (j : ℕ) → j ≤ p → Fails sh s p w
    → Later {A = A} j (refused w)
fails_later j h (short l) = nine _ h
fails_later j h (range l e) = ten _ _ h

-- one whose number is 9 is told at the column, of no part
pub fails_nine : {sh : Shape} {s : List ℕ} {p : ℕ} {w : Refusal} → Fails sh s p w → w.number ≡ 9 → w ≡ why 9 p
fails_nine (short l) e = refl
fails_nine (range l z) e = absurd (omega arith)

pub later_read : (cs : List Present) (k j : ℕ) (nulls s : List ℕ) (o : ℕ) → Each Good cs → Rising j cs
    → Later j (read_slots (slots cs k nulls) s o).how
unfolding read_slots slots Each Rising
later_read [] k j nulls s o g u = answer o
later_read (c ∷ cs) k j nulls s o g u =
    go (λ n. later_read cs (suc k) j nulls (drop n s) (o + n) g.1 (rising_less j c.column cs u.0 u.1)) (read_slot i s) refl
  where
    i : Slot
    i = record { present = c; null = bit_lsb0 nulls k }

    go : ((n : ℕ) → Later j (read_slots (slots cs (suc k) nulls) (drop n s) (o + n)).how) → (x : Outcome (Datum × ℕ)) → read_slot i s ≡ x
        → Later j (answered c.column (λ n. read_slots (slots cs (suc k) nulls) (drop n s) (o + n)) x).how
    go f (ok x) e = f x.1
    go f (refused w) e = fails_later j u.0 (slot_fails i s w g.0.taken e).1

-- The other way: a value that was made has the sort and the parts that it was made of, so no two sorts or parts stand for one value.
-- Assumes nothing.
use Prim.Native.Nat.{ℕ, zero, suc, ◌^◌, ◌≤◌}
use mathlib.Core.Path.{◌≡◌, refl, sym, ap, subst, ◌∙◌}
use mathlib.Core.Bool.{true, cond, ◌&&◌, true≢false}
use mathlib.Core.List.{List, [], ◌∷◌}
use native.Mathlib.Omega.{arith}
use borrow.Author.Tests.{leb-true}
use lib.ListN.{length, get_or, take}
use lib.Dec.{leb, eqb}
use Rattle.wire.specs.Outcome.{ok, why}
use Rattle.wire.proofs.Outcomes.{test_is_ok, both_true}
use Rattle.wire.proofs.Signs.{signs_sound}
use Rattle.value.specs.declared.datum.Value.{Value}
use Rattle.value_parts.specs.Parts.{sort_of, parts_of, tops_of, fit, makes_value, made, value_of}
use Rattle.value_parts.proofs.Takes.{fit_at}

-- ---- parts that fit, one by one
abbrev listed : ℕ → ℕ → List ℕ → List ℕ
listed zero i ps = []
listed (suc n) i ps = get_or ps i 0 ∷ listed n (suc i) ps

listed_behind : (n i p : ℕ) (ps : List ℕ) → listed n (suc i) (p ∷ ps) ≡ listed n i ps
listed_behind zero i p ps = refl
listed_behind (suc n) i p ps = ap (λ (l : List ℕ). get_or ps i 0 ∷ l) (listed_behind n (suc i) p ps)

fit_listed : (ts ps : List ℕ) → fit ts ps ≡ true → take (length ts) ps ≡ listed (length ts) 0 ps
unfolding fit
fit_listed [] ps h = refl
fit_listed (t ∷ ts) [] h = absurd (true≢false (sym h))
fit_listed (t ∷ ts) (p ∷ ps) h =
    ap (λ (l : List ℕ). p ∷ l) (fit_listed ts ps (both_true (leb p t) (fit ts ps) h).1 ∙ sym (listed_behind (length ts) 0 p ps))

-- ---- what a sort makes of parts that fit it
abbrev MadeFrom : ℕ → Type 0
MadeFrom k = (ps : List ℕ) → fit (tops_of k) ps ≡ true → (sort_of (made k ps) ≡ k) × (parts_of (made k ps) ≡ take (length (tops_of k)) ps)

made_int : MadeFrom 2
unfolding sort_of parts_of made tops_of
made_int ps h =
    let a : get_or ps 0 0 ≤ 18446744073709551615 = fit_at (tops_of 2) ps 0 h (omega arith) in
    let w = signs_sound (2 ^ 64) (get_or ps 0 0) refl (omega arith) in
    (refl, ap (λ (x : ℕ). x ∷ []) w.1 ∙ sym (fit_listed (tops_of 2) ps h))

sign_made : (p : ℕ) → p ≤ 1 → cond (eqb p 1) 1 0 ≡ p
sign_made zero h = refl
sign_made (suc zero) h = refl
sign_made (suc (suc n)) h = absurd (omega arith)

made_time_lem : MadeFrom 10
unfolding sort_of parts_of made tops_of
made_time_lem ps h =
    let a : get_or ps 0 0 ≤ 1 = fit_at (tops_of 10) ps 0 h (omega arith) in
    (refl, ap (λ (x : ℕ). x ∷ listed 4 1 ps) (sign_made (get_or ps 0 0) a) ∙ sym (fit_listed (tops_of 10) ps h))

-- ---- all sorts
made_any : (k : ℕ) → 1 ≤ k → k ≤ 11 → MadeFrom k
unfolding sort_of parts_of made tops_of
made_any zero a b ps h = absurd (omega arith)
made_any (suc zero) a b ps h = (refl, sym (fit_listed (tops_of 1) ps h))
made_any (suc (suc zero)) a b ps h = made_int ps h
made_any (suc (suc (suc zero))) a b ps h = (refl, sym (fit_listed (tops_of 3) ps h))
made_any (suc (suc (suc (suc zero)))) a b ps h = (refl, sym (fit_listed (tops_of 4) ps h))
made_any (suc (suc (suc (suc (suc zero))))) a b ps h = (refl, sym (fit_listed (tops_of 5) ps h))
made_any (suc (suc (suc (suc (suc (suc zero)))))) a b ps h = (refl, sym (fit_listed (tops_of 6) ps h))
made_any (suc (suc (suc (suc (suc (suc (suc zero))))))) a b ps h = (refl, sym (fit_listed (tops_of 7) ps h))
made_any (suc (suc (suc (suc (suc (suc (suc (suc zero)))))))) a b ps h = (refl, sym (fit_listed (tops_of 8) ps h))
made_any (suc (suc (suc (suc (suc (suc (suc (suc (suc zero))))))))) a b ps h = (refl, sym (fit_listed (tops_of 9) ps h))
made_any (suc (suc (suc (suc (suc (suc (suc (suc (suc (suc zero)))))))))) a b ps h = made_time_lem ps h
made_any (suc (suc (suc (suc (suc (suc (suc (suc (suc (suc (suc zero))))))))))) a b ps h = (refl, sym (fit_listed (tops_of 11) ps h))
made_any (suc (suc (suc (suc (suc (suc (suc (suc (suc (suc (suc (suc n)))))))))))) a b ps h = absurd (omega arith)

pub parts_back : (sort : ℕ) (ps : List ℕ) (v : Value) → value_of sort ps ≡ ok v
    → (sort_of v ≡ sort) × (parts_of v ≡ take (length (tops_of sort)) ps)
unfolding value_of makes_value
parts_back sort ps v e =
    let t = test_is_ok (makes_value sort ps) (made sort ps) (why 13 0) v e in
    let u = both_true (leb 1 sort) (leb sort 11 && fit (tops_of sort) ps) t.0 in
    let w = both_true (leb sort 11) (fit (tops_of sort) ps) u.1 in
    subst (λ (x : Value). (sort_of x ≡ sort) × (parts_of x ≡ take (length (tops_of sort)) ps)) t.1
    (made_any sort (leb-true 1 sort u.0) (leb-true sort 11 w.0) ps w.1)

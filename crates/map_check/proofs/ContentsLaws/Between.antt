-- The items of a walk between two places, by any rule whose items move. Assumes nothing.
use Prim.Native.Nat.{ℕ, ◌≤◌, ◌<◌}
use mathlib.Core.Path.{◌≡◌, refl, ap}
use mathlib.Core.Logic.{dite, ◌⊎◌, inl, inr, ⊎_elim}
use mathlib.Core.List.{List, [], ◌∷◌, ◌++◌}
use native.Mathlib.Decide.{dec_le}
use native.Mathlib.Omega.{arith}
use lib.ListN.{length}
use Rattle.wire.specs.declared.refusal.Refusal.{Refusal}
use Rattle.wire.specs.Outcome.{ok, refused}
use Rattle.table_map.specs.Lists.{Rule, walk_items}
use Rattle.table_map.proofs.Steps.{step_end, step_past, step_before}
use Rattle.table_map.proofs.Items.{Moves}
use Rattle.table_map.proofs.Walks.{walk_steps_lem}
use Rattle.map_check.specs.Passes.{Between, none, more}

-- ---- the items from a place on: the one that stands there, and those behind it
pub items_next : {A : Type 0} (rule : Rule A) → Moves rule → (s : List ℕ) (at : ℕ) (a : A) (next : ℕ) → rule s at ≡ ok (a, next)
    → (walk_items rule s at).items ≡ a ∷ (walk_items rule s next).items
items_next rule m s at a next e =
    let w = m.moves s at a next e in
    rw (walk_steps_lem rule m s at, step_before rule s at (omega (arith, w.0, w.1)), e)

-- none past the bytes
pub items_past : {A : Type 0} (rule : Rule A) → Moves rule → (s : List ℕ) (at : ℕ) → length s ≤ at → (walk_items rule s at).items ≡ []
items_past rule m s at h =
    dite (dec_le at (length s))
    (λ l.
    let e : at ≡ length s = omega arith in
    rw (walk_steps_lem rule m s at, step_end rule s at e))
    (λ l.
    let g : length s < at = omega arith in
    rw (walk_steps_lem rule m s at, step_past rule s at g))

-- and none where none can be read
pub items_stop : {A : Type 0} (rule : Rule A) → Moves rule → (s : List ℕ) (at : ℕ) (w : Refusal) → rule s at ≡ refused w
    → (walk_items rule s at).items ≡ []
items_stop rule m s at w e =
    dite (dec_le (length s) at)
    (λ l. items_past rule m s at l)
    (λ l.
    let g : at < length s = omega arith in
    rw (walk_steps_lem rule m s at, step_before rule s at g, e))

-- ---- the items from one place up to another: one more behind them
pub one_more : {A : Type 0} {rule : Rule A} {s : List ℕ} {at to next : ℕ} {a : A} {xs : List A}
    → Between rule s at to xs → rule s to ≡ ok (a, next) → Between rule s at next (xs ++ (a ∷ []))
one_more none e = more e none
one_more (more f b) e = more f (one_more b e)

-- there are none exactly where the places are the same
pub rises : {A : Type 0} {rule : Rule A} {s : List ℕ} {at to : ℕ} {xs : List A} → Moves rule → Between rule s at to xs
    → (at < to) ⊎ ((at ≡ to) × (xs ≡ []))
rises m none = inr (refl, refl)
rises {A} {rule} {s} {at} {to} m (more {next = next} {a = a} f b) =
    let w = m.moves s at a next f in
    inl (⊎_elim (λ l. omega (arith, w.0, l)) (λ e. omega (arith, w.0, e.0)) (rises m b))

-- so where there is one the places are apart
pub filled : {A : Type 0} {rule : Rule A} {s : List ℕ} {at to : ℕ} {xs : List A} → Moves rule → Between rule s at to xs → 0 < length xs
    → at < to
filled m b h = ⊎_elim (λ l. l) (λ e. let z = ap length e.1 in absurd (omega (arith, z, h))) (rises m b)

-- the first of them, and those behind it
pub record Parted {A : Type 0} (rule : Rule A) (s : List ℕ) (at to : ℕ) (xs : List A) : Type 0 where
  pub first : A
  pub next : ℕ
  pub rest : List A
  pub read : rule s at ≡ ok (first, next)
  pub all : xs ≡ first ∷ rest
  pub behind : Between rule s next to rest

pub parted : {A : Type 0} {rule : Rule A} {s : List ℕ} {at to : ℕ} {xs : List A} → Between rule s at to xs → at < to
    → Parted rule s at to xs
parted none h = absurd (omega arith)
parted (more {next = next} {a = a} {xs = xs} f b) h = record { first = a; next = next; rest = xs; read = f; all = refl; behind = b }

-- Parts of a layout that were read are whole. Assumes nothing.
use Prim.Native.Nat.{ℕ}
use mathlib.Core.Path.{◌≡◌, sym, subst}
use mathlib.Core.List.{List}
use native.Mathlib.Omega.{arith}
use Rattle.wire.specs.Outcome.{ok}
use Rattle.wire.specs.Packed.{read_fixed}
use Rattle.wire.specs.Parts.{within}
use Rattle.wire.specs.Layouts.{bytes, Whole, all_bytes}
use Rattle.wire.proofs.Parts.{within_ok, fixed_ok}

-- so many bytes, and the number of so many
pub bytes_whole : (s : List ℕ) (p k place q : ℕ) → within s p k place ≡ ok q → Whole s (bytes k) p q
bytes_whole s p k place q e =
    let w = within_ok s p k place q e in
    subst (λ (x : ℕ). Whole s (bytes k) p x) (sym w.0) (all_bytes (omega (arith, w.0, w.1)))

pub fixed_whole : (k : ℕ) (s : List ℕ) (p v q : ℕ) → read_fixed k s p ≡ ok (v, q) → Whole s (bytes k) p q
fixed_whole k s p v q e =
    let f = fixed_ok k s p v q e in
    subst (λ (x : ℕ). Whole s (bytes k) p x) (sym f.next_is) (all_bytes (omega (arith, f.next_is, f.ends)))

-- `image::presence::count_bits` meets its contract. Assumes nothing.
use mathlib.Core.Path.{◌≡◌}
use Rattle.image.specs.Present.{count_bits}
use Rattle.image.proofs.presence.count_bits.Given as goal

abbrev pub invariant-loop-i : goal.invariant-loop-i
invariant-loop-i l = l.count ≡ count_bits l.s l.i

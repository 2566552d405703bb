-- To put the line of the numbers that are left is to put the whole line.
use Prim.Native.Nat.{◌+◌, ◌≤◌}
use mathlib.Core.Path.{◌≡◌}
use lib.ListN.{length, drop}
use Rattle.wire.specs.Stored.{stored}
use Rattle.profile.specs.Text.{line}
use Rattle.profile.proofs.output.put_line.Given as goal

abbrev pub invariant-loop-i : goal.invariant-loop-i
invariant-loop-i l =
    (l.i ≤ length l.numbers) × (length l.out ≡ length l.initial.out)
    × ((l.next + length (line (drop l.i l.numbers)) ≡ l.at + length (line l.numbers))
    × (stored (line (drop l.i l.numbers)) l.out l.next ≡ stored (line l.numbers) l.initial.out l.at))

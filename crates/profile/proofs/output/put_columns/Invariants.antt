-- To put the lines of the columns that are left is to put all lines, and there is room for them.
use Prim.Native.Nat.{◌+◌, ◌-◌, ◌*◌, ◌≤◌}
use mathlib.Core.Path.{◌≡◌}
use lib.ListN.{length}
use Rattle.wire.specs.Stored.{stored}
use Rattle.record.specs.Records.{entries_in}
use Rattle.profile.specs.Text.{column_lines}
use Rattle.profile.proofs.output.put_columns.Given as goal

abbrev pub invariant-loop-j : goal.invariant-loop-j
invariant-loop-j l =
    (l.j ≤ l.n) × (length l.out ≡ length l.initial.out) × (l.len ≤ 32 * l.j)
    × ((l.len + length (column_lines l.j (entries_in (l.n - l.j) l.profile l.j)) ≡ length (column_lines 0 (entries_in l.n l.profile 0)))
    × (stored (column_lines l.j (entries_in (l.n - l.j) l.profile l.j)) l.out l.len ≡ stored (column_lines 0 (entries_in l.n l.profile 0)) l.initial.out 0))

-- `table_map::write::Parts::size` meets its contract. The loop's invariant: the sum so far. Assumes nothing.
use Rattle.std.proofs.Common.{◌≡◌, ◌+◌, ◌^◌, ◌<◌, take}
use Rattle.table_map.specs.Inner.Writes.{lent}
use Rattle.table_map.proofs.Puts.{lengths, total}
use Rattle.table_map.proofs.write.Parts.size.Given as goal

abbrev pub invariant-loop-n : goal.invariant-loop-n
invariant-loop-n l = (l.n-items ≡ lengths (lent l.self)) × (l.size < 2 ^ 64) × (l.size ≡ 12 + total (take l.n-index (lengths (lent l.self))))

-- `record::profile::entry_in` meets its contract. Assumes nothing.
use Prim.Native.Nat.{ℕ}
use mathlib.Core.Path.{ap, ◌∙◌}
use native.Mathlib.Omega.{arith}
use lib.ListN.{take, drop}
use mathlib.Core.List.{List}
use Rattle.wire.specs.Number.{le_value, le_bytes}
use Rattle.wire.proofs.Eight.{to_le_eight}
use Rattle.wire.proofs.Inverse.{bytes_drop}
use Rattle.record.specs.Records.{entry_at, entry_in}
use Rattle.record.proofs.Places.{place_drop}
use Rattle.record.proofs.Looks.{entry_read}
use Rattle.record.proofs.profile.entry_in.Goals as goal

pub returns : goal.returns
unfolding entry_in
returns c =
    let s = c.args.profile.now in
    let v = c.read_le.ensures.value ∙ ap (λ (k : ℕ). le_value (take 6 (drop k s))) c.entry_at.ensures
    ∙ ap (λ (b : List ℕ). le_value (take 6 b)) (place_drop c.args.column s (omega arith)) in
    entry_read (drop (entry_at c.args.column) s) c.to_le_bytes-bytes.result c.from_le_bytes.result
    (bytes_drop (entry_at c.args.column) s (λ i. omega (arith, c.type_inv.profile i)))
    (c.to_le_bytes-bytes.ensures ∙ to_le_eight c.read_le.result ∙ ap (le_bytes 8) v) c.from_le_bytes.ensures

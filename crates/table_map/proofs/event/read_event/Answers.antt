-- `table_map::event::read_event` meets its contract. Assumes nothing.
use Prim.Native.Nat.{min, ◌≤◌}
use mathlib.Core.Path.{◌≡◌, sym}
use native.Mathlib.Omega.{arith}
use Rattle.wire.proofs.Parts.{within_ok}
use Rattle.table_map.specs.Events.{read_event}
use Rattle.table_map.proofs.Chains.{columns_end, id_narrow}
use Rattle.table_map.proofs.event.read_event.Goals as goal

pub overflow_sub-optional : goal.overflow_sub-optional
overflow_sub-optional c = omega (arith, columns_end _ _ _ (sym c.in_ok-types.ensures))

pub returns : goal.returns
unfolding read_event
returns c =
    let v = c.args in
    let e = sym c.in_ok-at.ensures in
    let k : c.id_bytes-width.result ≤ 6 = rw c.id_bytes-width.ensures (id_narrow v.post_header) in
    let m : min c.id_bytes-width.result 8 ≡ c.id_bytes-width.result = omega arith in
    let n : c.in_ok-at.at ≡ c.id_bytes-width.result =
    omega (arith, within_ok v.event.now 0 c.id_bytes-width.result 0 c.in_ok-at.at e) in
    rw (
      ← c.id_bytes-width.ensures,
      e,
      sym c.in_ok-behind.ensures,
      sym c.in_ok-database.ensures,
      sym c.in_ok-types.ensures,
      c.read_le.ensures.value,
      c.read_le-2.ensures.value,
      m,
      n,
    )

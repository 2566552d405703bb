-- `table_map::write::put_le` meets its contract. Assumes nothing.
use Prim.Native.Nat.{min}
use mathlib.Core.Path.{◌≡◌}
use native.Mathlib.Omega.{arith}
use Rattle.wire.proofs.Bytes.{le_bytes_length}
use Rattle.table_map.proofs.Puts.{put_fits, put_done}
use Rattle.table_map.proofs.write.put_le.Goals as goal

pub unwrap-requires : goal.unwrap-requires
unwrap-requires c =
    let a = c.args in
    let m : min a.k 8 ≡ a.k = omega arith in
    put_fits _ _ _ (omega (arith, le_bytes_length (min a.k 8) a.v)) c.write_le.ensures.result_value

pub returns : goal.returns
returns c =
    let a = c.args in
    let m : min a.k 8 ≡ a.k = omega arith in
    put_done (omega (arith, le_bytes_length a.k a.v)) (rw m at c.write_le.ensures.result_value) (rw m at c.write_le.ensures.buf_after) c.unwrap.ensures

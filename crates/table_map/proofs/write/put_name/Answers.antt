-- `table_map::write::put_name` meets its contract. Assumes nothing.
use native.Mathlib.Omega.{arith}
use Rattle.table_map.proofs.Puts.{then, put_name}
use Rattle.table_map.proofs.write.put_name.Goals as goal

pub returns : goal.returns
returns c = put_name c.args.name.now (omega arith) (then c.put_le-start.ensures (then c.put_bytes-end.ensures c.put_le.ensures))

-- `table_map::write::Parts::put_columns` meets its contract. Assumes nothing.
use Rattle.table_map.proofs.Puts.{then}
use Rattle.table_map.proofs.write.Parts.put_columns.Goals as goal

pub returns : goal.returns
returns c =
    then c.put_packed-a.ensures
    (then c.put_bytes-b.ensures
    (then c.put_packed-c.ensures (then c.put_bytes-d.ensures (then c.put_bytes-e.ensures c.put_bytes.ensures))))

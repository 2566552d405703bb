-- `table_map::write::Parts::put_head` meets its contract. Assumes nothing.
use native.Mathlib.Omega.{arith}
use Rattle.table_map.proofs.Puts.{after_number, after_name, then}
use Rattle.table_map.proofs.write.Parts.put_head.Goals as goal

pub returns : goal.returns
returns c =
    then c.put_le-a.ensures (then (rw c.from.ensures at c.put_le-b.ensures) (then c.put_name-c.ensures c.put_name.ensures))

pub put_name-requires : goal.put_name-requires
put_name-requires c =
    let a = c.args.self in (
      omega arith,
      omega (
        arith,
        after_number 6 a.id c.put_le-a.ensures,
        after_number 2 _ c.put_le-b.ensures,
        after_name a.database.now c.put_name-c.ensures,
      ),
    )

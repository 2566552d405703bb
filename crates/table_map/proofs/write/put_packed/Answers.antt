-- `table_map::write::put_packed` meets its contract. Assumes nothing.
use Rattle.table_map.proofs.Puts.{put_fits, put_done}
use Rattle.table_map.proofs.write.put_packed.Goals as goal

pub unwrap-requires : goal.unwrap-requires
unwrap-requires c = put_fits _ _ _ c.requires c.write_packed.ensures.result_value

pub returns : goal.returns
returns c = put_done c.requires c.write_packed.ensures.result_value c.write_packed.ensures.buf_after c.unwrap.ensures

-- `table_map::write::put_bytes` meets its contract. Assumes nothing.
use Rattle.table_map.proofs.Puts.{put_fits, put_done}
use Rattle.table_map.proofs.write.put_bytes.Goals as goal

pub unwrap-requires : goal.unwrap-requires
unwrap-requires c = put_fits _ _ _ c.requires c.write_bytes.ensures.result_value

pub returns : goal.returns
returns c = put_done c.requires c.write_bytes.ensures.result_value c.write_bytes.ensures.buf_after c.unwrap.ensures

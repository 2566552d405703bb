-- `image::room::image_room` meets its contract. The loop's invariant: the bytes so far and those of the columns that are left are all of
-- it. Assumes nothing.
use mathlib.Core.Path.{sym}
use native.Mathlib.Omega.{arith}
use Rattle.image.proofs.RoomLaws.Adds.{column_room, adding_first, adding_next, adding_end, room_read}
use Rattle.image.proofs.room.image_room.Goals as goal

pub loop-column-init : goal.loop-column-init
loop-column-init c = adding_first _ _ (sym c.in_ok-head.ensures)

pub loop-column-preserved : goal.loop-column-preserved
unfolding column_room
loop-column-preserved c = adding_next _ _ _ _ _ _ c.loop-column.invariant c.loop-column-test.true c.column_room-bytes.ensures.0

pub returns : goal.returns
returns c = room_read _ _ (sym c.in_ok-head.ensures) _ (adding_end _ _ _ _ _ c.loop-column.invariant (omega arith))

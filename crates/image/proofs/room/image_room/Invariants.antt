-- `image::room::image_room` meets its contract. The loop's invariant: the bytes so far and those of the columns that are left are all of
-- it. Assumes nothing.
use Rattle.image.proofs.RoomLaws.Adds.{Adding}
use Rattle.image.proofs.room.image_room.Given as goal

abbrev pub invariant-loop-column : goal.invariant-loop-column
invariant-loop-column l = Adding l.profile l.presence l.column-end l.column l.bytes

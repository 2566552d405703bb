-- Request 8, from the laws of the crate `image`. Assumes nothing.
use Prim.Native.Nat.{ℕ, ◌+◌, ◌^◌}
use mathlib.Core.Path.{◌≡◌, refl, ap, ◌∙◌}
use mathlib.Core.Bool.{true}
use mathlib.Core.List.{List, [], ◌∷◌}
use native.Mathlib.Omega.{arith}
use lib.ListN.{length}
use Rattle.wire.specs.Outcome.{ok}
use Rattle.wire.specs.Bits.{bytes_for}
use Rattle.value.specs.Columns.{shape_of}
use Rattle.value.specs.Shapes.{most_of}
use Rattle.record.specs.Records.{count_of, record_valid}
use Rattle.image.specs.Present.{present_from, present}
use Rattle.image.specs.Rows.{Row}
use Rattle.image.specs.WriteRow.{row_of, image_size}
use Rattle.image.specs.Room.{image_room, read_room}
use Rattle.image.proofs.CursorLaws.Heads.{Over, head_is}
use Rattle.image.proofs.PresenceLaws.Presents.{good_present}
use Rattle.image.proofs.RoomLaws.Adds.{room_small, room_widest, room_none}
use Rattle.image.proofs.RoomLaws.Rooms as rooms_of
use Rattle.promises.specs.RowPlans.{worked_record}
use Rattle.promises.specs.Room.{Reached, column_with, Rooms}
use Rattle.promises.proofs.Demand3.Images.{relied}

told : (r p : List ℕ) → record_valid r ≡ true → length p ≡ bytes_for (count_of r) → read_room r p ≡ ok (image_room r p)
unfolding read_room
told r p v b = let u : Over r p = record { valid = v; bits = b } in rw (head_is r p u)

reached : (r p : List ℕ) → record_valid r ≡ true → length p ≡ bytes_for (count_of r) → Reached r p
reached r p v b =
    let ds = rooms_of.fullest_row (present r p) in
    let given = (relied r v).every_row p ds b (rooms_of.fullest_row_lem (present r p) (good_present r p v)) in
    let nulls = given.0 in
    let gs = given.1 in
    let fit = given.2 in
    let e : row_of gs ≡ ds = given.3 in
    let size : image_size r p nulls (row_of gs) ≡ image_room r p =
    ap (image_size r p nulls) e ∙ rooms_of.reached r p nulls v (fit.size ∙ ap (λ (x : Row). bytes_for (length x)) e) in
    record {
      nulls = nulls;
      row = gs;
      fit = fit;
      bytes = given.4;
      held = given.5;
      writes = λ buf l.
          let w = (relied r v).row_written p nulls gs buf fit (omega arith) in
          (w.last, w.left, w.is, w.offset ∙ size);
    }

worked : (read_room worked_record (7 ∷ []) ≡ ok 262) × (read_room worked_record (5 ∷ []) ≡ ok 6)
unfolding read_room present_from
worked = (refl, refl)

lengths : (most_of (shape_of (column_with 15 20)) ≡ 256) × (most_of (shape_of (column_with 252 4)) ≡ 2 ^ 32 + 3)
unfolding shape_of most_of
lengths = (refl, refl)

pub rooms : Rooms
rooms = record {
  told = told;
  no_more = rooms_of.no_more;
  read_no_more = rooms_of.walked_most;
  reached = reached;
  never_for_room = rooms_of.never_for_room;
  most = room_small;
  fits = λ r p v. omega (arith, room_small r p v);
  widest = room_widest;
  none = room_none;
  varchar = lengths.0;
  longblob = lengths.1;
  worked = worked;
}

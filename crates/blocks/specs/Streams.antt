-- What the calls told, as a stream of pieces, the bytes of a long value one by one, so that cutting cannot show. Assumes nothing.
use Rattle.std.specs.Prelude.{ℕ, List, [], ◌∷◌, ◌++◌, map, take}
use Rattle.wire.specs.Outcome.{Outcome, ok}
use Rattle.value.specs.Data.{Datum, null as null_datum}
use Rattle.value.specs.Reading.{datum_of}
use Rattle.blocks.specs.States.{Arrived, more, null, value, long, part, end}

pub data Piece : Type 0 where
  datum : ℕ → Datum → Piece
  size : ℕ → ℕ → Piece
  byte : ℕ → ℕ → Piece

pub record Stream : Type 0 where
  pub pieces : List Piece
  pub how : Outcome ℕ

abbrev pub stopped : Outcome ℕ → Stream
stopped how = record { pieces = []; how = how }

abbrev pub with : List Piece → Stream → Stream
with ps w = record { pieces = ps ++ w.pieces; how = w.how }

abbrev pub byte_pieces : ℕ → List ℕ → List Piece
byte_pieces j s = map (byte j) s

-- an answer and then what comes behind it, the carry and the block being those that the call left and took
abbrev pub told : List ℕ → List ℕ → Arrived → Stream → Stream
told carry block more w = w
told carry block (null j) w = with (datum j null_datum ∷ []) w
told carry block (value j v) w = with (datum j (datum_of carry v) ∷ []) w
told carry block (long j n) w = with (size j n ∷ []) w
told carry block (part j n) w = with (byte_pieces j (take n block)) w
told carry block (end used) w = stopped (ok used)

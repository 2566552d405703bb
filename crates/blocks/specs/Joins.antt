-- The pieces of a stream as answers: the bytes of a long value joined. Assumes nothing.
use Rattle.std.specs.Prelude.{ℕ, ◌-◌, cond, List, [], ◌∷◌, ◌++◌, eqb}
use Rattle.value.specs.Data.{Datum, bytes}
use Rattle.image.specs.Walk.{RowWalked}
use Rattle.blocks.specs.Streams.{Piece, datum, size, byte, Stream}

-- `left` bytes are to come of a long value of column c, and `got` have come; one that is cut short has no answer, nor one with a byte of
-- another column
unfoldable pub join_pieces : ℕ → ℕ → List ℕ → List Piece → List (ℕ × Datum)
join_pieces c left got [] = []
join_pieces c left got (datum j d ∷ ps) = (j, d) ∷ join_pieces 0 0 [] ps
join_pieces c left got (size j n ∷ ps) = join_pieces j n [] ps
join_pieces c left got (byte j b ∷ ps) =
    let now = got ++ (b ∷ []) in
    cond (eqb j c) (cond (eqb left 1) ((c, bytes now) ∷ join_pieces 0 0 [] ps) (join_pieces c (left - 1) now ps)) []

abbrev pub joined : Stream → RowWalked
joined w = record { answers = join_pieces 0 0 [] w.pieces; how = w.how }

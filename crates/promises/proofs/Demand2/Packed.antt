-- Packed integers, at any value. Assumes nothing.
use Rattle.wire.proofs.Forms.{read_back, read_shortest, read_fits, read_moves}
use Rattle.promises.specs.Packed.{Packed}

pub packed : Packed
packed = record { read_back = read_back; shortest = read_shortest; read_fits = read_fits; read_moves = read_moves }

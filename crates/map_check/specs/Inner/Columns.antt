-- The columns of a map as the code takes them: all of them declared. Assumes nothing.
use Rattle.std.specs.Prelude.{ℕ, List, [], ◌∷◌, drop}
use Rattle.map_check.specs.declared.declare.Declared.{Declared}
use Rattle.map_check.specs.Columns.{meta_bytes, declared}

-- the columns as the types say them, whether accepted or not
unfoldable pub declare_all : List ℕ → List ℕ → List Declared
unfolding declared
declare_all [] meta = []
declare_all (kind ∷ types) meta = declared kind meta ∷ declare_all types (drop (meta_bytes kind) meta)

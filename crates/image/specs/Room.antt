-- Room for one image: the most bytes that an image under a record and presence bits can take, whatever its row. Assumes nothing.
use Rattle.std.specs.Prelude.{ℕ, ◌+◌, List, [], ◌∷◌, length}
use Rattle.wire.specs.Outcome.{Outcome, ok, after}
use Rattle.wire.specs.Bits.{bytes_for}
use Rattle.value.specs.Shapes.{most_of}
use Rattle.image.specs.Present.{Present, present}
use Rattle.image.specs.Split.{head_of}

-- "each present column's largest stored size, length bytes included"
unfoldable pub most_of_all : List Present → ℕ
unfolding most_of
most_of_all [] = 0
most_of_all (c ∷ cs) = most_of c.shape + most_of_all cs

-- "null bits plus" these: a null bit for each present column, and none for others
unfoldable pub image_room : List ℕ → List ℕ → ℕ
unfolding most_of_all
image_room profile presence = bytes_for (length (present profile presence)) + most_of_all (present profile presence)

-- the call: 11, 12, as before any step
unfoldable pub read_room : List ℕ → List ℕ → Outcome ℕ
unfolding head_of image_room
read_room profile presence = after (head_of profile presence) (λ h. ok (image_room profile presence))

-- Whether a value can be stored: the shape first (4, 5), then the domain (13). Assumes nothing.
use Rattle.std.specs.Prelude.{ℕ, List}
use Rattle.wire.specs.Outcome.{Outcome, ok, after}
use Rattle.value.specs.declared.shape.Shape.{Shape}
use Rattle.value.specs.declared.datum.Value.{Value}
use Rattle.value.specs.Storing.{stored_bytes}

unfoldable pub storable : Shape → ℕ → List ℕ → Value → Outcome (Unit {0})
unfolding stored_bytes
storable sh place s v = after (stored_bytes sh place s v) (λ b. ok tt)

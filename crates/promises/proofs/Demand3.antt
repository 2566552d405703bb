-- Demand 3, of its parts. Assumes nothing.
pub mod Images
pub mod Checks
pub mod Names
pub mod MapWalks
use Rattle.image.proofs.CursorLaws.Ways.{walk_on, only_walk}
use Rattle.promises.specs.Demand3.{Demand3}
use Rattle.promises.proofs.Demand3.Checks.{checks}
use Rattle.promises.proofs.Demand3.Names.{named}
use Rattle.promises.proofs.Demand3.MapWalks.{map_walks}
use Rattle.promises.proofs.Demand3.Images.{relied, step_sound, step_lent}

pub demand3 : Demand3
demand3 = record {
  checks = checks;
  named = named;
  map_walks = map_walks;
  relied = relied;
  relied_on = λ d event post_header buf n left h. relied _ (checks.checked_valid d event post_header buf n left h);
  step_by_step = walk_on;
  only_step_by_step = only_walk;
  step_sound = step_sound;
  step_lent = step_lent;
}

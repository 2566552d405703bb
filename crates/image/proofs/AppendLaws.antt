-- Laws of bytes put behind an image. `Rises`: columns rise, so nothing is refused at an earlier one. `GrownSteps`: one step, from any
-- cursor. `GrownWalks`: the whole walk. `ImageMoves`: an image read wherever its bytes stand.
pub mod Rises
pub mod GrownSteps
pub mod GrownWalks
pub mod ImageMoves

-- `output::put_text`: what is written is all of the text, as there is room. Assumes nothing.
use mathlib.Core.Path.{◌∙◌}
use native.Mathlib.Omega.{arith}
use Rattle.wire.proofs.Stores.{store_fits}
use Rattle.profile.proofs.output.put_text.Goals as goal

pub returns-clause-out_after : goal.returns-clause-out_after
returns-clause-out_after c = c.write_bytes.ensures.buf_after ∙ rw (store_fits c.args.out.now c.args.text.now c.args.at (omega arith))

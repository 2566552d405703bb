-- `image::put::start` meets its contract. Assumes nothing.
use mathlib.Core.Path.{sym, ap, ◌∙◌}
use Rattle.wire.specs.Outcome.{refused}
use Rattle.image.proofs.PutLaws.Puts.{start_full, put_refused}
use Rattle.image.proofs.put.start.Goals as goal

pub returns-then-buf-head : goal.returns-then-buf-head
returns-then-buf-head c =
    let p = put_refused _ (start_full _ _ _ _ (sym c.in_ok-head.ensures) c.if-buf-head.true ∙ ap refused (sym c.refuse.ensures)) in
    record { result_value = p.0; buf_after = p.1 }

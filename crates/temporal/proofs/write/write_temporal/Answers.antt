-- `temporal::write::write_temporal` meets its contract. The domain is tested first; then all of the bytes are written, or none. Assumes
-- nothing.
use mathlib.Core.Path.{refl, sym, ap, ◌∙◌}
use Rattle.wire.specs.Outcome.{refused}
use Rattle.temporal.proofs.Steps.{write_big, write_little, write_none}
use Rattle.temporal.proofs.write.write_temporal.Goals as goal

pub returns-then-not-in_domain : goal.returns-then-not-in_domain
returns-then-not-in_domain c = let a = c.args in
    let d = sym c.in_domain.ensures ∙ c.if-not-in_domain.true in
    let z = write_none a.storage a.place a.buf.now a.at a.temporal d in
    rw z (record { result_value = ap refused c.refuse.ensures; buf_after = refl })

pub numbers_of-whole-requires : goal.numbers_of-whole-requires
numbers_of-whole-requires c =
    sym c.in_domain.ensures ∙ c.if-not-in_domain.false

pub returns-then-is_big : goal.returns-then-is_big
returns-then-is_big c = let a = c.args in
    let d =
    sym c.in_domain.ensures
    ∙ c.if-not-in_domain.false in
    let b =
    sym c.is_big.ensures
    ∙ c.if-is_big.true in
    let p = write_big a.storage a.place a.buf.now a.at a.temporal c.write_two.result _ _ _ _ _ d b
    c.whole_bytes-k.ensures.0
    c.fraction_width-width.ensures
    c.numbers_of-whole.ensures.0
    c.numbers_of-whole.ensures.1
    (c.write_two.ensures.result_value, c.write_two.ensures.buf_after) in record { result_value = p.0; buf_after = p.1 }

pub returns : goal.returns
returns c = let a = c.args in
    let d =
    sym c.in_domain.ensures
    ∙ c.if-not-in_domain.false in
    let b = sym c.is_big.ensures ∙ c.if-is_big.false in
    let p = write_little a.storage a.place a.buf.now a.at a.temporal c.write_le.result _ _ _ d b c.whole_bytes-k.ensures.0 c.whole_bytes-k.ensures.1
    c.numbers_of-whole.ensures.0 (c.write_le.ensures.result_value, c.write_le.ensures.buf_after) in record { result_value = p.0; buf_after = p.1 }

use Prim.Native.Nat.{ℕ, ◌+◌, ◌-◌}
use mathlib.Core.Path.{◌≡◌, refl, sym, ap, ◌∙◌}
use lib.ListN.{take, drop}
use native.Mathlib.Omega.{arith}
use Rattle.row_plan.proofs.RunLaws.{took_null, took_read}
use Rattle.row_plan.proofs.item.Item.take.Goals as goal

pub returns-then-is_null : goal.returns-then-is_null
returns-then-is_null c = let a = c.args in
    took_null a.self.plan.now a.self.image.now a.self.index a.offset (sym c.is_null.ensures ∙ c.if-is_null.true) c.one.ensures

pub returns : goal.returns
returns c = let a = c.args in
    let e : a.offset + 8 - a.offset ≡ 8 = omega arith in
    let bytes = c.in-Some-as_array.ensures.cases.same ∙ ap (λ (k : ℕ). take k (drop a.offset a.self.image.now)) e in
    took_read a.self.plan.now a.self.image.now a.self.index a.offset _ _ _ _ c.requires.0 bytes
    (sym c.is_null.ensures ∙ c.if-is_null.false) refl c.in-Some.ensures.cases.same c.take_op.ensures

-- `wire::packed::write_packed` meets its contract. At each return the tests that led there say which form is the shortest. Assumes nothing.
use Prim.Native.Nat.{◌≤◌, ◌<◌}
use mathlib.Core.Path.{◌≡◌}
use native.Mathlib.Omega.{arith}
use mathlib.Core.List.{[], ◌∷◌}
use borrow.Author.Tests.{le-ltb, lt-ltb, le-leb, lt-leb}
use Rattle.wire.specs.Number.{le_bytes}
use Rattle.wire.specs.Packed.{packed_bytes}
use Rattle.wire.proofs.packed.write_packed.Goals as goal

pub returns-then-v-le250 : goal.returns-then-v-le250
unfolding packed_bytes le_bytes
returns-then-v-le250 c = let v = c.args.v in
    let h : v ≤ 250 = omega arith in
    let p : packed_bytes v ≡ v ∷ [] = simp (le-leb _ _ h) in
    rw p (record { result_value = c.write_form.ensures.result_value; buf_after = c.write_form.ensures.buf_after })

pub returns-then-v-lt65536 : goal.returns-then-v-lt65536
unfolding packed_bytes
returns-then-v-lt65536 c = let v = c.args.v in
    let h : 250 < v = omega arith in
    let l : v < 65536 = omega arith in
    let p : packed_bytes v ≡ 252 ∷ le_bytes 2 v = simp (lt-leb _ _ h, lt-ltb _ _ l) in
    rw p (record { result_value = c.write_form-then-v-lt65536.ensures.result_value; buf_after = c.write_form-then-v-lt65536.ensures.buf_after })

pub returns-then-v-lt16777216 : goal.returns-then-v-lt16777216
unfolding packed_bytes
returns-then-v-lt16777216 c = let v = c.args.v in
    let h : 250 < v = omega arith in
    let l : 65536 ≤ v = omega arith in
    let m : v < 16777216 = omega arith in
    let p : packed_bytes v ≡ 253 ∷ le_bytes 3 v = simp (lt-leb _ _ h, le-ltb _ _ l, lt-ltb _ _ m) in
    rw p (record { result_value = c.write_form-then-v-lt16777216.ensures.result_value; buf_after = c.write_form-then-v-lt16777216.ensures.buf_after })

pub returns : goal.returns
unfolding packed_bytes
returns c = let v = c.args.v in
    let h : 250 < v = omega arith in
    let l : 65536 ≤ v = omega arith in
    let m : 16777216 ≤ v = omega arith in
    let p : packed_bytes v ≡ 254 ∷ le_bytes 8 v = simp (lt-leb _ _ h, le-ltb _ _ l, le-ltb _ _ m) in
    rw p (record { result_value = c.write_form-2.ensures.result_value; buf_after = c.write_form-2.ensures.buf_after })

-- `wire::fixed::be` meets its contract: of each count of bytes the sum that std states is the number's. Assumes nothing.
use Rattle.std.proofs.Common.{◌≡◌, arith, ap, length, take_all}
use Rattle.wire.specs.Number.{le_value, be_value}
use Rattle.wire.proofs.Bytes.{be_step}
use Rattle.wire.proofs.Inverse.{be_bound}
use Rattle.wire.proofs.fixed.be.Goals as goal

pub returns-in-len1 : goal.returns-in-len1
unfolding be_value le_value
returns-in-len1 c =
    let s = c.args.bytes.now in
    let n : length s ≡ 1 = omega (arith, c.in-len1.len_at_least, c.in-len1.len_below) in
    let t = ap be_value (take_all 1 s (omega arith)) in
    let v : c.from_be_bytes.result ≡ be_value s = omega (arith, c.from_be_bytes.ensures, t, be_step s 0 (omega arith)) in
    (v, rw v (be_bound _ (λ i. omega (arith, c.type_inv.bytes i))))

pub returns-in-len2 : goal.returns-in-len2
unfolding be_value le_value
returns-in-len2 c =
    let s = c.args.bytes.now in
    let n : length s ≡ 2 = omega (arith, c.in-len2.len_at_least, c.in-len2.len_below) in
    let t = ap be_value (take_all 2 s (omega arith)) in
    let v : c.from_be_bytes-in-len2.result ≡ be_value s = omega (arith, c.from_be_bytes-in-len2.ensures, t, be_step s 0 (omega arith), be_step s 1 (omega arith)) in
    (v, rw v (be_bound _ (λ i. omega (arith, c.type_inv.bytes i))))

pub returns-in-len3 : goal.returns-in-len3
unfolding be_value le_value
returns-in-len3 c =
    let s = c.args.bytes.now in
    let n : length s ≡ 3 = omega (arith, c.in-len3.len_at_least, c.in-len3.len_below) in
    let t = ap be_value (take_all 3 s (omega arith)) in
    let v : c.from_be_bytes-in-len3.result ≡ be_value s = omega (arith, c.from_be_bytes-in-len3.ensures, t, be_step s 0 (omega arith), be_step s 1 (omega arith), be_step s 2 (omega arith)) in
    (v, rw v (be_bound _ (λ i. omega (arith, c.type_inv.bytes i))))

pub returns-in-len4 : goal.returns-in-len4
unfolding be_value le_value
returns-in-len4 c =
    let s = c.args.bytes.now in
    let n : length s ≡ 4 = omega (arith, c.in-len4.len_at_least, c.in-len4.len_below) in
    let t = ap be_value (take_all 4 s (omega arith)) in
    let v : c.from_be_bytes-in-len4.result ≡ be_value s = omega (arith, c.from_be_bytes-in-len4.ensures, t, be_step s 0 (omega arith), be_step s 1 (omega arith), be_step s 2 (omega arith), be_step s 3 (omega arith)) in
    (v, rw v (be_bound _ (λ i. omega (arith, c.type_inv.bytes i))))

pub returns-in-len5 : goal.returns-in-len5
unfolding be_value le_value
returns-in-len5 c =
    let s = c.args.bytes.now in
    let n : length s ≡ 5 = omega (arith, c.in-len5.len_at_least, c.in-len5.len_below) in
    let t = ap be_value (take_all 5 s (omega arith)) in
    let v : c.from_be_bytes-in-len5.result ≡ be_value s = omega (arith, c.from_be_bytes-in-len5.ensures, t, be_step s 0 (omega arith), be_step s 1 (omega arith), be_step s 2 (omega arith), be_step s 3 (omega arith), be_step s 4 (omega arith)) in
    (v, rw v (be_bound _ (λ i. omega (arith, c.type_inv.bytes i))))

pub returns-in-len6 : goal.returns-in-len6
unfolding be_value le_value
returns-in-len6 c =
    let s = c.args.bytes.now in
    let n : length s ≡ 6 = omega (arith, c.in-len6.len_at_least, c.in-len6.len_below) in
    let t = ap be_value (take_all 6 s (omega arith)) in
    let v : c.from_be_bytes-in-len6.result ≡ be_value s = omega (arith, c.from_be_bytes-in-len6.ensures, t, be_step s 0 (omega arith), be_step s 1 (omega arith), be_step s 2 (omega arith), be_step s 3 (omega arith), be_step s 4 (omega arith), be_step s 5 (omega arith)) in
    (v, rw v (be_bound _ (λ i. omega (arith, c.type_inv.bytes i))))

pub returns-in-len7 : goal.returns-in-len7
unfolding be_value le_value
returns-in-len7 c =
    let s = c.args.bytes.now in
    let n : length s ≡ 7 = omega (arith, c.in-len7.len_at_least, c.in-len7.len_below) in
    let t = ap be_value (take_all 7 s (omega arith)) in
    let v : c.from_be_bytes-in-len7.result ≡ be_value s = omega (arith, c.from_be_bytes-in-len7.ensures, t, be_step s 0 (omega arith), be_step s 1 (omega arith), be_step s 2 (omega arith), be_step s 3 (omega arith), be_step s 4 (omega arith), be_step s 5 (omega arith), be_step s 6 (omega arith)) in
    (v, rw v (be_bound _ (λ i. omega (arith, c.type_inv.bytes i))))

pub returns-in-len8 : goal.returns-in-len8
unfolding be_value le_value
returns-in-len8 c =
    let s = c.args.bytes.now in
    let n : length s ≡ 8 = omega (arith, c.in-len8.len_at_least, c.in-len8.len_below) in
    let t = ap be_value (take_all 8 s (omega arith)) in
    let v : c.from_be_bytes-in-len8.result ≡ be_value s = omega (arith, c.from_be_bytes-in-len8.ensures, t, be_step s 0 (omega arith), be_step s 1 (omega arith), be_step s 2 (omega arith), be_step s 3 (omega arith), be_step s 4 (omega arith), be_step s 5 (omega arith), be_step s 6 (omega arith), be_step s 7 (omega arith)) in
    (v, rw v (be_bound _ (λ i. omega (arith, c.type_inv.bytes i))))

pub returns-in_default : goal.returns-in_default
unfolding be_value le_value
returns-in_default c =
    let s = c.args.bytes.now in
    let n : length s ≡ 0 = omega (arith, c.in_default.len_below) in
    let t = ap be_value (take_all 0 s (omega arith)) in
    (t, rw n (omega arith))

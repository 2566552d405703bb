-- `wire::fixed::le` meets its contract: of each count of bytes the sum that std states is the number's. Assumes nothing.
use Rattle.std.proofs.Common.{◌≡◌, arith, ap, length, take_all}
use Rattle.wire.specs.Number.{le_value}
use Rattle.wire.proofs.Bytes.{le_step}
use Rattle.wire.proofs.Inverse.{le_bound}
use Rattle.wire.proofs.fixed.le.Goals as goal

pub returns-in-len1 : goal.returns-in-len1
unfolding le_value
returns-in-len1 c =
    let s = c.args.bytes.now in
    let n : length s ≡ 1 = omega (arith, c.in-len1.len_at_least, c.in-len1.len_below) in
    let t = ap le_value (take_all 1 s (omega arith)) in
    let v : c.from_le_bytes.result ≡ le_value s = omega (arith, c.from_le_bytes.ensures, t, le_step s 0 0 (omega arith)) in
    (v, rw v (le_bound _ (λ i. omega (arith, c.type_inv.bytes i))))

pub returns-in-len2 : goal.returns-in-len2
unfolding le_value
returns-in-len2 c =
    let s = c.args.bytes.now in
    let n : length s ≡ 2 = omega (arith, c.in-len2.len_at_least, c.in-len2.len_below) in
    let t = ap le_value (take_all 2 s (omega arith)) in
    let v : c.from_le_bytes-in-len2.result ≡ le_value s = omega (arith, c.from_le_bytes-in-len2.ensures, t, le_step s 0 1 (omega arith), le_step s 1 0 (omega arith)) in
    (v, rw v (le_bound _ (λ i. omega (arith, c.type_inv.bytes i))))

pub returns-in-len3 : goal.returns-in-len3
unfolding le_value
returns-in-len3 c =
    let s = c.args.bytes.now in
    let n : length s ≡ 3 = omega (arith, c.in-len3.len_at_least, c.in-len3.len_below) in
    let t = ap le_value (take_all 3 s (omega arith)) in
    let v : c.from_le_bytes-in-len3.result ≡ le_value s = omega (arith, c.from_le_bytes-in-len3.ensures, t, le_step s 0 2 (omega arith), le_step s 1 1 (omega arith), le_step s 2 0 (omega arith)) in
    (v, rw v (le_bound _ (λ i. omega (arith, c.type_inv.bytes i))))

pub returns-in-len4 : goal.returns-in-len4
unfolding le_value
returns-in-len4 c =
    let s = c.args.bytes.now in
    let n : length s ≡ 4 = omega (arith, c.in-len4.len_at_least, c.in-len4.len_below) in
    let t = ap le_value (take_all 4 s (omega arith)) in
    let v : c.from_le_bytes-in-len4.result ≡ le_value s = omega (arith, c.from_le_bytes-in-len4.ensures, t, le_step s 0 3 (omega arith), le_step s 1 2 (omega arith), le_step s 2 1 (omega arith), le_step s 3 0 (omega arith)) in
    (v, rw v (le_bound _ (λ i. omega (arith, c.type_inv.bytes i))))

pub returns-in-len5 : goal.returns-in-len5
unfolding le_value
returns-in-len5 c =
    let s = c.args.bytes.now in
    let n : length s ≡ 5 = omega (arith, c.in-len5.len_at_least, c.in-len5.len_below) in
    let t = ap le_value (take_all 5 s (omega arith)) in
    let v : c.from_le_bytes-in-len5.result ≡ le_value s = omega (arith, c.from_le_bytes-in-len5.ensures, t, le_step s 0 4 (omega arith), le_step s 1 3 (omega arith), le_step s 2 2 (omega arith), le_step s 3 1 (omega arith), le_step s 4 0 (omega arith)) in
    (v, rw v (le_bound _ (λ i. omega (arith, c.type_inv.bytes i))))

pub returns-in-len6 : goal.returns-in-len6
unfolding le_value
returns-in-len6 c =
    let s = c.args.bytes.now in
    let n : length s ≡ 6 = omega (arith, c.in-len6.len_at_least, c.in-len6.len_below) in
    let t = ap le_value (take_all 6 s (omega arith)) in
    let v : c.from_le_bytes-in-len6.result ≡ le_value s = omega (arith, c.from_le_bytes-in-len6.ensures, t, le_step s 0 5 (omega arith), le_step s 1 4 (omega arith), le_step s 2 3 (omega arith), le_step s 3 2 (omega arith), le_step s 4 1 (omega arith), le_step s 5 0 (omega arith)) in
    (v, rw v (le_bound _ (λ i. omega (arith, c.type_inv.bytes i))))

pub returns-in-len7 : goal.returns-in-len7
unfolding le_value
returns-in-len7 c =
    let s = c.args.bytes.now in
    let n : length s ≡ 7 = omega (arith, c.in-len7.len_at_least, c.in-len7.len_below) in
    let t = ap le_value (take_all 7 s (omega arith)) in
    let v : c.from_le_bytes-in-len7.result ≡ le_value s = omega (arith, c.from_le_bytes-in-len7.ensures, t, le_step s 0 6 (omega arith), le_step s 1 5 (omega arith), le_step s 2 4 (omega arith), le_step s 3 3 (omega arith), le_step s 4 2 (omega arith), le_step s 5 1 (omega arith), le_step s 6 0 (omega arith)) in
    (v, rw v (le_bound _ (λ i. omega (arith, c.type_inv.bytes i))))

pub returns-in-len8 : goal.returns-in-len8
unfolding le_value
returns-in-len8 c =
    let s = c.args.bytes.now in
    let n : length s ≡ 8 = omega (arith, c.in-len8.len_at_least, c.in-len8.len_below) in
    let t = ap le_value (take_all 8 s (omega arith)) in
    let v : c.from_le_bytes-in-len8.result ≡ le_value s = omega (arith, c.from_le_bytes-in-len8.ensures, t, le_step s 0 7 (omega arith), le_step s 1 6 (omega arith), le_step s 2 5 (omega arith), le_step s 3 4 (omega arith), le_step s 4 3 (omega arith), le_step s 5 2 (omega arith), le_step s 6 1 (omega arith), le_step s 7 0 (omega arith)) in
    (v, rw v (le_bound _ (λ i. omega (arith, c.type_inv.bytes i))))

pub returns-in_default : goal.returns-in_default
unfolding le_value
returns-in_default c =
    let s = c.args.bytes.now in
    let n : length s ≡ 0 = omega (arith, c.in_default.len_below) in
    let t = ap le_value (take_all 0 s (omega arith)) in
    (t, rw n (omega arith))

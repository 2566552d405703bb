-- Strings and optional fields are told by their own bytes, wherever they stand and whatever stands around them. Assumes nothing.
use Prim.Native.Nat.{ℕ, ◌+◌, ◌-◌, ◌≤◌}
use mathlib.Core.Path.{◌≡◌, refl, sym, ap, ◌∙◌}
use mathlib.Core.Bool.{Bool, true, false, cond}
use mathlib.Core.List.{List}
use native.Mathlib.Omega.{arith}
use lib.ListN.{length, get_or, take, drop}
use Rattle.wire.specs.Outcome.{ok, refuse}
use Rattle.wire.specs.declared.part.Part.{Part}
use Rattle.wire.specs.Parts.{part, lent_part, within, Moved}
use Rattle.wire.specs.Packed.{read_packed}
use Rattle.wire.proofs.Outcomes.{after_is_ok, same_ok, ok_not_refused}
use Rattle.wire.proofs.Parts.{within_fits, lent_is}
use Rattle.wire.proofs.Forms.{read_moves}
use Rattle.wire.proofs.Moves.{moved_part, moved_byte, packed_moved}
use Rattle.table_map.specs.Parts.{long_part}
use Rattle.table_map.specs.Fields.{is_field, contents_hold, cut_field, judge_field, field_item}
use Rattle.table_map.proofs.Chains.{long_named}
use Rattle.table_map.proofs.Items.{long_moves}
use Rattle.table_map.proofs.Optional.{cut_read}

-- where a part stands whose bytes were moved
abbrev pub part_at : Part → ℕ → ℕ → Part
part_at p at to = part (to + (p.start - at)) p.len

-- ---- a string
pub long_moved : (s : List ℕ) (at : ℕ) (p : Part) (next : ℕ) (t : List ℕ) (to : ℕ) → long_part s at ≡ ok (p, next)
    → Moved (next - at) s at t to
    → long_part t to ≡ ok (part_at p at to, to + (next - at))
unfolding long_part
long_moved s at p next t to e m =
    let x = long_named s at (p, next) e in
    let r = read_moves s at p.len p.start x.0 in
    let k : p.start - at ≤ next - at = omega (arith, x.1, r.0) in
    let l : at + (next - at) ≤ length s = omega (arith, x.1, x.2, r.0) in
    let f : Moved (p.start - at) s at t to = head m l k in
    let q : read_packed t to ≡ ok (p.len, to + (p.start - at)) = packed_moved s at p.len p.start t to x.0 f in
    let n : to + (p.start - at) + p.len ≡ to + (next - at) = omega (arith, x.1, r.0) in
    let w : within t (to + (p.start - at)) p.len to ≡ ok (to + (p.start - at) + p.len) =
    within_fits t (to + (p.start - at)) p.len to (omega (arith, n, m.whole)) in
    rw (q, w, n)
  where
    head : {n k : ℕ} → Moved n s at t to → at + n ≤ length s → k ≤ n → Moved k s at t to
    head {n} {k} m l h =
        let a : at + 0 ≡ at = omega arith in
        let b : to + 0 ≡ to = omega arith in
        rw (b, a) at (moved_part m l 0 k (omega arith))

-- ---- a field that was cut out
pub cut_moved : (s : List ℕ) (at : ℕ) (f : ℕ × Part) (next : ℕ) (t : List ℕ) (to : ℕ) → cut_field s at ≡ ok (f, next)
    → Moved (next - at) s at t to
    → cut_field t to ≡ ok ((f.0, part_at f.1 at to), to + (next - at))
unfolding cut_field
cut_moved s at f next t to e m =
    let x = cut_read s at f next e in
    let y = long_moves s (at + 1) f.1 next x.1 in
    let n : 1 + (next - (at + 1)) ≡ next - at = omega (arith, y.0, y.1) in
    let l : at + (next - at) ≤ length s = omega (arith, y.0, y.1, y.2) in
    let v : Moved (next - (at + 1)) s (at + 1) t (to + 1) = moved_part m l 1 (next - (at + 1)) (omega (arith, n)) in
    let b : get_or t to 0 ≡ f.0 = moved_byte m (omega (arith, y.0, y.1)) ∙ x.0 in
    let g = long_moved s (at + 1) f.1 next t (to + 1) x.1 v in
    let i : to + 1 + (f.1.start - (at + 1)) ≡ to + (f.1.start - at) = omega (arith, y.0) in
    let j : to + 1 + (next - (at + 1)) ≡ to + (next - at) = omega (arith, y.0, y.1) in
    rw (within_fits t to 1 to (omega (arith, m.whole, y.0, y.1)), g, b, i, j)

-- its value has the same bytes
pub value_same : (s : List ℕ) (at : ℕ) (f : ℕ × Part) (next : ℕ) (t : List ℕ) (to : ℕ) → cut_field s at ≡ ok (f, next)
    → Moved (next - at) s at t to
    → lent_part t (part_at f.1 at to) ≡ lent_part s f.1
value_same s at f next t to e m =
    let x = cut_read s at f next e in
    let y = long_moves s (at + 1) f.1 next x.1 in
    let l : at + (next - at) ≤ length s = omega (arith, y.0, y.1, y.2) in
    let v : Moved f.1.len s (at + (f.1.start - at)) t (to + (f.1.start - at)) =
    moved_part m l (f.1.start - at) f.1.len (omega (arith, y.0, y.1)) in
    let a : at + (f.1.start - at) ≡ f.1.start = omega (arith, y.0) in
    lent_is t (part_at f.1 at to) (omega (arith, v.whole))
    ∙ v.same
    ∙ ap (λ (k : ℕ). take f.1.len (drop k s)) a
    ∙ sym (lent_is s f.1 (omega (arith, y.1, y.2)))

-- ---- and judged: a field that held holds
judge_moved : (numeric columns : ℕ) (s : List ℕ) (at kind : ℕ) (p q : Part) (t : List ℕ) (to : ℕ) → lent_part t q ≡ lent_part s p
    → judge_field numeric columns s at (kind, p) ≡ ok (tt {0})
    → judge_field numeric columns t to (kind, q) ≡ ok (tt {0})
unfolding judge_field
judge_moved numeric columns s at kind p q t to e h = rw e (held (is_field kind) (contents_hold numeric columns kind (lent_part s p)) h)
  where
    held : (a b : Bool) → cond a (cond b (ok (tt {0})) (refuse 7 at)) (refuse 6 at) ≡ ok (tt {0})
        → cond a (cond b (ok (tt {0})) (refuse 7 to)) (refuse 6 to) ≡ ok (tt {0})
    held true true h = refl
    held true false h = absurd (ok_not_refused (sym h))
    held false b h = absurd (ok_not_refused (sym h))

pub field_moved : (numeric columns : ℕ) (s : List ℕ) (at : ℕ) (f : ℕ × Part) (next : ℕ) (t : List ℕ) (to : ℕ)
    → field_item numeric columns s at ≡ ok (f, next)
    → Moved (next - at) s at t to
    → field_item numeric columns t to ≡ ok ((f.0, part_at f.1 at to), to + (next - at))
unfolding field_item
field_moved numeric columns s at f next t to e m =
    let a = after_is_ok (cut_field s at) _ (f, next) e in
    let b = after_is_ok (judge_field numeric columns s at a.0.0) (λ held. ok a.0) (f, next) a.2 in
    let q : a.0 ≡ (f, next) = same_ok b.2 in
    let c : cut_field s at ≡ ok (f, next) = a.1 ∙ ap ok q in
    let h : judge_field numeric columns s at f ≡ ok (tt {0}) =
    ap (λ (x : (ℕ × Part) × ℕ). judge_field numeric columns s at x.0) (sym q) ∙ b.1 in
    rw (
      cut_moved s at f next t to c m,
      judge_moved numeric columns s at f.0 f.1 (part_at f.1 at to) t to (value_same s at f next t to c m) h,
    )

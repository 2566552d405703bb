-- Values and items read fast at their place in one image, and their numbers where they stand in a buffer. `FastLaws` and `RunLaws` say the
-- same of eight bytes wherever they stand, but of lists of bytes alone. Assumes nothing.
use Prim.Native.Nat.{ℕ, ◌+◌, ◌-◌, ◌*◌, ◌/◌, ◌%◌, ◌^◌, ◌≤◌, ◌<◌}
use mathlib.Core.Path.{◌≡◌, refl, sym, ap, ◌∙◌}
use mathlib.Core.Bool.{true, false, cond}
use mathlib.Core.List.{List, [], ◌∷◌}
use native.Mathlib.Nat.{add-zero}
use native.Mathlib.Omega.{arith}
use lib.Dec.{ltb}
use lib.ListN.{length, get_or, take, drop}
use lib.Seq.{take-take}
use Rattle.wire.specs.Number.{Bytes, le_value, be_value}
use Rattle.wire.specs.Outcome.{Outcome, ok}
use Rattle.wire.specs.Bits.{bit_lsb0}
use Rattle.wire.specs.Signed.{signed_of, twos_of}
use Rattle.wire.specs.Stored.{stored}
use Rattle.temporal.specs.declared.storage.Storage.TheVariants.{Newdate, Timestamp2, Datetime2, Time2}
use Rattle.temporal.specs.Fraction.{fraction_bytes, unit_of}
use Rattle.temporal.specs.Ranges.{in_clock}
use Rattle.value.specs.declared.shape.Shape.{Shape}
use Rattle.value.specs.declared.shape.Shape.TheVariants.{Unsigned, Signed, YearByte, Timed}
use Rattle.value.specs.declared.datum.Value.TheVariants.{Year}
use Rattle.value.specs.Columns.{is_taken}
use Rattle.value.specs.Years.{year_of}
use Rattle.value.specs.Ops.{shape_for}
use Rattle.value.specs.Shapes.{need, decode, fault}
use Rattle.value.specs.Reading.{read_value, placed}
use Rattle.value.proofs.Readers.{got}
use Rattle.row_plan.specs.declared.row.RowCursor.{RowCursor}
use Rattle.row_plan.specs.Runs.{value_numbers}
use Rattle.row_plan.specs.Inner.Numbers.{numbered, one_listed, item_numbers}
use Rattle.row_plan.specs.Inner.Fast.{Reads}
use Rattle.row_plan.specs.Inner.Paused.{Stands}
use Rattle.row_plan.proofs.NumberLaws.{unsigned_got, signed_got}
use Rattle.row_plan.proofs.FastLaws.{took_date as date, took_seconds as seconds, took_datetime as datetime, took_time as time}
use Rattle.row_plan.proofs.RunLaws.{item_null, item_read, Taking, run_turn}

-- a reader, of any image and for any place of a refusal, reads numbers up to `next`; they were stored
pub record Taken (reads : ℕ → ℕ → Outcome (List ℕ × ℕ)) (next : ℕ) (buf exit : List ℕ) (to : ℕ) : Type 0 where
  pub numbers : List ℕ
  pub read : (by p : ℕ) → reads by p ≡ ok (numbers, next)
  pub put : exit ≡ stored numbers buf to

-- n bytes at a place are a value of a shape, and so it is; or n is 0 and nothing was stored
pub record Took (sh : Shape) (s : List ℕ) (at : ℕ) (buf exit : List ℕ) (to n : ℕ) : Type 0 where
  pub few : n ≤ 8
  pub left : n ≡ 0 → exit ≡ buf
  pub taken : (n ≡ 0 → ⊥) → Taken (λ by p. numbered by (read_value sh p s at)) (at + n) buf exit to

-- the same of an item of a plan; n is one more, since NULL takes no byte
pub record TookItem (plan image : List ℕ) (item offset : ℕ) (buf exit : List ℕ) (to n : ℕ) : Type 0 where
  pub few : n ≤ 9
  pub left : n ≡ 0 → exit ≡ buf
  pub taken : (n ≡ 0 → ⊥) → Taken (λ by p. item_numbers plan image by item offset) (offset + (n - 1)) buf exit to

-- ---- left, or taken
pub took_none : (sh : Shape) (s : List ℕ) (at : ℕ) (d : List ℕ) (to : ℕ) → Took sh s at d d to 0
took_none sh s at d to = record { few = omega arith; left = λ e. refl; taken = λ f. absurd (f refl) }

pub took_some : (sh : Shape) (s : List ℕ) (at : ℕ) (d d' : List ℕ) (to n : ℕ) (ns : List ℕ) → 0 < n → n ≤ 8
    → ((by p : ℕ) → numbered by (read_value sh p s at) ≡ ok (ns, at + n)) → d' ≡ stored ns d to → Took sh s at d d' to n
took_some sh s at d d' to n ns z l r e = record {
  few = l;
  left = λ x. absurd (omega (arith, x));
  taken = λ f. record { numbers = ns; read = r; put = e };
}

-- by another name of its op
pub at_op : {op o : ℕ} (s : List ℕ) (at : ℕ) (d d' : List ℕ) (to n : ℕ) → op ≡ o → Took (shape_for o) s at d d' to n
    → Took (shape_for op) s at d d' to n
at_op s at d d' to n e t = rw e t

-- ---- integers and years
module _ (s : List ℕ) (at : ℕ) (d d' : List ℕ) (to : ℕ) where
  pub took_unsigned : (k x : ℕ) → 0 < k → k ≤ 8 → at + 8 ≤ length s → x ≡ le_value (take k (drop at s)) → d' ≡ stored (one_listed 3 x) d to
      → Took (Unsigned k) s at d d' to k
  took_unsigned k x z l h e =
      took_some (Unsigned k) s at d d' to k (one_listed 3 x) z l (λ by p. sym (unsigned_got k by p s at x (omega arith) e))

  pub took_signed : (k x : ℕ) → 0 < k → k ≤ 8 → at + 8 ≤ length s → x ≡ twos_of (2 ^ 64) (signed_of (256 ^ k) (le_value (take k (drop at s))))
      → d' ≡ stored (one_listed 2 x) d to → Took (Signed k) s at d d' to k
  took_signed k x z l h e =
      took_some (Signed k) s at d d' to k (one_listed 2 x) z l (λ by p. sym (signed_got k by p s at x (omega arith) e))

  pub took_year : (x y : ℕ) → at + 8 ≤ length s → x ≡ le_value (take 1 (drop at s)) → y ≡ year_of x → d' ≡ stored (one_listed 7 y) d to
      → Took YearByte s at d d' to 1
  unfolding is_taken need decode fault placed value_numbers
  took_year x y h e ey =
      took_some YearByte s at d d' to 1 (one_listed 7 y) (omega arith) (omega arith) (λ by p. sym (ap (numbered by)
      (got YearByte p s at 1 (Year y) (at + 1) refl refl (omega arith) refl (ap Year (ey ∙ ap year_of e)) refl)))

-- ---- temporals
module _ (s : List ℕ) (b : Bytes s) (at : ℕ) (h : at + 8 ≤ length s) (d d' : List ℕ) (to : ℕ) where
  -- the eight bytes that stand there
  abbrev eight : List ℕ
  eight = take 8 (drop at s)

  here : (sh : Shape) (n : ℕ) (ns : List ℕ) → 0 < n → Reads sh eight n ns → d' ≡ stored ns d to → Took sh s at d d' to n
  here sh n ns z r e = took_some sh s at d d' to n ns z r.few (λ by p. r.reads s b at h refl by p) e

  pub took_date : (n : ℕ) → n ≡ le_value (take 3 (drop at s)) → n / 32 / 16 ≤ 9999 → n / 32 % 16 ≤ 12
      → d' ≡ stored (8 ∷ (n / 32 / 16 ∷ (n / 32 % 16 ∷ (n % 32 ∷ (0 ∷ (0 ∷ (0 ∷ (0 ∷ [])))))))) d to → Took (Timed Newdate) s at d d' to 3
  took_date n e y m =
      here (Timed Newdate) 3 _ (omega arith) (date n (e ∙ ap le_value (sym (take-take 3 8 (drop at s) (omega arith)))) y m refl)

  module _ (m0 w : ℕ) (ew : (w ≡ fraction_bytes m0) × (w ≤ 3)) (x : ℕ) (ex : x ≡ be_value (take 8 (drop at s))) where
    pub took_seconds : (u : ℕ) → u ≡ x / 256 % 16777216 / 256 ^ (3 - w) * unit_of w → u ≤ 999999
        → d' ≡ stored (6 ∷ (x / 4294967296 ∷ (u ∷ (0 ∷ (0 ∷ (0 ∷ (0 ∷ (0 ∷ [])))))))) d to
        → Took (Timed (Timestamp2 m0)) s at d d' to (4 + w)
    took_seconds u eu lu = here (Timed (Timestamp2 m0)) (4 + w) _ (omega arith) (seconds m0 w ew x ex u eu lu refl)

    pub took_datetime : (n u : ℕ) → 2 ^ 39 ≤ x / 16777216 → n ≡ x / 16777216 - 2 ^ 39 → u ≡ x % 16777216 / 256 ^ (3 - w) * unit_of w
        → n / 64 / 64 / 32 / 32 / 13 ≤ 9999 → in_clock 23 (n / 64 / 64 % 32) (n / 64 % 64) (n % 64) u ≡ true
        → d' ≡ stored (9 ∷ (n / 64 / 64 / 32 / 32 / 13 ∷ (n / 64 / 64 / 32 / 32 % 13 ∷ (n / 64 / 64 / 32 % 32 ∷ (n / 64 / 64 % 32
        ∷ (n / 64 % 64 ∷ (n % 64 ∷ (u ∷ [])))))))) d to → Took (Timed (Datetime2 m0)) s at d d' to (5 + w)
    took_datetime n u big en eu ly ck =
        here (Timed (Datetime2 m0)) (5 + w) _ (omega arith) (datetime m0 w ew x ex n u big en eu ly ck refl)

    pub took_time : (q off n u v : ℕ) → q ≡ x / 65536 / 256 ^ (3 - w) * 256 ^ (3 - w) → off ≡ q - 2 ^ 47 + (2 ^ 47 - q)
        → n ≡ off / 16777216 → u ≡ off % 16777216 / 256 ^ (3 - w) * unit_of w
        → in_clock 838 (n / 64 / 64) (n / 64 % 64) (n % 64) u ≡ true
        → v ≡ cond (ltb q (2 ^ 47)) 1 0
        → d' ≡ stored (10 ∷ (v ∷ (n / 64 / 64 ∷ (n / 64 % 64 ∷ (n % 64 ∷ (u ∷ (0 ∷ (0 ∷ [])))))))) d to
        → Took (Timed (Time2 m0)) s at d d' to (3 + w)
    took_time q off n u v eq eo en eu ck ev =
        here (Timed (Time2 m0)) (3 + w) _ (omega arith) (time m0 w ew x ex q off n u v eq eo en eu ck ev refl)

-- ---- an item of a plan
pub took_null : (plan image : List ℕ) (item offset : ℕ) (d d' : List ℕ) (to : ℕ) → bit_lsb0 image item ≡ true
    → d' ≡ stored (one_listed 1 0) d to → TookItem plan image item offset d d' to 1
unfolding value_numbers
took_null plan image item offset d d' to e s = record {
  few = omega arith;
  left = λ x. absurd (omega (arith, x));
  taken = λ f. record { numbers = one_listed 1 0; read = λ by p. rw add-zero (item_null plan image by item offset e); put = s };
}

pub took_left : (plan image : List ℕ) (item offset : ℕ) (d d' : List ℕ) (to : ℕ) → d' ≡ d → TookItem plan image item offset d d' to 0
took_left plan image item offset d d' to e = record { few = omega arith; left = λ x. e; taken = λ f. absurd (f refl) }

pub took_read : (plan image : List ℕ) (item offset op : ℕ) (d d' : List ℕ) (to n : ℕ) → bit_lsb0 image item ≡ false
    → op ≡ get_or plan (3 * item) 0 → Took (shape_for op) image offset d d' to n → (n ≡ 0 → ⊥)
    → TookItem plan image item offset d d' to (1 + n)
took_read plan image item offset op d d' to n e o t f =
    let k = t.taken f in
    let m : 1 + n - 1 ≡ n = omega arith in
    let j = le_value (take 2 (drop (3 * item + 1) plan)) in
    record {
      few = omega (arith, t.few);
      left = λ x. absurd (omega (arith, x));
      taken = λ x. record {
        numbers = k.numbers;
        read = λ by p. rw m (item_read plan image by item offset op j e o refl ∙ k.read by j);
        put = k.put;
      };
    }

-- a turn of the loop that reads fast, behind such an item
module _ (plan images : List ℕ) (items room had : ℕ) (d₀ : List ℕ) (here : RowCursor) (t : Stands plan images items here) (d : List ℕ)
    (item offset values limit : ℕ) (r : Taking plan images items room had d₀ here d item offset values limit) (l : item < limit)
    {im : List ℕ} (is : im ≡ drop here.start images) where
  pub take_turn : (n : ℕ) (d' : List ℕ) → TookItem plan im item offset d d' (8 * values) n → (n ≡ 0 → ⊥) → length d' ≡ length d
      → Taking plan images items room had d₀ here d' (item + 1) (offset + (n - 1)) (values + 1) limit
  take_turn n d' k f e =
      let g = k.taken f in
      record {
        run = run_turn plan images items room had d₀ here t d item offset values r.run (omega (arith, r.space))
            (omega (arith, r.most)) is g.numbers (offset + (n - 1)) d' (g.read here.start 0) g.put e;
        space = omega (arith, r.space);
        bytes = omega (arith, r.bytes, k.few);
        most = r.most;
      }

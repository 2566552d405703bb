-- How a refusal is one of those listed: along a chain, over a test. And the refusals of parts, of integers, of what is laid out, and of
-- stores. Assumes nothing.
use Prim.Native.Nat.{ℕ, ◌+◌, ◌≤◌, ◌<◌}
use mathlib.Core.Path.{◌≡◌, refl, sym, subst}
use mathlib.Core.Bool.{Bool, true, false, cond}
use mathlib.Core.Logic.{⊎_elim}
use mathlib.Core.List.{List}
use native.Mathlib.Omega.{arith}
use borrow.Author.Tests.{leb-false, eqb-false}
use lib.ListN.{length}
use lib.Dec.{leb, eqb}
use Rattle.wire.specs.declared.refusal.Refusal.{Refusal}
use Rattle.wire.specs.Outcome.{Outcome, ok, refused, refuse, after, why, out_of}
use Rattle.wire.specs.Packed.{read_fixed, read_packed}
use Rattle.wire.specs.Parts.{within}
use Rattle.wire.specs.Layouts.{IntegerCut, IntegerRefused, PartForm, bytes, named, integer, string, Whole, Cut, few_bytes, few_integer}
use Rattle.wire.specs.Layouts.{Unpacked, bad_integer, Layout, ◌then◌, counting, Starts, here, count, behind, counted, CutShort, cut_at}
use Rattle.wire.specs.Layouts.{NotPacked, unpacked_at}
use Rattle.wire.specs.Stored.{store}
use Rattle.wire.proofs.Outcomes.{after_refuses, ok_not_refused, same_refused}
use Rattle.wire.proofs.Forms.{Refuses, short, none, read_refuses}
use Rattle.table_map.specs.Parts.{short_part, long_part}
use Rattle.table_map.proofs.Layouts.{name_refuses, StringRefuses, cut_string, bad_string, string_refuses}
use Rattle.promises.specs.Refusals.{Line, OneOf}

-- every refusal is listed
abbrev pub Listed : {A : Type 0} → List Line → Outcome A → Type 1
Listed ls o = (w : Refusal) → o ≡ refused w → OneOf ls w

pub done : {A : Type 0} {ls : List Line} (a : A) → Listed ls (ok a)
done a w e = absurd (ok_not_refused e)

pub stop : {A : Type 0} {ls : List Line} {n p : ℕ} → OneOf ls (why n p) → Listed {A = A} ls (refuse n p)
stop {A} {ls} h w e = subst (OneOf ls) (same_refused e) h

-- refusal 10 at a place, whatever its part
abbrev pub Tens : List Line → ℕ → Type 1
Tens ls place = (part : ℕ) → 1 ≤ part → part ≤ 8 → OneOf ls (out_of place part)

pub stop_part : {A : Type 0} {ls : List Line} {place part : ℕ} → Tens ls place → eqb part 0 ≡ false → part ≤ 8
    → Listed {A = A} ls (refused (out_of place part))
stop_part {A} {ls} {place} {part} ten z m w e =
    let n = eqb-false part 0 z in
    subst (OneOf ls) (same_refused e) (ten part (omega (arith, n)) m)

-- a refusal that is handed on
pub hand : {A B : Type 0} {ls : List Line} (o : Outcome A) (w : Refusal) → Listed ls o → o ≡ refused w → Listed {A = B} ls (refused w)
hand {A} {B} {ls} o w h e v x = subst (OneOf ls) (same_refused x) (h w e)

pub chain : {A B : Type 0} {ls : List Line} (o : Outcome A) (f : A → Outcome B) → Listed ls o → ((a : A) → o ≡ ok a → Listed ls (f a))
    → Listed ls (after o f)
chain o f h k w e = ⊎_elim (λ x. h w x) (λ x. k x.0 x.1 w x.2) (after_refuses o f w e)

pub test : {A : Type 0} {ls : List Line} (t : Bool) {x y : Outcome A} → (t ≡ true → Listed ls x) → (t ≡ false → Listed ls y)
    → Listed ls (cond t x y)
test true h k = h refl
test false h k = k refl

-- ---- bytes that are to be there, and the number of k of them
pub bytes_there : {ls : List Line} (s : List ℕ) (o n place : ℕ) → (length s < o + n → OneOf ls (why 1 place))
    → Listed ls (within s o n place)
unfolding within
bytes_there s o n place one = test (leb (o + n) (length s)) (λ u. done _) (λ u. stop (one (leb-false (o + n) (length s) u)))

pub fixed : {ls : List Line} (k : ℕ) (s : List ℕ) (o : ℕ) → (length s < o + k → OneOf ls (why 1 o)) → Listed ls (read_fixed k s o)
unfolding read_fixed
fixed k s o one = chain (within s o k o) _ (bytes_there s o k o one) (λ n e. done _)

-- ---- a packed integer, and a part behind a length
pub packed : {ls : List Line} (s : List ℕ) (p : ℕ) → (IntegerCut s p → OneOf ls (why 1 p)) → (IntegerRefused s p → OneOf ls (why 2 p))
    → Listed ls (read_packed s p)
packed {ls} s p one two w e = go (read_refuses s p w e)
  where
    go : {w : Refusal} → Refuses s p w → OneOf ls w
    go (short c) = one c
    go (none c) = two c

pub short_part_lem : {ls : List Line} (s : List ℕ) (p : ℕ) → (Cut s named p → OneOf ls (why 1 p)) → Listed ls (short_part s p)
short_part_lem {ls} s p one w e =
    let x = name_refuses s p w e in
    subst (OneOf ls) (sym x.0) (one x.1)

pub long_part_lem : {ls : List Line} (s : List ℕ) (p : ℕ) → (Cut s string p → OneOf ls (why 1 p)) → (Unpacked s string p → OneOf ls (why 2 p))
    → Listed ls (long_part s p)
long_part_lem {ls} s p one two w e = go (string_refuses s p w e)
  where
    go : {w : Refusal} → StringRefuses s p w → OneOf ls w
    go (cut_string c) = one c
    go (bad_string c) = two c

-- ---- what is laid out from p on: its refusals are listed
pub record Told (ls : List Line) (s : List ℕ) (l : Layout) (p : ℕ) : Type 1 where
  pub cut : (q : ℕ) → CutShort s l p q → OneOf ls (why 1 q)
  pub unpacked : (q : ℕ) → NotPacked s l p q → OneOf ls (why 2 q)

-- so are those of what starts behind a part that is whole
pub further : {ls : List Line} {s : List ℕ} {l m : Layout} {p o : ℕ} → ((f : PartForm) (q : ℕ) → Starts s m o f q → Starts s l p f q)
    → Told ls s l p → Told ls s m o
further {ls} {s} {l} {m} {p} {o} into t = record { cut = λ q c. t.cut q (cuts c); unpacked = λ q c. t.unpacked q (refuses c) }
  where
    cuts : {q : ℕ} → CutShort s m o q → CutShort s l p q
    cuts (cut_at {f} {q} a c) = cut_at (into f q a) c

    refuses : {q : ℕ} → NotPacked s m o q → NotPacked s l p q
    refuses (unpacked_at {f} {q} a c) = unpacked_at (into f q a) c

pub then_told : {ls : List Line} {s : List ℕ} {f : PartForm} {l : Layout} {p q : ℕ} → Told ls s (f then l) p → Whole s f p q → Told ls s l q
then_told t w = further (λ f q a. behind w a) t

pub count_told : {ls : List Line} {s : List ℕ} {k : ℕ → Layout} {p n q : ℕ} → Told ls s (counting k) p → read_packed s p ≡ ok (n, q)
    → Told ls s (k n) q
count_told t e = further (λ f q a. counted e a) t

-- and those of the part that starts there
pub bytes_laid : {ls : List Line} {s : List ℕ} {k : ℕ} {l : Layout} {p : ℕ} → Told ls s (bytes k then l) p → Listed ls (within s p k p)
bytes_laid {ls} {s} {k} {l} {p} t = bytes_there s p k p (λ h. t.cut p (cut_at here (few_bytes h)))

pub named_laid : {ls : List Line} {s : List ℕ} {l : Layout} {p : ℕ} → Told ls s (named then l) p → Listed ls (short_part s p)
named_laid {ls} {s} {l} {p} t = short_part_lem s p (λ c. t.cut p (cut_at here c))

pub integer_laid : {ls : List Line} {s : List ℕ} {l : Layout} {p : ℕ} → Told ls s (integer then l) p → Listed ls (read_packed s p)
integer_laid {ls} {s} {l} {p} t =
    packed s p (λ c. t.cut p (cut_at here (few_integer c))) (λ c. t.unpacked p (unpacked_at here (bad_integer c)))

pub string_laid : {ls : List Line} {s : List ℕ} {l : Layout} {p : ℕ} → Told ls s (string then l) p → Listed ls (long_part s p)
string_laid {ls} {s} {l} {p} t = long_part_lem s p (λ c. t.cut p (cut_at here c)) (λ c. t.unpacked p (unpacked_at here c))

pub count_laid : {ls : List Line} {s : List ℕ} {k : ℕ → Layout} {p : ℕ} → Told ls s (counting k) p → Listed ls (read_packed s p)
count_laid {ls} {s} {k} {p} t =
    packed s p (λ c. t.cut p (cut_at count (few_integer c))) (λ c. t.unpacked p (unpacked_at count (bad_integer c)))

-- ---- bytes put into a buffer
pub room : {ls : List Line} (buf : List ℕ) (o : ℕ) (bs : List ℕ) → OneOf ls (why 8 0) → Listed ls (store bs buf o)
unfolding store
room buf o bs eight = test (leb (o + length bs) (length buf)) (λ u. done _) (λ u. stop eight)

-- Names and strings: those that were read are whole, and where one is refused it is cut short, or its length is refused. Assumes nothing.
use Prim.Native.Nat.{ℕ, ◌+◌}
use mathlib.Core.Path.{◌≡◌, sym, subst}
use mathlib.Core.Logic.{⊎_elim}
use mathlib.Core.List.{List}
use native.Mathlib.Omega.{arith}
use borrow.Author.Tests.{lt-leb}
use lib.ListN.{length, get_or}
use Rattle.wire.specs.declared.refusal.Refusal.{Refusal}
use Rattle.wire.specs.declared.part.Part.{Part}
use Rattle.wire.specs.Outcome.{ok, refused, refuse, why}
use Rattle.wire.specs.Number.{Bytes}
use Rattle.wire.specs.Packed.{read_packed}
use Rattle.wire.specs.Parts.{within}
use Rattle.wire.specs.Layouts.{named, string, Whole, all_named, all_string, Cut, few_named, few_length, few_string, Unpacked, bad_length}
use Rattle.wire.proofs.Outcomes.{after_refuses, ok_not_refused}
use Rattle.wire.proofs.Forms.{Refuses, short, none, read_refuses, cut_told as integer_cut, none_told as integer_none}
use Rattle.wire.proofs.Parts.{within_ok, within_refuses}
use Rattle.table_map.specs.Parts.{short_part, long_part}
use Rattle.table_map.proofs.Chains.{named as name_read, long_named}

pub name_whole : (s : List ℕ) (p : ℕ) (x : Part × ℕ) → short_part s p ≡ ok x → Whole s named p x.1
name_whole s p x e =
    let n = name_read s p x e in
    let q : p + 1 + get_or s p 0 ≡ x.1 = omega (arith, n.start, n.len, n.next_is) in
    subst (λ (y : ℕ). Whole s named p y) q (all_named (omega (arith, q, n.ends)))

pub name_refuses : (s : List ℕ) (p : ℕ) (w : Refusal) → short_part s p ≡ refused w → (w ≡ why 1 p) × Cut s named p
unfolding short_part
name_refuses s p w e =
    ⊎_elim
    (λ r. let x = within_refuses s p 1 p w r in (x.1, few_named (omega (arith, x.0))))
    (λ a.
    let i = within_ok s p 1 p a.0 a.1 in
    ⊎_elim
    (λ r. let x = within_refuses s a.0 (get_or s p 0) p w r in (x.1, few_named (omega (arith, i.0, x.0))))
    (λ b. absurd (ok_not_refused b.2))
    (after_refuses (within s a.0 (get_or s p 0) p) _ w a.2))
    (after_refuses (within s p 1 p) _ w e)

pub string_whole : (s : List ℕ) (p : ℕ) (x : Part × ℕ) → long_part s p ≡ ok x → Whole s string p x.1
string_whole s p x e =
    let n = long_named s p x e in
    subst (λ (y : ℕ). Whole s string p y) (sym n.1) (all_string n.0 (omega (arith, n.1, n.2)))

-- what a string that is refused is
pub data StringRefuses (s : List ℕ) (p : ℕ) : Refusal → Type 0 where
  cut_string : Cut s string p → StringRefuses s p (why 1 p)
  bad_string : Unpacked s string p → StringRefuses s p (why 2 p)

length_refuses : {s : List ℕ} {p : ℕ} {w : Refusal} → Refuses s p w → StringRefuses s p w
length_refuses (short c) = cut_string (few_length c)
length_refuses (none c) = bad_string (bad_length c)

pub string_refuses : (s : List ℕ) (p : ℕ) (w : Refusal) → long_part s p ≡ refused w → StringRefuses s p w
unfolding long_part
string_refuses s p w e =
    ⊎_elim (λ r. length_refuses (read_refuses s p w r))
    (λ a.
    ⊎_elim
    (λ r.
    let x = within_refuses s a.0.1 a.0.0 p w r in
    subst (StringRefuses s p) (sym x.1) (cut_string (few_string a.1 x.0)))
    (λ b. absurd (ok_not_refused b.2))
    (after_refuses (within s a.0.1 a.0.0 p) _ w a.2))
    (after_refuses (read_packed s p) _ w e)

-- and the other way, of bytes
pub cut_told : {s : List ℕ} {p : ℕ} → Cut s string p → long_part s p ≡ refuse 1 p
unfolding long_part within
cut_told (few_length c) = rw (integer_cut c)
cut_told {s} {p} (few_string {n = n} {q = q} e h) = rw (e, lt-leb (q + n) (length s) h)

pub unpacked_told : {s : List ℕ} {p : ℕ} → Bytes s → Unpacked s string p → long_part s p ≡ refuse 2 p
unfolding long_part
unpacked_told {s} {p} b (bad_length c) = rw (integer_none (b p) c)

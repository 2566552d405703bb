-- Bytes put behind a rows event: of its head, all that stands before the images, only a refusal 1 may change. Assumes nothing.
use Prim.Native.Nat.{ℕ}
use mathlib.Core.Bool.{Bool}
use mathlib.Core.List.{List, ◌++◌}
use lib.Dec.{ltb}
use Rattle.wire.specs.Outcome.{Stays, same}
use Rattle.wire.specs.Bits.{bytes_for}
use Rattle.wire.proofs.Appends.{stays_test, stays_chain, within_more, fixed_more, packed_more}
use Rattle.record.specs.Records.{read_record}
use Rattle.rows_event.specs.declared.form.Form.{Form}
use Rattle.rows_event.specs.Events.{form_of, extra_data, extra_at, second_set, second_at, sets_at, read_sets, read_parts, fitting, read_rows}

extra_more : (has : Bool) (s t : List ℕ) (at : ℕ) → Stays 1 (extra_at has s at) (extra_at has (s ++ t) at)
unfolding extra_at extra_data
extra_more has s t at =
    stays_test has
    (stays_chain _ _ (fixed_more 2 s t at) (λ n e.
    stays_test (ltb n.0 2) (same _) (stays_chain _ _ (within_more s t at n.0 at) (λ next q. same _))))
    (same _)

second_more : (has : Bool) (bytes : ℕ) (s t : List ℕ) (at : ℕ) → Stays 1 (second_at has bytes s at) (second_at has bytes (s ++ t) at)
unfolding second_at second_set
second_more has bytes s t at = stays_test has (stays_chain _ _ (within_more s t at bytes at) (λ next e. same _)) (same _)

sets_more : (second : Bool) (s t : List ℕ) (at : ℕ) → Stays 1 (read_sets second s at) (read_sets second (s ++ t) at)
unfolding read_sets sets_at
sets_more second s t at =
    stays_chain _ _ (packed_more s t at) (λ n e.
    stays_chain _ _ (within_more s t n.1 (bytes_for n.0) n.1) (λ a q.
    stays_chain _ _ (second_more second (bytes_for n.0) s t a) (λ b o. same _)))

parts_more : (f : Form) (s t : List ℕ) → Stays 1 (read_parts f s) (read_parts f (s ++ t))
unfolding read_parts
parts_more f s t =
    stays_chain _ _ (fixed_more 6 s t 0) (λ id e.
    stays_chain _ _ (fixed_more 2 s t 6) (λ flags q.
    stays_chain _ _ (extra_more f.extra s t 8) (λ x o.
    stays_chain _ _ (sets_more f.second s t x.1) (λ sets p. same _))))

pub rows_more : (code : ℕ) (profile : List ℕ) (id : ℕ) (s t : List ℕ)
    → Stays 1 (read_rows code profile id s) (read_rows code profile id (s ++ t))
unfolding read_rows
rows_more code profile id s t =
    stays_chain _ _ (same (read_record profile)) (λ columns e.
    stays_chain _ _ (same (form_of code)) (λ f q.
    stays_chain _ _ (parts_more f s t) (λ p o. same (fitting p id columns))))

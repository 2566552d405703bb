-- The check of a map: what it accepts, and the record that it writes. Assumes nothing.
use Prim.Native.Nat.{ℕ, ◌+◌, ◌≤◌, ◌<◌}
use mathlib.Core.Path.{◌≡◌, sym, ap, ◌∙◌}
use mathlib.Core.List.{List}
use native.Mathlib.Omega.{arith}
use lib.ListN.{length}
use lib.Dec.{leb}
use Rattle.wire.specs.Outcome.{ok, refuse, why}
use Rattle.wire.specs.Stored.{stored, store}
use Rattle.wire.proofs.Outcomes.{after_is_ok, test_is_ok}
use Rattle.wire.proofs.Stores.{store_fits, store_full}
use Rattle.value.specs.declared.classes.Dialect.{Dialect}
use Rattle.table_map.specs.declared.event.Event.{Event}
use Rattle.table_map.specs.Events.{read_event}
use Rattle.record.specs.declared.entry.Entry.{Entry}
use Rattle.record.specs.Records.{entry_at, record_bytes}
use Rattle.record.proofs.Made.{made_length}
use Rattle.map_check.specs.Check.{check_event, check_map, check}
use Rattle.map_check.specs.Passes.{Passes}
use Rattle.map_check.proofs.MapLaws.Relied.{accepted_valid, checked_valid}
use Rattle.map_check.proofs.MapLaws.Passing.{passed, passes}
use Rattle.promises.specs.Checks.{Checks}

accepted_passes : (d : Dialect) (s : List ℕ) (post_header : ℕ) (es : List Entry) → check_map d s post_header ≡ ok es
    → (e : Event) × (read_event s post_header ≡ ok e) × Passes d s e es
unfolding check_map
accepted_passes d s post_header es h =
    let x = after_is_ok (read_event s post_header) (λ e. check_event d s e) es h in
    (x.0, x.1, passed d s x.0 es x.2)

passes_accepted : (d : Dialect) (s : List ℕ) (post_header : ℕ) (e : Event) (es : List Entry) → read_event s post_header ≡ ok e
    → Passes d s e es
    → check_map d s post_header ≡ ok es
unfolding check_map
passes_accepted d s post_header e es r p = rw r (passes p)

accepted_written : (d : Dialect) (s : List ℕ) (post_header : ℕ) (buf : List ℕ) (es : List Entry) → check_map d s post_header ≡ ok es
    → entry_at (length es) ≤ length buf → check d s post_header buf ≡ ok (entry_at (length es), stored (record_bytes es) buf 0)
unfolding check
accepted_written d s post_header buf es h l =
    let m = made_length es in
    let z : 0 + length (record_bytes es) ≡ entry_at (length es) = omega (arith, m) in
    rw h (store_fits buf (record_bytes es) 0 (omega (arith, m)) ∙ ap (λ (n : ℕ). ok (n, stored (record_bytes es) buf 0)) z)

no_room : (d : Dialect) (s : List ℕ) (post_header : ℕ) (buf : List ℕ) (es : List Entry) → check_map d s post_header ≡ ok es
    → length buf < entry_at (length es) → check d s post_header buf ≡ refuse 8 0
unfolding check
no_room d s post_header buf es h l =
    let m = made_length es in
    rw h (store_full buf (record_bytes es) 0 (omega (arith, m)))

checked : (d : Dialect) (s : List ℕ) (post_header : ℕ) (buf : List ℕ) (n : ℕ) (left : List ℕ) → check d s post_header buf ≡ ok (n, left)
    → (es : List Entry) × (check_map d s post_header ≡ ok es) × (n ≡ entry_at (length es)) × (left ≡ stored (record_bytes es) buf 0)
unfolding check store
checked d s post_header buf n left h =
    let x = after_is_ok (check_map d s post_header) (λ es. store (record_bytes es) buf 0) (n, left) h in
    let r = record_bytes x.0 in
    let y = test_is_ok (leb (0 + length r) (length buf)) (0 + length r, stored r buf 0) (why 8 0) (n, left) x.2 in
    let i : 0 + length r ≡ n = ap (λ (v : ℕ × List ℕ). v.0) y.1 in
    let m = made_length x.0 in
    (x.0, x.1, omega (arith, m, i), sym (ap (λ (v : ℕ × List ℕ). v.1) y.1))

pub checks : Checks
unfolding check
checks = record {
  accepted_passes = accepted_passes;
  passes_accepted = passes_accepted;
  accepted_valid = accepted_valid;
  accepted_written = accepted_written;
  no_room = no_room;
  refused_so = λ d s post_header buf w h. rw h;
  checked = checked;
  checked_valid = checked_valid;
}

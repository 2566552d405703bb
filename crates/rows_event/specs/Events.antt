-- The rows event, in document 02's order: "Six-byte table id, two flag bytes, in the second edition a two-byte length that counts itself
-- and then extra data, packed column count, presence bits, for updates a second set, then images to the end." One rule for both editions:
-- the extra data is a part that may be absent. "Refusals: 11, then 16 for another code; 1, 2 and 15, an extra length below 2, as met; 16
-- for a table id unlike the map's, then a column count unlike the record's (15 and 16 at their field, a code at 0)". Assumes nothing.
use Rattle.std.specs.Prelude.{ℕ, ◌+◌, ◌-◌, Bool, true, false, cond, Option, Some, None, List, ltb, eqb}
use Rattle.wire.specs.declared.part.Part.{Part}
use Rattle.wire.specs.Outcome.{Outcome, ok, refuse, after}
use Rattle.wire.specs.Bits.{bytes_for}
use Rattle.wire.specs.Packed.{read_fixed, read_packed}
use Rattle.wire.specs.Parts.{part, within}
use Rattle.record.specs.Records.{read_record}
use Rattle.rows_event.specs.declared.form.Form.{Form}
use Rattle.rows_event.specs.declared.parts.Sets.{Sets}
use Rattle.rows_event.specs.declared.parts.RowsParts.{RowsParts}
use Rattle.rows_event.specs.declared.event.Rows.{Rows}

-- what the code says: whether there is extra data, and whether there is a second set. 23, 24, 25 are write, update, delete, and 30, 31, 32
-- the same in the second edition
abbrev pub form : Bool → Bool → Form
form extra second = record { extra = extra; second = second }

unfoldable pub form_of : ℕ → Outcome Form
form_of code =
    cond (eqb code 23) (ok (form false false))
    (cond (eqb code 24) (ok (form false true))
    (cond (eqb code 25) (ok (form false false))
    (cond (eqb code 30) (ok (form true false))
    (cond (eqb code 31) (ok (form true true))
    (cond (eqb code 32) (ok (form true false))
    (refuse 16 0))))))

-- extra data behind its length, which counts itself, and the place after it. If it is cut short, the refusal is at its length
unfoldable pub extra_data : List ℕ → ℕ → Outcome (Option Part × ℕ)
unfolding read_fixed within
extra_data s at =
    after (read_fixed 2 s at) (λ n.
    cond (ltb n.0 2) (refuse 15 at)
    (after (within s at n.0 at) (λ next.
    ok (Some (part (at + 2) (n.0 - 2)), next))))

-- if the form has it
unfoldable pub extra_at : Bool → List ℕ → ℕ → Outcome (Option Part × ℕ)
unfolding extra_data
extra_at has s at = cond has (extra_data s at) (ok (None, at))

-- a second set of so many bytes, and the place after it
unfoldable pub second_set : ℕ → List ℕ → ℕ → Outcome (Option Part × ℕ)
unfolding within
second_set bytes s at = after (within s at bytes at) (λ next. ok (Some (part at bytes), next))

-- if the form has it
unfoldable pub second_at : Bool → ℕ → List ℕ → ℕ → Outcome (Option Part × ℕ)
unfolding second_set
second_at has bytes s at = cond has (second_set bytes s at) (ok (None, at))

-- the presence bits of so many columns: one set or two, and where the images begin
unfoldable pub sets_at : Bool → ℕ → List ℕ → ℕ → Outcome Sets
unfolding within second_at
sets_at second count s at =
    after (within s at (bytes_for count) at) (λ a.
    after (second_at second (bytes_for count) s a) (λ b.
    ok (record { count = count; before = part at (bytes_for count); after = b.0; images = b.1 })))

unfoldable pub read_sets : Bool → List ℕ → ℕ → Outcome Sets
unfolding read_packed sets_at
read_sets second s at = after (read_packed s at) (λ n. sets_at second n.0 s n.1)

-- all parts in order
unfoldable pub read_parts : Form → List ℕ → Outcome RowsParts
unfolding read_fixed extra_at read_sets
read_parts f s =
    after (read_fixed 6 s 0) (λ id.
    after (read_fixed 2 s 6) (λ flags.
    after (extra_at f.extra s 8) (λ x.
    after (read_sets f.second s x.1) (λ sets.
    ok (record { id = id.0; flags = flags.0; extra = x.0; counted = x.1; sets = sets })))))

-- what is handed on of them
abbrev pub rows_of : RowsParts → Rows
rows_of p = record { flags = p.flags; extra = p.extra; before = p.sets.before; after = p.sets.after; images = p.sets.images }

-- an event of the map's table and of the record's columns
unfoldable pub fitting : RowsParts → ℕ → ℕ → Outcome Rows
fitting p id columns = cond (eqb p.id id) (cond (eqb p.sets.count columns) (ok (rows_of p)) (refuse 16 p.counted)) (refuse 16 0)

-- the call: the code, the record, the map's table id, and the event's bytes
unfoldable pub read_rows : ℕ → List ℕ → ℕ → List ℕ → Outcome Rows
unfolding read_record form_of read_parts fitting
read_rows code profile id s =
    after (read_record profile) (λ columns.
    after (form_of code) (λ f.
    after (read_parts f s) (λ p.
    fitting p id columns)))

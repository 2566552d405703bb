-- How a rows event is laid out: "Six-byte table id, two flag bytes, in the second edition a two-byte length that counts itself and then
-- extra data, packed column count, presence bits, for updates a second set, then images to the end." Assumes nothing.
use Rattle.std.specs.Prelude.{ℕ, ◌≡◌, Bool, cond, List}
use Rattle.wire.specs.Bits.{bytes_for}
use Rattle.wire.specs.Outcome.{Outcome, ok, refused}
use Rattle.wire.specs.Packed.{read_packed}
use Rattle.wire.specs.Layouts.{bytes, integer, sized, Layout, ◌then◌, counting, whatever, Starts}
use Rattle.rows_event.specs.declared.form.Form.{Form}
use Rattle.rows_event.specs.Events.{form_of}

-- count and presence bits, with a second set or without
abbrev pub sets_layout : Bool → Layout
sets_layout second = counting (λ n. bytes (bytes_for n) then cond second (bytes (bytes_for n) then whatever) whatever)

abbrev pub form_layout : Form → Layout
form_layout f = bytes 6 then bytes 2 then cond f.extra (sized then sets_layout f.second) (sets_layout f.second)

-- by its code, as far as there is such a form
abbrev pub layout_by : Outcome Form → Layout
layout_by (ok f) = form_layout f
layout_by (refused w) = whatever

abbrev pub rows_layout : ℕ → Layout
rows_layout code = layout_by (form_of code)

-- the column count starts at p, and is another than this
pub data CountUnlike (s : List ℕ) (l : Layout) (columns : ℕ) : ℕ → Type 0 where
  unlike : {n p q : ℕ} → Starts s l 0 integer p → read_packed s p ≡ ok (n, q) → (n ≡ columns → ⊥) → CountUnlike s l columns p

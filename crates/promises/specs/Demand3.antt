-- Demand 3, sentence by sentence, and the line that says it.
-- "What the map check passes, a row can rely on": `checks`, `named`, `map_walks` and `relied_on`.
-- "Under an accepted map's record and presence bits of its length, every image either yields one answer per present column, in order, each
-- NULL or inside its column's domain, and laid end to end over the bytes reported used, or it is refused exactly where 01's split runs out
-- of bytes or meets a temporal part out of range, the earlier deciding": `walked` and `exactly`; that the walk is the library's steps,
-- `step_by_step` and `only_step_by_step`; of single steps, `step_sound` and `step_lent`.
-- "No other refusal occurs": `no_other_refusal`.
-- "Every row inside the domains is read back from the image our writer makes of it, given room": `row_written`, `row_refused`, `every_row`.
--
-- The definitions that carry it, in the order in which to read them. What a valid record is, and how many columns it has:
-- record/specs/Records. Which of them an image has: image/specs/Present. How the values of a column are stored: value/specs/Columns. Which
-- values it can hold: value/specs/Domains. What their bytes are, and how many: value/specs/Shapes. What an image says, and when it is
-- broken: image/specs/Rows, with
-- `Fails` of value/specs/Reading. How a row is written: image/specs/WriteRow. `demand3` in proofs/Demand3.antt proves all of it. Assumes
-- nothing.
use Rattle.std.specs.Prelude.{ℕ, ◌-◌, ◌^◌, ◌≤◌, ◌<◌, ◌≡◌, true, List, [], ◌∷◌, length, take, drop}
use Rattle.wire.specs.declared.refusal.Refusal.{Refusal}
use Rattle.wire.specs.Outcome.{ok, refused, refuse}
use Rattle.wire.specs.Number.{Bytes}
use Rattle.wire.specs.Bits.{bytes_for}
use Rattle.value.specs.declared.classes.Dialect.{Dialect}
use Rattle.value.specs.declared.datum.Value.{Value}
use Rattle.value.specs.Domains.{domain}
use Rattle.value.specs.Shapes.{bytes_of}
use Rattle.value.specs.Reading.{datum_of}
use Rattle.value_parts.specs.Parts.{is_held}
use Rattle.record.specs.Records.{count_of, record_valid}
use Rattle.map_check.specs.Check.{check}
use Rattle.image.specs.declared.cursor.Cursor.{Cursor}
use Rattle.image.specs.Present.{shape_at, present}
use Rattle.image.specs.declared.step.Step.TheVariants.{Value as value}
use Rattle.image.specs.Split.{step_from}
use Rattle.image.specs.Walk.{RowWalked, row_onward, walk_from, walk_image}
use Rattle.image.specs.Rows.{Row, in_domains, Says, WalkRefusal}
use Rattle.image.specs.WriteRow.{LentValue, row_of, Fit, write_row, write_left, image_size, Wrote, Stopped}
use Rattle.promises.specs.Checks.{Checks}
use Rattle.promises.specs.Names.{Named}
use Rattle.promises.specs.MapWalks.{MapWalks}
use Rattle.promises.specs.Values.{Within}

-- a row as a program has it: each value within the bits of its parts, and beside it bytes, fewer than 2^32
abbrev pub RowHeld : List LentValue → Type 0
RowHeld [] = Unit {0}
RowHeld (g ∷ gs) = (is_held g.value ≡ true) × Bytes g.lent × (length g.lent < 2 ^ 32) × RowHeld gs

-- what a row can rely on under the record `profile`. ds is a row on paper, a datum for each present column, and gs a row as the
-- writer takes it, values with the bytes lent beside each
pub record Relied (profile : List ℕ) : Type 0 where
  -- what the walk over an image gives is what the image says. Either null bits and all values are there: one answer for each present
  -- column, in order, each NULL or in its domain, laid end to end over the bytes used, and anything may stand behind them. Or the null bits
  -- are not whole: 9 at 0. Or the answers before the first value that ends early (9) or is all there and has a part out of range (10), and
  -- that refusal at its column
  pub walked : (presence image : List ℕ) → length presence ≡ bytes_for (count_of profile) → Bytes image
      → Says (present profile presence) image (walk_image profile presence image)
  -- exactly so: whatever the image says is what the walk gives
  pub exactly : (presence image : List ℕ) (w : RowWalked) → length presence ≡ bytes_for (count_of profile)
      → Says (present profile presence) image w → walk_image profile presence image ≡ w
  -- no other refusal occurs
  pub no_other_refusal : (presence image : List ℕ) (w : Refusal) → length presence ≡ bytes_for (count_of profile) → Bytes image
      → (walk_image profile presence image).how ≡ refused w → WalkRefusal profile presence image w
  -- every row in the domains, with null bits that say which of it is NULL, is written given room, and the walk over what was written gives
  -- the row, whatever stands behind it
  pub row_written : (presence nulls : List ℕ) (gs : List LentValue) (buf : List ℕ) → Fit profile presence nulls gs
      → image_size profile presence nulls (row_of gs) ≤ length buf
      → Wrote profile presence nulls (row_of gs) buf (write_row profile presence nulls gs buf)
  -- and is refused for room alone. The calls before the one without room have stored what they took, and that is all the buffer differs in
  pub row_refused : (presence nulls : List ℕ) (gs : List LentValue) (buf : List ℕ) → Fit profile presence nulls gs
      → length buf < image_size profile presence nulls (row_of gs)
      → (write_row profile presence nulls gs buf ≡ refuse 8 0)
      × Stopped (present profile presence) nulls (row_of gs) buf (write_left profile presence nulls gs buf)
  -- every row on paper in the domains can be given so: there are such values and such null bits, and they are the machine's
  pub every_row : (presence : List ℕ) (ds : Row) → length presence ≡ bytes_for (count_of profile)
      → in_domains (present profile presence) ds ≡ true
      → (nulls : List ℕ) × (gs : List LentValue) × Fit profile presence nulls gs × (row_of gs ≡ ds) × Bytes nulls × RowHeld gs

-- demand 3
pub record Demand3 : Type 0 where
  -- what the check passes: exactly the maps that document 01 lists, and it leaves a valid record of them
  pub checks : Checks
  -- and the names of its columns are known
  pub named : Named
  -- and by the calls for C its fields and their lists are met whole
  pub map_walks : MapWalks
  -- under every valid record a row can rely on it
  pub relied : (profile : List ℕ) → record_valid profile ≡ true → Relied profile
  -- so under the record that the check left of a map, in whatever dialect
  pub relied_on : (d : Dialect) (event : List ℕ) (post_header : ℕ) (buf : List ℕ) (n : ℕ) (left : List ℕ)
      → check d event post_header buf ≡ ok (n, left) → Relied (take n left)
  -- and the walk is its steps, which are what the library has: from any cursor, made up or not, it is the step's answer and then the walk
  -- from the step's cursor
  pub step_by_step : (profile presence image : List ℕ) (c : Cursor)
      → walk_from profile presence image c ≡ row_onward (walk_from profile presence image) image (step_from profile presence image c)
  -- exactly so: whatever goes by steps is this walk. So none that stops early does
  pub only_step_by_step : (profile presence image : List ℕ) (w : Cursor → RowWalked)
      → ((c : Cursor) → w c ≡ row_onward w image (step_from profile presence image c))
      → (c : Cursor) → w c ≡ walk_from profile presence image c
  -- a value that a step tells, from any cursor, is in its column's domain, and its stored form stands between the two cursors' offsets
  pub step_sound : (profile presence image : List ℕ) (c : Cursor) (j : ℕ) (v : Value) (next : Cursor) → Bytes image
      → step_from profile presence image c ≡ ok (value j v next)
      → (domain (shape_at profile j) (datum_of image v) ≡ true) × (c.offset ≤ next.offset) × (next.offset ≤ length image)
      × (bytes_of (shape_at profile j) (datum_of image v) ≡ take (next.offset - c.offset) (drop c.offset image))
  -- and if it is bytes, it tells where they are: within these, and up to their end
  pub step_lent : (profile presence image : List ℕ) (c : Cursor) (j : ℕ) (v : Value) (next : Cursor) → Bytes image
      → step_from profile presence image c ≡ ok (value j v next)
      → Within image c.offset next.offset v

-- Request 9: bytes after an image. "We often hold an image with the next one behind it." Whatever bytes `more` are put behind those that
-- were read, what was read stays; only bytes that ended early (9 in images, 1 elsewhere) may be told otherwise. And the law under it: what
-- was read is told by its own bytes, wherever they stand. Nothing is asked of the record, the presence bits or the bytes but what is
-- written. `appended` in proofs/Appended.antt proves it. Assumes nothing.
use Rattle.std.specs.Prelude.{ℕ, ◌+◌, ◌-◌, ◌≤◌, ◌≡◌, List, [], ◌∷◌, ◌++◌, pos, negsuc, length, take, drop}
use Rattle.wire.specs.declared.refusal.Refusal.{Refusal}
use Rattle.wire.specs.declared.part.Part.{Part}
use Rattle.wire.specs.Outcome.{ok, refused, refuse, out_of, Stays}
use Rattle.wire.specs.Bits.{bytes_for}
use Rattle.wire.specs.Parts.{part, lent_part, Moved}
use Rattle.wire.specs.Packed.{read_packed}
use Rattle.value.specs.declared.shape.Shape.{Shape}
use Rattle.value.specs.Data.{Datum, int, uint, bytes}
use Rattle.value.specs.Reading.{read_datum, placed, read_value}
use Rattle.table_map.specs.declared.field.Fields.{Fields}
use Rattle.table_map.specs.Lists.{end, item}
use Rattle.table_map.specs.Fields.{cut_field, field_item, field_step}
use Rattle.record.specs.Records.{count_of}
use Rattle.image.specs.declared.cursor.Cursor.{Cursor}
use Rattle.image.specs.Present.{count_bits}
use Rattle.image.specs.declared.step.Step.TheVariants.{End as image_end}
use Rattle.image.specs.Split.{ColumnStepped, cursor, step_from}
use Rattle.image.specs.Walk.{walk_image}
use Rattle.image.specs.Grown.{Later, Filled, Grows}
use Rattle.rows_event.specs.Events.{read_rows}
use Rattle.promises.specs.RowPlans.{Under, worked_record, worked_image}

-- an INT, a DATE and a TINYINT UNSIGNED
abbrev pub dated_record : List ℕ
dated_record = 24 ∷ 0 ∷ 1 ∷ 0 ∷ 3 ∷ 0 ∷ 3 ∷ 12 ∷ 0 ∷ 0 ∷ 0 ∷ 0 ∷ 14 ∷ 10 ∷ 0 ∷ 0 ∷ 0 ∷ 0 ∷ 1 ∷ 13 ∷ 0 ∷ 0 ∷ 0 ∷ 0 ∷ []

pub record Appended : Type 0 where
  -- ---- images
  -- "if an image is read, then appending bytes never alters an answer, a place or the count used": the walk gives the same answers and
  -- the same end; and each answer of a step, from any cursor, stays as it is, with the start and length of its bytes and its next cursor
  pub image_kept : (profile presence image more : List ℕ) (used : ℕ) → (walk_image profile presence image).how ≡ ok used
      → walk_image profile presence (image ++ more) ≡ walk_image profile presence image
  pub answer_kept : (profile presence image more : List ℕ) (c : Cursor) (t : ColumnStepped) → step_from profile presence image c ≡ ok t
      → step_from profile presence (image ++ more) c ≡ ok t
  -- "refusal 10 stays refusal 10 under appending": at its column, of its part, with the same answers before it. So does every refusal but 9
  pub refusal_kept : (profile presence image more : List ℕ) (w : Refusal) → (walk_image profile presence image).how ≡ refused w
      → (w.number ≡ 9 → ⊥)
      → walk_image profile presence (image ++ more) ≡ walk_image profile presence image
  -- "refusal 9 may become an answer, or a 9 or 10 at the same or a later column, the values before it unchanged"
  pub nine_grows : (profile presence image more : List ℕ) (column : ℕ) → (walk_image profile presence image).how ≡ refuse 9 column
      → ((behind : List (ℕ × Datum))
      × ((walk_image profile presence (image ++ more)).answers ≡ (walk_image profile presence image).answers ++ behind))
      × Later column (walk_image profile presence (image ++ more)).how
  -- one step, from any cursor, made up or not: it stays, or it is a refusal 9, and becomes an answer, or a 9 or 10 at the same or a later
  -- column
  pub step_grows : (profile presence image more : List ℕ) (c : Cursor)
      → Grows Later (step_from profile presence image c) (step_from profile presence (image ++ more) c)
  -- from one that stands within an image with all its null bits, the 9 is a value's, and becomes that value, or a 9 or 10 at its column
  pub value_grows : (profile presence image more : List ℕ) (c : Cursor) → Under profile presence → c.column ≤ count_of profile
      → bytes_for (count_bits presence (count_of profile)) ≤ length image
      → c.offset ≤ length image
      → Grows Filled (step_from profile presence image c) (step_from profile presence (image ++ more) c)
  -- a 9 for an offset past the image is no value's, and may become the end, which stands at no column
  pub past_ends : (step_from worked_record (7 ∷ []) (take 8 worked_image) (cursor 3 9) ≡ refuse 9 3)
      × (step_from worked_record (7 ∷ []) worked_image (cursor 3 9) ≡ ok (image_end 9))
  -- ---- "For the packed integer reader and one optional field likewise: only a refusal 1 may change"
  -- a packed integer, at any place
  pub packed : (s more : List ℕ) (at : ℕ) → Stays 1 (read_packed s at) (read_packed (s ++ more) at)
  -- the step of the walk over optional fields, wherever its cursor stands but at the end of the bytes
  pub field : (c : Fields) (s more : List ℕ) → (c.at ≡ length s → ⊥) → Stays 1 (field_step c s) (field_step c (s ++ more))
  -- there it has no field and tells the end, which is no refusal, and bytes put there are a field, or refused: the end alone does not stay
  pub field_none : (c : Fields) (s : List ℕ) → c.at ≡ length s → field_step c s ≡ ok end
  pub field_new : (c : Fields) (s : List ℕ) (b : ℕ) (more : List ℕ) → c.at ≡ length s → field_step c (s ++ (b ∷ more)) ≡ ok end → ⊥
  -- and all that a rows event has before its images
  pub rows_head : (code : ℕ) (profile : List ℕ) (id : ℕ) (s more : List ℕ)
      → Stays 1 (read_rows code profile id s) (read_rows code profile id (s ++ more))
  -- ---- what was read is told by its own bytes, wherever they stand, and its places are moved with them
  -- a packed integer, and the place after it
  pub packed_moved : (s : List ℕ) (at v next : ℕ) (t : List ℕ) (to : ℕ) → read_packed s at ≡ ok (v, next) → Moved (next - at) s at t to
      → read_packed t to ≡ ok (v, to + (next - at))
  -- the stored value of a column of any shape, n bytes of it
  pub value_moved : (shape : Shape) (column : ℕ) (s : List ℕ) (at : ℕ) (d : Datum) (n : ℕ) (t : List ℕ) (to : ℕ)
      → read_datum shape column (drop at s) ≡ ok (d, n)
      → Moved n s at t to
      → read_value shape column t to ≡ ok (placed (to + n) d, to + n)
  -- a field cut out, and one that was judged; its value has the same bytes
  pub cut_moved : (s : List ℕ) (at kind : ℕ) (value : Part) (next : ℕ) (t : List ℕ) (to : ℕ) → cut_field s at ≡ ok ((kind, value), next)
      → Moved (next - at) s at t to
      → cut_field t to ≡ ok ((kind, part (to + (value.start - at)) value.len), to + (next - at))
  pub field_moved : (numeric columns : ℕ) (s : List ℕ) (at kind : ℕ) (value : Part) (next : ℕ) (t : List ℕ) (to : ℕ)
      → field_item numeric columns s at ≡ ok ((kind, value), next)
      → Moved (next - at) s at t to
      → field_item numeric columns t to ≡ ok ((kind, part (to + (value.start - at)) value.len), to + (next - at))
  pub contents_moved : (s : List ℕ) (at kind : ℕ) (value : Part) (next : ℕ) (t : List ℕ) (to : ℕ) → cut_field s at ≡ ok ((kind, value), next)
      → Moved (next - at) s at t to
      → lent_part t (part (to + (value.start - at)) value.len) ≡ lent_part s value
  -- an image, of as many bytes as it used
  pub image_moved : (profile presence image : List ℕ) (used : ℕ) (t : List ℕ) (to : ℕ)
      → (walk_image profile presence image).how ≡ ok used
      → Moved used image 0 t to
      → walk_image profile presence (drop to t) ≡ walk_image profile presence image
  -- ---- computed
  -- document 01's worked image with the next one behind it: -2, "ab", 200, nine bytes used
  pub next_behind : walk_image worked_record (7 ∷ []) (worked_image ++ worked_image)
      ≡ record { answers = (0, int (negsuc 1)) ∷ (1, bytes (97 ∷ 98 ∷ [])) ∷ (2, uint 200) ∷ []; how = ok 9 }
  -- an image cut in its date, whose month is 13, as its first two bytes say: 9 at its column all the same. With the byte that was missing,
  -- and anything behind it, 10 there, of part 2
  pub cut_date : (walk_image dated_record (7 ∷ []) (248 ∷ 5 ∷ 0 ∷ 0 ∷ 0 ∷ 161 ∷ 161 ∷ [])
      ≡ record { answers = (0, int (pos 5)) ∷ []; how = refuse 9 1 })
      × (walk_image dated_record (7 ∷ []) ((248 ∷ 5 ∷ 0 ∷ 0 ∷ 0 ∷ 161 ∷ 161 ∷ []) ++ (15 ∷ 200 ∷ 0 ∷ []))
      ≡ record { answers = (0, int (pos 5)) ∷ []; how = refused (out_of 1 2) })
  -- at the end of a field of type 12 nothing stands; a type byte put there is cut short, and with its length it is a field
  pub end_of_fields : (field_step (record { at = 3; numeric = 0; columns = 3 }) (12 ∷ 1 ∷ 0 ∷ []) ≡ ok end)
      × (field_step (record { at = 3; numeric = 0; columns = 3 }) (12 ∷ 1 ∷ 0 ∷ 3 ∷ []) ≡ refuse 1 4)
      × (field_step (record { at = 3; numeric = 0; columns = 3 }) (12 ∷ 1 ∷ 0 ∷ 3 ∷ 0 ∷ [])
      ≡ ok (item (3, part 5 0) (record { at = 5; numeric = 0; columns = 3 })))

-- Request 9, from the laws of the crates below; and its readings, computed. Assumes nothing.
use Prim.Native.Nat.{ℕ, ◌<◌}
use mathlib.Core.Path.{◌≡◌, refl, sym}
use mathlib.Core.List.{List, [], ◌∷◌, ◌++◌}
use native.Mathlib.Omega.{arith}
use borrow.Author.Tests.{eq-eqb, ne_eqb, le-ltb}
use lib.IntN.{pos, negsuc}
use lib.ListN.{length, take, length-append}
use Rattle.wire.specs.declared.part.Part.{Part}
use Rattle.wire.specs.Outcome.{Outcome, ok, refused, refuse, out_of, after}
use Rattle.wire.specs.Number.{le_value}
use Rattle.wire.specs.Signed.{signed_of}
use Rattle.wire.specs.Bits.{digit, bit_lsb0}
use Rattle.wire.specs.Parts.{part, within}
use Rattle.wire.specs.Packed.{packed_form, read_packed}
use Rattle.wire.proofs.Outcomes.{ok_not_refused, same_ok}
use Rattle.wire.proofs.Appends.{packed_more}
use Rattle.wire.proofs.Moves.{packed_moved}
use Rattle.temporal.specs.Ranges.{day_fault}
use Rattle.value.specs.Data.{int, uint, bytes}
use Rattle.value.specs.Types.{family_of, is_numeric}
use Rattle.value.specs.Columns.{shape_in, shape_of, is_taken}
use Rattle.value.specs.Classes.{is_character, is_enum_or_set}
use Rattle.value.specs.Shapes.{need, decode, fault}
use Rattle.value.specs.Reading.{taken, cut, judged, read_datum}
use Rattle.value.proofs.Moves.{value_moved}
use Rattle.table_map.specs.declared.field.Fields.{Fields}
use Rattle.table_map.specs.Parts.{long_part}
use Rattle.table_map.specs.Lists.{Stepped, end, item, step}
use Rattle.table_map.specs.Fields.{contents_hold, cut_field, judge_field, field_item, with_cursor, field_step}
use Rattle.table_map.proofs.Appends.{fields_more}
use Rattle.table_map.proofs.FieldMoves.{cut_moved, field_moved, value_same}
use Rattle.record.specs.Entries.{flags_hold, charset_holds, entry_holds, entry_of}
use Rattle.record.specs.Records.{entry_in, entries_hold, head_holds, record_valid, read_record}
use Rattle.image.specs.Present.{count_bits, shape_at, present_from}
use Rattle.image.specs.declared.step.Step.TheVariants.{End as image_end}
use Rattle.image.specs.Split.{ColumnStepped, cursor, slots, slots_at, head_of, first_cursor, slots_left, step_over, step_from}
use Rattle.image.specs.Walk.{read_slot, read_slots, walk_from, walk_image}
use Rattle.image.specs.Grown.{Later, Grows, same, more}
use Rattle.image.proofs.AppendLaws.GrownSteps.{step_more, step_filled}
use Rattle.image.proofs.AppendLaws.GrownWalks.{read_kept, refusal_kept, nine_grows}
use Rattle.image.proofs.AppendLaws.ImageMoves.{image_moved}
use Rattle.rows_event.proofs.Appends.{rows_more}
use Rattle.promises.specs.RowPlans.{worked_record, worked_image}
use Rattle.promises.specs.Appended.{dated_record, Appended}

-- ---- a step's answer stays
kept : {t : ColumnStepped} {x y : Outcome ColumnStepped} → Grows Later x y → x ≡ ok t → y ≡ ok t
kept (same o) e = e
kept (more j o l) e = absurd (ok_not_refused (sym e))

-- ---- at the end of the optional fields
field_none : (c : Fields) (s : List ℕ) → c.at ≡ length s → field_step c s ≡ ok end
unfolding field_step step
field_none c s e = rw (eq-eqb c.at (length s) e)

not_end : {A C : Type 0} {a : A} {c : C} → ◌≡◌ {A = Stepped A C} (item a c) end → ⊥
not_end e = let z : ◌≡◌ {A = ℕ} 0 1 = cc in omega arith

field_new : (c : Fields) (s : List ℕ) (b : ℕ) (t : List ℕ) → c.at ≡ length s → field_step c (s ++ (b ∷ t)) ≡ ok end → ⊥
unfolding field_step step
field_new c s b t e =
    let l : c.at < length (s ++ (b ∷ t)) = omega (arith, e, length-append s (b ∷ t)) in
    rw (ne_eqb c.at (length (s ++ (b ∷ t))) (λ q. omega arith), le-ltb (length (s ++ (b ∷ t))) c.at (omega arith))
    (λ q. go (field_item c.numeric c.columns (s ++ (b ∷ t)) c.at) q)
  where
    go : (x : Outcome ((ℕ × Part) × ℕ)) → after (after x (λ x. ok (item x.0 x.1))) (λ x. ok (with_cursor c x)) ≡ ok end → ⊥
    go (ok x) q = not_end (same_ok q)
    go (refused w) q = ok_not_refused (sym q)

-- ---- computed
past_ends : (step_from worked_record (7 ∷ []) (take 8 worked_image) (cursor 3 9) ≡ refuse 9 3)
    × (step_from worked_record (7 ∷ []) worked_image (cursor 3 9) ≡ ok (image_end 9))
unfolding le_value digit bit_lsb0 family_of is_numeric is_character is_enum_or_set shape_in shape_of is_taken flags_hold charset_holds entry_holds
    entry_of entry_in entries_hold head_holds record_valid read_record count_bits shape_at present_from slots slots_at head_of slots_left step_over
    step_from
past_ends = (refl, refl)

next_behind : walk_image worked_record (7 ∷ []) (worked_image ++ worked_image)
    ≡ record { answers = (0, int (negsuc 1)) ∷ (1, bytes (97 ∷ 98 ∷ [])) ∷ (2, uint 200) ∷ []; how = ok 9 }
unfolding le_value signed_of day_fault digit bit_lsb0 family_of is_numeric is_character is_enum_or_set shape_in shape_of is_taken need decode fault taken
    cut judged read_datum flags_hold charset_holds entry_holds entry_of entry_in entries_hold head_holds record_valid read_record count_bits shape_at
    present_from slots slots_at head_of first_cursor slots_left read_slot read_slots walk_from walk_image
next_behind = refl

cut_date : (walk_image dated_record (7 ∷ []) (248 ∷ 5 ∷ 0 ∷ 0 ∷ 0 ∷ 161 ∷ 161 ∷ [])
    ≡ record { answers = (0, int (pos 5)) ∷ []; how = refuse 9 1 })
    × (walk_image dated_record (7 ∷ []) ((248 ∷ 5 ∷ 0 ∷ 0 ∷ 0 ∷ 161 ∷ 161 ∷ []) ++ (15 ∷ 200 ∷ 0 ∷ []))
    ≡ record { answers = (0, int (pos 5)) ∷ []; how = refused (out_of 1 2) })
unfolding le_value signed_of day_fault digit bit_lsb0 family_of is_numeric is_character is_enum_or_set shape_in shape_of is_taken need decode fault taken
    cut judged read_datum flags_hold charset_holds entry_holds entry_of entry_in entries_hold head_holds record_valid read_record count_bits shape_at
    present_from slots slots_at head_of first_cursor slots_left read_slot read_slots walk_from walk_image
cut_date = (refl, refl)

end_of_fields : (field_step (record { at = 3; numeric = 0; columns = 3 }) (12 ∷ 1 ∷ 0 ∷ []) ≡ ok end)
    × (field_step (record { at = 3; numeric = 0; columns = 3 }) (12 ∷ 1 ∷ 0 ∷ 3 ∷ []) ≡ refuse 1 4)
    × (field_step (record { at = 3; numeric = 0; columns = 3 }) (12 ∷ 1 ∷ 0 ∷ 3 ∷ 0 ∷ [])
    ≡ ok (item (3, part 5 0) (record { at = 5; numeric = 0; columns = 3 })))
unfolding within read_packed packed_form long_part contents_hold cut_field judge_field field_item step field_step
end_of_fields = (refl, refl, refl)

pub appended : Appended
appended = record {
  image_kept = read_kept;
  answer_kept = λ r p im t c x e. kept (step_more r p im t c) e;
  refusal_kept = refusal_kept;
  nine_grows = nine_grows;
  step_grows = step_more;
  value_grows = λ r p im t c u. step_filled r p im t c (record { valid = u.valid; bits = u.bits });
  past_ends = past_ends;
  packed = packed_more;
  field = fields_more;
  field_none = field_none;
  field_new = field_new;
  rows_head = rows_more;
  packed_moved = packed_moved;
  value_moved = value_moved;
  cut_moved = λ s at kind value. cut_moved s at (kind, value);
  field_moved = λ numeric columns s at kind value. field_moved numeric columns s at (kind, value);
  contents_moved = λ s at kind value. value_same s at (kind, value);
  image_moved = image_moved;
  next_behind = next_behind;
  cut_date = cut_date;
  end_of_fields = end_of_fields;
}

-- The optional fields that a walk meets, up to its end or to a refusal. Assumes nothing.
use Rattle.std.specs.Prelude.{ℕ, List}
use Rattle.wire.specs.declared.part.Part.{Part}
use Rattle.table_map.specs.declared.field.Fields.{Fields as FieldCursor}
use Rattle.map_check.specs.Fields.{walk_fields}

abbrev pub fields_from : FieldCursor → List ℕ → List (ℕ × Part)
fields_from c s = (walk_fields c s).items

-- Events, computed: read with either width of the id, refused at each part's place, and the sizes of 0 and of 6 columns. Assumes nothing.
use Prim.Native.Nat.{ℕ}
use mathlib.Core.Path.{◌≡◌, refl}
use mathlib.Core.List.{List, [], ◌∷◌, ◌++◌}
use lib.ListN.{take}
use Rattle.wire.specs.Outcome.{ok, refuse}
use Rattle.wire.specs.Number.{le_value, le_bytes}
use Rattle.wire.specs.Packed.{read_packed, packed_form, long_form, packed_bytes}
use Rattle.wire.specs.Parts.{part, within}
use Rattle.table_map.specs.Parts.{short_part, long_part}
use Rattle.table_map.specs.Events.{read_names, read_columns, read_event}
use Rattle.table_map.specs.Writes.{event_parts, name_bytes, event_bytes, is_event, event_size}

-- table a.b of one INT column that can be NULL, with one optional byte
abbrev behind_id : List ℕ
behind_id = 0 ∷ 0 ∷ 1 ∷ 97 ∷ 0 ∷ 1 ∷ 98 ∷ 0 ∷ 1 ∷ 3 ∷ 0 ∷ 1 ∷ 1 ∷ []

abbrev event : List ℕ
event = 5 ∷ 0 ∷ 0 ∷ 0 ∷ 0 ∷ 0 ∷ behind_id

-- an id of 6 bytes, and one of 4
six : read_event event 8
    ≡ ok (record {
      id = 5;
      flags = 0;
      database = part 9 1;
      table = part 12 1;
      types = part 15 1;
      metadata = part 17 0;
      bits = part 17 1;
      optional = part 18 1;
    })
unfolding read_event within read_names read_columns short_part long_part read_packed packed_form long_form le_value
six = refl

four : read_event (5 ∷ 0 ∷ 0 ∷ 0 ∷ behind_id) 6
    ≡ ok (record {
      id = 5;
      flags = 0;
      database = part 7 1;
      table = part 10 1;
      types = part 13 1;
      metadata = part 15 0;
      bits = part 15 1;
      optional = part 16 1;
    })
unfolding read_event within read_names read_columns short_part long_part read_packed packed_form long_form le_value
four = refl

-- cut short in the flags, the database name, the byte behind it, the types, the metadata's length and the bits
cut_flags : read_event (take 7 event) 8 ≡ refuse 1 6
unfolding read_event within read_names read_columns short_part long_part read_packed packed_form long_form le_value
cut_flags = refl

cut_name : read_event (take 9 event) 8 ≡ refuse 1 8
unfolding read_event within read_names read_columns short_part long_part read_packed packed_form long_form le_value
cut_name = refl

cut_skipped : read_event (take 10 event) 8 ≡ refuse 1 10
unfolding read_event within read_names read_columns short_part long_part read_packed packed_form long_form le_value
cut_skipped = refl

cut_types : read_event (take 15 event) 8 ≡ refuse 1 15
unfolding read_event within read_names read_columns short_part long_part read_packed packed_form long_form le_value
cut_types = refl

cut_metadata : read_event (take 16 event) 8 ≡ refuse 1 16
unfolding read_event within read_names read_columns short_part long_part read_packed packed_form long_form le_value
cut_metadata = refl

cut_bits : read_event (take 17 event) 8 ≡ refuse 1 17
unfolding read_event within read_names read_columns short_part long_part read_packed packed_form long_form le_value
cut_bits = refl

-- a count that begins with 251
not_packed : read_event (take 14 event ++ (251 ∷ [])) 8 ≡ refuse 2 14
unfolding read_event within read_names read_columns short_part long_part read_packed packed_form long_form le_value
not_packed = refl

-- sizes: (n + 7) / 8 bytes of bits, where the Rust's `len` has (n + 8) / 7, which is 1 for 0 columns and 2 for 6
no_columns_lem : event_size (event_parts 5 0 [] [] [] [] [] []) ≡ ok 14
unfolding event_size is_event event_bytes name_bytes packed_bytes le_bytes
no_columns_lem = refl

six_columns : event_size (event_parts 5 0 [] [] (3 ∷ 3 ∷ 3 ∷ 3 ∷ 3 ∷ 3 ∷ []) [] (63 ∷ []) []) ≡ ok 21
unfolding event_size is_event event_bytes name_bytes packed_bytes le_bytes
six_columns = refl

-- and bits of another length are not taken
wrong_bits : event_size (event_parts 5 0 [] [] (3 ∷ 3 ∷ 3 ∷ 3 ∷ 3 ∷ 3 ∷ []) [] (63 ∷ 0 ∷ []) []) ≡ refuse 13 0
unfolding event_size is_event event_bytes name_bytes packed_bytes le_bytes
wrong_bits = refl

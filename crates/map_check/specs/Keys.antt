-- A repeated key: "the first key index that stands twice is a 7", placed at the first byte of the earliest item, of field 8 or 9, that
-- repeats an earlier one. Assumes nothing.
use Rattle.std.specs.Prelude.{None, Option, Some}
use Rattle.std.specs.Prelude.{ℕ, ◌+◌, Bool, true, false, cond, List, [], ◌∷◌, ◌++◌}
use Rattle.wire.specs.Outcome.{Outcome, ok, refuse, after}
use Rattle.wire.specs.declared.part.Part.{Part}
use Rattle.wire.specs.Parts.{lent_part}
use Rattle.table_map.specs.Lists.{Rule, walk_items, walk_steps}
use Rattle.map_check.specs.Contents.{key_item}
use Rattle.map_check.specs.Fields.{stood, first_of}

-- items with the places where they stand
unfoldable pub with_place : {A : Type 0} → Rule A → Rule (ℕ × A)
with_place rule s at = after (rule s at) (λ x. ok ((at, x.0), x.1))

-- the keys of a field's value, each with its place in the value
abbrev pub keys_from : Bool → List ℕ → ℕ → List (ℕ × ℕ)
keys_from paired value at = (walk_items (with_place (key_item paired)) value at).items

-- none of them repeats one of those before it; the value starts at `start`
unfoldable pub keys_once : ℕ → List ℕ → List (ℕ × ℕ) → Outcome (Unit {0})
unfolding stood
keys_once start before [] = ok tt
keys_once start before (k ∷ ks) = cond (stood k.1 before) (refuse 7 (start + k.0)) (keys_once start (before ++ (k.1 ∷ [])) ks)

-- in the value of a field, if it stands
abbrev pub once_in : Bool → List ℕ → Option Part → Outcome (Unit {0})
once_in paired s (Some p) = keys_once p.start [] (keys_from paired (lent_part s p) 0)
once_in paired s None = ok tt

-- no key stands twice: in field 8, then in field 9, of which at most one stands
unfoldable pub keys_hold : List ℕ → List (ℕ × Part) → Outcome (Unit {0})
unfolding walk_steps with_place key_item keys_once first_of
keys_hold s fs = after (once_in false s (first_of 8 fs)) (λ x. once_in true s (first_of 9 fs))

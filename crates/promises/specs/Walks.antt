-- A walk is its steps. On paper a walk must end by its form, so it is given a number of steps, and one that runs out of them answers what
-- it has as if the bytes had ended. That never happens: from any place of any bytes, the walk is what the step there answers, and then the
-- walk from where that step leads. Nothing that stops early, or leaves out a refusal, is so at every place. Here for the walk by every rule
-- of items that is in use, and for the check's walk over fields; for images it is `step_by_step` in `Demand3`. `walks` in
-- proofs/Demand1/Walks.antt proves it. Assumes nothing.
use Rattle.std.specs.Prelude.{ℕ, ◌≡◌, Bool, List, ◌∷◌}
use Rattle.table_map.specs.declared.field.Fields.{Fields}
use Rattle.table_map.specs.Lists.{Rule, step, items_onward, walk_items, integer_item, pair_item, string_item, group_item}
use Rattle.table_map.specs.Fields.{field_item}
use Rattle.map_check.specs.declared.rank.Ranks.{Ranks}
use Rattle.map_check.specs.Contents.{key_item}
use Rattle.map_check.specs.Fields.{stands_behind, keep, keep_from}
use Rattle.map_check.specs.Keys.{with_place}

abbrev pub StepByStep : {A : Type 0} → Rule A → Type 0
StepByStep rule = (s : List ℕ) (o : ℕ) → walk_items rule s o ≡ items_onward (λ next. walk_items rule s next) (step rule s o)

pub record Walks : Type 0 where
  -- `Integers`, `Pairs`, `Strings`, `Groups`
  pub integers : StepByStep integer_item
  pub pairs : StepByStep pair_item
  pub strings : StepByStep string_item
  pub groups : StepByStep group_item
  -- `Fields`, with any two counts
  pub fields : (numeric columns : ℕ) → StepByStep (field_item numeric columns)
  -- the keys of fields 8 and 9, and the same with their places
  pub keys : (paired : Bool) → StepByStep (key_item paired)
  pub placed : (paired : Bool) → StepByStep (with_place (key_item paired))
  -- the fields that `check` keeps, from any place on and behind fields of any types: the step there decides, and then what is kept from
  -- where it leads
  pub kept : (sizes : Ranks) (c : Fields) (s before : List ℕ) (o : ℕ)
      → keep_from sizes c s before o
      ≡ keep (λ kind next. keep_from sizes c s (kind ∷ before) next) (stands_behind sizes c.columns s before) o
      (step (field_item c.numeric c.columns) s o)

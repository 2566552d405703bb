-- The items of a value, judged by a test that the code calls. Assumes nothing.
use Rattle.std.specs.Prelude.{ℕ, ◌+◌, ◌≡◌, Bool, cond, Option, None, Some, List, length}
use Rattle.table_map.specs.Lists.{Rule, walk_items, walk_steps}
use Rattle.map_check.specs.Contents.{list_holds}

-- all that a call answers is what the test says
abbrev pub Computes : {A : Type 0} → (A → Bool → Type 0) → (A → Bool) → Type 0
Computes {A} post p = (a : A) (r : Bool) → post a r → r ≡ p a

-- how many items there are behind `count` of them, if those from a place on are all there, up to the end of the value, and each holds
unfoldable pub held_from : {A : Type 0} → Rule A → (A → Bool) → ℕ → List ℕ → ℕ → Option ℕ
unfolding walk_steps list_holds
held_from rule p count value at = cond (list_holds rule p value at) (Some (count + length (walk_items rule value at).items)) None

-- how many items the value is
abbrev pub items_held : {A : Type 0} → Rule A → (A → Bool) → List ℕ → Option ℕ
items_held rule p value = held_from rule p 0 value 0

-- Lists: one rule for every kind of item, and the items. "Lists: 3, 7, 8, 11, 13 are packed integers; 9 is pairs (column, prefix length); 2
-- and 10 go on with pairs (rank, charset); 4 is packed-length strings; 5 and 6 are groups of a packed count and that many strings." Assumes
-- nothing.
use Rattle.std.specs.Prelude.{ℕ, zero, suc, ◌-◌, ◌<◌, ◌≤◌, ◌≡◌, cond, Option, Some, List, [], ◌∷◌, length, ltb, eqb}
use Rattle.wire.specs.declared.refusal.Refusal.{Refusal}
use Rattle.wire.specs.Outcome.{Outcome, ok, refused, refuse, after}
use Rattle.wire.specs.Packed.{read_packed}
use Rattle.wire.specs.declared.part.Part.{Part}
use Rattle.table_map.specs.Parts.{long_part}
pub use Rattle.std.specs.Prelude.{None as end}

-- ---- one rule for every list. A rule of items reads the item at a place of the bytes, and answers it with the place after it
abbrev pub Rule : Type 0 → Type 0
Rule A = List ℕ → ℕ → Outcome (A × ℕ)

-- every item that the rule reads takes a byte at least, and ends within the bytes
pub record Moves {A : Type 0} (rule : Rule A) : Type 0 where
  pub moves : (s : List ℕ) (at : ℕ) (a : A) (next : ℕ) → rule s at ≡ ok (a, next) → (at < next) × (next ≤ length s)

-- a step: the end of the list, or an item and where the next stands
abbrev pub Stepped : Type 0 → Type 0 → Type 0
Stepped A C = Option (A × C)

abbrev pub item : {A : Type 0} {C : Type 0} → A → C → Stepped A C
item a next = Some (a, next)

-- at the length it has ended; past it, refusal 1 there
unfoldable pub step : {A : Type 0} → Rule A → List ℕ → ℕ → Outcome (Stepped A ℕ)
step rule s at =
    cond (eqb at (length s)) (ok end)
    (cond (ltb (length s) at) (refuse 1 at)
    (after (rule s at) (λ x. ok (item x.0 x.1))))

-- how a walk ended
pub data Ended : Type 0 where
  whole : Ended
  broken : Refusal → Ended

-- a walk: the items up to the end or the first refusal
pub record ItemsWalked (A : Type 0) : Type 0 where
  pub items : List A
  pub how : Ended

abbrev pub items_onward : {A : Type 0} → (ℕ → ItemsWalked A) → Outcome (Stepped A ℕ) → ItemsWalked A
items_onward f (ok end) = record { items = []; how = whole }
items_onward f (ok (Some (a, next))) = record { items = a ∷ (f next).items; how = (f next).how }
items_onward f (refused r) = record { items = []; how = broken r }

-- at most m steps, which are enough if every item takes a byte and m is more than the bytes left
unfoldable pub walk_steps : {A : Type 0} → ℕ → Rule A → List ℕ → ℕ → ItemsWalked A
unfolding step
walk_steps zero rule s at = record { items = []; how = whole }
walk_steps (suc m) rule s at = items_onward (walk_steps m rule s) (step rule s at)

abbrev pub walk_items : {A : Type 0} → Rule A → List ℕ → ℕ → ItemsWalked A
walk_items rule s at = walk_steps (suc (length s - at)) rule s at

-- ---- the items
abbrev pub integer_item : Rule ℕ
integer_item s at = read_packed s at

unfoldable pub pair_item : Rule (ℕ × ℕ)
unfolding read_packed
pair_item s at = after (read_packed s at) (λ a. after (read_packed s a.1) (λ b. ok ((a.0, b.0), b.1)))

abbrev pub string_item : Rule Part
string_item s at = long_part s at

-- the place after n strings
unfoldable pub strings : ℕ → List ℕ → ℕ → Outcome ℕ
unfolding long_part
strings zero s at = ok at
strings (suc n) s at = after (long_part s at) (λ x. strings n s x.1)

-- a group: how many strings, and where the first stands
unfoldable pub group_item : Rule (ℕ × ℕ)
unfolding read_packed strings
group_item s at = after (read_packed s at) (λ n. after (strings n.0 s n.1) (λ b. ok ((n.0, n.1), b)))

-- "2 and 10 start with a packed integer" and "go on with pairs": the default charset, and where the pairs start
abbrev pub default_charset : List ℕ → Outcome (ℕ × ℕ)
default_charset value = read_packed value 0

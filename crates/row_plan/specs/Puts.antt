-- A value written by a plan: the image writer's own step, over the plan's items. Any bytes are a plan. Assumes nothing.
use Rattle.std.specs.Prelude.{ℕ, ◌+◌, cond, List, [], ◌∷◌, length, eqb}
use Rattle.wire.specs.Outcome.{Outcome, ok, refused, refuse, after}
use Rattle.wire.specs.Bits.{bytes_for}
use Rattle.value.specs.declared.datum.Value.{Value}
use Rattle.image.specs.declared.cursor.Cursor.{Cursor}
use Rattle.image.specs.Present.{count_bits}
use Rattle.image.specs.Split.{cursor}
use Rattle.image.specs.Puts.{start_image, put_over}
use Rattle.image.specs.WriteRow.{LentValue, left_then}
use Rattle.row_plan.specs.declared.put.ItemCursor.{ItemCursor}
use Rattle.row_plan.specs.Plan.{item_count, plan_slots, plan_of}

abbrev pub item_cursor : ℕ → ℕ → ItemCursor
item_cursor item offset = record { item = item; offset = offset }

-- from any cursor, by any plan: 12 for null bits of wrong length; then the writer's step, which tells the item where a cursor has a column,
-- so 14 at the item if there is none, and 11 at its column for a value of an item whose op is 0
unfoldable pub plan_put : List ℕ → List ℕ → ItemCursor → List ℕ → Value → List ℕ → Outcome (ItemCursor × List ℕ)
unfolding plan_slots put_over
plan_put plan nulls c lent v buf =
    cond (eqb (length nulls) (bytes_for (item_count plan)))
    (after (put_over (plan_slots plan nulls c.item) (cursor c.item c.offset) lent v buf) (λ x.
    ok (item_cursor (c.item + 1) x.0.offset, x.1)))
    (refuse 12 0)

-- ---- a row: a start under the record, and then a step by its plan for each value given
unfoldable pub plan_puts : List ℕ → List ℕ → List LentValue → ItemCursor → List ℕ → Outcome (ItemCursor × List ℕ)
unfolding plan_put
plan_puts plan nulls [] c buf = ok (c, buf)
plan_puts plan nulls (g ∷ gs) c buf = after (plan_put plan nulls c g.lent g.value buf) (λ x. plan_puts plan nulls gs x.0 x.1)

unfoldable pub plan_write : List ℕ → List ℕ → List ℕ → List LentValue → List ℕ → Outcome (ItemCursor × List ℕ)
unfolding start_image plan_puts plan_of
plan_write profile presence nulls gs buf =
    after (start_image profile presence nulls buf) (λ x.
    plan_puts (plan_of profile presence) nulls gs (item_cursor 0 x.0.offset) x.1)

-- what these calls leave of the buffer, one after the other: one that refuses leaves it as it was, and is the last
abbrev pub item_then : List ℕ → (ItemCursor → List ℕ → List ℕ) → Outcome (ItemCursor × List ℕ) → List ℕ
item_then buf f (ok x) = f x.0 x.1
item_then buf f (refused w) = buf

unfoldable pub plan_puts_left : List ℕ → List ℕ → List LentValue → ItemCursor → List ℕ → List ℕ
unfolding plan_put
plan_puts_left plan nulls [] c buf = buf
plan_puts_left plan nulls (g ∷ gs) c buf = item_then buf (plan_puts_left plan nulls gs) (plan_put plan nulls c g.lent g.value buf)

unfoldable pub plan_left : List ℕ → List ℕ → List ℕ → List LentValue → List ℕ → List ℕ
unfolding start_image plan_puts_left plan_of
plan_left profile presence nulls gs buf =
    left_then buf (λ c. plan_puts_left (plan_of profile presence) nulls gs (item_cursor 0 c.offset)) (start_image profile presence nulls buf)

-- ---- a cursor of the writer under a record, as a plan has it
unfoldable pub item_of : List ℕ → Cursor → ItemCursor
unfolding count_bits
item_of presence c = item_cursor (count_bits presence c.column) c.offset

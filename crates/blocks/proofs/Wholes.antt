-- What is to come from the first state, long values joined, is the walk. Assumes nothing.
use Prim.Native.Nat.{ℕ, ◌+◌, ◌-◌, ◌≤◌}
use mathlib.Core.Path.{◌≡◌, sym, ap, ◌∙◌}
use mathlib.Core.Logic.{dite}
use mathlib.Core.List.{List}
use native.Mathlib.Decide.{dec_le}
use native.Mathlib.Omega.{arith}
use borrow.Author.Tests.{lt-ltb, le-ltb}
use lib.ListN.{length, take, drop, take-append-drop}
use lib.Seq.{length-take-le}
use Rattle.wire.specs.Bits.{bytes_for}
use Rattle.record.specs.Entries.{column_of}
use Rattle.record.specs.Records.{count_of, entry_in}
use Rattle.image.specs.Present.{shape_at, present}
use Rattle.image.specs.Split.{slots, slots_at}
use Rattle.image.specs.Walk.{walk_image}
use Rattle.image.proofs.CursorLaws.Heads.{Over, null_bytes}
use Rattle.image.proofs.StepLaws.Splits.{Each}
use Rattle.image.proofs.PresenceLaws.Presents.{present_length, each_from, good_present, slots_front, slots_all}
use Rattle.image.proofs.EndLaws.Images.{walk_short}
use Rattle.value.proofs.Narrows.{narrow}
use Rattle.image.proofs.AppendLaws.GrownWalks.{walk_cut}
use Rattle.blocks.specs.States.{begun}
use Rattle.blocks.specs.Joins.{join_pieces, joined}
use Rattle.blocks.specs.Inner.Futures.{future}
use Rattle.blocks.proofs.Ons.{from, future_from}
use Rattle.blocks.proofs.Joins.{Roomy, joined_read}

pub roomy_present : (r p : List ℕ) (room : ℕ) → 64 ≤ room → Each (Roomy room) (present r p)
unfolding shape_at
roomy_present r p room h = each_from (Roomy room) (count_of r) r p 0 (λ i a b e s. omega (arith, narrow (column_of (entry_in r i)) e s))

-- the null bits are those of the image
slots_are : (r p t : List ℕ) → let o = bytes_for (length (present r p)) in o ≤ length t → slots_at r p t 0 ≡ slots (present r p) 0 (take o t)
slots_are r p t h =
    let cs = present r p in
    let o = bytes_for (length cs) in
    let l = length-take-le o t h in
    slots_all r p t ∙ ap (slots cs 0) (sym (take-append-drop o t)) ∙ slots_front cs (take o t) (drop o t) (omega arith)

pub begun_walk : (r p carry t : List ℕ) → Over r p → null_bytes r p + 64 ≤ length carry → joined (future r p (null_bytes r p) begun carry t)
    ≡ walk_image r p t
unfolding from join_pieces
begun_walk r p carry t u h =
    let nb = null_bytes r p in
    let cs = present r p in
    let o = bytes_for (length cs) in
    let room = length carry - nb in
    let e : o ≡ nb = ap bytes_for (present_length r p) in
    let z : 0 + nb - 0 ≡ o = omega arith in
    ap joined (future_from r p nb 0 0 0 carry t)
    ∙ dite (dec_le nb (length t))
    (λ (l : nb ≤ length t).
    rw (le-ltb (length t) nb l, slots_are r p t (omega arith), z, walk_cut r p t u (omega arith), ← e)
    (joined_read cs 0 (length carry - o) (take o t) (drop o t) o (good_present r p u.valid)
    (roomy_present r p (length carry - o) (omega arith)) (omega arith)))
    (λ l. rw (lt-ltb (length t) nb (omega arith), walk_short r p t u (omega arith)))

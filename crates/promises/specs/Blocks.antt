-- Request 10: images as they arrive. "Take the image as successive blocks and give the same values, places and end state as one block
-- would, however it is cut." `blocks` in proofs/Blocks.antt proves it. Assumes nothing.
use Rattle.std.specs.Prelude.{ℕ, ◌+◌, ◌-◌, ◌≤◌, ◌<◌, ◌≡◌, true, false, List, ◌++◌, length}
use Rattle.wire.specs.declared.refusal.Refusal.{Refusal}
use Rattle.wire.specs.Outcome.{ok, refused, refuse}
use Rattle.wire.specs.Number.{Bytes}
use Rattle.wire.specs.Bits.{bytes_for}
use Rattle.value.specs.Shapes.{prefix}
use Rattle.record.specs.Records.{count_of}
use Rattle.image.specs.Present.{count_bits, shape_at, present}
use Rattle.image.specs.Split.{head_of}
use Rattle.image.specs.Walk.{walk_image}
use Rattle.image.specs.Rows.{Row, in_domains, row_bytes, answers_of, Marks, Says}
use Rattle.blocks.specs.declared.state.Phase.TheVariants.{Closed}
use Rattle.blocks.specs.declared.state.Arriving.{Arriving}
use Rattle.blocks.specs.declared.state.Arrival.TheVariants.{More as more, Long as long, Part as part, End as end}
use Rattle.blocks.specs.declared.state.BlockGiven.{BlockGiven}
use Rattle.blocks.specs.States.{begun, shut_with, given_of, ended_of}
use Rattle.blocks.specs.Fits.{is_fit}
use Rattle.blocks.specs.Gives.{give_block, begin_blocks}
use Rattle.blocks.specs.Ends.{end_blocks}
use Rattle.blocks.specs.Streams.{Stream}
use Rattle.blocks.specs.Joins.{joined}
use Rattle.blocks.specs.Runs.{goes_on, Run, concat, AllBytes, Came}
use Rattle.promises.specs.RowPlans.{Under}

-- a carry that is large enough
pub record Lent (carry : List ℕ) : Type 0 where
  pub room : 1024 ≤ length carry
  pub bytes : Bytes carry

-- how many bytes the null bits take
abbrev pub nulls_of : List ℕ → List ℕ → ℕ
nulls_of profile presence = bytes_for (count_bits presence (count_of profile))

pub record Blocks : Type 0 where
  -- ---- for every record, presence, carry and list of blocks: each given until `More` or `End`, and then the end call
  -- the answers, long values joined, and the end or the refusal are those of the walk over the joined blocks
  pub same_as_one : (profile presence carry : List ℕ) (bs : List (List ℕ)) (s : Stream) (taken : ℕ) → Under profile presence → Lent carry
      → AllBytes bs → Run profile presence begun carry bs s taken → joined s ≡ walk_image profile presence (concat bs)
  -- and there is always such a run
  pub always_ends : (profile presence carry : List ℕ) (bs : List (List ℕ)) → Under profile presence → Lent carry → AllBytes bs
      → (s : Stream) × (taken : ℕ) × Run profile presence begun carry bs s taken
  -- "however it is cut"
  pub however_cut : (profile presence carry carry' : List ℕ) (cs bs : List (List ℕ)) (s t : Stream) (m n : ℕ) → Under profile presence
      → Lent carry → Lent carry' → AllBytes cs → AllBytes bs → concat cs ≡ concat bs → Run profile presence begun carry cs s m
      → Run profile presence begun carry' bs t n → joined s ≡ joined t
  -- and with a carry of the same length not even the pieces differ, the parts of a long value taken byte by byte: which values are long is
  -- "decided by sizes alone"
  pub same_pieces : (profile presence carry carry' : List ℕ) (cs bs : List (List ℕ)) (s t : Stream) (m n : ℕ) → Under profile presence
      → Lent carry → Lent carry' → length carry ≡ length carry' → AllBytes cs → AllBytes bs → concat cs ≡ concat bs
      → Run profile presence begun carry cs s m → Run profile presence begun carry' bs t n → s ≡ t
  -- "Demands 2 and 3 read the joined blocks": every row in the domains, whatever comes behind it, and whatever the bytes are
  pub every_row : (profile presence carry nulls rest : List ℕ) (ds : Row) (bs : List (List ℕ)) (s : Stream) (taken : ℕ)
      → Under profile presence → Lent carry → AllBytes bs → in_domains (present profile presence) ds ≡ true → Marks nulls 0 ds
      → length nulls ≡ bytes_for (length ds) → concat bs ≡ nulls ++ (row_bytes (present profile presence) ds ++ rest)
      → Run profile presence begun carry bs s taken
      → joined s
      ≡ record {
        answers =
            answers_of (present profile presence) ds;
        how = ok (length nulls + length (row_bytes (present profile presence) ds));
      }
  pub every_block : (profile presence carry : List ℕ) (bs : List (List ℕ)) (s : Stream) (taken : ℕ) → Under profile presence → Lent carry
      → AllBytes bs → Run profile presence begun carry bs s taken → Says (present profile presence) (concat bs) (joined s)
  -- "Bytes behind a finished image stay unread": what the calls took are the bytes used
  pub only_used : (profile presence carry : List ℕ) (bs : List (List ℕ)) (s : Stream) (taken used : ℕ)
      → Run profile presence begun carry bs s taken → (joined s).how ≡ ok used → taken ≡ used
  -- `End` is told where the end call would accept, and nowhere else: behind it that call accepts, and where it would accept a call that
  -- goes no further tells it, and takes nothing
  pub end_only : (profile presence : List ℕ) (st : Arriving) (carry block : List ℕ) (g : BlockGiven) (left : List ℕ) (used : ℕ)
      → Under profile presence → Came profile presence st carry → Bytes block → give_block profile presence st carry block ≡ ok (g, left)
      → g.arrival ≡ end used → end_blocks profile presence g.next left ≡ ok used
  pub end_told : (profile presence : List ℕ) (st : Arriving) (carry block : List ℕ) (g : BlockGiven) (left : List ℕ) (used : ℕ)
      → Under profile presence → Came profile presence st carry → end_blocks profile presence st carry ≡ ok used
      → give_block profile presence st carry block ≡ ok (g, left) → goes_on g.arrival ≡ false
      → (g.arrival ≡ end used) × (g.taken ≡ 0)
  -- the first call
  pub begins : (profile presence carry : List ℕ) → Under profile presence → 1024 ≤ length carry
      → begin_blocks profile presence carry ≡ ok begun
  -- ---- whatever the state, made up or not
  -- no more is taken than the block has, and `More` takes all of it
  pub taken_within : (profile presence : List ℕ) (st : Arriving) (carry block : List ℕ) (g : BlockGiven) (left : List ℕ)
      → give_block profile presence st carry block ≡ ok (g, left) → g.taken ≤ length block
  pub more_all : (profile presence : List ℕ) (st : Arriving) (carry block : List ℕ) (g : BlockGiven) (left : List ℕ)
      → give_block profile presence st carry block ≡ ok (g, left) → g.arrival ≡ more → g.taken ≡ length block
  -- "only that call can give 9"
  pub only_end_9 : (profile presence : List ℕ) (st : Arriving) (carry block : List ℕ) (w : Refusal)
      → give_block profile presence st carry block ≡ refused w → w.number ≡ 9 → ⊥
  -- "A value whose stored size exceeds the room behind the null bits is given as its length and then parts": no other is, so that all other
  -- values are handed over in the carry
  pub long_over : (profile presence : List ℕ) (st : Arriving) (carry block : List ℕ) (g : BlockGiven) (left : List ℕ) (j n : ℕ)
      → give_block profile presence st carry block ≡ ok (g, left) → g.arrival ≡ long j n
      → length carry - nulls_of profile presence < prefix (shape_at profile j) + n
  -- the parts of a long value never go through the carry
  pub part_kept : (profile presence : List ℕ) (st : Arriving) (carry block : List ℕ) (g : BlockGiven) (left : List ℕ) (j n : ℕ)
      → give_block profile presence st carry block ≡ ok (g, left) → g.arrival ≡ part j n → left ≡ carry
  -- "20 if the carry buffer is under 1,024 bytes, tested after 11 and 12"
  pub tests_first : (profile presence : List ℕ) (st : Arriving) (carry block : List ℕ) (w : Refusal) → head_of profile presence ≡ refused w
      → (give_block profile presence st carry block ≡ refused w) × (end_blocks profile presence st carry ≡ refused w)
      × (begin_blocks profile presence carry ≡ refused w)
  pub small_carry : (profile presence : List ℕ) (st : Arriving) (carry block : List ℕ) → Under profile presence → length carry < 1024
      → (give_block profile presence st carry block ≡ refuse 20 0) × (end_blocks profile presence st carry ≡ refuse 20 0)
      × (begin_blocks profile presence carry ≡ refuse 20 0)
  -- "21 for any call after the end call or a refusal": both hand back the closed state and take nothing, and with that state the next call
  -- is 21
  pub refusal_closes : (w : Refusal) → given_of (refused w) ≡ shut_with (refused w)
  pub end_closes : (used : ℕ) → ended_of (ok used) ≡ shut_with (ok (end used))
  pub closed_refused : (profile presence : List ℕ) (st : Arriving) (carry block : List ℕ) → Under profile presence → 1024 ≤ length carry
      → st.phase ≡ Closed
      → (give_block profile presence st carry block ≡ refuse 21 0) × (end_blocks profile presence st carry ≡ refuse 21 0)
  -- "or with a made-up state that docs/ lists as unfit", which are those that are not fit
  pub unfit_refused : (profile presence : List ℕ) (st : Arriving) (carry block : List ℕ) → Under profile presence → 1024 ≤ length carry
      → is_fit profile presence (count_of profile) (nulls_of profile presence) st carry ≡ false
      → (give_block profile presence st carry block ≡ refuse 21 0) × (end_blocks profile presence st carry ≡ refuse 21 0)
  -- "never one a call left": a state that calls left is fit under the record, the presence and the carry as they left them
  pub left_fit : (profile presence : List ℕ) (st : Arriving) (carry : List ℕ) → Under profile presence → Came profile presence st carry
      → is_fit profile presence (count_of profile) (nulls_of profile presence) st carry ≡ true
  -- with a fit state no call is 20 or 21: give refuses with 10 alone, and the end with 9 alone
  pub fit_gives : (profile presence : List ℕ) (st : Arriving) (carry block : List ℕ) (w : Refusal) → Under profile presence
      → 1024 ≤ length carry → is_fit profile presence (count_of profile) (nulls_of profile presence) st carry ≡ true
      → give_block profile presence st carry block ≡ refused w → w.number ≡ 10
  pub fit_ends : (profile presence : List ℕ) (st : Arriving) (carry : List ℕ) (w : Refusal) → Under profile presence
      → 1024 ≤ length carry → is_fit profile presence (count_of profile) (nulls_of profile presence) st carry ≡ true
      → end_blocks profile presence st carry ≡ refused w → w.number ≡ 9

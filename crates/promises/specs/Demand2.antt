-- Demand 2, sentence by sentence, and the line that says it.
-- "Readers and writers equal the Rust wherever it returns an answer and document 01 states no difference, shown by differential runs": no
-- statement can say it of a program that is not ours. `compare/rust` runs both on the same lines and lists every difference; its last line
-- must be `0 differences that are not listed`.
-- "and are proved against definitions from MySQL's public documents": `calls` of demand 1 says of each call's code that it answers what its
-- definition says. Stated here is what ties the definitions to each other and to the document's words: what is written is read back, what
-- is read has one stored form, and TIME2 is as the document words it. `Readings` holds them against its numbers.
-- "Where those and the Rust part ways, the case is written in docs/DIFFERENCES.md": `compare/rust` and `compare/captures` fail at a case
-- that is not. `demand2` in proofs/Demand2.antt proves all of it. Assumes nothing.
use Rattle.std.specs.Prelude.{ℕ, ◌+◌, ◌≤◌, ◌≡◌, false, cond, List, length, take, drop}
use Rattle.wire.specs.Outcome.{Outcome, ok, refused, out_of}
use Rattle.wire.specs.Number.{Bytes}
use Rattle.temporal.specs.declared.parts.Time.{Time}
use Rattle.temporal.specs.declared.parts.Temporal.{Temporal}
use Rattle.temporal.specs.Fraction.{fraction_bytes}
use Rattle.temporal.specs.Ranges.{in_clock, clock_fault}
use Rattle.temporal.specs.Words.{worded}
use Rattle.value.specs.declared.datum.Value.{Value}
use Rattle.value.specs.Columns.{shape_of}
use Rattle.value.specs.Reading.{read_value}
use Rattle.promises.specs.Packed.{Packed}
use Rattle.promises.specs.Values.{Values}
use Rattle.promises.specs.Events.{Events}

-- a time that was read at a place and ends at `next`, if its parts are in range: "hour 23 (time 838), minute and second 59, fraction
-- 999,999"; else the first that is not
abbrev pub in_range : ℕ → ℕ → Time → Outcome (Value × ℕ)
in_range place next t = cond (in_clock 838 t.hours t.minutes t.seconds t.micros) (ok (Value.Temporal (Temporal.Time t), next))
    (refused (out_of place (clock_fault 838 t.hours t.minutes t.seconds t.micros)))

pub record Demand2 : Type 0 where
  -- packed integers, through reader and writer
  pub packed : Packed
  -- one stored value of any column, through reader and writer
  pub values : Values
  -- the event's two round trips
  pub events : Events
  -- TIME2 in document 01's own words, whatever m0 and the bytes: the time is `worded`, which has the document's signed numbers, its "plus
  -- 1", "less 256 or 65,536" and "absolute value then split at 2^24"
  pub time2_worded : (m0 place : ℕ) (s : List ℕ) (o : ℕ) → Bytes s → m0 ≤ 6 → o + (3 + fraction_bytes m0) ≤ length s
      → read_value (shape_of (record { real = 19; m0 = m0; m1 = 0; unsigned = false })) place s o
      ≡ in_range place (o + (3 + fraction_bytes m0)) (worded m0 (take (3 + fraction_bytes m0) (drop o s)))

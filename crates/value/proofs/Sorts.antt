-- What the last arm of a match, `_`, tells of the values or shapes that it serves, by the tag that the match looks at. Assumes nothing.
use mathlib.Core.Path.{◌≡◌, refl}
use mathlib.Core.Bool.{true}
use mathlib.Core.List.{[], ◌∷◌}
use types.Run.{OneOf, miss}
use denote.Enum.Declared.{tag_of}
use lib.IntN.{pos}
use Rattle.wire.specs.Parts.{part}
use Rattle.value.specs.declared.datum.Value.{Value}
use Rattle.value.specs.declared.datum.Value.TheVariants.{Null, Int, Uint, Float, Double, Year, Bytes}
use Rattle.value.specs.contracts.datum.Value.{the_type as value_type}
use Rattle.value.specs.declared.shape.Shape.{Shape}
use Rattle.value.specs.declared.shape.Shape.TheVariants.{Unsigned, Signed, FloatBits, DoubleBits, YearByte, Timed, Fixed, Counted}
use Rattle.value.specs.declared.shape.Shape.TheVariants.{NotTaken}
use Rattle.value.specs.contracts.shape.Shape.{the_type as shape_type}
use Rattle.value.specs.Data.{int_in, number_in, no_temporal, temporal_in}
use Rattle.value.specs.Columns.{is_taken, refusal_of}
use Rattle.value.specs.Reading.{datum_of}
use Rattle.value.specs.Storing.{bytes_at}

-- ---- a value that is of another sort than the match asks for
pub not_int : (v : Value) → OneOf (0 ∷ 2 ∷ 3 ∷ 4 ∷ 5 ∷ 6 ∷ 7 ∷ []) (tag_of value_type v) → int_in (datum_of [] v) ≡ pos 0
unfolding int_in datum_of
not_int Null o = refl
not_int (Int z) o = absurd (miss (0 ∷ 2 ∷ 3 ∷ 4 ∷ 5 ∷ 6 ∷ 7 ∷ []) 1 tt o)
not_int (Uint n) o = refl
not_int (Float n) o = refl
not_int (Double n) o = refl
not_int (Year n) o = refl
not_int (Value.Temporal t) o = refl
not_int (Bytes p) o = refl

pub not_number : (v : Value) → OneOf (0 ∷ 1 ∷ 6 ∷ 7 ∷ []) (tag_of value_type v) → number_in (datum_of [] v) ≡ 0
unfolding number_in datum_of
not_number Null o = refl
not_number (Int z) o = refl
not_number (Uint n) o = absurd (miss (0 ∷ 1 ∷ 6 ∷ 7 ∷ []) 2 tt o)
not_number (Float n) o = absurd (miss (0 ∷ 1 ∷ 6 ∷ 7 ∷ []) 3 tt o)
not_number (Double n) o = absurd (miss (0 ∷ 1 ∷ 6 ∷ 7 ∷ []) 4 tt o)
not_number (Year n) o = absurd (miss (0 ∷ 1 ∷ 6 ∷ 7 ∷ []) 5 tt o)
not_number (Value.Temporal t) o = refl
not_number (Bytes p) o = refl

pub not_temporal : (v : Value) → OneOf (0 ∷ 1 ∷ 2 ∷ 3 ∷ 4 ∷ 5 ∷ 7 ∷ []) (tag_of value_type v) → temporal_in (datum_of [] v) ≡ no_temporal
unfolding temporal_in datum_of
not_temporal Null o = refl
not_temporal (Int z) o = refl
not_temporal (Uint n) o = refl
not_temporal (Float n) o = refl
not_temporal (Double n) o = refl
not_temporal (Year n) o = refl
not_temporal (Value.Temporal t) o = absurd (miss (0 ∷ 1 ∷ 2 ∷ 3 ∷ 4 ∷ 5 ∷ 7 ∷ []) 6 tt o)
not_temporal (Bytes p) o = refl

pub not_bytes : (v : Value) → OneOf (0 ∷ 1 ∷ 2 ∷ 3 ∷ 4 ∷ 5 ∷ 6 ∷ []) (tag_of value_type v) → bytes_at v ≡ part 0 0
unfolding bytes_at
not_bytes Null o = refl
not_bytes (Int z) o = refl
not_bytes (Uint n) o = refl
not_bytes (Float n) o = refl
not_bytes (Double n) o = refl
not_bytes (Year n) o = refl
not_bytes (Value.Temporal t) o = refl
not_bytes (Bytes p) o = absurd (miss (0 ∷ 1 ∷ 2 ∷ 3 ∷ 4 ∷ 5 ∷ 6 ∷ []) 7 tt o)

-- ---- a shape that there is
pub there_is : (sh : Shape) → OneOf (0 ∷ 1 ∷ 2 ∷ 3 ∷ 4 ∷ 5 ∷ 6 ∷ 7 ∷ []) (tag_of shape_type sh) → (is_taken sh ≡ true) × (refusal_of sh ≡ 0)
unfolding is_taken refusal_of
there_is (Unsigned k) o = (refl, refl)
there_is (Signed k) o = (refl, refl)
there_is FloatBits o = (refl, refl)
there_is DoubleBits o = (refl, refl)
there_is YearByte o = (refl, refl)
there_is (Timed k) o = (refl, refl)
there_is (Fixed n) o = (refl, refl)
there_is (Counted k) o = (refl, refl)
there_is (NotTaken n) o = absurd (miss (0 ∷ 1 ∷ 2 ∷ 3 ∷ 4 ∷ 5 ∷ 6 ∷ 7 ∷ []) 8 tt o)

-- Which values are NULL, by the tag that a match looks at. Assumes nothing.
use Prim.Native.Nat.{ℕ}
use mathlib.Core.Path.{◌≡◌, refl}
use mathlib.Core.Bool.{false}
use mathlib.Core.List.{List, [], ◌∷◌}
use types.Run.{OneOf, miss}
use denote.Enum.Declared.{tag_of}
use Rattle.value.specs.contracts.datum.Value.{the_type}
use Rattle.value.proofs.Writers.{tag_any}
use Rattle.value.specs.declared.datum.Value.{Value}
use Rattle.value.specs.declared.datum.Value.TheVariants.{Null, Int, Uint, Float, Double, Year, Bytes}
use Rattle.value.specs.Reading.{datum_of}
use Rattle.image.specs.Rows.{is_null}

-- NULL is NULL whatever bytes stand beside it
pub null_anywhere : (s t : List ℕ) (v : Value) → is_null (datum_of s v) ≡ is_null (datum_of t v)
unfolding is_null
null_anywhere s t v = rw (tag_any s v, tag_any t v)

-- and no other value is
pub others_not_null : (v : Value) → OneOf (1 ∷ 2 ∷ 3 ∷ 4 ∷ 5 ∷ 6 ∷ 7 ∷ []) (tag_of the_type v) → is_null (datum_of [] v) ≡ false
unfolding is_null datum_of
others_not_null Null o = absurd (miss (1 ∷ 2 ∷ 3 ∷ 4 ∷ 5 ∷ 6 ∷ 7 ∷ []) 0 tt o)
others_not_null (Int z) o = refl
others_not_null (Uint n) o = refl
others_not_null (Float n) o = refl
others_not_null (Double n) o = refl
others_not_null (Year n) o = refl
others_not_null (Value.Temporal w) o = refl
others_not_null (Bytes p) o = refl

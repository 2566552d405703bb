-- Sorts of temporals: one whose sort was tested is of that sort, and one that a match left over, by the tags that are left, is of no such
-- sort and has no such parts. Assumes nothing.
use mathlib.Core.Path.{◌≡◌, refl}
use mathlib.Core.Bool.{true, false, false≢true}
use mathlib.Core.List.{[], ◌∷◌}
use types.Run.{OneOf, miss}
use denote.Enum.Declared.{tag_of}
use Rattle.temporal.specs.contracts.parts.Temporal.{the_type}
use Rattle.temporal.specs.declared.parts.Temporal.{Temporal}
use Rattle.temporal.specs.Storage.{temporal_tag, is_seconds, is_date, is_datetime, is_time, seconds_in, date_in, datetime_in, time_in}
use Rattle.temporal.specs.Storage.{no_seconds, no_date, no_datetime, no_time}

-- ---- seconds since 1970
pub is_seconds_lem : (t : Temporal) → is_seconds t ≡ true → Temporal.Seconds (seconds_in t) ≡ t
unfolding temporal_tag seconds_in
is_seconds_lem (Temporal.Seconds x) e = refl
is_seconds_lem (Temporal.Date x) e = absurd (false≢true e)
is_seconds_lem (Temporal.Datetime x) e = absurd (false≢true e)
is_seconds_lem (Temporal.Time x) e = absurd (false≢true e)

-- and what a match on these leaves over
pub not_seconds : (t : Temporal) → OneOf (1 ∷ 2 ∷ 3 ∷ []) (tag_of the_type t) → (is_seconds t ≡ false) × (seconds_in t ≡ no_seconds)
unfolding temporal_tag seconds_in
not_seconds (Temporal.Seconds x) o = absurd (miss (1 ∷ 2 ∷ 3 ∷ []) 0 tt o)
not_seconds (Temporal.Date x) o = (refl, refl)
not_seconds (Temporal.Datetime x) o = (refl, refl)
not_seconds (Temporal.Time x) o = (refl, refl)

-- ---- a date
pub is_date_lem : (t : Temporal) → is_date t ≡ true → Temporal.Date (date_in t) ≡ t
unfolding temporal_tag date_in
is_date_lem (Temporal.Seconds x) e = absurd (false≢true e)
is_date_lem (Temporal.Date x) e = refl
is_date_lem (Temporal.Datetime x) e = absurd (false≢true e)
is_date_lem (Temporal.Time x) e = absurd (false≢true e)

-- and what a match on these leaves over
pub not_date : (t : Temporal) → OneOf (0 ∷ 2 ∷ 3 ∷ []) (tag_of the_type t) → (is_date t ≡ false) × (date_in t ≡ no_date)
unfolding temporal_tag date_in
not_date (Temporal.Seconds x) o = (refl, refl)
not_date (Temporal.Date x) o = absurd (miss (0 ∷ 2 ∷ 3 ∷ []) 1 tt o)
not_date (Temporal.Datetime x) o = (refl, refl)
not_date (Temporal.Time x) o = (refl, refl)

-- ---- a datetime
pub is_datetime_lem : (t : Temporal) → is_datetime t ≡ true → Temporal.Datetime (datetime_in t) ≡ t
unfolding temporal_tag datetime_in
is_datetime_lem (Temporal.Seconds x) e = absurd (false≢true e)
is_datetime_lem (Temporal.Date x) e = absurd (false≢true e)
is_datetime_lem (Temporal.Datetime x) e = refl
is_datetime_lem (Temporal.Time x) e = absurd (false≢true e)

-- and what a match on these leaves over
pub not_datetime : (t : Temporal) → OneOf (0 ∷ 1 ∷ 3 ∷ []) (tag_of the_type t) → (is_datetime t ≡ false) × (datetime_in t ≡ no_datetime)
unfolding temporal_tag datetime_in
not_datetime (Temporal.Seconds x) o = (refl, refl)
not_datetime (Temporal.Date x) o = (refl, refl)
not_datetime (Temporal.Datetime x) o = absurd (miss (0 ∷ 1 ∷ 3 ∷ []) 2 tt o)
not_datetime (Temporal.Time x) o = (refl, refl)

-- ---- a time
pub is_time_lem : (t : Temporal) → is_time t ≡ true → Temporal.Time (time_in t) ≡ t
unfolding temporal_tag time_in
is_time_lem (Temporal.Seconds x) e = absurd (false≢true e)
is_time_lem (Temporal.Date x) e = absurd (false≢true e)
is_time_lem (Temporal.Datetime x) e = absurd (false≢true e)
is_time_lem (Temporal.Time x) e = refl

-- and what a match on these leaves over
pub not_time : (t : Temporal) → OneOf (0 ∷ 1 ∷ 2 ∷ []) (tag_of the_type t) → (is_time t ≡ false) × (time_in t ≡ no_time)
unfolding temporal_tag time_in
not_time (Temporal.Seconds x) o = (refl, refl)
not_time (Temporal.Date x) o = (refl, refl)
not_time (Temporal.Datetime x) o = (refl, refl)
not_time (Temporal.Time x) o = absurd (miss (0 ∷ 1 ∷ 2 ∷ []) 3 tt o)

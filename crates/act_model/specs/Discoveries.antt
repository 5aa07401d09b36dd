-- By which observation an object is discovered, and in which half-month.
use Rattle.std.specs.Prelude.{ℕ, ℤ, int_lt, Bool, ◌&&◌, ◌||◌, nat_lt, ◌-ℤ◌, if◌then◌else◌, List, [], ◌∷◌, flat_map}
use Rattle.std.specs.Prelude.{filter_map, Option, Some, None}
use Rattle.std.specs.Ordering.{int_eq}
use Rattle.packed_names.specs.declared.half_month.HalfMonth.{HalfMonth}
use Rattle.obs_time.specs.Calendar.{date_of_day, half_index}
use Rattle.obs_time.specs.Dates.{day_of}
use Rattle.tracklet_file.specs.declared.observation.Observation.{Observation}
use Rattle.tracklet_file.specs.Numbering.{numbered}
use Rattle.tracklet_file.specs.Observations.{observations_of}
use Rattle.act_model.specs.declared.seen.Seen.{Seen}

-- ---- the live observations of tracklets

-- an observation with its number, where it is live
abbrev pub seen_if_live : ℕ → Option Observation → Option Seen
seen_if_live k None = None
seen_if_live k (Some o) = if o.live then Some (record { number = k; time = o.sighting.time }) else None

abbrev pub seen_at : List Observation → ℕ → Option Seen
seen_at observations k = seen_if_live k (numbered observations k)

-- the live observations of a tracklet, in the order of their numbers
abbrev pub seen_of : List Observation → ℕ → List Seen
seen_of observations t = filter_map (seen_at observations) (observations_of observations t)

-- those of several tracklets
abbrev pub seen_in : List Observation → List ℕ → List Seen
seen_in observations tracklets = flat_map (seen_of observations) tracklets

-- ---- the earliest and the latest

-- the one is earlier than the other, or has the smaller number where their times are the same
abbrev pub is_sooner : Seen → Seen → Bool
is_sooner one other = int_lt one.time other.time || (int_eq one.time other.time && nat_lt one.number other.number)

-- the sooner of the two
abbrev pub sooner : Seen → Seen → Seen
sooner one other = if is_sooner other one then other else one

-- the later of the two
abbrev pub later : Seen → Seen → Seen
later one other = if int_lt one.time other.time then other else one

-- the earliest of an observation and of further ones, and the latest
abbrev pub earliest : Seen → List Seen → Seen
earliest first [] = first
earliest first (next ∷ more) = earliest (sooner first next) more

abbrev pub latest : Seen → List Seen → Seen
latest first [] = first
latest first (next ∷ more) = latest (later first next) more

-- from the earliest to the latest, in nanoseconds
abbrev pub span : Seen → List Seen → ℤ
span first more = (latest first more).time -ℤ (earliest first more).time

-- ---- the half-month

-- the half-month in which a moment lies, by its exact time
unfoldable pub half_of : ℤ → HalfMonth
half_of t = record { year = (date_of_day (day_of t)).year; index = half_index (date_of_day (day_of t)) }

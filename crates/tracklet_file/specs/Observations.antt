-- The observations that the office accepted, the newest first.
use Rattle.std.specs.Prelude.{◌≡◌, ℕ, ℤ, Bool, true, false, ◌&&◌, ◌==◌, nat_lt, List, [], ◌∷◌, ◌++◌, Option, Some}
use Rattle.std.specs.Prelude.{IsSome, slice_get, if◌then◌else◌, Result, Ok, Err}
use Rattle.std.specs.List.{list_any}
use Rattle.std.specs.Option.{option_map, option_map_or, option_and_then}
use Rattle.std.specs.Ordering.{int_eq}
use Rattle.obs_record.specs.declared.line.Line.{Line}
use Rattle.obs_record.specs.declared.rule.RuleCode.{RuleCode}
use Rattle.obs_record.specs.declared.short.Short.{Short}
use Rattle.obs_record.specs.Short.{same_short}
use Rattle.obs_record.specs.declared.sighting.Sighting.{Sighting}
use Rattle.tracklet_file.specs.declared.observation.Observation.{Observation}
use Rattle.tracklet_file.specs.Numbering.{next_number, numbered, changed_at}

-- ---- one observation

-- there is an observation k
abbrev pub IsObservation : List Observation → ℕ → Type 0
IsObservation observations k = IsSome (numbered observations k)

-- what was observed, the entry that brought it, and the tracklet that it is of
abbrev pub sighting_of : List Observation → ℕ → Option Sighting
sighting_of observations k = option_map (λ o. o.sighting) (numbered observations k)

abbrev pub entry_of : List Observation → ℕ → Option ℕ
entry_of observations k = option_map (λ o. o.entry) (numbered observations k)

abbrev pub track_of : List Observation → ℕ → Option ℕ
track_of observations k = option_map (λ o. o.track) (numbered observations k)

-- observation k is there, and isn't retracted
abbrev pub is_live : List Observation → ℕ → Bool
is_live observations k = option_map_or (λ o. o.live) (numbered observations k) false

-- ---- a position at a time

-- it was observed from this station, at this time and position
abbrev pub is_at : Short → ℤ → ℕ → ℤ → Sighting → Bool
is_at station time ra dec s =
    same_short s.station station && (int_eq s.time time && ((s.ra == ra) && int_eq s.dec dec))

-- the observation is live, and of this station, time and position
abbrev pub is_live_at : Short → ℤ → ℕ → ℤ → Observation → Bool
is_live_at station time ra dec o = o.live && is_at station time ra dec o.sighting

-- a live observation has this station, time and position
abbrev pub has_live : List Observation → Short → ℤ → ℕ → ℤ → Bool
has_live observations station time ra dec = list_any (is_live_at station time ra dec) observations

-- ---- the places of lines

-- a live observation has the place of what a line says, by what is said about places; a line that says no observation
-- has no place
abbrev pub is_live_reading : (Short → ℤ → ℕ → ℤ → Bool) → Result Sighting RuleCode → Bool
is_live_reading has_live (Ok s) = has_live s.station s.time s.ra s.dec
is_live_reading has_live (Err rule) = false

abbrev pub is_live_line : (Short → ℤ → ℕ → ℤ → Bool) → Line → Bool
is_live_line has_live line = is_live_reading has_live line.read

-- ---- the observations of a tracklet, retracted ones included

-- those with a number over `after`, in order of number
abbrev pub later_of_track : List Observation → ℕ → ℕ → List ℕ
later_of_track [] t after = []
later_of_track (newest ∷ older) t after =
    later_of_track older t after
    ++ (if (newest.track == t) && nat_lt after (next_number older) then next_number older ∷ [] else [])

-- all of them, in order of number
abbrev pub observations_of : List Observation → ℕ → List ℕ
observations_of observations t = later_of_track observations t 0

-- the first of them
abbrev pub first_of : List Observation → ℕ → Option ℕ
first_of observations t = slice_get (observations_of observations t) 0

-- the one that comes next after k in k's own tracklet
abbrev pub next_of : List Observation → ℕ → Option ℕ
next_of observations k = option_and_then (λ t. slice_get (later_of_track observations t k) 0) (track_of observations k)

-- where `next` comes next after k, the later ones of k's tracklet are `next` and those that are later still
abbrev pub IsFollowedBy : List Observation → ℕ → ℕ → Type 0
IsFollowedBy observations k next =
    (t : ℕ) → track_of observations k ≡ Some t
    → later_of_track observations t k ≡ next ∷ later_of_track observations t next

-- ---- changes

-- with one more observation, which is live
abbrev pub with_observation : List Observation → ℕ → Sighting → ℕ → List Observation
with_observation observations t s entry = record { track = t; sighting = s; entry = entry; live = true } ∷ observations

-- with observation k retracted
abbrev pub with_retraction : List Observation → ℕ → List Observation
with_retraction observations k = changed_at (λ o. record o { live = false }) observations k

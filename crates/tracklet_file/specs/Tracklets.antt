-- The tracklets of the office, the newest first, and what their homes make of their observations.
use Rattle.std.specs.Prelude.{ℕ, Bool, false, not, ◌&&◌, nat_lt, List, [], ◌∷◌, ◌++◌, count_by, Option, Some, None}
use Rattle.std.specs.Prelude.{IsSome, is_some, is_none, slice_get, if◌then◌else◌}
use Rattle.std.specs.Option.{option_map, option_and_then}
use Rattle.std.specs.Ordering.{eq_by_cmp}
use Rattle.packed_names.specs.declared.name.Designation.{Designation}
use Rattle.packed_names.specs.Order.{designation_cmp}
use Rattle.obs_record.specs.declared.name.TrackName.{TrackName}
use Rattle.obs_record.specs.declared.short.Short.{Short}
use Rattle.tracklet_file.specs.declared.observation.Observation.{Observation}
use Rattle.tracklet_file.specs.declared.tracklet.Tracklet.{Tracklet}
use Rattle.tracklet_file.specs.Numbering.{next_number, numbered, changed_at}

-- there is a tracklet t
abbrev pub IsTracklet : List Tracklet → ℕ → Type 0
IsTracklet tracklets t = IsSome (numbered tracklets t)

-- the name that its lines go by, and the station that it is from
abbrev pub name_of_track : List Tracklet → ℕ → Option TrackName
name_of_track tracklets t = option_map (λ tracklet. tracklet.name) (numbered tracklets t)

abbrev pub station_of : List Tracklet → ℕ → Option Short
station_of tracklets t = option_map (λ tracklet. tracklet.station) (numbered tracklets t)

-- the designation that it was given to; none for an isolated tracklet
abbrev pub home_of : List Tracklet → ℕ → Option Designation
home_of tracklets t = option_and_then (λ tracklet. tracklet.home) (numbered tracklets t)

-- ---- the tracklets of a designation

-- the home is the designation
abbrev pub is_home : Designation → Option Designation → Bool
is_home d None = false
is_home d (Some home) = eq_by_cmp designation_cmp home d

-- those with a number over `after` that were given to the designation, in order of number
abbrev pub later_at : List Tracklet → Designation → ℕ → List ℕ
later_at [] d after = []
later_at (newest ∷ older) d after =
    later_at older d after
    ++ (if is_home d newest.home && nat_lt after (next_number older) then next_number older ∷ [] else [])

-- all of them, in order of number
abbrev pub homed_at : List Tracklet → Designation → List ℕ
homed_at tracklets d = later_at tracklets d 0

-- the first with a number over `after`
abbrev pub next_at : List Tracklet → Designation → ℕ → Option ℕ
next_at tracklets d after = slice_get (later_at tracklets d after) 0

-- ---- where an observation stands: retracted, or else isolated where its tracklet is, or else homed

abbrev pub is_retracted : Observation → Bool
is_retracted o = not o.live

abbrev pub is_isolated : List Tracklet → Observation → Bool
is_isolated tracklets o = o.live && is_none (home_of tracklets o.track)

abbrev pub is_homed : List Tracklet → Observation → Bool
is_homed tracklets o = o.live && is_some (home_of tracklets o.track)

-- how many observations stand so
abbrev pub retracted_in : List Observation → ℕ
retracted_in observations = count_by is_retracted observations

abbrev pub isolated_in : List Tracklet → List Observation → ℕ
isolated_in tracklets observations = count_by (is_isolated tracklets) observations

abbrev pub homed_in : List Tracklet → List Observation → ℕ
homed_in tracklets observations = count_by (is_homed tracklets) observations

-- ---- changes

-- with one more tracklet
abbrev pub with_tracklet : List Tracklet → TrackName → Short → Option Designation → List Tracklet
with_tracklet tracklets name station home = record { name = name; station = station; home = home } ∷ tracklets

-- with this home for tracklet t
abbrev pub with_home : List Tracklet → ℕ → Option Designation → List Tracklet
with_home tracklets t home = changed_at (λ tracklet. record tracklet { home = home }) tracklets t

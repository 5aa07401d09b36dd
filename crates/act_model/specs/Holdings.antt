-- The observations and tracklets that the office has, and in which place each observation stands.
use Rattle.std.specs.Prelude.{ℕ, ◌==◌, Bool, if◌then◌else◌, List, [], ◌∷◌, ◌++◌, Option, Some, None, Result, Ok, Err}
use Rattle.packed_names.specs.declared.name.Designation.{Designation}
use Rattle.packed_names.specs.declared.name.Designation.TheVariants.{Provisional}
use Rattle.obs_record.specs.declared.rule.RuleCode.{RuleCode}
use Rattle.tracklet_file.specs.declared.observation.Observation.{Observation}
use Rattle.tracklet_file.specs.declared.tracklet.Tracklet.{Tracklet}
use Rattle.tracklet_file.specs.Numbering.{next_number}
use Rattle.tracklet_file.specs.Observations.{with_observation, with_retraction}
use Rattle.tracklet_file.specs.Tracklets.{with_tracklet, with_home, is_retracted, is_isolated, is_homed}
use Rattle.act_model.specs.declared.deed.Deed.{Deed}
use Rattle.act_model.specs.declared.deed.Deed.TheVariants.{Submitted, Designated, Attributed, Released, Retracted}
use Rattle.act_model.specs.declared.taken.Placed.{Placed}
use Rattle.act_model.specs.declared.taken.Taken.{Taken}
use Rattle.act_model.specs.BatchRules.{name_of}

-- the observations and the tracklets, the newest first; each counts from 1 in the order in which it came
pub record Holdings : Type 0 where
  pub observations : List Observation
  pub tracklets : List Tracklet

abbrev pub nothing_held : Holdings
nothing_held = record { observations = []; tracklets = [] }

-- ---- what a deed leaves

-- the first observation of a tracklet begins it
abbrev pub with_begun : Placed → List Tracklet → List Tracklet
with_begun placed tracklets =
    if placed.track == next_number tracklets
    then with_tracklet tracklets (name_of placed.sighting) placed.sighting.station placed.home
    else tracklets

-- an accepted line is the next observation, brought by the entry with this receipt; another line leaves all
abbrev pub with_found : ℕ → Result Placed RuleCode → Holdings → Holdings
with_found receipt (Ok placed) held =
    record {
      observations = with_observation held.observations placed.track placed.sighting receipt;
      tracklets = with_begun placed held.tracklets;
    }
with_found receipt (Err rule) held = held

-- the lines of a batch, one after the other
abbrev pub with_batch : ℕ → List Taken → Holdings → Holdings
with_batch receipt [] held = held
with_batch receipt (taken ∷ lines) held = with_batch receipt lines (with_found receipt taken.found held)

-- tracklets that get a home, one after the other
abbrev pub with_homes : List Tracklet → List ℕ → Option Designation → List Tracklet
with_homes tracklets [] home = tracklets
with_homes tracklets (t ∷ more) home = with_homes (with_home tracklets t home) more home

-- A batch adds its accepted lines, and a retraction retracts its observation. Tracklets that become an object have its
-- designation as home, one that is added to an object has the named one, and one that is released has none. No other
-- deed changes any.
abbrev pub with_deed : ℕ → Deed → Holdings → Holdings
with_deed receipt (Submitted lines) held = with_batch receipt lines held
with_deed receipt (Retracted k) held = record held { observations = with_retraction held.observations k }
with_deed receipt (Designated tracklets given discovery) held =
    record held { tracklets = with_homes held.tracklets tracklets (Some (Provisional given)) }
with_deed receipt (Attributed t to) held = record held { tracklets = with_home held.tracklets t (Some to) }
with_deed receipt (Released t) held = record held { tracklets = with_home held.tracklets t None }
with_deed receipt _ held = held

-- what the office holds after these deeds
abbrev pub holdings : List Deed → Holdings
holdings [] = nothing_held
holdings (deed ∷ past) = with_deed (next_number past) deed (holdings past)

-- ---- places

-- the numbers of the observations that are so, in order
abbrev pub numbers_where : (Observation → Bool) → List Observation → List ℕ
numbers_where is_so [] = []
numbers_where is_so (newest ∷ older) =
    numbers_where is_so older ++ (if is_so newest then next_number older ∷ [] else [])

-- the observations that are retracted; the live ones of isolated tracklets; and the live ones of tracklets in objects
abbrev pub retracted_of : Holdings → List ℕ
retracted_of held = numbers_where is_retracted held.observations

abbrev pub isolated_of : Holdings → List ℕ
isolated_of held = numbers_where (is_isolated held.tracklets) held.observations

abbrev pub homed_of : Holdings → List ℕ
homed_of held = numbers_where (is_homed held.tracklets) held.observations

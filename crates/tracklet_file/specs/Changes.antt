-- Lists of changes to the file, the newest first, from an empty file on; and what they say of an observation or a
-- tracklet.
use Rattle.std.specs.Prelude.{ℕ, Bool, true, false, ◌==◌, List, [], ◌∷◌, Option, None, IsTrue, if◌then◌else◌}
use Rattle.std.specs.List.{list_any}
use Rattle.packed_names.specs.declared.name.Designation.{Designation}
use Rattle.obs_record.specs.declared.name.TrackName.{TrackName}
use Rattle.obs_record.specs.declared.short.Short.{Short}
use Rattle.obs_record.specs.declared.sighting.Sighting.{Sighting}
use Rattle.tracklet_file.specs.declared.observation.Observation.{Observation}
use Rattle.tracklet_file.specs.declared.tracklet.Tracklet.{Tracklet}
use Rattle.tracklet_file.specs.Numbering.{next_number}
use Rattle.tracklet_file.specs.Observations.{is_live, with_observation, with_retraction}
use Rattle.tracklet_file.specs.Tracklets.{IsTracklet, with_tracklet, with_home}

-- a call that changes what is in the file
pub data Change : Type 0 where
  AddTrack : (name : TrackName) (station : Short) (home : Option Designation) → Change
  Add : (track : ℕ) (s : Sighting) (entry : ℕ) → Change
  Retract : (k : ℕ) → Change
  SetHome : (t : ℕ) (home : Option Designation) → Change

-- the observations that the changes leave
abbrev pub observations_after : List Change → List Observation
observations_after [] = []
observations_after (Add track s entry ∷ past) = with_observation (observations_after past) track s entry
observations_after (Retract k ∷ past) = with_retraction (observations_after past) k
observations_after (AddTrack name station home ∷ past) = observations_after past
observations_after (SetHome t home ∷ past) = observations_after past

-- the tracklets that the changes leave
abbrev pub tracklets_after : List Change → List Tracklet
tracklets_after [] = []
tracklets_after (AddTrack name station home ∷ past) = with_tracklet (tracklets_after past) name station home
tracklets_after (SetHome t home ∷ past) = with_home (tracklets_after past) t home
tracklets_after (Add track s entry ∷ past) = tracklets_after past
tracklets_after (Retract k ∷ past) = tracklets_after past

-- each change may be called where it comes: what it names is there, and what it retracts is live
abbrev pub MayBeCalled : List Change → Change → Type 0
MayBeCalled past (AddTrack name station home) = Unit {0}
MayBeCalled past (Add track s entry) = IsTracklet (tracklets_after past) track
MayBeCalled past (Retract k) = IsTrue (is_live (observations_after past) k)
MayBeCalled past (SetHome t home) = IsTracklet (tracklets_after past) t

abbrev pub AreCalls : List Change → Type 0
AreCalls [] = Unit {0}
AreCalls (newest ∷ past) = MayBeCalled past newest × AreCalls past

-- ---- what the changes say

-- the change retracts observation k
abbrev pub names_retracted : ℕ → Change → Bool
names_retracted k (Retract other) = other == k
names_retracted k _ = false

-- some change retracts observation k
abbrev pub is_gone : List Change → ℕ → Bool
is_gone changes k = list_any (names_retracted k) changes

-- the observations as the changes brought them, whatever became of them
abbrev pub added_observations : List Change → List Observation
added_observations [] = []
added_observations (Add track s entry ∷ past) = with_observation (added_observations past) track s entry
added_observations (AddTrack name station home ∷ past) = added_observations past
added_observations (Retract k ∷ past) = added_observations past
added_observations (SetHome t home ∷ past) = added_observations past

-- the tracklets as the changes brought them, with their first homes
abbrev pub brought_tracklets : List Change → List Tracklet
brought_tracklets [] = []
brought_tracklets (AddTrack name station home ∷ past) = with_tracklet (brought_tracklets past) name station home
brought_tracklets (Add track s entry ∷ past) = brought_tracklets past
brought_tracklets (Retract k ∷ past) = brought_tracklets past
brought_tracklets (SetHome t home ∷ past) = brought_tracklets past

-- the change is a retraction
abbrev pub is_retraction : Change → Bool
is_retraction (Retract k) = true
is_retraction _ = false

-- what the last change that names tracklet t says of its home
abbrev pub last_home : List Change → ℕ → Option Designation
last_home [] t = None
last_home (AddTrack name station home ∷ past) t =
    if t == next_number (tracklets_after past) then home else last_home past t
last_home (SetHome other home ∷ past) t = if t == other then home else last_home past t
last_home (Add track s entry ∷ past) t = last_home past t
last_home (Retract k ∷ past) t = last_home past t

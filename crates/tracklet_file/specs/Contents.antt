-- What contracts see of the file.
use Rattle.std.specs.Prelude.{◌≡◌, ℕ, ◌+◌, ◌≤◌, List, [], ◌∷◌}
use Rattle.tracklet_file.specs.declared.observation.Observation.{Observation}
use Rattle.tracklet_file.specs.declared.tracklet.Tracklet.{Tracklet}
use Rattle.tracklet_file.specs.Tracklets.{IsTracklet, retracted_in, isolated_in}

-- the observations and the tracklets, the newest first, and for how many more of each there is room
pub record Contents : Type 0 where
  pub observations : List Observation
  pub tracklets : List Tracklet
  pub observation_room : ℕ
  pub tracklet_room : ℕ

-- there is no less room than before
pub record KeepsRoom (old new : Contents) : Type 0 where
  pub observations : old.observation_room ≤ new.observation_room
  pub tracklets : old.tracklet_room ≤ new.tracklet_room

-- no memory was taken: there is no more room than before
pub record TakesNoMemory (old new : Contents) : Type 0 where
  pub observations : new.observation_room ≤ old.observation_room
  pub tracklets : new.tracklet_room ≤ old.tracklet_room

-- no memory was taken: there is room for one more tracklet at most, where one left the index of homes
pub record GivesBackOne (old new : Contents) : Type 0 where
  pub observations : new.observation_room ≤ old.observation_room
  pub tracklets : new.tracklet_room ≤ old.tracklet_room + 1

-- the tracklet of each observation is there
abbrev pub AreInTracklets : List Tracklet → List Observation → Type 0
AreInTracklets tracklets [] = Unit {0}
AreInTracklets tracklets (newest ∷ older) = IsTracklet tracklets newest.track × AreInTracklets tracklets older

-- the tracklet of each observation is there, and these are the counts of isolated and of retracted observations
pub record IsCounted (tracklets : List Tracklet) (observations : List Observation) (isolated retracted : ℕ)
    : Type 0 where
  pub in_tracklets : AreInTracklets tracklets observations
  pub isolated_are : isolated ≡ isolated_in tracklets observations
  pub retracted_are : retracted ≡ retracted_in observations

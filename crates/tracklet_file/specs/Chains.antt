-- The observations of each tracklet as a chain: its ends are kept for the tracklet, and for each observation the number
-- of the next one. Where there is none the number is 0.
use Rattle.std.specs.Prelude.{◌≡◌, ℕ, ◌+◌, ◌-◌, ◌<◌, Bool, ◌&&◌, ◌==◌, List, [], ◌∷◌, ◌++◌, length, count_by, unwrap_or}
use Rattle.std.specs.Prelude.{slice_index, slice_index_or, slice_set, if◌then◌else◌}
use Rattle.tracklet_file.specs.declared.observation.Observation.{Observation}
use Rattle.tracklet_file.specs.declared.chain.Chain.{Chain}
use Rattle.tracklet_file.specs.Numbering.{next_number}
use Rattle.tracklet_file.specs.Observations.{first_of, next_of}

-- the observation is live, and of this tracklet
abbrev pub is_live_of : ℕ → Observation → Bool
is_live_of t o = o.live && (o.track == t)

-- the number of the last observation of the tracklet
abbrev pub last_of : List Observation → ℕ → ℕ
last_of [] t = 0
last_of (newest ∷ older) t = if newest.track == t then next_number older else last_of older t

-- what is kept of the tracklet
abbrev pub chain_of : List Observation → ℕ → Chain
chain_of observations t = record {
  first = unwrap_or (first_of observations t) 0;
  last = last_of observations t;
  live = count_by (is_live_of t) observations;
}

-- each tracklet has its chain, and each observation its link
pub record AreChained (tracks : ℕ) (observations : List Observation) (chains : List Chain) (links : List ℕ)
    : Type 0 where
  pub as_many_chains : length chains ≡ tracks
  pub as_many_links : length links ≡ length observations
  pub chain_is : (place : ℕ) (d : Chain) → place < length chains
      → slice_index_or chains place d ≡ chain_of observations (place + 1)
  pub link_is : (place : ℕ) → place < length links
      → slice_index links place ≡ unwrap_or (next_of observations (place + 1)) 0

-- what is kept of a tracklet after a live observation with this number is added to it
abbrev pub chain_after : Chain → ℕ → Chain
chain_after chain number = record {
  first = if chain.first == 0 then number else chain.first;
  last = number;
  live = chain.live + 1;
}

-- the links with one more, to whose number the link of the tracklet's last observation leads
abbrev pub links_after : List ℕ → ℕ → ℕ → List ℕ
links_after links last number =
    if last == 0 then links ++ 0 ∷ [] else slice_set (links ++ 0 ∷ []) (last - 1) number

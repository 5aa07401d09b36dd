-- What the file keeps beside its observations and tracklets.
use Rattle.std.specs.Prelude.{ℕ, List, length, reverse}
use Rattle.std.specs.declared.cmp.Ordering.{Ordering}
use Rattle.tracklet_file.specs.declared.observation.Observation.{Observation}
use Rattle.tracklet_file.specs.declared.tracklet.Tracklet.{Tracklet}
use Rattle.tracklet_file.specs.declared.chain.Chain.{Chain}
use Rattle.tracklet_file.specs.declared.homes.HomeEntry.{HomeEntry}
use Rattle.tracklet_file.specs.Contents.{IsCounted}
use Rattle.tracklet_file.specs.Chains.{AreChained}
use Rattle.tracklet_file.specs.Places.{KeptPlaces, IsIndexed}
use Rattle.tracklet_file.specs.Homes.{KeptHomes, IsHomed}

-- the counts of isolated and of retracted observations, and the chains and their links
pub record Kept : Type 0 where
  pub isolated : ℕ
  pub retracted : ℕ
  pub chains : List Chain
  pub links : List ℕ

-- they are those of the plain lists
pub record IsKept (tracklets : List Tracklet) (observations : List Observation) (kept : Kept) : Type 0 where
  pub counted : IsCounted tracklets observations kept.isolated kept.retracted
  pub chained : AreChained (length tracklets) observations kept.chains kept.links

-- beside them, the index of homes is that of the tracklets, and the index of places that of the observations. Those are
-- filed oldest first
pub record IsFiled (cmp : HomeEntry → HomeEntry → Ordering) (tracklets : List Tracklet)
    (filed : List Observation) (held : Kept) (homes : KeptHomes) (places : KeptPlaces) : Type 0 where
  pub kept : IsKept tracklets (reverse filed) held
  pub homed : IsHomed cmp tracklets homes
  pub indexed : IsIndexed filed places

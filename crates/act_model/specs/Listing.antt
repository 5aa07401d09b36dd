-- Which observations the catalogue has.
use Rattle.std.specs.Prelude.{◌≡◌, ℕ, if◌then◌else◌, List, ◌++◌, flat_map}
use Rattle.tracklet_file.specs.Observations.{is_live}
use Rattle.act_model.specs.declared.deed.Deed.{Deed}
use Rattle.act_model.specs.declared.entry.Entry.{Entry}
use Rattle.act_model.specs.Catalogue.{in_object, in_track, listed_tracks}
use Rattle.act_model.specs.Deeds.{deeds}
use Rattle.act_model.specs.Designations.{links_of, principals}
use Rattle.act_model.specs.Holdings.{holdings}
use Rattle.act_model.specs.Places.{times}

-- the numbers of the observations that it has a line for, in the order of these lines
abbrev pub observations_listed : List Deed → List ℕ
observations_listed past =
    flat_map (in_object past) (principals (links_of past)) ++ flat_map (in_track past) (listed_tracks past)

-- each live observation has one line, and no other number has any
abbrev pub ListsEachOnce : List Entry → Type 0
ListsEachOnce history =
    (k : ℕ) → times k (observations_listed (deeds history))
    ≡ (if is_live (holdings (deeds history)).observations k then 1 else 0)

-- What the office has of a designation. It is a function of the office's deeds alone.
use Rattle.std.specs.Prelude.{Bool, true, false, List, Option, Some, None}
use Rattle.std.specs.Option.{option_and_then}
use Rattle.packed_names.specs.declared.name.Designation.{Designation}
use Rattle.obs_record.specs.declared.sighting.Sighting.{Sighting}
use Rattle.designate_core.specs.Takes.{discovery_of}
use Rattle.tracklet_file.specs.Observations.{sighting_of}
use Rattle.act_model.specs.declared.deed.Deed.{Deed}
use Rattle.act_model.specs.Holdings.{holdings}
use Rattle.act_model.specs.Designations.{row_acts_of, links_of, is_given}
use Rattle.act_model.specs.Discoveries.{half_of}
use Rattle.comet_model.specs.declared.named.Found.{Found}
use Rattle.comet_model.specs.declared.named.Found.TheVariants.{NotGiven, NoDiscovery, Discovered}

-- the observation by which the object of a designation was discovered
abbrev pub discovery : List Deed → Designation → Option Sighting
discovery desk d = option_and_then (sighting_of (holdings desk).observations) (discovery_of d (row_acts_of desk))

-- what there is of a designation, given or not, whose object this observation discovered: the half-month by the exact
-- time of the observation
abbrev pub found_by : Bool → Option Sighting → Found
found_by false discovered = NotGiven
found_by true None = NoDiscovery
found_by true (Some sighting) = Discovered (half_of sighting.time)

unfoldable pub found_of : List Deed → Designation → Found
found_of desk d = found_by (is_given (links_of desk) d) (discovery desk d)

-- What the office knows after its deeds, as the rules for lines ask it.
use Rattle.std.specs.Prelude.{List, Option}
use Rattle.packed_names.specs.declared.name.Designation.{Designation}
use Rattle.packed_names.specs.declared.name.Name.{Name}
use Rattle.packed_names.specs.declared.name.Name.TheVariants as names
use Rattle.identify_core.specs.Acts.{LinkAct, principal}
use Rattle.numbering_core.specs.declared.numbering.Numbering.{Numbering}
use Rattle.numbering_core.specs.Numbers.{named}
use Rattle.tracklet_file.specs.Observations.{has_live}
use Rattle.act_model.specs.declared.deed.Deed.{Deed}
use Rattle.act_model.specs.Holdings.{holdings}
use Rattle.act_model.specs.Designations.{links_of, stands}
use Rattle.act_model.specs.Numbers.{numbers_of}
use Rattle.act_model.specs.Known.{KnownOffice}

-- a number stands for the designation that it was given to, and a designation that was given for itself
abbrev pub stands_for : List LinkAct → List Numbering → Name → Option Designation
stands_for acts numbered (names.Number number) = named numbered number.0
stands_for acts numbered (names.Designation d) = stands acts d

-- the live observations that it holds, the names that it gave, and the principals of its designations
abbrev pub known_of : List Deed → KnownOffice
known_of past =
    record {
      has_live = has_live (holdings past).observations;
      stands_for = stands_for (links_of past) (numbers_of past);
      principal = principal (links_of past);
    }

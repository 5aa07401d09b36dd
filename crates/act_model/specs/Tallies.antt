-- The tally: how many entries the office has, and how many observations stand in each place.
use Rattle.std.specs.Prelude.{ℕ, List, ◌++◌, length, codes}
use Rattle.tracklet_file.specs.Tracklets.{isolated_in, homed_in, retracted_in}
use Rattle.act_model.specs.declared.entry.Entry.{Entry}
use Rattle.act_model.specs.declared.tally.Tally.{Tally}
use Rattle.act_model.specs.Deeds.{deeds}
use Rattle.act_model.specs.Holdings.{Holdings, holdings}
use Rattle.act_model.specs.Texts.{count_line}

-- the tally of this many entries and of what they brought
abbrev pub tally_of : ℕ → Holdings → Tally
tally_of entries held =
    record {
      entries = entries;
      isolated = isolated_in held.tracklets held.observations;
      objects = homed_in held.tracklets held.observations;
      retracted = retracted_in held.observations;
      accepted = length held.observations;
    }

abbrev pub tally : List Entry → Tally
tally past = tally_of (length past) (holdings (deeds past))

-- the five lines of a tally
abbrev pub tally_text : Tally → List ℕ
tally_text t =
    count_line (codes "entries ") t.entries
    ++ (count_line (codes "isolated ") t.isolated
    ++ (count_line (codes "objects ") t.objects
    ++ (count_line (codes "retracted ") t.retracted ++ count_line (codes "accepted ") t.accepted)))

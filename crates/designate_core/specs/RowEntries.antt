-- What the office keeps of what came to the rows.
use Rattle.std.specs.Prelude.{◌≡◌, List, [], ◌∷◌, map, reverse}
use Rattle.packed_names.specs.Ranges.{IsProvisional}
use Rattle.designate_core.specs.declared.row_entry.RowEntry.{RowEntry}
use Rattle.designate_core.specs.declared.row_entry.RowEntry.TheVariants as entry
use Rattle.designate_core.specs.Takes.{RowAct, next_in}
use Rattle.designate_core.specs.Takes.RowAct.{Opened, Took}

abbrev pub act_of : RowEntry → RowAct
act_of (entry.Opened half given) = Opened half given
act_of (entry.Took given discovery) = Took (record { half = given.half; discovery = discovery })

-- the acts of what came, the oldest first: the newest act first
abbrev pub acts_of : List RowEntry → List RowAct
acts_of came = map act_of (reverse came)

-- what an object took is the next designation of its half-month, and is one that the half-month has
abbrev pub IsNamed : List RowAct → RowEntry → Type 0
IsNamed past (entry.Opened half given) = Unit {0}
IsNamed past (entry.Took given discovery) = (given ≡ next_in given.half past) × IsProvisional given

-- each of the designations was so, after what came before it; the newest first
abbrev pub AreNamed : List RowEntry → Type 0
AreNamed [] = Unit {0}
AreNamed (newest ∷ older) = IsNamed (map act_of older) newest × AreNamed older

-- The indexes of what was given: one by half-month, and one by designation.
use Rattle.std.specs.Prelude.{◌≡◌, ℕ, List, Option, map}
use Rattle.std.specs.Option.{option_map, option_map_or}
use Rattle.std.specs.declared.cmp.Ordering.{Ordering}
use Rattle.packed_names.specs.declared.half_month.HalfMonth.{HalfMonth}
use Rattle.packed_names.specs.declared.name.Designation.{Designation}
use Rattle.ordered_list.specs.Orders.{found}
use Rattle.designate_core.specs.declared.count.Count.{Count}
use Rattle.designate_core.specs.declared.discovery.Discovery.{Discovery}
use Rattle.designate_core.specs.declared.row_entry.RowEntry.{RowEntry}
use Rattle.designate_core.specs.Takes.{RowAct, given_in, discovery_of}
use Rattle.designate_core.specs.RowEntries.{act_of, AreNamed}
use Rattle.designate_core.specs.Unbroken.{AreFitting}

-- the entry of a half-month in which this many were given
abbrev pub count_of : HalfMonth → ℕ → Count
count_of half given = record { half = half; given = given }

-- how many an entry gives
abbrev pub given_by : Option Count → ℕ
given_by entry = option_map_or (λ count. count.given) entry 0

-- the entry of a designation whose object was discovered by this observation
abbrev pub entry_of : Designation → ℕ → Discovery
entry_of d observation = record { designation = d; observation = observation }

-- the observation that an entry gives
abbrev pub observation_by : Option Discovery → Option ℕ
observation_by entry = option_map (λ discovery. discovery.observation) entry

-- each half-month finds how many designations were given in it
abbrev pub AreCounted : (Count → Count → Ordering) → List Count → List RowAct → Type 0
AreCounted cmp counts acts = (half : HalfMonth) → given_by (found cmp (count_of half 0) counts) ≡ given_in half acts

-- each designation finds the observation by which its object was discovered
abbrev pub AreIndexed : (Discovery → Discovery → Ordering) → List Discovery → List RowAct → Type 0
AreIndexed cmp discoveries acts =
    (d : Designation) → observation_by (found cmp (entry_of d 0) discoveries) ≡ discovery_of d acts

-- what came, the newest first, fits what was before it, and both indexes are its
pub record IsKept (count_cmp : Count → Count → Ordering) (discovery_cmp : Discovery → Discovery → Ordering)
    (came : List RowEntry) (counts : List Count) (discoveries : List Discovery) : Type 0 where
  pub fitting : AreFitting (map act_of came)
  pub named : AreNamed came
  pub counted : AreCounted count_cmp counts (map act_of came)
  pub indexed : AreIndexed discovery_cmp discoveries (map act_of came)

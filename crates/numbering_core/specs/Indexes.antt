-- The entries by which verdicts and numbers are found: both in the order of their designations.
use Rattle.std.specs.Prelude.{◌≡◌, List, map, Option}
use Rattle.std.specs.Option.{option_map}
use Rattle.std.specs.declared.cmp.Ordering.{Ordering}
use Rattle.packed_names.specs.declared.name.Designation.{Designation}
use Rattle.packed_names.specs.declared.number.Number.{Number}
use Rattle.ordered_list.specs.Orders.{found}
use Rattle.numbering_core.specs.declared.verdict.Verdict.{Verdict}
use Rattle.numbering_core.specs.declared.numbering.Numbering.{Numbering}
use Rattle.numbering_core.specs.declared.entry.VerdictEntry.{VerdictEntry}
use Rattle.numbering_core.specs.declared.entry.NumberEntry.{NumberEntry}
use Rattle.numbering_core.specs.Numbers.{number_of, IsUnbroken}

-- the verdict that an entry gives
abbrev pub verdict_in : VerdictEntry → Verdict
verdict_in entry = record { principal = entry.principal; u = entry.u; oppositions = entry.oppositions }

abbrev pub verdict_by : Option VerdictEntry → Option Verdict
verdict_by entry = option_map verdict_in entry

-- the verdicts that entries tell of
abbrev pub verdicts_in : List VerdictEntry → List Verdict
verdicts_in entries = map verdict_in entries

-- an entry that finds the one of the verdict on the designation
abbrev pub verdict_key : Designation → VerdictEntry
verdict_key p = record { principal = p; u = 0; oppositions = 0 }

-- an entry that finds the one of the designation
abbrev pub entry_key : Designation → NumberEntry
entry_key d = record { designation = d; number = record { 0 = 0 } }

-- the number that an entry gives
abbrev pub number_by : Option NumberEntry → Option Number
number_by entry = option_map (λ e. e.number) entry

-- each designation finds its number
abbrev pub AreIndexed : (NumberEntry → NumberEntry → Ordering) → List NumberEntry → List Numbering → Type 0
AreIndexed cmp entries numbered = (d : Designation) → number_by (found cmp (entry_key d) entries) ≡ number_of numbered d

-- the numbers, the newest first, are unbroken, and the index is theirs
pub record IsKept (cmp : NumberEntry → NumberEntry → Ordering) (numbered : List Numbering) (entries : List NumberEntry)
    : Type 0 where
  pub row : IsUnbroken numbered
  pub indexed : AreIndexed cmp entries numbered

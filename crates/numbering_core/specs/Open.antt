-- The designations that have a good verdict and no number.
use Rattle.std.specs.Prelude.{◌≡◌, Bool, ◌&&◌, if◌then◌else◌, is_none, is_some, List, Option}
use Rattle.std.specs.declared.cmp.Ordering.{Ordering}
use Rattle.packed_names.specs.declared.name.Designation.{Designation}
use Rattle.ordered_list.specs.Orders.{ties, found}
use Rattle.numbering_core.specs.declared.verdict.Verdict.{Verdict}
use Rattle.numbering_core.specs.declared.numbering.Numbering.{Numbering}
use Rattle.numbering_core.specs.Numbers.{number_of}
use Rattle.numbering_core.specs.Verdicts.{is_good}

-- the verdict on the designation is good, and it has no number
abbrev pub is_open : (Designation → Option Verdict) → List Numbering → Designation → Bool
is_open verdict numbered d = is_none (number_of numbered d) && is_good (verdict d)

-- among these designations, those and no others are found
abbrev pub AreOpen : (Designation → Designation → Ordering) → (Designation → Option Verdict) → List Numbering
    → List Designation → Type 0
AreOpen cmp verdict numbered designations =
    (d : Designation) → is_some (found cmp d designations) ≡ is_open verdict numbered d

-- one designation is found among the new ones or isn't, and each other is found as before
abbrev pub FindsBeside : (Designation → Designation → Ordering) → Designation → Bool → List Designation
    → List Designation → Type 0
FindsBeside cmp d is_there old new = (key : Designation) →
    is_some (found cmp key new) ≡ (if ties cmp key d then is_there else is_some (found cmp key old))

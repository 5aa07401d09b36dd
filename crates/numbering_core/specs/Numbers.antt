-- Numbers that were given. Lists have the newest first.
use Rattle.std.specs.Prelude.{◌≡◌, ℕ, ◌+◌, ◌==◌, if◌then◌else◌, List, [], ◌∷◌, Option, Some, None, IfSome}
use Rattle.std.specs.Ordering.{eq_by_cmp}
use Rattle.packed_names.specs.declared.name.Designation.{Designation}
use Rattle.packed_names.specs.declared.number.Number.{Number}
use Rattle.packed_names.specs.Order.{designation_cmp}
use Rattle.packed_names.specs.Ranges.{IsNumber}
use Rattle.numbering_core.specs.declared.numbering.Numbering.{Numbering}

-- the number that comes next: one more than the last; none where no number was given
abbrev pub next_number : List Numbering → Option ℕ
next_number [] = None
next_number (newest ∷ past) = Some (newest.number.0 + 1)

-- the number of a designation
abbrev pub number_of : List Numbering → Designation → Option Number
number_of [] d = None
number_of (newest ∷ past) d =
    if eq_by_cmp designation_cmp newest.designation d then Some newest.number else number_of past d

-- the designation that a number was given to
abbrev pub named : List Numbering → ℕ → Option Designation
named [] n = None
named (newest ∷ past) n = if newest.number.0 == n then Some newest.designation else named past n

-- each number is one that a minor planet can have, was the next, and was given to a designation that had none
abbrev pub IsUnbroken : List Numbering → Type 0
IsUnbroken [] = Unit {0}
IsUnbroken (newest ∷ past) =
    IsNumber newest.number.0
    × IfSome (next_number past) (λ next. newest.number.0 ≡ next)
    × (number_of past newest.designation ≡ None)
    × IsUnbroken past

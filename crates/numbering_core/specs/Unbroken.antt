-- Numbers run without a gap.
use Rattle.std.specs.Prelude.{◌≡◌, ℕ, zero, suc, ◌+◌, List, [], ◌∷◌, map, length}
use Rattle.std.specs.List.{Contains}
use Rattle.packed_names.specs.declared.name.Designation.{Designation}
use Rattle.numbering_core.specs.declared.numbering.Numbering.{Numbering}
use Rattle.numbering_core.specs.Numbers.{IsUnbroken}

-- the numbers, the newest first
abbrev pub numbers : List Numbering → List ℕ
numbers numbered = map (λ n. n.number.0) numbered

-- the designations that have them
abbrev pub designations : List Numbering → List Designation
designations numbered = map (λ n. n.designation) numbered

-- the oldest of the numbers; 0 where there is none
abbrev pub first_number : List ℕ → ℕ
first_number [] = 0
first_number (n ∷ []) = n
first_number (n ∷ m ∷ ns) = first_number (m ∷ ns)

-- this many numbers from the first on, the last one first
abbrev pub down_to : ℕ → ℕ → List ℕ
down_to first zero = []
down_to first (suc more) = (first + more) ∷ down_to first more

-- nothing stands in the list twice
abbrev pub AreDifferent : {A : Type 0} → List A → Type 0
AreDifferent [] = Unit {0}
AreDifferent (x ∷ xs) = (¬ Contains xs x) × AreDifferent xs

-- the numbers are the first, the one after it, and so on
abbrev pub WithoutGap : Type 0
WithoutGap =
    (numbered : List Numbering)
    → IsUnbroken numbered → numbers numbered ≡ down_to (first_number (numbers numbered)) (length numbered)

-- no number was given twice
abbrev pub NumbersOnce : Type 0
NumbersOnce = (numbered : List Numbering) → IsUnbroken numbered → AreDifferent (numbers numbered)

-- no designation was numbered twice
abbrev pub DesignationsOnce : Type 0
DesignationsOnce = (numbered : List Numbering) → IsUnbroken numbered → AreDifferent (designations numbered)

-- Numbers that go on with those that were given.
use Rattle.std.proofs.Common.{◌≡◌, ℕ, ◌+◌, ◌<◌, List, [], ◌∷◌, ◌++◌, length, reverse, drop, get_or, ap, subst, ◌∙◌, append_assoc}
use Rattle.std.proofs.lemmas.List.{reverse-append, drop_more}
use Rattle.numbering_core.specs.declared.numbering.Numbering.{Numbering}
use Rattle.numbering_core.specs.Numbers.{IsUnbroken}

pub unbroken_rest : (newer older : List Numbering) → IsUnbroken (newer ++ older) → IsUnbroken older
unbroken_rest [] older is = is
unbroken_rest (n ∷ newer) older (number, next, new, rest) = unbroken_rest newer older rest

-- one number more stands before those that were given
number_first : (n : Numbering) (more numbered : List Numbering) → reverse (n ∷ more) ++ numbered ≡ reverse more ++ n ∷ numbered
number_first n more numbered = ap (λ (ns : List Numbering). ns ++ numbered) (reverse-append (n ∷ []) more) ∙ append_assoc (reverse more) (n ∷ []) numbered

-- the first of those that are to be given goes on with those that were given
pub first_goes_on : (n : Numbering) (more numbered : List Numbering) → IsUnbroken (reverse (n ∷ more) ++ numbered) → IsUnbroken (n ∷ numbered)
first_goes_on n more numbered is = unbroken_rest (reverse more) (n ∷ numbered) (subst IsUnbroken (number_first n more numbered) is)

-- the next one of those that are left
pub next_goes_on : (pairs numbered : List Numbering) (i : ℕ) (any : Numbering) → i < length pairs → IsUnbroken (reverse (drop i pairs) ++ numbered) → IsUnbroken (get_or pairs i any ∷ numbered)
next_goes_on pairs numbered i any within is =
    first_goes_on (get_or pairs i any) (drop (i + 1) pairs) numbered (subst (λ (ns : List Numbering). IsUnbroken (reverse ns ++ numbered)) (drop_more pairs i any within) is)

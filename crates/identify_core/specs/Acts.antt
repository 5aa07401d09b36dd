-- The principal of a designation by the acts on links. Lists of acts have the newest first.
use Rattle.std.specs.Prelude.{Bool, false, if◌then◌else◌, List, [], ◌∷◌, Option, Some, None, option_map}
use Rattle.std.specs.List.{filter}
use Rattle.std.specs.Ordering.{eq_by_cmp, match_ordering}
use Rattle.packed_names.specs.declared.name.Designation.{Designation}
use Rattle.packed_names.specs.Order.{designation_cmp}

-- A designation is given; the objects of a principal and of a secondary are identified; a secondary is separated.
pub data LinkAct : Type 0 where
  Given : Designation → LinkAct
  Joined : Designation → Designation → LinkAct
  Parted : Designation → LinkAct

-- whether a designation is the principal
abbrev pub is_principal_of : Designation → Option Designation → Bool
is_principal_of p None = false
is_principal_of p (Some q) = eq_by_cmp designation_cmp q p

-- The principal of d after an act, from what it was before. A designation that is given is its own principal. The
-- secondary's designations get the other's principal. What is separated becomes its own principal, alone.
abbrev pub principal_after : LinkAct → Designation → Option Designation → Option Designation
principal_after (Given given) d before = if eq_by_cmp designation_cmp given d then Some given else before
principal_after (Joined p s) d before = if is_principal_of s before then Some p else before
principal_after (Parted s) d before = if eq_by_cmp designation_cmp d s then option_map (λ _. s) before else before

-- the principal of d; none where it wasn't given
abbrev pub principal : List LinkAct → Designation → Option Designation
principal [] d = None
principal (act ∷ past) d = principal_after act d (principal past d)

-- a designation put in its place among others that ascend; it stands once
abbrev pub put_in_order : Designation → List Designation → List Designation
put_in_order d [] = d ∷ []
put_in_order d (e ∷ ds) = match_ordering (designation_cmp d e) (d ∷ e ∷ ds) (e ∷ ds) (e ∷ put_in_order d ds)

-- the designations that were given, in their order
abbrev pub given_in_order : List LinkAct → List Designation
given_in_order [] = []
given_in_order (Given d ∷ past) = put_in_order d (given_in_order past)
given_in_order (Joined p s ∷ past) = given_in_order past
given_in_order (Parted s ∷ past) = given_in_order past

-- the designations whose principal is p, in their order
abbrev pub members : List LinkAct → Designation → List Designation
members acts p = filter (λ d. is_principal_of p (principal acts d)) (given_in_order acts)

-- the designations that are their own principals, in their order
abbrev pub principals : List LinkAct → List Designation
principals acts = filter (λ d. is_principal_of d (principal acts d)) (given_in_order acts)

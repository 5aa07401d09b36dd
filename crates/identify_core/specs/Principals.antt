-- The principals of designations, as links have them.
use Rattle.std.specs.Prelude.{◌≡◌, ◌≢◌, ℕ, Bool, if◌then◌else◌, List, [], ◌∷◌, map, Option, Some, None}
use Rattle.std.specs.List.{filter}
use Rattle.std.specs.declared.cmp.Ordering.TheVariants.{Less}
use Rattle.std.specs.Ordering.{eq_by_cmp}
use Rattle.packed_names.specs.declared.name.Designation.{Designation}
use Rattle.packed_names.specs.Order.{designation_cmp}
use Rattle.identify_core.specs.declared.link.Link.{Link}
use Rattle.identify_core.specs.Acts.{LinkAct, principal_after, principal}
use Rattle.identify_core.specs.Acts.LinkAct.{Given, Joined, Parted}

-- what contracts see of links: the links, and for how many more there is memory
pub record LinksValue : Type 0 where
  pub links : List Link
  pub spare : ℕ

-- the principal of a designation; none where no link has it
abbrev pub principal_of : List Link → Designation → Option Designation
principal_of [] d = None
principal_of (link ∷ links) d =
    if eq_by_cmp designation_cmp link.member d then Some link.principal else principal_of links d

-- the designation is its own principal
abbrev pub IsPrincipal : List Link → Designation → Type 0
IsPrincipal links d = principal_of links d ≡ Some d

-- the member is its own principal
abbrev pub is_own : Link → Bool
is_own link = eq_by_cmp designation_cmp link.member link.principal

-- the members that are their own principals, in the order of the links
abbrev pub own_members : List Link → List Designation
own_members links = map (λ link. link.member) (filter is_own links)

-- each designation has the principal that an act gives it, from what it had before
abbrev pub ChangedBy : LinkAct → List Link → List Link → Type 0
ChangedBy act old new = (d : Designation) → principal_of new d ≡ principal_after act d (principal_of old d)

-- a designation comes before each of others
abbrev pub IsBefore : Designation → List Designation → Type 0
IsBefore d [] = Unit {0}
IsBefore d (e ∷ ds) = (designation_cmp d e ≡ Less) × IsBefore d ds

-- each designation comes before those that follow it, so that each stands once
abbrev pub IsAscending : List Designation → Type 0
IsAscending [] = Unit {0}
IsAscending (d ∷ ds) = IsBefore d ds × IsAscending ds

-- the links stand for acts, the newest first: each designation has the same principal by both
abbrev pub StandFor : List Link → List LinkAct → Type 0
StandFor links acts = (d : Designation) → principal_of links d ≡ principal acts d

-- What links take an act for: the two that are identified are two principals, and what is separated is none.
abbrev pub FitsLinks : LinkAct → List LinkAct → Type 0
FitsLinks (Given d) past = Unit {0}
FitsLinks (Joined p s) past = (principal past p ≡ Some p) × (principal past s ≡ Some s) × (p ≢ s)
FitsLinks (Parted s) past = ¬ (principal past s ≡ Some s)

-- each principal is its own
abbrev pub AreTheirOwn : List LinkAct → Type 0
AreTheirOwn acts = (d p : Designation) → principal acts d ≡ Some p → principal acts p ≡ Some p

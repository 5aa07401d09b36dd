-- How links are kept: in their order, and beside them an index in the order of designations.
use Rattle.std.specs.Prelude.{◌≡◌, ◌≤◌, ℕ, Bool, if◌then◌else◌, List, drop, Option, Some}
use Rattle.std.specs.Option.{option_map}
use Rattle.std.specs.List.{prefix_len, take_while, count_by}
use Rattle.std.specs.declared.cmp.Ordering.{Ordering}
use Rattle.std.specs.Ordering.{eq_by_cmp, is_lt, ordering_then}
use Rattle.packed_names.specs.declared.name.Designation.{Designation}
use Rattle.packed_names.specs.Order.{designation_cmp}
use Rattle.ordered_list.specs.Orders.{IsStrictlySorted, found}
use Rattle.identify_core.specs.declared.link.Link.{Link}
use Rattle.identify_core.specs.declared.entry.PrincipalEntry.{PrincipalEntry}
use Rattle.identify_core.specs.Principals.{principal_of, IsPrincipal}

-- whether the link is one of the principal, or of the member, or of an earlier principal
abbrev pub has_principal : Designation → Link → Bool
has_principal p link = eq_by_cmp designation_cmp link.principal p

abbrev pub has_member : Designation → Link → Bool
has_member d link = eq_by_cmp designation_cmp link.member d

abbrev pub is_below : Designation → Link → Bool
is_below p link = is_lt (designation_cmp link.principal p)

-- by principal, then by member
abbrev pub link_cmp : Link → Link → Ordering
link_cmp one other =
    ordering_then (designation_cmp one.principal other.principal) (designation_cmp one.member other.member)

-- how many links stand before this one
abbrev pub place_in : Link → List Link → ℕ
place_in link links = prefix_len (λ other. is_lt (link_cmp other link)) links

-- the links after those of earlier principals, as long as they are of the principal
abbrev pub run_of : Designation → List Link → List Link
run_of p links = take_while (has_principal p) (drop (prefix_len (is_below p) links) links)

-- each designation has one link at most
abbrev pub EachOnce : List Link → Type 0
EachOnce links = (d : Designation) → count_by (has_member d) links ≤ 1

-- an entry that finds the one of the designation
abbrev pub entry_key : Designation → PrincipalEntry
entry_key d = record { designation = d; principal = d }

-- the principal that an entry gives
abbrev pub principal_by : Option PrincipalEntry → Option Designation
principal_by entry = option_map (λ e. e.principal) entry

-- each designation finds its principal
abbrev pub AreIndexed : (PrincipalEntry → PrincipalEntry → Ordering) → List PrincipalEntry → List Link → Type 0
AreIndexed cmp entries links = (d : Designation) → principal_by (found cmp (entry_key d) entries) ≡ principal_of links d

-- the links stand in order, each designation has one, and the index is theirs
pub record AreKept (cmp : PrincipalEntry → PrincipalEntry → Ordering) (links : List Link)
    (entries : List PrincipalEntry) : Type 0 where
  pub sorted : IsStrictlySorted link_cmp links
  pub once : EachOnce links
  pub indexed : AreIndexed cmp entries links

-- beside that, each principal is its own
pub record AreLinks (cmp : PrincipalEntry → PrincipalEntry → Ordering) (links : List Link)
    (entries : List PrincipalEntry) : Type 0 where
  pub kept : AreKept cmp links entries
  pub own : (d p : Designation) → principal_of links d ≡ Some p → IsPrincipal links p

-- the designation has this principal, and every other one the principal that it had
abbrev pub IsGiven : Designation → Designation → List Link → List Link → Type 0
IsGiven given p old new =
    (d : Designation) → principal_of new d ≡ (if eq_by_cmp designation_cmp given d then Some p else principal_of old d)

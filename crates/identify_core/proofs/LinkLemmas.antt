-- Principals and counts of links.
use Rattle.std.proofs.Common.{◌≡◌, zero, suc, ◌+◌, ◌≤◌, Bool, true, false, cond, List, [], ◌∷◌, count_by, Option, Some, None, refl, ap, sym, subst, ◌∙◌, inl, inr, arith}
use Rattle.std.specs.List.{Contains}
use Rattle.std.specs.List.Sorted.{IsPermutation}
use Rattle.std.proofs.lemmas.Bool.{cases_Bool}
use Rattle.std.proofs.lemmas.List.Sums.{sum_by-cons}
use Rattle.std.proofs.lemmas.List.Sorted.{sum_by-IsPermutation, Contains-permutation}
use Rattle.packed_names.specs.declared.name.Designation.{Designation}
use Rattle.identify_core.specs.declared.link.Link.{Link}
use Rattle.identify_core.specs.Principals.{principal_of}
use Rattle.identify_core.specs.Keeping.{has_member, EachOnce}
use Rattle.identify_core.proofs.OrderLemmas.{designation_same, designation_itself}

pub principal_of-here : (d : Designation) (link : Link) (links : List Link) → has_member d link ≡ true → principal_of (link ∷ links) d ≡ Some link.principal
principal_of-here d link links same = ap (λ (b : Bool). cond b (Some link.principal) (principal_of links d)) same

pub principal_of-past : (d : Designation) (link : Link) (links : List Link) → has_member d link ≡ false → principal_of (link ∷ links) d ≡ principal_of links d
principal_of-past d link links apart = ap (λ (b : Bool). cond b (Some link.principal) (principal_of links d)) apart

pub count-here : (d : Designation) (link : Link) (links : List Link) → has_member d link ≡ true → count_by (has_member d) (link ∷ links) ≡ 1 + count_by (has_member d) links
count-here d link links same = sum_by-cons (λ (l : Link). cond (has_member d l) 1 0) link links ∙ ap (λ (b : Bool). cond b 1 0 + count_by (has_member d) links) same

pub count-past : (d : Designation) (link : Link) (links : List Link) → has_member d link ≡ false → count_by (has_member d) (link ∷ links) ≡ 0 + count_by (has_member d) links
count-past d link links apart = sum_by-cons (λ (l : Link). cond (has_member d l) 1 0) link links ∙ ap (λ (b : Bool). cond b 1 0 + count_by (has_member d) links) apart

pub count-more : (d : Designation) (link : Link) (links : List Link) → count_by (has_member d) links ≤ count_by (has_member d) (link ∷ links)
count-more d link links = let e = sum_by-cons (λ (l : Link). cond (has_member d l) 1 0) link links in omega (arith, e)

pub none_from_count : (d : Designation) (links : List Link) → count_by (has_member d) links ≡ 0 → principal_of links d ≡ None
none_from_count d [] none = refl
none_from_count d (link ∷ links) none =
    elim (cases_Bool (has_member d link)) [
      | inl same ↦ let e = count-here d link links same in absurd (omega (arith, e, none))
      | inr apart ↦ let e = count-past d link links apart in principal_of-past d link links apart ∙ none_from_count d links (omega (arith, e, none))
    ]

pub count_from_none : (d : Designation) (links : List Link) → principal_of links d ≡ None → count_by (has_member d) links ≡ 0
count_from_none d [] none = refl
count_from_none d (link ∷ links) none =
    elim (cases_Bool (has_member d link)) [
      | inl same ↦ let e = principal_of-here d link links same in absurd (cc)
      | inr apart ↦
          let e = count-past d link links apart in let rest = count_from_none d links (sym (principal_of-past d link links apart) ∙ none) in omega (arith, e, rest)
    ]

pub counted_from_some : (d p : Designation) (links : List Link) → principal_of links d ≡ Some p → 1 ≤ count_by (has_member d) links
counted_from_some d p [] some = absurd (cc)
counted_from_some d p (link ∷ links) some =
    elim (cases_Bool (has_member d link)) [
      | inl same ↦ let e = count-here d link links same in omega (arith, e)
      | inr apart ↦
          let rest = counted_from_some d p links (sym (principal_of-past d link links apart) ∙ some) in let more = count-more d link links in omega (arith, rest, more)
    ]

abbrev pub linked : Designation → Designation → Link
linked p d = record { principal = p; member = d }

link_is : (link : Link) (p d : Designation) → link.principal ≡ p → link.member ≡ d → link ≡ linked p d
link_is link p d principal member = ap (λ (q : Designation). linked q link.member) principal ∙ ap (linked p) member

pub some_same : (p q : Designation) → Some p ≡ Some q → p ≡ q
some_same p q e = cc

pub link_from_some : (d p : Designation) (links : List Link) → principal_of links d ≡ Some p → Contains links (linked p d)
link_from_some d p [] some = absurd (cc)
link_from_some d p (link ∷ links) some =
    elim (cases_Bool (has_member d link)) [
      | inl same ↦
          let principal = some_same link.principal p (sym (principal_of-here d link links same) ∙ some) in
          (0, omega arith, link_is link p d principal (designation_same link.member d same))
      | inr apart ↦
          let rest = link_from_some d p links (sym (principal_of-past d link links apart) ∙ some) in (suc rest.0, omega (arith, rest.1), rest.2)
    ]

pub some_from_link : (d p : Designation) (links : List Link) → count_by (has_member d) links ≤ 1 → Contains links (linked p d) → principal_of links d ≡ Some p
some_from_link d p [] once among = absurd (omega (arith, among.1))
some_from_link d p (link ∷ links) once (zero, below, here) =
    let P : Link → Type 0 = λ l. principal_of (l ∷ links) d ≡ Some p in
    subst P (sym here) (principal_of-here d (linked p d) links (designation_itself d))
some_from_link d p (link ∷ links) once (suc k, below, here) =
    let more = count-more d link links in
    let rest = some_from_link d p links (omega (arith, once, more)) (k, omega (arith, below), here) in
    elim (cases_Bool (has_member d link)) [
      | inl same ↦ let e = count-here d link links same in let counted = counted_from_some d p links rest in absurd (omega (arith, e, counted, once))
      | inr apart ↦ principal_of-past d link links apart ∙ rest
    ]

pub count-permuted : (xs ys : List Link) → IsPermutation xs ys → (d : Designation) → count_by (has_member d) ys ≡ count_by (has_member d) xs
count-permuted xs ys moved d = sum_by-IsPermutation (λ (l : Link). cond (has_member d l) 1 0) xs ys moved

pub once_permuted : (xs ys : List Link) → IsPermutation xs ys → EachOnce xs → EachOnce ys
once_permuted xs ys moved once d = let e = count-permuted xs ys moved d in let one = once d in omega (arith, e, one)

permuted_as : (xs ys : List Link) → IsPermutation xs ys → EachOnce xs → (d : Designation) (before : Option Designation) → principal_of xs d ≡ before → principal_of ys d ≡ before
permuted_as xs ys moved once d None none = none_from_count d ys (count-permuted xs ys moved d ∙ count_from_none d xs none)
permuted_as xs ys moved once d (Some p) some =
    some_from_link d p ys (once_permuted xs ys moved once d) (Contains-permutation xs ys (linked p d) moved (link_from_some d p xs some))

-- another order of the links leaves each principal
pub principal_of-permuted : (xs ys : List Link) → IsPermutation xs ys → EachOnce xs → (d : Designation) → principal_of ys d ≡ principal_of xs d
principal_of-permuted xs ys moved once d = permuted_as xs ys moved once d (principal_of xs d) refl

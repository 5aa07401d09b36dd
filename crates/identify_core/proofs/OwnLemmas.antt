-- The links that are their own principals, and that principals stay their own.
use Rattle.std.proofs.Common.{◌≡◌, suc, ◌+◌, ◌↔◌, ◌≤◌, Bool, true, false, cond, ℕ, List, [], ◌∷◌, map, count_by, Some, refl, ap, sym, subst, ◌∙◌, inl, inr, arith}
use Rattle.std.specs.declared.cmp.Ordering.TheVariants.{Less}
use Rattle.std.specs.List.{Contains, filter}
use Rattle.std.specs.Ordering.{eq_by_cmp, is_eq, ordering_reverse}
use Rattle.std.proofs.lemmas.Bool.{cases_Bool}
use Rattle.std.proofs.lemmas.List.Sums.{sum_by-cons}
use Rattle.packed_names.specs.declared.name.Designation.{Designation}
use Rattle.packed_names.specs.Order.{designation_cmp}
use Rattle.identify_core.specs.declared.link.Link.{Link}
use Rattle.identify_core.specs.Acts.{LinkAct, is_principal_of, principal, given_in_order, principals}
use Rattle.identify_core.specs.Acts.LinkAct.{Given, Joined, Parted}
use Rattle.identify_core.specs.Principals.{principal_of, is_own, own_members, IsBefore, IsAscending, FitsLinks, AreTheirOwn}
use Rattle.identify_core.specs.Keeping.{has_member, link_cmp}
use Rattle.identify_core.proofs.OrderLemmas.{designation_same, designation_itself, designation_total}
use Rattle.identify_core.proofs.LinkLemmas.{principal_of-here, principal_of-past, some_same}
use Rattle.identify_core.proofs.RunLemmas.{AreBehind, IsRising, first_less, first_or_later, tail_once, behind_first}
use Rattle.identify_core.proofs.OrderedLemmas.{before_at, ascending_given, ascending_filter, in_principals}
use Rattle.identify_core.proofs.ActLemmas.{own_given, own_joined, own_parted}

own-yes : (link : Link) (links : List Link) → is_own link ≡ true → filter is_own (link ∷ links) ≡ link ∷ filter is_own links
own-yes link links same = ap (λ (b : Bool). cond b (link ∷ filter is_own links) (filter is_own links)) same

own-no : (link : Link) (links : List Link) → is_own link ≡ false → filter is_own (link ∷ links) ≡ filter is_own links
own-no link links apart = ap (λ (b : Bool). cond b (link ∷ filter is_own links) (filter is_own links)) apart

-- a link with one designation as principal and member
own_if : (d : Designation) (link : Link) → link.member ≡ d → link.principal ≡ d → is_own link ≡ true
own_if d link member principal =
    ap (λ (e : Designation). eq_by_cmp designation_cmp e link.principal) member ∙ ap (eq_by_cmp designation_cmp d) principal ∙ designation_itself d

pub own_among : (d : Designation) (links : List Link) → principal_of links d ≡ Some d → Contains (own_members links) d
own_among d [] some = absurd (cc)
own_among d (link ∷ links) some =
    let M : List Link → Type 0 = λ ls. Contains (map (λ (l : Link). l.member) ls) d in
    elim (cases_Bool (has_member d link)) [
      | inl here ↦
          let member = designation_same link.member d here in
          let principal = some_same link.principal d (sym (principal_of-here d link links here) ∙ some) in
          subst M (sym (own-yes link links (own_if d link member principal))) (0, omega arith, member)
      | inr past ↦
          let rest = own_among d links (sym (principal_of-past d link links past) ∙ some) in
          elim (cases_Bool (is_own link)) [
            | inl own ↦ subst M (sym (own-yes link links own)) (suc rest.0, omega (arith, rest.1), rest.2)
            | inr not_own ↦ subst M (sym (own-no link links not_own)) rest
          ]
    ]

pub own_from : (d : Designation) (links : List Link) → count_by (has_member d) links ≤ 1 → Contains (own_members links) d → principal_of links d ≡ Some d
own_from d [] once found = absurd (omega (arith, found.1))
own_from d (link ∷ links) once found =
    let M : List Link → Type 0 = λ ls. Contains (map (λ (l : Link). l.member) ls) d in
    elim (cases_Bool (is_own link)) [
      | inl own ↦
          elim (first_or_later link.member (own_members links) d (subst M (own-yes link links own) found)) [
            | inl here ↦
                principal_of-here d link links (subst (λ (e : Designation). eq_by_cmp designation_cmp link.member e ≡ true) here (designation_itself link.member))
                ∙ ap Some (sym (designation_same link.member link.principal own) ∙ here)
            | inr later ↦ behind_first d d link links once (own_from d links (tail_once d link links once) later)
          ]
      | inr not_own ↦ behind_first d d link links once (own_from d links (tail_once d link links once) (subst M (own-no link links not_own) found))
    ]

-- of two links in order that are their own principals, the members are in order
own_less : (one other : Link) → is_own one ≡ true → is_own other ≡ true → link_cmp one other ≡ Less → designation_cmp one.member other.member ≡ Less
own_less one other own_one own_other behind =
    let same_one = designation_same one.member one.principal own_one in
    let same_other = designation_same other.member other.principal own_other in
    elim (first_less (designation_cmp one.principal other.principal) (designation_cmp one.member other.member) behind) [
      | inl before ↦ ap (λ (d : Designation). designation_cmp d other.member) same_one ∙ ap (designation_cmp one.principal) same_other ∙ before
      | inr tied ↦ tied.1
    ]

before_own : (one : Link) (links : List Link) → AreBehind one links → is_own one ≡ true → IsBefore one.member (own_members links)
before_own one [] behind own = tt
before_own one (other ∷ links) behind own =
    let B : List Link → Type 0 = λ ls. IsBefore one.member (map (λ (l : Link). l.member) ls) in
    let rest = before_own one links behind.1 own in
    elim (cases_Bool (is_own other)) [
      | inl same ↦ subst B (sym (own-yes other links same)) (own_less one other own same behind.0, rest)
      | inr apart ↦ subst B (sym (own-no other links apart)) rest
    ]

pub own_ascending : (links : List Link) → IsRising links → IsAscending (own_members links)
own_ascending [] up = tt
own_ascending (link ∷ links) up =
    let A : List Link → Type 0 = λ ls. IsAscending (map (λ (l : Link). l.member) ls) in
    elim (cases_Bool (is_own link)) [
      | inl own ↦ subst A (sym (own-yes link links own)) (before_own link links up.0 own, own_ascending links up.1)
      | inr not_own ↦ subst A (sym (own-no link links not_own)) (own_ascending links up.1)
    ]

pub stay_own : (act : LinkAct) (past : List LinkAct) → FitsLinks act past → AreTheirOwn past → AreTheirOwn (act ∷ past)
stay_own (Given d) past fits own = own_given d (principal past) (principal (Given d ∷ past)) (λ e. refl) own
stay_own (Joined p s) past fits own = own_joined p s (principal past) (principal (Joined p s ∷ past)) fits.0 fits.2 (λ e. refl) own
stay_own (Parted s) past fits own = own_parted s (principal past) (principal (Parted s ∷ past)) fits (λ e. refl) own

-- ---- each principal is there once

not_equal : (d e : Designation) → designation_cmp d e ≡ Less → eq_by_cmp designation_cmp d e ≡ false
not_equal d e less = ap is_eq less

not_equal_back : (d e : Designation) → designation_cmp d e ≡ Less → eq_by_cmp designation_cmp e d ≡ false
not_equal_back d e less = ap is_eq (designation_total.antisymm e d ∙ ap ordering_reverse less)

counted : (d e : Designation) (ds : List Designation) → count_by (eq_by_cmp designation_cmp d) (e ∷ ds) ≡ cond (eq_by_cmp designation_cmp d e) 1 0 + count_by (eq_by_cmp designation_cmp d) ds
counted d e ds = sum_by-cons (λ x. cond (eq_by_cmp designation_cmp d x) 1 0) e ds

none_before : (d : Designation) (ds : List Designation) → IsBefore d ds → count_by (eq_by_cmp designation_cmp d) ds ≡ 0
none_before d [] before = refl
none_before d (e ∷ ds) before =
    counted d e ds
    ∙ ap (λ (b : Bool). cond b 1 0 + count_by (eq_by_cmp designation_cmp d) ds) (not_equal d e before.0)
    ∙ ap (λ (n : ℕ). 0 + n) (none_before d ds before.1)

pub counted_once : (d : Designation) (ds : List Designation) → IsAscending ds → Contains ds d → count_by (eq_by_cmp designation_cmp d) ds ≡ 1
counted_once d [] up among = absurd (omega (arith, among.1))
counted_once d (e ∷ ds) up among =
    elim (first_or_later e ds d among) [
      | inl here ↦
          let before : IsBefore d ds = subst (λ (x : Designation). IsBefore x ds) here up.0 in
          let same : eq_by_cmp designation_cmp d e ≡ true = subst (λ (x : Designation). eq_by_cmp designation_cmp d x ≡ true) (sym here) (designation_itself d) in
          counted d e ds
          ∙ ap (λ (b : Bool). cond b 1 0 + count_by (eq_by_cmp designation_cmp d) ds) same
          ∙ ap (λ (n : ℕ). 1 + n) (none_before d ds before)
      | inr rest ↦
          counted d e ds
          ∙ ap (λ (b : Bool). cond b 1 0 + count_by (eq_by_cmp designation_cmp d) ds) (not_equal_back e d (before_at e d ds up.0 rest))
          ∙ ap (λ (n : ℕ). 0 + n) (counted_once d ds up.1 rest)
    ]

pub principal_once : (acts : List LinkAct) (p : Designation) → principal acts p ≡ Some p
    → count_by (eq_by_cmp designation_cmp p) (principals acts) ≡ 1
principal_once acts p own =
    let is_principal = λ (d : Designation). is_principal_of d (principal acts d) in
    counted_once p (principals acts) (ascending_filter is_principal (given_in_order acts) (ascending_given acts)) (in_principals acts p own)

pub equal_same : (d e : Designation) → (eq_by_cmp designation_cmp d e ≡ true) ↔ (d ≡ e)
equal_same d e = (designation_same d e, λ same. subst (λ (x : Designation). eq_by_cmp designation_cmp d x ≡ true) same (designation_itself d))

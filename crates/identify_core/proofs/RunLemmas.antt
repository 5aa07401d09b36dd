-- The links of a principal.
use Rattle.std.proofs.Common.{◌≡◌, ℕ, zero, suc, ◌+◌, ◌≤◌, Bool, true, false, cond, List, [], ◌∷◌, map, drop, count_by, Some, refl, ap, sym, subst, ◌∙◌, ◌⊎◌, inl, inr, arith}
use Rattle.std.specs.declared.cmp.Ordering.{Ordering}
use Rattle.std.specs.declared.cmp.Ordering.TheVariants.{Less, Equal, Greater}
use Rattle.std.specs.List.{All, AllByRecursion, Contains, filter, prefix_len, take_while}
use Rattle.std.specs.Ordering.{is_lt, is_eq, eq_by_cmp, ordering_then, ordering_reverse}
use Rattle.std.proofs.lemmas.Bool.{cases_Bool, false_from_ne_true}
use Rattle.std.proofs.lemmas.Cmp.{tied_itself}
use Rattle.std.proofs.lemmas.List.Elements.{All-nil, All-cons}
use Rattle.std.proofs.lemmas.List.Sums.{take_while-cons}
use Rattle.packed_names.specs.declared.name.Designation.{Designation}
use Rattle.packed_names.specs.Order.{designation_cmp}
use Rattle.identify_core.specs.declared.link.Link.{Link}
use Rattle.identify_core.specs.Principals.{principal_of, IsBefore, IsAscending}
use Rattle.ordered_list.specs.Orders.{IsStrictlySorted}
use Rattle.identify_core.specs.Keeping.{has_principal, has_member, is_below, link_cmp, run_of}
use Rattle.identify_core.proofs.OrderLemmas.{designation_same, designation_itself, designation_total, then_parts}
use Rattle.identify_core.proofs.LinkLemmas.{principal_of-here, principal_of-past, count-here, count-more, counted_from_some, some_same}

-- a link comes before each of others
abbrev pub AreBehind : Link → List Link → Type 0
AreBehind one links = AllByRecursion (λ other. link_cmp one other ≡ Less) links

-- each link comes before those that follow it
abbrev pub IsRising : List Link → Type 0
IsRising links = IsStrictlySorted link_cmp links

pub behind_from : (o : Ordering) → is_lt o ≡ false → (o ≡ Equal → ⊥) → ordering_reverse o ≡ Less
behind_from Less h apart = absurd (cc)
behind_from Equal h apart = absurd (apart refl)
behind_from Greater h apart = refl

-- links that compare equal have one member
pub tied_member : (one other : Link) → link_cmp one other ≡ Equal → has_member other.member one ≡ true
tied_member one other tied = (then_parts (designation_cmp one.principal other.principal) (designation_cmp one.member other.member) (ap is_eq tied)).1

pub less_from : (o : Ordering) → is_lt o ≡ true → o ≡ Less
less_from Less h = refl
less_from Equal h = cc
less_from Greater h = cc

filter-yes : (p : Designation) (link : Link) (links : List Link) → has_principal p link ≡ true → filter (has_principal p) (link ∷ links) ≡ link ∷ filter (has_principal p) links
filter-yes p link links same = ap (λ (b : Bool). cond b (link ∷ filter (has_principal p) links) (filter (has_principal p) links)) same

filter-no : (p : Designation) (link : Link) (links : List Link) → has_principal p link ≡ false → filter (has_principal p) (link ∷ links) ≡ filter (has_principal p) links
filter-no p link links apart = ap (λ (b : Bool). cond b (link ∷ filter (has_principal p) links) (filter (has_principal p) links)) apart

-- how the first of two orders stands where both together are Less
pub first_less : (o q : Ordering) → ordering_then o q ≡ Less → (o ≡ Less) ⊎ ((o ≡ Equal) × (q ≡ Less))
first_less Less q h = inl refl
first_less Equal q h = inr (refl, h)
first_less Greater q h = absurd (cc)

not_after : (d e : Designation) → designation_cmp d e ≡ Less → designation_cmp e d ≡ Greater
not_after d e less = designation_total.antisymm e d ∙ ap ordering_reverse less

-- a link after one whose principal comes after p isn't of p
passed : (p : Designation) (one other : Link) → link_cmp one other ≡ Less → designation_cmp p one.principal ≡ Less → has_principal p other ≡ false
passed p one other behind less =
    false_from_ne_true (has_principal p other)
    (λ h.
    let same = designation_same other.principal p h in
    let greater : designation_cmp one.principal other.principal ≡ Greater = ap (designation_cmp one.principal) same ∙ not_after p one.principal less in
    elim (first_less (designation_cmp one.principal other.principal) (designation_cmp one.member other.member) behind) [
      | inl before ↦ cc
      | inr tied ↦ let e = tied.0 in cc
    ])

none_behind : (p : Designation) (one : Link) (links : List Link) → AreBehind one links → designation_cmp p one.principal ≡ Less → filter (has_principal p) links ≡ []
none_behind p one [] behind less = refl
none_behind p one (other ∷ links) behind less = filter-no p other links (passed p one other behind.0 less) ∙ none_behind p one links behind.1 less

-- the first link that isn't of p comes after it
beyond : (p : Designation) (one other : Link) → link_cmp one other ≡ Less → has_principal p one ≡ true → has_principal p other ≡ false → designation_cmp p other.principal ≡ Less
beyond p one other behind mine apart =
    let same = designation_same one.principal p mine in
    elim (first_less (designation_cmp one.principal other.principal) (designation_cmp one.member other.member) behind) [
      | inl before ↦ subst (λ (q : Designation). designation_cmp q other.principal ≡ Less) same before
      | inr tied ↦
          let equal = designation_same one.principal other.principal (ap is_eq tied.0) in
          let mine_too : has_principal p other ≡ true = subst (λ (q : Designation). eq_by_cmp designation_cmp q p ≡ true) equal mine in
          absurd (cc)
    ]

run_first : (p : Designation) (one : Link) (links : List Link) → AreBehind one links → IsRising links → has_principal p one ≡ true → filter (has_principal p) links ≡ take_while (has_principal p) links
run_first p one [] behind up mine = refl
run_first p one (other ∷ links) behind up mine =
    let cut = take_while-cons (has_principal p) other links in
    elim (cases_Bool (has_principal p other)) [
      | inl same ↦
          filter-yes p other links same
          ∙ ap (λ (ls : List Link). other ∷ ls) (run_first p other links up.0 up.1 same)
          ∙ sym (cut ∙ ap (λ (b : Bool). cond b (other ∷ take_while (has_principal p) links) []) same)
      | inr apart ↦
          filter-no p other links apart
          ∙ none_behind p other links up.0 (beyond p one other behind.0 mine apart)
          ∙ sym (cut ∙ ap (λ (b : Bool). cond b (other ∷ take_while (has_principal p) links) []) apart)
    ]

-- what begins with a link of no earlier principal begins with all links of the principal
run_here : (p : Designation) (one : Link) (links : List Link) → IsRising (one ∷ links) → is_below p one ≡ false → take_while (has_principal p) (one ∷ links) ≡ filter (has_principal p) (one ∷ links)
run_here p one links up reached =
    let f : Link → Bool = has_principal p in
    let cut = take_while-cons f one links in
    elim (cases_Bool (f one)) [
      | inl same ↦
          (cut ∙ ap (λ (b : Bool). cond b (one ∷ take_while f links) []) same)
          ∙ ap (λ (ls : List Link). one ∷ ls) (sym (run_first p one links up.0 up.1 same))
          ∙ sym (filter-yes p one links same)
      | inr apart ↦
          let later : designation_cmp p one.principal ≡ Less =
          designation_total.antisymm p one.principal ∙ behind_from (designation_cmp one.principal p) reached (λ tied. let same : f one ≡ true = ap is_eq tied in cc) in
          (cut ∙ ap (λ (b : Bool). cond b (one ∷ take_while f links) []) apart) ∙ sym (filter-no p one links apart ∙ none_behind p one links up.0 later)
    ]

-- the links that stand together are all that the principal has
pub run_is : (p : Designation) (links : List Link) → IsRising links → run_of p links ≡ filter (has_principal p) links
run_is p [] up = refl
run_is p (one ∷ links) up =
    let n : ℕ = prefix_len (is_below p) links in
    elim (cases_Bool (is_below p one)) [
      | inl before ↦
          let one_more : 1 + n ≡ suc n = omega arith in
          let past : prefix_len (is_below p) (one ∷ links) ≡ suc n = ap (λ (b : Bool). cond b (1 + n) 0) before ∙ one_more in
          let apart : has_principal p one ≡ false = ap is_eq (less_from (designation_cmp one.principal p) before) in
          ap (λ (k : ℕ). take_while (has_principal p) (drop k (one ∷ links))) past ∙ run_is p links up.1 ∙ sym (filter-no p one links apart)
      | inr reached ↦
          let none : prefix_len (is_below p) (one ∷ links) ≡ 0 = ap (λ (b : Bool). cond b (1 + n) 0) reached in
          ap (λ (k : ℕ). take_while (has_principal p) (drop k (one ∷ links))) none ∙ run_here p one links up reached
    ]

abbrev pub members : Designation → List Link → List Designation
members p links = map (λ (l : Link). l.member) (filter (has_principal p) links)

pub all_of : (p : Designation) (links : List Link) → All (λ (l : Link). l.principal ≡ p) (filter (has_principal p) links)
all_of p [] = All-nil (λ (l : Link). l.principal ≡ p)
all_of p (link ∷ links) =
    elim (cases_Bool (has_principal p link)) [
      | inl same ↦
          subst (All (λ (l : Link). l.principal ≡ p)) (sym (filter-yes p link links same))
          (All-cons (λ (l : Link). l.principal ≡ p) link (filter (has_principal p) links) (designation_same link.principal p same) (all_of p links))
      | inr apart ↦ subst (All (λ (l : Link). l.principal ≡ p)) (sym (filter-no p link links apart)) (all_of p links)
    ]

pub among : (d p : Designation) (links : List Link) → principal_of links d ≡ Some p → Contains (members p links) d
among d p [] some = absurd (cc)
among d p (link ∷ links) some =
    let M : List Link → Type 0 = λ ls. Contains (map (λ (l : Link). l.member) ls) d in
    elim (cases_Bool (has_member d link)) [
      | inl here ↦
          let principal = some_same link.principal p (sym (principal_of-here d link links here) ∙ some) in
          let mine : has_principal p link ≡ true = subst (λ (q : Designation). eq_by_cmp designation_cmp link.principal q ≡ true) principal (designation_itself link.principal) in
          subst M (sym (filter-yes p link links mine)) (0, omega arith, designation_same link.member d here)
      | inr past ↦
          let rest = among d p links (sym (principal_of-past d link links past) ∙ some) in
          elim (cases_Bool (has_principal p link)) [
            | inl mine ↦ subst M (sym (filter-yes p link links mine)) (suc rest.0, omega (arith, rest.1), rest.2)
            | inr not_mine ↦ subst M (sym (filter-no p link links not_mine)) rest
          ]
    ]

pub tail_once : (d : Designation) (link : Link) (links : List Link) → count_by (has_member d) (link ∷ links) ≤ 1 → count_by (has_member d) links ≤ 1
tail_once d link links once = let more = count-more d link links in omega (arith, once, more)

-- a link that is found after another one has another member
pub behind_first : (d p : Designation) (link : Link) (links : List Link) → count_by (has_member d) (link ∷ links) ≤ 1 → principal_of links d ≡ Some p → principal_of (link ∷ links) d ≡ Some p
behind_first d p link links once rest =
    elim (cases_Bool (has_member d link)) [
      | inl same ↦ let count = count-here d link links same in let counted = counted_from_some d p links rest in absurd (omega (arith, count, counted, once))
      | inr apart ↦ principal_of-past d link links apart ∙ rest
    ]

-- what a list begins with, or what follows it
pub first_or_later : (e : Designation) (ds : List Designation) (d : Designation) → Contains (e ∷ ds) d → (e ≡ d) ⊎ Contains ds d
first_or_later e ds d (zero, below, here) = inl here
first_or_later e ds d (suc k, below, here) = inr (k, omega (arith, below), here)

pub principal_from : (d p : Designation) (links : List Link) → count_by (has_member d) links ≤ 1 → Contains (members p links) d → principal_of links d ≡ Some p
principal_from d p [] once found = absurd (omega (arith, found.1))
principal_from d p (link ∷ links) once found =
    let M : List Link → Type 0 = λ ls. Contains (map (λ (l : Link). l.member) ls) d in
    elim (cases_Bool (has_principal p link)) [
      | inl mine ↦
          elim (first_or_later link.member (members p links) d (subst M (filter-yes p link links mine) found)) [
            | inl here ↦
                principal_of-here d link links (subst (λ (e : Designation). eq_by_cmp designation_cmp link.member e ≡ true) here (designation_itself link.member))
                ∙ ap Some (designation_same link.principal p mine)
            | inr later ↦ behind_first d p link links once (principal_from d p links (tail_once d link links once) later)
          ]
      | inr not_mine ↦ behind_first d p link links once (principal_from d p links (tail_once d link links once) (subst M (filter-no p link links not_mine) found))
    ]

equal_from : (d e p : Designation) → eq_by_cmp designation_cmp d p ≡ true → eq_by_cmp designation_cmp e p ≡ true → designation_cmp d e ≡ Equal
equal_from d e p one two =
    subst (λ (q : Designation). designation_cmp d q ≡ Equal) (designation_same d p one ∙ sym (designation_same e p two)) (tied_itself designation_total d)

before_members : (p : Designation) (one : Link) (links : List Link) → AreBehind one links → has_principal p one ≡ true → IsBefore one.member (members p links)
before_members p one [] behind mine = tt
before_members p one (other ∷ links) behind mine =
    let B : List Link → Type 0 = λ ls. IsBefore one.member (map (λ (l : Link). l.member) ls) in
    let rest = before_members p one links behind.1 mine in
    elim (cases_Bool (has_principal p other)) [
      | inl same ↦
          let tied : designation_cmp one.principal other.principal ≡ Equal = equal_from one.principal other.principal p mine same in
          let less : designation_cmp one.member other.member ≡ Less = ap (λ (o : Ordering). ordering_then o (designation_cmp one.member other.member)) (sym tied) ∙ behind.0 in
          subst B (sym (filter-yes p other links same)) (less, rest)
      | inr apart ↦ subst B (sym (filter-no p other links apart)) rest
    ]

pub ascending : (p : Designation) (links : List Link) → IsRising links → IsAscending (members p links)
ascending p [] up = tt
ascending p (link ∷ links) up =
    let A : List Link → Type 0 = λ ls. IsAscending (map (λ (l : Link). l.member) ls) in
    elim (cases_Bool (has_principal p link)) [
      | inl mine ↦ subst A (sym (filter-yes p link links mine)) (before_members p link links up.0 mine, ascending p links up.1)
      | inr not_mine ↦ subst A (sym (filter-no p link links not_mine)) (ascending p links up.1)
    ]

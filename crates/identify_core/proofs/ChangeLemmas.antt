-- What is kept over each change.
use Rattle.std.proofs.Common.{◌≡◌, ◌≢◌, ℕ, ◌+◌, ◌<◌, Bool, true, false, cond, List, ◌∷◌, count_by, Some, None, option_map, ap, sym, subst, ◌∙◌, inl, inr, arith}
use Rattle.std.specs.List.Sorted.{IsPermutation}
use Rattle.std.specs.Ordering.{eq_by_cmp}
use Rattle.std.proofs.lemmas.Bool.{cases_Bool, false_from_ne_true}
use Rattle.std.proofs.lemmas.List.Sums.{sum_by-cons}
use Rattle.std.proofs.lemmas.List.Sorted.{sum_by-IsPermutation}
use Rattle.packed_names.specs.declared.name.Designation.{Designation}
use Rattle.packed_names.specs.Order.{designation_cmp}
use Rattle.identify_core.specs.declared.link.Link.{Link}
use Rattle.identify_core.specs.Acts.{principal_after, is_principal_of}
use Rattle.identify_core.specs.Acts.LinkAct.{Joined, Parted}
use Rattle.identify_core.specs.Principals.{principal_of, ChangedBy}
use Rattle.identify_core.specs.Keeping.{has_member, has_principal, EachOnce, IsGiven}
use Rattle.identify_core.proofs.OrderLemmas.{designation_same, designation_itself}
use Rattle.identify_core.proofs.LinkLemmas.{linked, principal_of-here, principal_of-past, count-here, count-permuted, none_from_count, once_permuted, principal_of-permuted}
use Rattle.identify_core.proofs.ActLemmas.{chosen, other, once_given}

-- A designation is given.

pub given_new : (d : Designation) (old new : List Link) → EachOnce old → principal_of old d ≡ None → IsPermutation (linked d d ∷ old) new → IsGiven d d old new
given_new d old new once absent more e = principal_of-permuted (linked d d ∷ old) new more (once_given d old absent once) e

pub once_new : (d : Designation) (old new : List Link) → EachOnce old → principal_of old d ≡ None → IsPermutation (linked d d ∷ old) new → EachOnce new
once_new d old new once absent more = once_permuted (linked d d ∷ old) new more (once_given d old absent once)

-- A member gets another principal: its link is taken out of the old links, and one with the principal put to the rest.
module _ (link : Link) (p : Designation) (old rest : List Link) (once : EachOnce old) (fewer : IsPermutation old (link ∷ rest)) where
  once_with : EachOnce (linked p link.member ∷ rest)
  once_with d =
      let was = sum_by-cons (λ (l : Link). cond (has_member d l) 1 0) link rest in
      let is = sum_by-cons (λ (l : Link). cond (has_member d l) 1 0) (linked p link.member) rest in
      let same : count_by (has_member d) (linked p link.member ∷ rest) ≡ count_by (has_member d) (link ∷ rest) = is ∙ sym was in
      let moved = count-permuted old (link ∷ rest) fewer d in
      let one = once d in
      omega (arith, same, moved, one)

  pub absent_rest : principal_of rest link.member ≡ None
  absent_rest =
      let one = once_with link.member in
      let count = count-here link.member (linked p link.member) rest (designation_itself link.member) in
      none_from_count link.member rest (omega (arith, one, count))

  module _ (new : List Link) (more : IsPermutation (linked p link.member ∷ rest) new) where
    pub once_moved : EachOnce new
    once_moved = once_permuted (linked p link.member ∷ rest) new more once_with

    pub given_moved : IsGiven link.member p old new
    given_moved d =
        principal_of-permuted (linked p link.member ∷ rest) new more once_with d
        ∙ elim (cases_Bool (has_member d link)) as (λ _. principal_of (linked p link.member ∷ rest) d ≡ cond (has_member d link) (Some p) (principal_of old d)) [
          | inl same ↦ principal_of-here d (linked p link.member) rest same ∙ sym (chosen (has_member d link) (Some p) (principal_of old d) same)
          | inr apart ↦
              principal_of-past d (linked p link.member) rest apart
              ∙ sym (principal_of-past d link rest apart)
              ∙ principal_of-permuted old (link ∷ rest) fewer once d
              ∙ sym (other (has_member d link) (Some p) (principal_of old d) apart)
        ]

    pub fewer_moved : (s : Designation) → link.principal ≡ s → p ≢ s → count_by (has_principal s) new < count_by (has_principal s) old
    fewer_moved s of two =
        let f : Link → ℕ = λ l. cond (has_principal s l) 1 0 in
        let mine : has_principal s link ≡ true = subst (λ (q : Designation). eq_by_cmp designation_cmp link.principal q ≡ true) of (designation_itself link.principal) in
        let apart : has_principal s (linked p link.member) ≡ false = false_from_ne_true (has_principal s (linked p link.member)) (λ h. two (designation_same p s h)) in
        let before : count_by (has_principal s) (link ∷ rest) ≡ 1 + count_by (has_principal s) rest =
        sum_by-cons f link rest ∙ ap (λ (b : Bool). cond b 1 0 + count_by (has_principal s) rest) mine in
        let after : count_by (has_principal s) (linked p link.member ∷ rest) ≡ 0 + count_by (has_principal s) rest =
        sum_by-cons f (linked p link.member) rest ∙ ap (λ (b : Bool). cond b 1 0 + count_by (has_principal s) rest) apart in
        let was : count_by (has_principal s) (link ∷ rest) ≡ count_by (has_principal s) old = sum_by-IsPermutation f old (link ∷ rest) fewer in
        let is : count_by (has_principal s) new ≡ count_by (has_principal s) (linked p link.member ∷ rest) = sum_by-IsPermutation f (linked p link.member ∷ rest) new more in
        omega (arith, before, after, was, is)

-- Two objects are identified, one member after the other.

-- what the act gives now is what it gave at first
abbrev pub StillGives : Designation → Designation → List Link → List Link → Type 0
StillGives p s old now = (d : Designation) → principal_after (Joined p s) d (principal_of now d) ≡ principal_after (Joined p s) d (principal_of old d)

-- the act gives p to what has p, and to what has s
gives_p : (p s d : Designation) → principal_after (Joined p s) d (Some p) ≡ principal_after (Joined p s) d (Some s)
gives_p p s d =
    elim (cases_Bool (is_principal_of s (Some p))) as (λ _. principal_after (Joined p s) d (Some p) ≡ Some p) [
      | inl same ↦ chosen (is_principal_of s (Some p)) (Some p) (Some p) same
      | inr apart ↦ other (is_principal_of s (Some p)) (Some p) (Some p) apart
    ]
    ∙ sym (chosen (is_principal_of s (Some s)) (Some p) (Some s) (designation_itself s))

pub still_gives : (p s m : Designation) (old now next : List Link) → StillGives p s old now → principal_of now m ≡ Some s → IsGiven m p now next → StillGives p s old next
still_gives p s m old now next still mine given d =
    elim (cases_Bool (eq_by_cmp designation_cmp m d)) as (λ _. principal_after (Joined p s) d (principal_of next d) ≡ principal_after (Joined p s) d (principal_of now d)) [
      | inl same ↦
          let had : principal_of now d ≡ Some s = subst (λ (e : Designation). principal_of now e ≡ Some s) (designation_same m d same) mine in
          ap (principal_after (Joined p s) d) (given d ∙ chosen (eq_by_cmp designation_cmp m d) (Some p) (principal_of now d) same)
          ∙ gives_p p s d
          ∙ ap (principal_after (Joined p s) d) (sym had)
      | inr apart ↦ ap (principal_after (Joined p s) d) (given d ∙ other (eq_by_cmp designation_cmp m d) (Some p) (principal_of now d) apart)
    ]
    ∙ still d

-- A designation is separated.

apart_too : (d s : Designation) → eq_by_cmp designation_cmp s d ≡ false → eq_by_cmp designation_cmp d s ≡ false
apart_too d s apart =
    false_from_ne_true (eq_by_cmp designation_cmp d s)
    (λ h. let same = subst (λ (e : Designation). eq_by_cmp designation_cmp e d ≡ true) (designation_same d s h) (designation_itself d) in cc)

pub given_alone : (s q : Designation) (old new : List Link) → principal_of old s ≡ Some q → IsGiven s s old new → ChangedBy (Parted s) old new
given_alone s q old new some given d =
    elim (cases_Bool (eq_by_cmp designation_cmp s d)) as (λ _. principal_of new d ≡ principal_after (Parted s) d (principal_of old d)) [
      | inl same ↦
          let is : s ≡ d = designation_same s d same in
          let had : principal_of old d ≡ Some q = subst (λ (e : Designation). principal_of old e ≡ Some q) is some in
          let back : eq_by_cmp designation_cmp d s ≡ true = subst (λ (e : Designation). eq_by_cmp designation_cmp e s ≡ true) is (designation_itself s) in
          given d
          ∙ chosen (eq_by_cmp designation_cmp s d) (Some s) (principal_of old d) same
          ∙ ap (option_map (λ (_ : Designation). s)) (sym had)
          ∙ sym (chosen (eq_by_cmp designation_cmp d s) (option_map (λ (_ : Designation). s) (principal_of old d)) (principal_of old d) back)
      | inr apart ↦
          given d
          ∙ other (eq_by_cmp designation_cmp s d) (Some s) (principal_of old d) apart
          ∙ sym (other (eq_by_cmp designation_cmp d s) (option_map (λ (_ : Designation). s) (principal_of old d)) (principal_of old d) (apart_too d s apart))
    ]

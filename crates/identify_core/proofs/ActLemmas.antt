-- What each act changes.
use Rattle.std.proofs.Common.{◌≡◌, ◌≢◌, Bool, true, false, cond, List, ◌∷◌, count_by, Option, Some, None, option_map, ap, sym, subst, ◌∙◌, inl, inr, arith}
use Rattle.std.specs.Ordering.{eq_by_cmp}
use Rattle.std.proofs.lemmas.Bool.{cases_Bool, false_from_ne_true}
use Rattle.packed_names.specs.declared.name.Designation.{Designation}
use Rattle.packed_names.specs.Order.{designation_cmp}
use Rattle.identify_core.specs.declared.link.Link.{Link}
use Rattle.identify_core.specs.Acts.{LinkAct, principal_after, is_principal_of}
use Rattle.identify_core.specs.Acts.LinkAct.{Given, Joined, Parted}
use Rattle.identify_core.specs.Principals.{principal_of}
use Rattle.identify_core.specs.Keeping.{has_member, EachOnce}
use Rattle.identify_core.proofs.OrderLemmas.{designation_same, designation_itself}
use Rattle.identify_core.proofs.LinkLemmas.{linked, count-here, count-past, count_from_none, some_same}

-- one of two values, by a test
pub chosen : {A : Type 0} (b : Bool) (x y : A) → b ≡ true → cond b x y ≡ x
chosen b x y e = ap (λ (t : Bool). cond t x y) e

pub other : {A : Type 0} (b : Bool) (x y : A) → b ≡ false → cond b x y ≡ y
other b x y e = ap (λ (t : Bool). cond t x y) e

pub once_given : (d : Designation) (links : List Link) → principal_of links d ≡ None → EachOnce links → EachOnce (linked d d ∷ links)
once_given d links absent once e =
    elim (cases_Bool (has_member e (linked d d))) [
      | inl same ↦
          let count = count-here e (linked d d) links same in
          let none : count_by (has_member e) links ≡ 0 = ap (λ (x : Designation). count_by (has_member x) links) (sym (designation_same d e same)) ∙ count_from_none d links absent in
          omega (arith, count, none)
      | inr apart ↦ let count = count-past e (linked d d) links apart in let one = once e in omega (arith, count, one)
    ]

-- each principal is its own, where a function gives the principals
abbrev pub Own : (Designation → Option Designation) → Type 0
Own f = (d p : Designation) → f d ≡ Some p → f p ≡ Some p

abbrev pub AreOwn : List Link → Type 0
AreOwn links = Own (principal_of links)

-- the principals after an act are those that it gives
abbrev pub Follows : LinkAct → (Designation → Option Designation) → (Designation → Option Designation) → Type 0
Follows act old new = (d : Designation) → new d ≡ principal_after act d (old d)

pub own_given : (given : Designation) (old new : Designation → Option Designation) → Follows (Given given) old new → Own old → Own new
own_given given old new follows own d p some =
    elim (cases_Bool (eq_by_cmp designation_cmp given d)) [
      | inl same ↦
          let p_is : given ≡ p = some_same given p (sym (chosen (eq_by_cmp designation_cmp given d) (Some given) (old d) same) ∙ sym (follows d) ∙ some) in
          let own_now : new given ≡ Some given = follows given ∙ chosen (eq_by_cmp designation_cmp given given) (Some given) (old given) (designation_itself given) in
          subst (λ (x : Designation). new x ≡ Some x) p_is own_now
      | inr apart ↦
          let before : old d ≡ Some p = sym (other (eq_by_cmp designation_cmp given d) (Some given) (old d) apart) ∙ sym (follows d) ∙ some in
          elim (cases_Bool (eq_by_cmp designation_cmp given p)) [
            | inl same_p ↦
                follows p ∙ chosen (eq_by_cmp designation_cmp given p) (Some given) (old p) same_p ∙ ap Some (designation_same given p same_p)
            | inr apart_p ↦ follows p ∙ other (eq_by_cmp designation_cmp given p) (Some given) (old p) apart_p ∙ own d p before
          ]
    ]

-- the principal that is meant is a designation's
pub principal_is : (s : Designation) (before : Option Designation) → is_principal_of s before ≡ true → before ≡ Some s
principal_is s None h = absurd (cc)
principal_is s (Some q) h = ap Some (designation_same q s h)

pub own_joined : (p s : Designation) (old new : Designation → Option Designation) → old p ≡ Some p → p ≢ s → Follows (Joined p s) old new → Own old → Own new
own_joined p s old new principal two follows own d q some =
    elim (cases_Bool (is_principal_of s (old d))) [
      | inl moved ↦
          let q_is : p ≡ q = some_same p q (sym (chosen (is_principal_of s (old d)) (Some p) (old d) moved) ∙ sym (follows d) ∙ some) in
          let stays : is_principal_of s (old p) ≡ false =
          false_from_ne_true (is_principal_of s (old p)) (λ h. two (some_same p s (sym principal ∙ principal_is s (old p) h))) in
          let own_now : new p ≡ Some p = follows p ∙ other (is_principal_of s (old p)) (Some p) (old p) stays ∙ principal in
          subst (λ (x : Designation). new x ≡ Some x) q_is own_now
      | inr stayed ↦
          let before : old d ≡ Some q = sym (other (is_principal_of s (old d)) (Some p) (old d) stayed) ∙ sym (follows d) ∙ some in
          let its_own : old q ≡ Some q = own d q before in
          let same : is_principal_of s (old q) ≡ is_principal_of s (old d) = ap (is_principal_of s) (its_own ∙ sym before) in
          follows q ∙ other (is_principal_of s (old q)) (Some p) (old q) (same ∙ stayed) ∙ its_own
    ]

mapped_is : (s q : Designation) (before : Option Designation) → option_map (λ (_ : Designation). s) before ≡ Some q → s ≡ q
mapped_is s q None h = absurd (cc)
mapped_is s q (Some x) h = some_same s q h

pub own_parted : (s : Designation) (old new : Designation → Option Designation) → (¬ (old s ≡ Some s)) → Follows (Parted s) old new → Own old → Own new
own_parted s old new secondary follows own d q some =
    elim (cases_Bool (eq_by_cmp designation_cmp d s)) [
      | inl same ↦
          let alone : option_map (λ (_ : Designation). s) (old d) ≡ Some q =
          sym (chosen (eq_by_cmp designation_cmp d s) (option_map (λ (_ : Designation). s) (old d)) (old d) same) ∙ sym (follows d) ∙ some in
          let q_is : s ≡ q = mapped_is s q (old d) alone in
          let d_is : d ≡ s = designation_same d s same in
          subst (λ (x : Designation). new x ≡ Some q) (d_is ∙ q_is) some
      | inr apart ↦
          let before : old d ≡ Some q =
          sym (other (eq_by_cmp designation_cmp d s) (option_map (λ (_ : Designation). s) (old d)) (old d) apart) ∙ sym (follows d) ∙ some in
          let its_own : old q ≡ Some q = own d q before in
          let not_s : eq_by_cmp designation_cmp q s ≡ false =
          false_from_ne_true (eq_by_cmp designation_cmp q s) (λ h. secondary (subst (λ (x : Designation). old x ≡ Some x) (designation_same q s h) its_own)) in
          follows q ∙ other (eq_by_cmp designation_cmp q s) (option_map (λ (_ : Designation). s) (old q)) (old q) not_s ∙ its_own
    ]

-- Designations in their order.
use Rattle.std.proofs.Common.{◌≡◌, suc, Bool, true, false, cond, List, [], ◌∷◌, Option, Some, None, option_map, IsSome, ◌↔◌, refl, ap, sym, subst, ◌∙◌, ◌⊎◌, inl, inr, arith}
use Rattle.std.specs.declared.cmp.Ordering.{Ordering}
use Rattle.std.specs.declared.cmp.Ordering.TheVariants.{Less, Equal, Greater}
use Rattle.std.specs.List.{Contains, filter}
use Rattle.std.specs.Ordering.{is_eq, eq_by_cmp, match_ordering, ordering_reverse}
use Rattle.std.proofs.lemmas.Bool.{cases_Bool}
use Rattle.packed_names.specs.declared.name.Designation.{Designation}
use Rattle.packed_names.specs.Order.{designation_cmp}
use Rattle.identify_core.specs.Acts.{LinkAct, is_principal_of, principal_after, principal, put_in_order, given_in_order, members, principals}
use Rattle.identify_core.specs.Acts.LinkAct.{Given, Joined, Parted}
use Rattle.identify_core.specs.Principals.{IsBefore, IsAscending}
use Rattle.identify_core.proofs.OrderLemmas.{designation_same, designation_itself, designation_total}
use Rattle.identify_core.proofs.ActLemmas.{principal_is}
use Rattle.identify_core.proofs.RunLemmas.{first_or_later}

first : (d : Designation) (ds : List Designation) → Contains (d ∷ ds) d
first d ds = (0, omega arith, refl)

later : (e d : Designation) (ds : List Designation) → Contains ds d → Contains (e ∷ ds) d
later e d ds among = (suc among.0, omega (arith, among.1), among.2)

nothing : (d : Designation) → Contains [] d → ⊥
nothing d among = omega (arith, among.1)

pub before_at : (d e : Designation) (ds : List Designation) → IsBefore d ds → Contains ds e → designation_cmp d e ≡ Less
before_at d e [] before among = absurd (nothing e among)
before_at d e (x ∷ ds) before among =
    elim (first_or_later x ds e among) [
      | inl here ↦ subst (λ (y : Designation). designation_cmp d y ≡ Less) here before.0
      | inr rest ↦ before_at d e ds before.1 rest
    ]

not_itself : (d : Designation) → designation_cmp d d ≡ Less → ⊥
not_itself d less = let same = designation_itself d in let e : is_eq Less ≡ true = ap is_eq (sym less) ∙ same in cc

not_both : (d e : Designation) → designation_cmp d e ≡ Less → designation_cmp e d ≡ Less → ⊥
not_both d e one two = not_itself d (designation_total.trans d e d one two)

heads : (x y : Designation) (xs ys : List Designation) → IsAscending (x ∷ xs) → IsAscending (y ∷ ys) → Contains (y ∷ ys) x → Contains (x ∷ xs) y → x ≡ y
heads x y xs ys up_x up_y there back =
    elim (first_or_later y ys x there) [
      | inl same ↦ sym same
      | inr x_later ↦
          elim (first_or_later x xs y back) [
            | inl same ↦ same
            | inr y_later ↦ absurd (not_both x y (before_at x y xs up_x.0 y_later) (before_at y x ys up_y.0 x_later))
          ]
    ]

tail : (x y d : Designation) (xs ys : List Designation) → x ≡ y → IsAscending (x ∷ xs) → Contains (y ∷ ys) d → Contains xs d → Contains ys d
tail x y d xs ys same up there among =
    elim (first_or_later y ys d there) [
      | inl here ↦ absurd (not_itself x (subst (λ (z : Designation). designation_cmp x z ≡ Less) (sym (same ∙ here)) (before_at x d xs up.0 among)))
      | inr rest ↦ rest
    ]

-- one list in order has those designations
pub in_order_once : (xs ys : List Designation) → IsAscending xs → IsAscending ys → ((d : Designation) → Contains xs d → Contains ys d) → ((d : Designation) → Contains ys d → Contains xs d) → xs ≡ ys
in_order_once [] [] up_x up_y there back = refl
in_order_once [] (y ∷ ys) up_x up_y there back = absurd (nothing y (back y (first y ys)))
in_order_once (x ∷ xs) [] up_x up_y there back = absurd (nothing x (there x (first x xs)))
in_order_once (x ∷ xs) (y ∷ ys) up_x up_y there back =
    let same : x ≡ y = heads x y xs ys up_x up_y (there x (first x xs)) (back y (first y ys)) in
    let rest : xs ≡ ys =
    in_order_once xs ys up_x.1 up_y.1
    (λ d among. tail x y d xs ys same up_x (there d (later x d xs among)) among)
    (λ d among. tail y x d ys xs (sym same) up_y (back d (later y d ys among)) among) in
    ap (λ (z : Designation). z ∷ xs) same ∙ ap (λ (zs : List Designation). y ∷ zs) rest

before_all : (d e : Designation) (ds : List Designation) → designation_cmp d e ≡ Less → IsBefore e ds → IsBefore d ds
before_all d e [] less before = tt
before_all d e (x ∷ ds) less before = (designation_total.trans d e x less before.0, before_all d e ds less before.1)

chosen : {A : Type 0} (o p : Ordering) (x y z : A) → o ≡ p → match_ordering o x y z ≡ match_ordering p x y z
chosen o p x y z e = ap (λ (q : Ordering). match_ordering q x y z) e

compared : (o : Ordering) → (o ≡ Less) ⊎ ((o ≡ Equal) ⊎ (o ≡ Greater))
compared Less = inl refl
compared Equal = inr (inl refl)
compared Greater = inr (inr refl)

after : (d e : Designation) → designation_cmp d e ≡ Greater → designation_cmp e d ≡ Less
after d e greater = designation_total.antisymm e d ∙ ap ordering_reverse greater

before_placed : (e d : Designation) (ds : List Designation) → designation_cmp e d ≡ Less → IsBefore e ds → IsBefore e (put_in_order d ds)
before_placed e d [] less before = (less, tt)
before_placed e d (x ∷ ds) less before =
    let o = designation_cmp d x in
    elim (compared o) [
      | inl c ↦ subst (IsBefore e) (sym (chosen o Less (d ∷ x ∷ ds) (x ∷ ds) (x ∷ put_in_order d ds) c)) (less, before)
      | inr rest ↦
          elim rest [
            | inl c ↦ subst (IsBefore e) (sym (chosen o Equal (d ∷ x ∷ ds) (x ∷ ds) (x ∷ put_in_order d ds) c)) before
            | inr c ↦ subst (IsBefore e) (sym (chosen o Greater (d ∷ x ∷ ds) (x ∷ ds) (x ∷ put_in_order d ds) c)) (before.0, before_placed e d ds less before.1)
          ]
    ]

pub ascending_placed : (d : Designation) (ds : List Designation) → IsAscending ds → IsAscending (put_in_order d ds)
ascending_placed d [] up = (tt, tt)
ascending_placed d (x ∷ ds) up =
    let o = designation_cmp d x in
    elim (compared o) [
      | inl c ↦ subst IsAscending (sym (chosen o Less (d ∷ x ∷ ds) (x ∷ ds) (x ∷ put_in_order d ds) c)) ((c, before_all d x ds c up.0), up)
      | inr rest ↦
          elim rest [
            | inl c ↦ subst IsAscending (sym (chosen o Equal (d ∷ x ∷ ds) (x ∷ ds) (x ∷ put_in_order d ds) c)) up
            | inr c ↦
                subst IsAscending (sym (chosen o Greater (d ∷ x ∷ ds) (x ∷ ds) (x ∷ put_in_order d ds) c)) (before_placed x d ds (after d x c) up.0, ascending_placed d ds up.1)
          ]
    ]

pub contains_placed : (d : Designation) (ds : List Designation) (e : Designation) → (d ≡ e) ⊎ Contains ds e → Contains (put_in_order d ds) e
contains_placed d [] e either = elim either [ inl here ↦ subst (Contains (d ∷ [])) here (first d []) | inr among ↦ absurd (nothing e among) ]
contains_placed d (x ∷ ds) e either =
    let o = designation_cmp d x in
    let C : List Designation → Type 0 = λ ls. Contains ls e in
    elim (compared o) [
      | inl c ↦
          subst C (sym (chosen o Less (d ∷ x ∷ ds) (x ∷ ds) (x ∷ put_in_order d ds) c))
          (elim either [ inl here ↦ subst (Contains (d ∷ x ∷ ds)) here (first d (x ∷ ds)) | inr among ↦ later d e (x ∷ ds) among ])
      | inr rest ↦
          elim rest [
            | inl c ↦
                subst C (sym (chosen o Equal (d ∷ x ∷ ds) (x ∷ ds) (x ∷ put_in_order d ds) c))
                (elim either [ inl here ↦ subst (Contains (x ∷ ds)) (sym (designation_same d x (ap is_eq c)) ∙ here) (first x ds) | inr among ↦ among ])
            | inr c ↦ subst C (sym (chosen o Greater (d ∷ x ∷ ds) (x ∷ ds) (x ∷ put_in_order d ds) c))
                (elim either [
                  | inl here ↦ later x e (put_in_order d ds) (contains_placed d ds e (inl here))
                  | inr among ↦
                      elim (first_or_later x ds e among) [
                        | inl at ↦ subst (Contains (x ∷ put_in_order d ds)) at (first x (put_in_order d ds))
                        | inr rest ↦ later x e (put_in_order d ds) (contains_placed d ds e (inr rest))
                      ]
                ])
          ]
    ]

some_not_none : (p : Designation) → Some p ≡ None → ⊥
some_not_none p e = cc

joined_had : (q s : Designation) (before : Option Designation) → (cond (is_principal_of s before) (Some q) before ≡ None → ⊥) → (p : Designation) × (before ≡ Some p)
joined_had q s None some = absurd (some refl)
joined_had q s (Some p) some = (p, refl)

parted_had : (s d : Designation) (before : Option Designation) → (cond (eq_by_cmp designation_cmp d s) (option_map (λ (_ : Designation). s) before) before ≡ None → ⊥) → (p : Designation) × (before ≡ Some p)
parted_had s d None some =
    elim (cases_Bool (eq_by_cmp designation_cmp d s)) [
      | inl same ↦ absurd (some (ap (λ (b : Bool). cond b (option_map (λ (_ : Designation). s) None) None) same))
      | inr apart ↦ absurd (some (ap (λ (b : Bool). cond b (option_map (λ (_ : Designation). s) None) None) apart))
    ]
parted_had s d (Some p) some = (p, refl)

pub given_if : (acts : List LinkAct) (d p : Designation) → principal acts d ≡ Some p → Contains (given_in_order acts) d
given_if [] d p some = absurd (cc)
given_if (Given e ∷ past) d p some =
    elim (cases_Bool (eq_by_cmp designation_cmp e d)) [
      | inl same ↦ contains_placed e (given_in_order past) d (inl (designation_same e d same))
      | inr apart ↦
          contains_placed e (given_in_order past) d
          (inr (given_if past d p (sym (ap (λ (b : Bool). cond b (Some e) (principal past d)) apart) ∙ some)))
    ]
given_if (Joined q s ∷ past) d p some = let had = joined_had q s (principal past d) (λ e. some_not_none p (sym some ∙ e)) in given_if past d had.0 had.1
given_if (Parted s ∷ past) d p some = let had = parted_had s d (principal past d) (λ e. some_not_none p (sym some ∙ e)) in given_if past d had.0 had.1

pub ascending_given : (acts : List LinkAct) → IsAscending (given_in_order acts)
ascending_given [] = tt
ascending_given (Given d ∷ past) = ascending_placed d (given_in_order past) (ascending_given past)
ascending_given (Joined p s ∷ past) = ascending_given past
ascending_given (Parted s ∷ past) = ascending_given past

before_filter : (f : Designation → Bool) (d : Designation) (ds : List Designation) → IsBefore d ds → IsBefore d (filter f ds)
before_filter f d [] before = tt
before_filter f d (x ∷ ds) before =
    let rest = before_filter f d ds before.1 in
    elim (cases_Bool (f x)) [
      | inl in' ↦ subst (IsBefore d) (sym (ap (λ (b : Bool). cond b (x ∷ filter f ds) (filter f ds)) in')) (before.0, rest)
      | inr out ↦ subst (IsBefore d) (sym (ap (λ (b : Bool). cond b (x ∷ filter f ds) (filter f ds)) out)) rest
    ]

pub ascending_filter : (f : Designation → Bool) (ds : List Designation) → IsAscending ds → IsAscending (filter f ds)
ascending_filter f [] up = tt
ascending_filter f (x ∷ ds) up =
    let rest = ascending_filter f ds up.1 in
    elim (cases_Bool (f x)) [
      | inl in' ↦ subst IsAscending (sym (ap (λ (b : Bool). cond b (x ∷ filter f ds) (filter f ds)) in')) (before_filter f x ds up.0, rest)
      | inr out ↦ subst IsAscending (sym (ap (λ (b : Bool). cond b (x ∷ filter f ds) (filter f ds)) out)) rest
    ]

pub contains_filter : (f : Designation → Bool) (ds : List Designation) (d : Designation) → f d ≡ true → Contains ds d → Contains (filter f ds) d
contains_filter f [] d passes among = among
contains_filter f (x ∷ ds) d passes among =
    let C : List Designation → Type 0 = λ ls. Contains ls d in
    elim (first_or_later x ds d among) [
      | inl here ↦
          let in' : f x ≡ true = ap f here ∙ passes in
          subst C (sym (ap (λ (b : Bool). cond b (x ∷ filter f ds) (filter f ds)) in')) (subst (Contains (x ∷ filter f ds)) here (first x (filter f ds)))
      | inr rest ↦
          elim (cases_Bool (f x)) [
            | inl in' ↦ subst C (sym (ap (λ (b : Bool). cond b (x ∷ filter f ds) (filter f ds)) in')) (later x d (filter f ds) (contains_filter f ds d passes rest))
            | inr out ↦ subst C (sym (ap (λ (b : Bool). cond b (x ∷ filter f ds) (filter f ds)) out)) (contains_filter f ds d passes rest)
          ]
    ]

pub passes_filter : (f : Designation → Bool) (ds : List Designation) (d : Designation) → Contains (filter f ds) d → f d ≡ true
passes_filter f [] d among = absurd (nothing d among)
passes_filter f (x ∷ ds) d among =
    let C : List Designation → Type 0 = λ ls. Contains ls d in
    elim (cases_Bool (f x)) [
      | inl in' ↦
          elim (first_or_later x (filter f ds) d (subst C (ap (λ (b : Bool). cond b (x ∷ filter f ds) (filter f ds)) in') among)) [
            | inl here ↦ ap f (sym here) ∙ in'
            | inr rest ↦ passes_filter f ds d rest
          ]
      | inr out ↦ passes_filter f ds d (subst C (ap (λ (b : Bool). cond b (x ∷ filter f ds) (filter f ds)) out) among)
    ]

pub ascending_members : (acts : List LinkAct) (p : Designation) → IsAscending (members acts p)
ascending_members acts p = ascending_filter (λ d. is_principal_of p (principal acts d)) (given_in_order acts) (ascending_given acts)

pub in_members : (acts : List LinkAct) (p d : Designation) → principal acts d ≡ Some p → Contains (members acts p) d
in_members acts p d some =
    contains_filter (λ e. is_principal_of p (principal acts e)) (given_in_order acts) d (ap (is_principal_of p) some ∙ designation_itself p) (given_if acts d p some)

pub from_members : (acts : List LinkAct) (p d : Designation) → Contains (members acts p) d → principal acts d ≡ Some p
from_members acts p d among = principal_is p (principal acts d) (passes_filter (λ e. is_principal_of p (principal acts e)) (given_in_order acts) d among)

given_is : (e d : Designation) (before : Option Designation) → e ≡ d → IsSome (cond (eq_by_cmp designation_cmp e d) (Some e) before)
given_is e d before same =
    let itself : eq_by_cmp designation_cmp e d ≡ true = subst (λ (x : Designation). eq_by_cmp designation_cmp e x ≡ true) same (designation_itself e) in
    subst (λ (b : Bool). IsSome (cond b (Some e) before)) (sym itself) refl

either_some : (b : Bool) (x : Designation) (before : Option Designation) → IsSome before → IsSome (cond b (Some x) before)
either_some true x before some = refl
either_some false x before some = some

pub still_given : (act : LinkAct) (d : Designation) (before : Option Designation) → IsSome before → IsSome (principal_after act d before)
still_given (Given e) d before some = either_some (eq_by_cmp designation_cmp e d) e before some
still_given (Joined p s) d before some = either_some (is_principal_of s before) p before some
still_given (Parted s) d None some = absurd (cc)
still_given (Parted s) d (Some p) some = either_some (eq_by_cmp designation_cmp d s) s (Some p) some

-- what stands in a list with d put in its place is d, or stood there
from_placed : (d : Designation) (ds : List Designation) (e : Designation) → Contains (put_in_order d ds) e → (d ≡ e) ⊎ Contains ds e
from_placed d [] e among = first_or_later d [] e among
from_placed d (x ∷ ds) e among =
    let o = designation_cmp d x in
    let C : List Designation → Type 0 = λ ls. Contains ls e in
    elim (compared o) [
      | inl c ↦ first_or_later d (x ∷ ds) e (subst C (chosen o Less (d ∷ x ∷ ds) (x ∷ ds) (x ∷ put_in_order d ds) c) among)
      | inr rest ↦
          elim rest [
            | inl c ↦ inr (subst C (chosen o Equal (d ∷ x ∷ ds) (x ∷ ds) (x ∷ put_in_order d ds) c) among)
            | inr c ↦
                elim (first_or_later x (put_in_order d ds) e (subst C (chosen o Greater (d ∷ x ∷ ds) (x ∷ ds) (x ∷ put_in_order d ds) c) among)) [
                  | inl here ↦ inr (subst (Contains (x ∷ ds)) here (first x ds))
                  | inr there ↦ elim (from_placed d ds e there) [ inl at ↦ inl at | inr old ↦ inr (later x e ds old) ]
                ]
          ]
    ]

pub given_only : (acts : List LinkAct) (d : Designation) → Contains (given_in_order acts) d → IsSome (principal acts d)
given_only [] d among = absurd (nothing d among)
given_only (Given e ∷ past) d among =
    elim (from_placed e (given_in_order past) d among) [
      | inl here ↦ given_is e d (principal past d) here
      | inr old ↦ still_given (Given e) d (principal past d) (given_only past d old)
    ]
given_only (Joined p s ∷ past) d among = still_given (Joined p s) d (principal past d) (given_only past d among)
given_only (Parted s ∷ past) d among = still_given (Parted s) d (principal past d) (given_only past d among)

given_some : (acts : List LinkAct) (d : Designation) (o : Option Designation) → principal acts d ≡ o → IsSome o → Contains (given_in_order acts) d
given_some acts d None is some = absurd (cc)
given_some acts d (Some p) is some = given_if acts d p is

pub given_iff : (acts : List LinkAct) (d : Designation) → Contains (given_in_order acts) d ↔ IsSome (principal acts d)
given_iff acts d = (given_only acts d, given_some acts d (principal acts d) refl)

-- ---- principals

pub in_principals : (acts : List LinkAct) (d : Designation) → principal acts d ≡ Some d → Contains (principals acts) d
in_principals acts d own =
    contains_filter (λ e. is_principal_of e (principal acts e)) (given_in_order acts) d (ap (is_principal_of d) own ∙ designation_itself d) (given_if acts d d own)

pub from_principals : (acts : List LinkAct) (d : Designation) → Contains (principals acts) d → principal acts d ≡ Some d
from_principals acts d among = principal_is d (principal acts d) (passes_filter (λ e. is_principal_of e (principal acts e)) (given_in_order acts) d among)

-- The objects together have the live observations of the tracklets with a home, each once.
use Rattle.std.proofs.Common.{◌≡◌, ℕ, ◌+◌, ◌*◌, List, [], ◌∷◌, ◌++◌, Bool, true, false, cond, count_by, Option, Some, None, IsTrue, refl, sym, ap, ◌∙◌, arith}
use Rattle.std.specs.Prelude.{◌&&◌, is_some, flat_map, option_and_then}
use Rattle.std.specs.Ordering.{eq_by_cmp}
use Rattle.std.proofs.lemmas.List.Sums.{sum_by-cons}
use Rattle.packed_names.specs.declared.name.Designation.{Designation}
use Rattle.packed_names.specs.Order.{designation_cmp}
use Rattle.identify_core.specs.Acts.{LinkAct, principal, is_principal_of}
use Rattle.identify_core.specs.Principals.{AreTheirOwn}
use Rattle.tracklet_file.specs.declared.observation.Observation.{Observation}
use Rattle.tracklet_file.specs.Numbering.{next_number}
use Rattle.tracklet_file.specs.Tracklets.{home_of, is_homed}
use Rattle.act_model.specs.Designations.{is_given, principals}
use Rattle.act_model.specs.Holdings.{Holdings, numbers_where, homed_of}
use Rattle.act_model.specs.Numbers.{is_in_object}
use Rattle.act_model.specs.Places.{objects_of}
use Rattle.act_model.specs.Verdicts.{object_of_track}

abbrev pub PrincipalOnce : Type 0
PrincipalOnce =
    (acts : List LinkAct) (p : Designation) → principal acts p ≡ Some p →
    count_by (eq_by_cmp designation_cmp p) (principals acts) ≡ 1

abbrev once_if : Bool → ℕ
once_if b = cond b 1 0

-- ---- a measure of lists that adds up is the same of all objects and of the observations with a home

module _ (m : List ℕ → ℕ) (none : m [] ≡ 0) (joins : (xs ys : List ℕ) → m (xs ++ ys) ≡ m xs + m ys) where
  no_part : (c : ℕ) → 0 ≡ 0 * c
  no_part c = omega arith

  whole_part : (c : ℕ) → c ≡ 1 * c
  whole_part c = omega arith

  measured : (b : Bool) (n : ℕ) → m (cond b (n ∷ []) []) ≡ once_if b * m (n ∷ [])
  measured true n = whole_part (m (n ∷ []))
  measured false n = none ∙ no_part (m (n ∷ []))

  regroup : (a b c s k : ℕ) → (a + b * c) + (s + k * c) ≡ (a + s) + (b + k) * c
  regroup a b c s k = omega arith

  nothing_more : (s c : ℕ) → s ≡ s + 0 * c
  nothing_more s c = omega arith

  module _ (q : Designation → Observation → Bool) where
    abbrev measure : List Observation → List Designation → ℕ
    measure obs ps = m (flat_map (λ p. numbers_where (q p) obs) ps)

    -- one observation more stands in each object that it is so for
    one_more : (newest : Observation) (older : List Observation) (ps : List Designation)
        → measure (newest ∷ older) ps ≡ measure older ps + count_by (λ p. q p newest) ps * m (next_number older ∷ [])
    one_more newest older [] = nothing_more (m []) (m (next_number older ∷ []))
    one_more newest older (p ∷ ps) =
        let n : ℕ = next_number older in
        let c : ℕ = m (n ∷ []) in
        let a : ℕ = m (numbers_where (q p) older) in
        let b : ℕ = once_if (q p newest) in
        let s : ℕ = measure older ps in
        let k : ℕ = count_by (λ x. q x newest) ps in
        joins (numbers_where (q p) (newest ∷ older)) (flat_map (λ x. numbers_where (q x) (newest ∷ older)) ps)
        ∙ ap (λ (x : ℕ). x + measure (newest ∷ older) ps) (joins (numbers_where (q p) older) (cond (q p newest) (n ∷ []) []))
        ∙ ap (λ (x : ℕ). (a + x) + measure (newest ∷ older) ps) (measured (q p newest) n)
        ∙ ap (λ (x : ℕ). (a + b * c) + x) (one_more newest older ps)
        ∙ regroup a b c s k
        ∙ ap (λ (x : ℕ). x + (b + k) * c) (sym (joins (numbers_where (q p) older) (flat_map (λ x. numbers_where (q x) older) ps)))
        ∙ ap (λ (x : ℕ). measure older (p ∷ ps) + x * c) (sym (sum_by-cons (λ x. cond (q x newest) 1 0) p ps))

    no_observations : (ps : List Designation) → measure [] ps ≡ m []
    no_observations [] = refl
    no_observations (p ∷ ps) = no_observations ps

    pub same_measure : (is_so : Observation → Bool) (ps : List Designation) → ((o : Observation) → count_by (λ p. q p o) ps ≡ once_if (is_so o))
        → (obs : List Observation) → measure obs ps ≡ m (numbers_where is_so obs)
    same_measure is_so ps once [] = no_observations ps
    same_measure is_so ps once (newest ∷ older) =
        let n : ℕ = next_number older in
        one_more newest older ps
        ∙ ap (λ (x : ℕ). measure older ps + x * m (n ∷ [])) (once newest)
        ∙ ap (λ (x : ℕ). x + once_if (is_so newest) * m (n ∷ [])) (same_measure is_so ps once older)
        ∙ ap (λ (x : ℕ). m (numbers_where is_so older) + x) (sym (measured (is_so newest) n))
        ∙ sym (joins (numbers_where is_so older) (cond (is_so newest) (n ∷ []) []))

-- ---- an observation stands in one object, where its tracklet has a home

count_none : (ps : List Designation) → count_by (λ (p : Designation). false) ps ≡ 0
count_none [] = refl
count_none (p ∷ ps) = sum_by-cons (λ (x : Designation). 0) p ps ∙ ap (λ (n : ℕ). 0 + n) (count_none ps)

module _ (principal_once : PrincipalOnce) (held : Holdings) (acts : List LinkAct) (own : AreTheirOwn acts)
    (given : (t : ℕ) (d : Designation) → home_of held.tracklets t ≡ Some d → IsTrue (is_given acts d)) where
  of_principal : (d : Designation) (o : Option Designation) → principal acts d ≡ o → IsTrue (is_some o) → count_by (λ p. is_principal_of p o) (principals acts) ≡ 1
  of_principal d None is some = absurd cc
  of_principal d (Some p) is some = principal_once acts p (own d p is)

  of_home : (t : ℕ) (home : Option Designation) → home_of held.tracklets t ≡ home
      → count_by (λ p. is_principal_of p (option_and_then (principal acts) home)) (principals acts) ≡ once_if (is_some home)
  of_home t None is = count_none (principals acts)
  of_home t (Some d) is = of_principal d (principal acts d) refl (given t d is)

  of_live : (live : Bool) (t : ℕ) → count_by (λ p. live && is_principal_of p (object_of_track held acts t)) (principals acts) ≡ once_if (live && is_some (home_of held.tracklets t))
  of_live false t = count_none (principals acts)
  of_live true t = of_home t (home_of held.tracklets t) refl

  pub objects_measure : (m : List ℕ → ℕ) → m [] ≡ 0 → ((xs ys : List ℕ) → m (xs ++ ys) ≡ m xs + m ys) → m (objects_of held acts) ≡ m (homed_of held)
  objects_measure m none joins = same_measure m none joins (is_in_object held acts) (is_homed held.tracklets) (principals acts) (λ o. of_live o.live o.track) held.observations

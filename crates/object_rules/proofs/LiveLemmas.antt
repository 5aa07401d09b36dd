-- Whether one of an object's observations is live.
use Rattle.std.proofs.Common.{◌≡◌, ◌↔◌, ℕ, Bool, true, false, cond, List, [], ◌∷◌, flat_map, Option, Some, None, refl, sym, ap, subst, ◌∙◌}
use Rattle.std.specs.Prelude.{IsSome, ◌&&◌, ◌||◌, ◌==◌}
use Rattle.std.specs.List.{Contains, list_any}
use Rattle.std.specs.Option.{option_map_or}
use Rattle.std.proofs.lemmas.Bool.{and_parts, and_from, or_left, or_right, eqb-true, eq-eqb}
use Rattle.std.proofs.lemmas.List.Folds.{list_any-append}
use Rattle.packed_names.specs.declared.name.Designation.{Designation}
use Rattle.packed_names.specs.Laws.{OrderLaws}
use Rattle.identify_core.specs.Acts.{LinkAct, is_principal_of, principal, given_in_order, members}
use Rattle.tracklet_file.specs.declared.observation.Observation.{Observation}
use Rattle.tracklet_file.specs.declared.tracklet.Tracklet.{Tracklet}
use Rattle.tracklet_file.specs.Numbering.{next_number, numbered}
use Rattle.tracklet_file.specs.Observations.{is_live}
use Rattle.act_model.specs.Holdings.{Holdings}
use Rattle.act_model.specs.Numbers.{is_in_object, is_observed}
use Rattle.act_model.specs.Verdicts.{object_of_track}
use Rattle.object_rules.specs.Numbering.{is_any_live}
use Rattle.object_rules.specs.Timing.{is_among, numbers_at}
use Rattle.object_rules.proofs.TimeLemmas.{those, among_those, all_numbers, among_object}

-- ---- in whatever order they are walked

same_answers : (a b : Bool) → (a ≡ true → b ≡ true) → (b ≡ true → a ≡ true) → a ≡ b
same_answers true b one other = sym (one refl)
same_answers false true one other = other refl
same_answers false false one other = refl

-- one that is among them passes
some_among : (test : ℕ → Bool) (ks : List ℕ) (n : ℕ) → is_among ks n ≡ true → test n ≡ true → list_any test ks ≡ true
some_among test [] n among is = absurd cc
some_among test (k ∷ ks) n among is = by (n == k) refl among (some_among test ks n)
  where
    by : (b : Bool) → (n == k) ≡ b → (b || is_among ks n) ≡ true → (is_among ks n ≡ true → test n ≡ true → list_any test ks ≡ true) → list_any test (k ∷ ks) ≡ true
    by true here among rest = or_left (test k) (list_any test ks) (subst (λ (j : ℕ). test j ≡ true) (eqb-true n k here) is)
    by false here among rest = or_right (test k) (list_any test ks) (rest among is)

-- one of these passes where each that does is one of the others and passes there
passes_too : (test other : ℕ → Bool) (ks js : List ℕ) → ((n : ℕ) → (is_among ks n && test n) ≡ true → (is_among js n && other n) ≡ true)
    → list_any test ks ≡ true → list_any other js ≡ true
passes_too test other [] js each is = absurd cc
passes_too test other (k ∷ ks) js each is = by (test k) refl is (passes_too test other ks js later)
  where
    later : (n : ℕ) → (is_among ks n && test n) ≡ true → (is_among js n && other n) ≡ true
    later n both =
        let parts = and_parts (is_among ks n) (test n) both in
        each n (and_from (is_among (k ∷ ks) n) (test n) (or_right (n == k) (is_among ks n) parts.0) parts.1)

    by : (b : Bool) → test k ≡ b → (b || list_any test ks) ≡ true → (list_any test ks ≡ true → list_any other js ≡ true) → list_any other js ≡ true
    by true here is rest =
        let parts = and_parts (is_among js k) (other k) (each k (and_from (is_among (k ∷ ks) k) (test k) (or_left (k == k) (is_among ks k) (eq-eqb k k refl)) here)) in
        some_among other js k parts.0 parts.1
    by false here is rest = rest is

same_any : (test other : ℕ → Bool) (ks js : List ℕ) → ((n : ℕ) → (is_among ks n && test n) ≡ (is_among js n && other n)) → list_any test ks ≡ list_any other js
same_any test other ks js same =
    same_answers (list_any test ks) (list_any other js) (passes_too test other ks js (λ n is. sym (same n) ∙ is)) (passes_too other test js ks (λ n is. same n ∙ is))

-- ---- some item passes exactly where there is one among the numbers of those that do

abbrev always : ℕ → Bool
always n = true

any_those : {A : Type 0} (test : A → Bool) (items : List A) → list_any always (those test items) ≡ list_any test items
any_those test [] = refl
any_those test (newest ∷ older) =
    list_any-append always (those test older) (cond (test newest) (next_number older ∷ []) [])
    ∙ ap (λ (b : Bool). b || list_any always (cond (test newest) (next_number older ∷ []) [])) (any_those test older)
    ∙ by (list_any test older) (test newest)
  where
    by : (a b : Bool) → (a || list_any always (cond b (next_number older ∷ []) [])) ≡ (b || a)
    by true true = refl
    by true false = refl
    by false true = refl
    by false false = refl

-- a live observation stands with one of the object's designations exactly where the object has one
observed_members : (laws : OrderLaws) (held : Holdings) (acts : List LinkAct) (p : Designation) → ((d : Designation) → Contains (given_in_order acts) d ↔ IsSome (principal acts d))
    → is_any_live held.observations (flat_map (numbers_at held.observations held.tracklets) (members acts p)) ≡ is_observed held acts p
observed_members laws held acts p given =
    same_any (is_live held.observations) always (all_numbers laws held acts p given) (those (is_in_object held acts p) held.observations) same
    ∙ any_those (is_in_object held acts p) held.observations
  where
    both : (l q : Bool) → (q && l) ≡ ((l && q) && true)
    both true true = refl
    both true false = refl
    both false true = refl
    both false false = refl

    by : (x : Option Observation)
        → (option_map_or (λ (o : Observation). is_principal_of p (object_of_track held acts o.track)) x false && option_map_or (λ (o : Observation). o.live) x false)
        ≡ (option_map_or (is_in_object held acts p) x false && true)
    by None = refl
    by (Some o) = both o.live (is_principal_of p (object_of_track held acts o.track))

    same : (n : ℕ) → (is_among (all_numbers laws held acts p given) n && is_live held.observations n) ≡ (is_among (those (is_in_object held acts p) held.observations) n && always n)
    same n =
        ap (λ (b : Bool). b && is_live held.observations n) (among_object laws held acts p given n)
        ∙ by (numbered held.observations n)
        ∙ sym (ap (λ (b : Bool). b && true) (among_those (is_in_object held acts p) held.observations n))

-- so it is with the lists that stand for them
pub observed_in : (laws : OrderLaws) (held : Holdings) (acts : List LinkAct) (p : Designation) → ((d : Designation) → Contains (given_in_order acts) d ↔ IsSome (principal acts d))
    → (observations : List Observation) (tracklets : List Tracklet) (names : List Designation) → observations ≡ held.observations → tracklets ≡ held.tracklets → names ≡ members acts p
    → is_any_live observations (flat_map (numbers_at observations tracklets) names) ≡ is_observed held acts p
observed_in laws held acts p given observations tracklets names observations_are tracklets_are names_are =
    ap (λ (ds : List Designation). is_any_live observations (flat_map (numbers_at observations tracklets) ds)) names_are
    ∙ ap (λ (os : List Observation). is_any_live os (flat_map (numbers_at os tracklets) (members acts p))) observations_are
    ∙ ap (λ (ts : List Tracklet). is_any_live held.observations (flat_map (numbers_at held.observations ts) (members acts p))) tracklets_are
    ∙ observed_members laws held acts p given

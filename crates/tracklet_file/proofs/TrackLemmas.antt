-- The observations of a tracklet in order of number.
use Rattle.std.proofs.Common.{◌≡◌, ℕ, ◌+◌, ◌<◌, ◌≤◌, Bool, true, false, cond, List, [], ◌∷◌, ◌++◌, length, Option, Some, None, refl, ap, sym, ◌∙◌, arith}
use Rattle.std.specs.Prelude.{◌==◌, ◌&&◌, nat_lt, slice_get, IsSome, IfSome}
use Rattle.std.specs.Option.{option_map}
use Rattle.std.proofs.lemmas.Bool.{and_parts, eqb-true, eq-eqb}
use Rattle.std.proofs.lemmas.Bool.Decides.{nat_tests}
use Rattle.std.proofs.lemmas.Option.{none-some, same_Some}
use borrow.Author.Tests.{ltb-true}
use Rattle.tracklet_file.specs.declared.observation.Observation.{Observation}
use Rattle.tracklet_file.specs.Numbering.{next_number, numbered}
use Rattle.tracklet_file.specs.Observations.{track_of, later_of_track}
use Rattle.tracklet_file.proofs.NumberingLemmas.{numbered_stays}

-- no number is over that of the newest
pub later_none : (observations : List Observation) (t after : ℕ) → length observations ≤ after → later_of_track observations t after ≡ []
later_none [] t after past = refl
later_none (newest ∷ older) t after past =
    let low : nat_lt after (next_number older) ≡ false = grind (arith, nat_tests) in
    let rest : length older ≤ after = omega arith in
    ap (λ (xs : List ℕ). xs ++ cond ((newest.track == t) && nat_lt after (next_number older)) (next_number older ∷ []) []) (later_none older t after rest)
    ∙ ap (λ (b : Bool). cond ((newest.track == t) && b) (next_number older ∷ []) []) low ∙ neither (newest.track == t)
  where
    neither : (b : Bool) → cond (b && false) (next_number older ∷ []) [] ≡ []
    neither true = refl
    neither false = refl

-- ---- the first of what comes later

-- what follows from being first: the number is over `after`, it is there, it is of the tracklet, and the others are
-- those that are later still
pub record ComesFirst (observations : List Observation) (t after k : ℕ) : Type 0 where
  pub later : after < k
  pub within : k ≤ length observations
  pub own : track_of observations k ≡ Some t
  pub rest : later_of_track observations t after ≡ k ∷ later_of_track observations t k

track_stays : (newest : Observation) (older : List Observation) (k t : ℕ) → track_of older k ≡ Some t → track_of (newest ∷ older) k ≡ Some t
track_stays newest older k t own = ap (option_map (λ (o : Observation). o.track)) (numbered_stays newest older k (there (numbered older k) own)) ∙ own
  where
    there : (o : Option Observation) → option_map (λ (o : Observation). o.track) o ≡ Some t → IsSome o
    there None own = absurd (none-some t own)
    there (Some o) own = refl

module _ (newest : Observation) (older : List Observation) (t after k : ℕ) where
  -- the first is an older one
  first_older : slice_get (later_of_track (newest ∷ older) t after) 0 ≡ Some k → slice_get (later_of_track older t after) 0 ≡ Some k → (slice_get (later_of_track older t after) 0 ≡ Some k → ComesFirst older t after k)
      → ComesFirst (newest ∷ older) t after k
  first_older head earlier first =
      let inner = first earlier in
      let low : after < k = inner.later in
      let within : k ≤ length older = inner.within in
      let before : nat_lt after (next_number older) ≡ true = grind (arith, nat_tests) in
      let behind : nat_lt k (next_number older) ≡ true = grind (arith, nat_tests) in
      record {
        later = low;
        within = omega arith;
        own = track_stays newest older k t inner.own;
        rest =
            ap (λ (xs : List ℕ). xs ++ cond ((newest.track == t) && nat_lt after (next_number older)) (next_number older ∷ []) []) inner.rest
            ∙ ap (λ (b : Bool). k ∷ (later_of_track older t k ++ cond ((newest.track == t) && b) (next_number older ∷ []) [])) (before ∙ sym behind);
      }

  -- the first is the newest
  first_newest : slice_get (later_of_track (newest ∷ older) t after) 0 ≡ Some k → later_of_track older t after ≡ [] → ComesFirst (newest ∷ older) t after k
  first_newest head none =
      let here : slice_get (cond ((newest.track == t) && nat_lt after (next_number older)) (next_number older ∷ []) []) 0 ≡ Some k =
      sym (ap (λ (xs : List ℕ). slice_get (xs ++ cond ((newest.track == t) && nat_lt after (next_number older)) (next_number older ∷ []) []) 0) none) ∙ head in
      let is = tested ((newest.track == t) && nat_lt after (next_number older)) here in
      let parts = and_parts (newest.track == t) (nat_lt after (next_number older)) is.0 in
      let low : after < next_number older = ltb-true after (next_number older) parts.1 in
      let last : k ≡ next_number older = sym is.1 in
      record {
        later = omega arith;
        within = omega arith;
        own = ap (λ (n : ℕ). track_of (newest ∷ older) n) last ∙ ap (λ (b : Bool). option_map (λ (o : Observation). o.track) (cond b (Some newest) (numbered older (next_number older)))) (eq-eqb (next_number older) (next_number older) refl) ∙ ap (λ (n : ℕ). Some n) (eqb-true _ _ parts.0);
        rest =
            ap (λ (xs : List ℕ). xs ++ cond ((newest.track == t) && nat_lt after (next_number older)) (next_number older ∷ []) []) none
            ∙ ap (λ (b : Bool). cond b (next_number older ∷ []) []) is.0 ∙ ap (λ (n : ℕ). n ∷ []) is.1 ∙ ap (λ (xs : List ℕ). k ∷ xs) (sym (later_none (newest ∷ older) t k (omega arith)));
      }
    where
      tested : (b : Bool) → slice_get (cond b (next_number older ∷ []) []) 0 ≡ Some k → (b ≡ true) × (next_number older ≡ k)
      tested true here = (refl, same_Some _ _ here)
      tested false here = absurd (none-some k here)

pub first_is : (observations : List Observation) (t after k : ℕ) → slice_get (later_of_track observations t after) 0 ≡ Some k → ComesFirst observations t after k
first_is [] t after k head = absurd (none-some k head)
first_is (newest ∷ older) t after k head = by (later_of_track older t after) refl (first_is older t after k)
  where
    by : (xs : List ℕ) → later_of_track older t after ≡ xs → (slice_get (later_of_track older t after) 0 ≡ Some k → ComesFirst older t after k) → ComesFirst (newest ∷ older) t after k
    by [] none first = first_newest newest older t after k head none
    by (x ∷ xs) some first =
        first_older newest older t after k head (ap (λ (ys : List ℕ). slice_get ys 0) some ∙ sym (ap (λ (ys : List ℕ). slice_get (ys ++ cond ((newest.track == t) && nat_lt after (next_number older)) (next_number older ∷ []) []) 0) some) ∙ head) first

pub found_first : (observations : List Observation) (t after : ℕ) (found : Option ℕ) → found ≡ slice_get (later_of_track observations t after) 0 → IfSome found (ComesFirst observations t after)
found_first observations t after None is = tt
found_first observations t after (Some k) is = first_is observations t after k (sym is)

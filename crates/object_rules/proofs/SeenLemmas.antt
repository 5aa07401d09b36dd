-- Observations that were seen.
use Rattle.std.proofs.Common.{◌≡◌, ℕ, Bool, true, false, cond, List, [], ◌∷◌, ◌++◌, length, Option, Some, None, refl, sym, ap, ◌∙◌, arith}
use Rattle.std.proofs.lemmas.Bool.Decides.{nat_tests}
use Rattle.std.specs.Prelude.{IsTrue, IfSome, slice_get, filter_map, not, ◌||◌, ◌==◌}
use Rattle.std.specs.List.{cons_option}
use Rattle.std.specs.Option.{option_and_then, option_map_or}
use Rattle.tracklet_file.specs.declared.observation.Observation.{Observation}
use Rattle.tracklet_file.specs.Numbering.{numbered}
use Rattle.tracklet_file.specs.Observations.{track_of, later_of_track, observations_of, first_of, next_of, IsFollowedBy}
use Rattle.act_model.specs.declared.seen.Seen.{Seen}
use Rattle.act_model.specs.Discoveries.{seen_if_live, seen_at}
use Rattle.object_rules.specs.Numbering.{is_any_live}
use Rattle.object_rules.specs.Seeing.{is_of_years, AreOfYears, chain_from}

pub of_years_more : (seen : List Seen) (one : Seen) → AreOfYears seen → IsTrue (is_of_years one.time) → AreOfYears (seen ++ one ∷ [])
of_years_more [] one are is = (is, tt)
of_years_more (first ∷ more) one (first_is, are) is = (first_is, of_years_more more one are is)

-- ---- the observations of a tracklet, from one of them on

pub none_first : (numbers : List ℕ) → slice_get numbers 0 ≡ None → numbers ≡ []
none_first [] none = refl
none_first (n ∷ more) none = absurd cc

-- the first of them is where all of them begin
pub chain_first : (observations : List Observation) (t : ℕ) (first : Option ℕ) → first ≡ first_of observations t
    → IfSome first (λ k. observations_of observations t ≡ k ∷ later_of_track observations t k) → chain_from observations t first ≡ observations_of observations t
chain_first observations t None is rest = sym (none_first (observations_of observations t) (sym is))
chain_first observations t (Some k) is rest = sym rest

-- after one of them the later ones are left
pub chain_next : (observations : List Observation) (t k : ℕ) (next : Option ℕ) → track_of observations k ≡ Some t → next ≡ next_of observations k
    → IfSome next (λ n. IsFollowedBy observations k n) → chain_from observations t next ≡ later_of_track observations t k
chain_next observations t k None own is rest =
    sym (none_first (later_of_track observations t k) (sym (is ∙ ap (option_and_then (λ (u : ℕ). slice_get (later_of_track observations u k) 0)) own)))
chain_next observations t k (Some n) own is rest = sym (rest t own)

pub own_next : (observations : List Observation) (t k : ℕ) (next : Option ℕ) → track_of observations k ≡ Some t
    → IfSome next (λ n. track_of observations n ≡ track_of observations k) → IfSome next (λ n. track_of observations n ≡ Some t)
own_next observations t k None own is = tt
own_next observations t k (Some n) own is = is ∙ own

-- ---- a tracklet has live observations

seen_one : (k : ℕ) (found : Option Observation) (seen : List Seen) (any : Bool) → (length seen == 0) ≡ not any
    → (length (cons_option (seen_if_live k found) seen) == 0) ≡ not (option_map_or (λ (o : Observation). o.live) found false || any)
seen_one k None seen any is = is
seen_one k (Some o) seen any is = by o.live
  where
    by : (b : Bool) → (length (cons_option (cond b (Some (record { number = k; time = o.sighting.time })) None) seen) == 0) ≡ not (b || any)
    by true = grind (arith, nat_tests)
    by false = is

-- none of them is seen exactly where none is live
pub nothing_seen : (observations : List Observation) (ks : List ℕ) → (length (filter_map (seen_at observations) ks) == 0) ≡ not (is_any_live observations ks)
nothing_seen observations [] = refl
nothing_seen observations (k ∷ ks) = seen_one k (numbered observations k) (filter_map (seen_at observations) ks) (is_any_live observations ks) (nothing_seen observations ks)

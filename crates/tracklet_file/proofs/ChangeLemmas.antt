-- What lists of changes leave.
use Rattle.std.proofs.Common.{◌≡◌, ℕ, ◌<◌, ◌≤◌, Bool, true, false, not, ◌||◌, cond, List, [], ◌∷◌, length, Option, Some, None, refl, ap, sym, ◌∙◌, arith}
use Rattle.std.specs.Prelude.{◌==◌, IsSome, is_some, option_map}
use Rattle.std.specs.Option.{option_map_or, option_and_then}
use Rattle.std.proofs.lemmas.Bool.{eqb-true, false≢true}
use Rattle.std.proofs.lemmas.Bool.Decides.{nat_tests}
use Rattle.tracklet_file.specs.declared.observation.Observation.{Observation}
use Rattle.tracklet_file.specs.declared.tracklet.Tracklet.{Tracklet}
use Rattle.tracklet_file.specs.Numbering.{next_number, numbered}
use Rattle.tracklet_file.specs.Observations.{IsObservation, is_live, with_retraction}
use Rattle.tracklet_file.specs.Tracklets.{home_of, with_home}
use Rattle.tracklet_file.specs.Changes.{Change, AreCalls, observations_after, tracklets_after, is_gone, last_home}
use Rattle.tracklet_file.specs.Changes.Change.{AddTrack, Add, Retract, SetHome}
use Rattle.tracklet_file.proofs.NumberingLemmas.{numbered_within, numbered_changed, numbered_others, length-changed_at}
use Rattle.tracklet_file.proofs.CountLemmas.{live_there, home_of_others, home_of_given}

-- ---- homes

pub home_is_last : (changes : List Change) (t : ℕ) → AreCalls changes → home_of (tracklets_after changes) t ≡ last_home changes t
home_is_last [] t calls = refl
home_is_last (AddTrack name station home ∷ past) t calls = by (t == next_number (tracklets_after past)) (home_is_last past t calls.1)
  where
    by : (b : Bool) → home_of (tracklets_after past) t ≡ last_home past t
        → option_and_then (λ (tracklet : Tracklet). tracklet.home) (cond b (Some (record { name = name; station = station; home = home })) (numbered (tracklets_after past) t)) ≡ cond b home (last_home past t)
    by true rest = refl
    by false rest = rest
home_is_last (SetHome other home ∷ past) t calls = by (t == other) refl (home_is_last past t calls.1)
  where
    by : (b : Bool) → (t == other) ≡ b → home_of (tracklets_after past) t ≡ last_home past t → home_of (with_home (tracklets_after past) other home) t ≡ cond b home (last_home past t)
    by true is rest = ap (home_of (with_home (tracklets_after past) other home)) (eqb-true _ _ is) ∙ home_of_given (tracklets_after past) other home calls.0
    by false is rest = home_of_others (tracklets_after past) other t home is ∙ rest
home_is_last (Add track s entry ∷ past) t calls = home_is_last past t calls.1
home_is_last (Retract k ∷ past) t calls = home_is_last past t calls.1

-- ---- retractions

-- only what was added is retracted
gone_within : (changes : List Change) (k : ℕ) → AreCalls changes → length (observations_after changes) < k → is_gone changes k ≡ false
gone_within [] k calls past_end = refl
gone_within (AddTrack name station home ∷ past) k calls past_end = gone_within past k calls.1 past_end
gone_within (SetHome t home ∷ past) k calls past_end = gone_within past k calls.1 past_end
gone_within (Add track s entry ∷ past) k calls past_end = gone_within past k calls.1 (omega arith)
gone_within (Retract other ∷ past) k calls past_end =
    let lengths = length-changed_at (λ (o : Observation). record o { live = false }) (observations_after past) other in
    let inside = numbered_within (observations_after past) other (live_there (observations_after past) other calls.0) in
    let within : other ≤ length (observations_after past) = inside.1 in
    let past_all : length (observations_after past) < k = omega arith in
    let differs : (other == k) ≡ false = grind (arith, nat_tests) in
    ap (λ (b : Bool). b || is_gone past k) differs ∙ gone_within past k calls.1 past_all

retracted_is_gone : (observations : List Observation) (k : ℕ) → is_live (with_retraction observations k) k ≡ false
retracted_is_gone observations k =
    ap (λ (found : Option Observation). option_map_or (λ (o : Observation). o.live) found false) (numbered_changed (λ (o : Observation). record o { live = false }) observations k)
    ∙ by (numbered observations k)
  where
    by : (found : Option Observation) → option_map_or (λ (o : Observation). o.live) (option_map (λ (o : Observation). record o { live = false }) found) false ≡ false
    by None = refl
    by (Some o) = refl

pub live_is_not_gone : (changes : List Change) (k : ℕ) → AreCalls changes → IsObservation (observations_after changes) k → is_live (observations_after changes) k ≡ not (is_gone changes k)
live_is_not_gone [] k calls there = absurd (false≢true there)
live_is_not_gone (AddTrack name station home ∷ past) k calls there = live_is_not_gone past k calls.1 there
live_is_not_gone (SetHome t home ∷ past) k calls there = live_is_not_gone past k calls.1 there
live_is_not_gone (Add track s entry ∷ past) k calls there = by (k == next_number (observations_after past)) refl there (live_is_not_gone past k calls.1)
  where
    added : Observation
    added = record { track = track; sighting = s; entry = entry; live = true }

    by : (b : Bool) → (k == next_number (observations_after past)) ≡ b → IsSome (cond b (Some added) (numbered (observations_after past) k))
        → (IsObservation (observations_after past) k → is_live (observations_after past) k ≡ not (is_gone past k))
        → option_map_or (λ (o : Observation). o.live) (cond b (Some added) (numbered (observations_after past) k)) false ≡ not (is_gone past k)
    by true is there rest =
        let next : k ≡ next_number (observations_after past) = eqb-true _ _ is in
        sym (ap not (gone_within past k calls.1 (omega arith)))
    by false is there rest = rest there
live_is_not_gone (Retract other ∷ past) k calls there = by (other == k) refl (live_is_not_gone past k calls.1)
  where
    by : (b : Bool) → (other == k) ≡ b → (IsObservation (observations_after past) k → is_live (observations_after past) k ≡ not (is_gone past k))
        → is_live (with_retraction (observations_after past) other) k ≡ not (b || is_gone past k)
    by true is rest = ap (λ (n : ℕ). is_live (with_retraction (observations_after past) n) k) (eqb-true _ _ is) ∙ retracted_is_gone (observations_after past) k
    by false is rest =
        let differs : (k == other) ≡ false = grind (arith, nat_tests) in
        let same = numbered_others (λ (o : Observation). record o { live = false }) (observations_after past) other k differs in
        ap (λ (found : Option Observation). option_map_or (λ (o : Observation). o.live) found false) same ∙ rest (sym (ap is_some same) ∙ there)

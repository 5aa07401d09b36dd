-- What lists of changes leave of what was added.
use Rattle.std.proofs.Common.{◌≡◌, ℕ, ◌+◌, Bool, true, false, ◌&&◌, cond, List, [], ◌∷◌, ◌++◌, length, Option, Some, None, suc, refl, ap, sym, ◌∙◌, arith}
use Rattle.std.specs.Prelude.{◌==◌, nat_lt, option_map, count_by}
use Rattle.std.specs.Option.{option_map_or}
use Rattle.std.proofs.lemmas.List.Sums.{sum_by-cons}
use Rattle.std.proofs.lemmas.Bool.{eqb-true, false≢true}
use Rattle.tracklet_file.specs.declared.observation.Observation.{Observation}
use Rattle.tracklet_file.specs.declared.tracklet.Tracklet.{Tracklet}
use Rattle.tracklet_file.specs.Numbering.{next_number, numbered, changed_at}
use Rattle.tracklet_file.specs.Observations.{is_live, with_retraction, later_of_track}
use Rattle.tracklet_file.specs.Tracklets.{is_retracted, retracted_in}
use Rattle.tracklet_file.specs.Changes.{Change, AreCalls, observations_after, tracklets_after, added_observations, brought_tracklets, is_retraction}
use Rattle.tracklet_file.specs.Changes.Change.{AddTrack, Add, Retract, SetHome}
use Rattle.tracklet_file.proofs.NumberingLemmas.{numbered_changed, numbered_others, length-changed_at}
use Rattle.tracklet_file.proofs.CountLemmas.{retracted_more}

-- what a change of an item leaves alone reads as before
pub read_unchanged : {A B : Type 0} (read : A → B) (change : A → A) → ((item : A) → read (change item) ≡ read item) → (items : List A) (number k : ℕ)
    → option_map read (numbered (changed_at change items number) k) ≡ option_map read (numbered items k)
read_unchanged read change same items number k = by (k == number) refl
  where
    mapped : (found : Option _) → option_map read (option_map change found) ≡ option_map read found
    mapped None = refl
    mapped (Some item) = ap Some (same item)

    by : (b : Bool) → (k == number) ≡ b → option_map read (numbered (changed_at change items number) k) ≡ option_map read (numbered items k)
    by true is =
        ap (λ (n : ℕ). option_map read (numbered (changed_at change items number) n)) (eqb-true _ _ is)
        ∙ ap (option_map read) (numbered_changed change items number) ∙ mapped (numbered items number)
        ∙ sym (ap (λ (n : ℕ). option_map read (numbered items n)) (eqb-true _ _ is))
    by false is = ap (option_map read) (numbered_others change items number k is)

-- the newest item, or one of as many older ones
read_more : {A B : Type 0} (read : A → B) (newest : A) (older others : List A) (k : ℕ) → length older ≡ length others → option_map read (numbered older k) ≡ option_map read (numbered others k)
    → option_map read (numbered (newest ∷ older) k) ≡ option_map read (numbered (newest ∷ others) k)
read_more read newest older others k long rest = ap (λ (n : ℕ). option_map read (cond (k == n + 1) (Some newest) (numbered older k))) long ∙ by (k == next_number others)
  where
    by : (b : Bool) → option_map read (cond b (Some newest) (numbered older k)) ≡ option_map read (cond b (Some newest) (numbered others k))
    by true = refl
    by false = rest

-- ---- observations

pub as_many : (changes : List Change) → length (observations_after changes) ≡ length (added_observations changes)
as_many [] = refl
as_many (Add track s entry ∷ past) = ap suc (as_many past)
as_many (AddTrack name station home ∷ past) = as_many past
as_many (SetHome t home ∷ past) = as_many past
as_many (Retract k ∷ past) = length-changed_at (λ (o : Observation). record o { live = false }) (observations_after past) k ∙ as_many past

pub read_as_brought : {B : Type 0} (read : Observation → B) → ((o : Observation) → read (record o { live = false }) ≡ read o) → (changes : List Change) (k : ℕ)
    → option_map read (numbered (observations_after changes) k) ≡ option_map read (numbered (added_observations changes) k)
read_as_brought read same [] k = refl
read_as_brought read same (Add track s entry ∷ past) k = read_more read (record { track = track; sighting = s; entry = entry; live = true }) (observations_after past) (added_observations past) k (as_many past) (read_as_brought read same past k)
read_as_brought read same (AddTrack name station home ∷ past) k = read_as_brought read same past k
read_as_brought read same (SetHome t home ∷ past) k = read_as_brought read same past k
read_as_brought read same (Retract other ∷ past) k = read_unchanged read (λ (o : Observation). record o { live = false }) same (observations_after past) other k ∙ read_as_brought read same past k

-- one observation more after those of a tracklet
abbrev with_newest : ℕ → ℕ → ℕ → List ℕ → ℕ → List ℕ
with_newest track t after rest count = rest ++ cond ((track == t) && nat_lt after (count + 1)) ((count + 1) ∷ []) []

pub later_retracted : (observations : List Observation) (k t after : ℕ) → later_of_track (with_retraction observations k) t after ≡ later_of_track observations t after
later_retracted [] k t after = refl
later_retracted (newest ∷ older) k t after = by (k == next_number older) (later_retracted older k t after)
  where
    by : (b : Bool) → later_of_track (with_retraction older k) t after ≡ later_of_track older t after
        → later_of_track (cond b (record newest { live = false } ∷ older) (newest ∷ with_retraction older k)) t after ≡ later_of_track (newest ∷ older) t after
    by true rest = refl
    by false rest =
        ap (λ (before : List ℕ). with_newest newest.track t after before (length (with_retraction older k))) rest
        ∙ ap (with_newest newest.track t after (later_of_track older t after)) (length-changed_at (λ (o : Observation). record o { live = false }) older k)

pub later_as_brought : (changes : List Change) (t after : ℕ) → later_of_track (observations_after changes) t after ≡ later_of_track (added_observations changes) t after
later_as_brought [] t after = refl
later_as_brought (Add track s entry ∷ past) t after =
    ap (λ (rest : List ℕ). with_newest track t after rest (length (observations_after past))) (later_as_brought past t after)
    ∙ ap (with_newest track t after (later_of_track (added_observations past) t after)) (as_many past)
later_as_brought (AddTrack name station home ∷ past) t after = later_as_brought past t after
later_as_brought (SetHome other home ∷ past) t after = later_as_brought past t after
later_as_brought (Retract k ∷ past) t after = later_retracted (observations_after past) k t after ∙ later_as_brought past t after

one_more_retracted : (observations : List Observation) (k : ℕ) → is_live observations k ≡ true → retracted_in (with_retraction observations k) ≡ retracted_in observations + 1
one_more_retracted observations k live = by (numbered observations k) refl live
  where
    by : (found : Option Observation) → numbered observations k ≡ found → option_map_or (λ (o : Observation). o.live) found false ≡ true → retracted_in (with_retraction observations k) ≡ retracted_in observations + 1
    by None is live = absurd (false≢true live)
    by (Some o) is live = retracted_more observations k o is live

-- each change is counted by itself
count_more : (newest : Change) (past : List Change) → count_by is_retraction (newest ∷ past) ≡ cond (is_retraction newest) 1 0 + count_by is_retraction past
count_more newest past = sum_by-cons (λ (change : Change). cond (is_retraction change) 1 0) newest past

pub retracted_as_counted : (changes : List Change) → AreCalls changes → retracted_in (observations_after changes) ≡ count_by is_retraction changes
retracted_as_counted [] calls = refl
retracted_as_counted (Add track s entry ∷ past) calls =
    let more = sum_by-cons (λ (o : Observation). cond (is_retracted o) 1 0) (record { track = track; sighting = s; entry = entry; live = true }) (observations_after past) in
    let rest = retracted_as_counted past calls.1 in
    let counted = count_more (Add track s entry) past in
    omega arith
retracted_as_counted (AddTrack name station home ∷ past) calls =
    let rest = retracted_as_counted past calls.1 in
    let counted = count_more (AddTrack name station home) past in
    omega arith
retracted_as_counted (SetHome t home ∷ past) calls =
    let rest = retracted_as_counted past calls.1 in
    let counted = count_more (SetHome t home) past in
    omega arith
retracted_as_counted (Retract k ∷ past) calls =
    let more = one_more_retracted (observations_after past) k calls.0 in
    let rest = retracted_as_counted past calls.1 in
    let counted = count_more (Retract k) past in
    omega arith

-- ---- tracklets

pub as_many_tracklets : (changes : List Change) → length (tracklets_after changes) ≡ length (brought_tracklets changes)
as_many_tracklets [] = refl
as_many_tracklets (AddTrack name station home ∷ past) = ap suc (as_many_tracklets past)
as_many_tracklets (Add track s entry ∷ past) = as_many_tracklets past
as_many_tracklets (Retract k ∷ past) = as_many_tracklets past
as_many_tracklets (SetHome t home ∷ past) = length-changed_at (λ (tracklet : Tracklet). record tracklet { home = home }) (tracklets_after past) t ∙ as_many_tracklets past

pub tracklet_as_brought : {B : Type 0} (read : Tracklet → B) → ((home : Option _) (tracklet : Tracklet) → read (record tracklet { home = home }) ≡ read tracklet) → (changes : List Change) (t : ℕ)
    → option_map read (numbered (tracklets_after changes) t) ≡ option_map read (numbered (brought_tracklets changes) t)
tracklet_as_brought read same [] t = refl
tracklet_as_brought read same (AddTrack name station home ∷ past) t = read_more read (record { name = name; station = station; home = home }) (tracklets_after past) (brought_tracklets past) t (as_many_tracklets past) (tracklet_as_brought read same past t)
tracklet_as_brought read same (Add track s entry ∷ past) t = tracklet_as_brought read same past t
tracklet_as_brought read same (Retract k ∷ past) t = tracklet_as_brought read same past t
tracklet_as_brought read same (SetHome other home ∷ past) t = read_unchanged read (λ (tracklet : Tracklet). record tracklet { home = home }) (same home) (tracklets_after past) other t ∙ tracklet_as_brought read same past t

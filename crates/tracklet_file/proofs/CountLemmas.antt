-- Counts of observations by their places.
use Rattle.std.proofs.Common.{◌≡◌, ℕ, ◌+◌, ◌<◌, ◌≤◌, Bool, true, false, cond, List, [], ◌∷◌, length, Option, Some, None, refl, ap, sym, subst, ◌∙◌, lit≤, add-zero, arith}
use Rattle.std.specs.Prelude.{not, ◌&&◌, ◌==◌, count_by, is_none, is_some, IsSome, IfSome}
use Rattle.std.specs.Option.{option_map, option_map_or, option_and_then}
use Rattle.std.proofs.lemmas.Bool.{eqb-true, false≢true}
use Rattle.std.proofs.lemmas.Option.{none-some, same_Some}
use Rattle.std.proofs.lemmas.List.Sums.{sum_by-cons}
use Rattle.tracklet_file.specs.declared.observation.Observation.{Observation}
use Rattle.tracklet_file.specs.declared.tracklet.Tracklet.{Tracklet}
use Rattle.packed_names.specs.declared.name.Designation.{Designation}
use Rattle.tracklet_file.specs.Numbering.{next_number, numbered, changed_at}
use Rattle.tracklet_file.specs.Observations.{track_of, is_live, with_retraction}
use Rattle.tracklet_file.specs.Contents.{AreInTracklets, IsCounted}
use Rattle.tracklet_file.specs.Chains.{is_live_of}
use Rattle.tracklet_file.proofs.NumberingLemmas.{numbered_stays, numbered_changed, numbered_others}
use Rattle.tracklet_file.specs.Tracklets.{IsTracklet, with_home, home_of, is_isolated, is_homed, is_retracted, isolated_in, homed_in, retracted_in}

one_of_three : (tracklets : List Tracklet) (o : Observation) → cond (is_isolated tracklets o) 1 0 + cond (is_homed tracklets o) 1 0 + cond (is_retracted o) 1 0 ≡ 1
one_of_three tracklets o = by o.live (home_of tracklets o.track)
  where
    by : (live : Bool) (home : Option Designation) → cond (live && is_none home) 1 0 + cond (live && is_some home) 1 0 + cond (not live) 1 0 ≡ 1
    by true None = refl
    by true (Some designation) = refl
    by false home = refl

-- the isolated, the homed and the retracted observations are all
pub places_together : (tracklets : List Tracklet) (observations : List Observation) → isolated_in tracklets observations + homed_in tracklets observations + retracted_in observations ≡ length observations
places_together tracklets [] = refl
places_together tracklets (o ∷ older) =
    let one = one_of_three tracklets o in
    let rest = places_together tracklets older in
    let isolated = sum_by-cons (λ (o : Observation). cond (is_isolated tracklets o) 1 0) o older in
    let homed = sum_by-cons (λ (o : Observation). cond (is_homed tracklets o) 1 0) o older in
    let retracted = sum_by-cons (λ (o : Observation). cond (is_retracted o) 1 0) o older in
    omega arith

-- ---- tracklets that are there

-- the tracklet of an observation is there
pub track_there : (tracklets : List Tracklet) (observations : List Observation) (k : ℕ) → AreInTracklets tracklets observations → IfSome (track_of observations k) (IsTracklet tracklets)
track_there tracklets [] k there = tt
track_there tracklets (newest ∷ older) k there = by (k == next_number older) (track_there tracklets older k there.1)
  where
    by : (b : Bool) → IfSome (track_of older k) (IsTracklet tracklets) → IfSome (option_map (λ (o : Observation). o.track) (cond b (Some newest) (numbered older k))) (IsTracklet tracklets)
    by true rest = there.0
    by false rest = rest

pub tracklet_at : (tracklets : List Tracklet) (observations : List Observation) (k : ℕ) (o : Observation) → AreInTracklets tracklets observations → numbered observations k ≡ Some o → IsTracklet tracklets o.track
tracklet_at tracklets observations k o there is =
    subst (λ (found : Option Observation). IfSome (option_map (λ (o : Observation). o.track) found) (IsTracklet tracklets)) is (track_there tracklets observations k there)

-- ---- one more tracklet

pub in_more : (newest : Tracklet) (tracklets : List Tracklet) (observations : List Observation) → AreInTracklets tracklets observations → AreInTracklets (newest ∷ tracklets) observations
in_more newest tracklets [] there = tt
in_more newest tracklets (o ∷ older) there =
    (ap is_some (numbered_stays newest tracklets o.track there.0) ∙ there.0, in_more newest tracklets older there.1)

pub isolated_more : (newest : Tracklet) (tracklets : List Tracklet) (observations : List Observation) → AreInTracklets tracklets observations → isolated_in (newest ∷ tracklets) observations ≡ isolated_in tracklets observations
isolated_more newest tracklets [] there = refl
isolated_more newest tracklets (o ∷ older) there =
    let here : ◌≡◌ {A = ℕ} (cond (is_isolated (newest ∷ tracklets) o) 1 0) (cond (is_isolated tracklets o) 1 0) =
    ap (λ (found : Option Tracklet). cond (o.live && is_none (option_and_then (λ (tracklet : Tracklet). tracklet.home) found)) 1 0) (numbered_stays newest tracklets o.track there.0) in
    let rest = isolated_more newest tracklets older there.1 in
    let longer = sum_by-cons (λ (o : Observation). cond (is_isolated (newest ∷ tracklets) o) 1 0) o older in
    let shorter = sum_by-cons (λ (o : Observation). cond (is_isolated tracklets o) 1 0) o older in
    omega arith

-- ---- another home for a tracklet

pub home_of_others : (tracklets : List Tracklet) (t other : ℕ) (home : Option Designation) → (other == t) ≡ false → home_of (with_home tracklets t home) other ≡ home_of tracklets other
home_of_others tracklets t other home differs = ap (option_and_then (λ (tracklet : Tracklet). tracklet.home)) (numbered_others (λ (tracklet : Tracklet). record tracklet { home = home }) tracklets t other differs)

pub home_of_given : (tracklets : List Tracklet) (t : ℕ) (home : Option Designation) → IsTracklet tracklets t → home_of (with_home tracklets t home) t ≡ home
home_of_given tracklets t home there =
    ap (option_and_then (λ (tracklet : Tracklet). tracklet.home)) (numbered_changed (λ (tracklet : Tracklet). record tracklet { home = home }) tracklets t) ∙ by (numbered tracklets t) there
  where
    by : (found : Option Tracklet) → IsSome found → option_and_then (λ (tracklet : Tracklet). tracklet.home) (option_map (λ (tracklet : Tracklet). record tracklet { home = home }) found) ≡ home
    by None there = absurd (false≢true there)
    by (Some tracklet) there = refl

is_some-option_map : {A B : Type 0} (f : A → B) (o : Option A) → is_some (option_map f o) ≡ is_some o
is_some-option_map f None = refl
is_some-option_map f (Some x) = refl

pub in_rehomed : (tracklets : List Tracklet) (t : ℕ) (home : Option Designation) (observations : List Observation) → AreInTracklets tracklets observations → AreInTracklets (with_home tracklets t home) observations
in_rehomed tracklets t home [] there = tt
in_rehomed tracklets t home (o ∷ older) there = (by (o.track == t) refl, in_rehomed tracklets t home older there.1)
  where
    by : (b : Bool) → (o.track == t) ≡ b → IsTracklet (with_home tracklets t home) o.track
    by true is =
        let same : o.track ≡ t = eqb-true _ _ is in
        ap (λ (u : ℕ). is_some (numbered (with_home tracklets t home) u)) same
        ∙ ap is_some (numbered_changed (λ (tracklet : Tracklet). record tracklet { home = home }) tracklets t)
        ∙ is_some-option_map (λ (tracklet : Tracklet). record tracklet { home = home }) (numbered tracklets t) ∙ ap (λ (u : ℕ). is_some (numbered tracklets u)) (sym same) ∙ there.0
    by false differs = ap is_some (numbered_others (λ (tracklet : Tracklet). record tracklet { home = home }) tracklets t o.track differs) ∙ there.0

-- a count of observations, as those of a tracklet leave it, and come to it
recounted : (before after own : Observation → Bool) (was is : Bool) → ((o : Observation) → cond (after o) 1 0 + cond was (cond (own o) 1 0) 0 ≡ cond (before o) 1 0 + cond is (cond (own o) 1 0) 0)
    → (observations : List Observation) → count_by after observations + cond was (count_by own observations) 0 ≡ count_by before observations + cond is (count_by own observations) 0
recounted before after own true true each [] = refl
recounted before after own true false each [] = refl
recounted before after own false true each [] = refl
recounted before after own false false each [] = refl
recounted before after own true true each (o ∷ older) =
    omega (arith, each o, recounted before after own true true each older, sum_by-cons (λ (o : Observation). cond (before o) 1 0) o older, sum_by-cons (λ (o : Observation). cond (after o) 1 0) o older, sum_by-cons (λ (o : Observation). cond (own o) 1 0) o older)
recounted before after own true false each (o ∷ older) =
    omega (arith, each o, recounted before after own true false each older, sum_by-cons (λ (o : Observation). cond (before o) 1 0) o older, sum_by-cons (λ (o : Observation). cond (after o) 1 0) o older, sum_by-cons (λ (o : Observation). cond (own o) 1 0) o older)
recounted before after own false true each (o ∷ older) =
    omega (arith, each o, recounted before after own false true each older, sum_by-cons (λ (o : Observation). cond (before o) 1 0) o older, sum_by-cons (λ (o : Observation). cond (after o) 1 0) o older, sum_by-cons (λ (o : Observation). cond (own o) 1 0) o older)
recounted before after own false false each (o ∷ older) =
    omega (arith, each o, recounted before after own false false each older, sum_by-cons (λ (o : Observation). cond (before o) 1 0) o older, sum_by-cons (λ (o : Observation). cond (after o) 1 0) o older)

pub isolated_rehomed : (tracklets : List Tracklet) (t : ℕ) (home : Option Designation) → IsTracklet tracklets t → (observations : List Observation)
    → isolated_in (with_home tracklets t home) observations + cond (is_none (home_of tracklets t)) (count_by (is_live_of t) observations) 0
    ≡ isolated_in tracklets observations + cond (is_none home) (count_by (is_live_of t) observations) 0
isolated_rehomed tracklets t home there observations =
    recounted (is_isolated tracklets) (is_isolated (with_home tracklets t home)) (is_live_of t) (is_none (home_of tracklets t)) (is_none home) each observations
  where
    settled : (live was is : Bool) → cond (live && is) 1 0 + cond was (cond (live && true) 1 0) 0 ≡ cond (live && was) 1 0 + cond is (cond (live && true) 1 0) 0
    settled true true true = refl
    settled true true false = refl
    settled true false true = refl
    settled true false false = refl
    settled false true true = refl
    settled false true false = refl
    settled false false true = refl
    settled false false false = refl

    apart : (live isolated was is : Bool) → cond (live && isolated) 1 0 + cond was (cond (live && false) 1 0) 0 ≡ cond (live && isolated) 1 0 + cond is (cond (live && false) 1 0) 0
    apart true isolated true true = refl
    apart true isolated true false = refl
    apart true isolated false true = refl
    apart true isolated false false = refl
    apart false isolated true true = refl
    apart false isolated true false = refl
    apart false isolated false true = refl
    apart false isolated false false = refl

    each : (o : Observation) → cond (is_isolated (with_home tracklets t home) o) 1 0 + cond (is_none (home_of tracklets t)) (cond (is_live_of t o) 1 0) 0
        ≡ cond (is_isolated tracklets o) 1 0 + cond (is_none home) (cond (is_live_of t o) 1 0) 0
    each o = by (o.track == t) refl
      where
        by : (b : Bool) → (o.track == t) ≡ b → cond (is_isolated (with_home tracklets t home) o) 1 0 + cond (is_none (home_of tracklets t)) (cond (o.live && (o.track == t)) 1 0) 0
            ≡ cond (is_isolated tracklets o) 1 0 + cond (is_none home) (cond (o.live && (o.track == t)) 1 0) 0
        by true is =
            let same : o.track ≡ t = eqb-true _ _ is in
            let new : home_of (with_home tracklets t home) o.track ≡ home = ap (home_of (with_home tracklets t home)) same ∙ home_of_given tracklets t home there in
            let old : home_of tracklets o.track ≡ home_of tracklets t = ap (home_of tracklets) same in
            ap (λ (h : Option Designation). cond (o.live && is_none h) 1 0 + cond (is_none (home_of tracklets t)) (cond (o.live && (o.track == t)) 1 0) 0) new
            ∙ ap (λ (b : Bool). cond (o.live && is_none home) 1 0 + cond (is_none (home_of tracklets t)) (cond (o.live && b) 1 0) 0) is
            ∙ settled o.live (is_none (home_of tracklets t)) (is_none home)
            ∙ sym (ap (λ (b : Bool). cond (o.live && is_none (home_of tracklets t)) 1 0 + cond (is_none home) (cond (o.live && b) 1 0) 0) is)
            ∙ sym (ap (λ (h : Option Designation). cond (o.live && is_none h) 1 0 + cond (is_none home) (cond (o.live && (o.track == t)) 1 0) 0) old)
        by false differs =
            ap (λ (h : Option Designation). cond (o.live && is_none h) 1 0 + cond (is_none (home_of tracklets t)) (cond (o.live && (o.track == t)) 1 0) 0) (home_of_others tracklets t o.track home differs)
            ∙ ap (λ (b : Bool). cond (is_isolated tracklets o) 1 0 + cond (is_none (home_of tracklets t)) (cond (o.live && b) 1 0) 0) differs
            ∙ apart o.live (is_none (home_of tracklets o.track)) (is_none (home_of tracklets t)) (is_none home)
            ∙ sym (ap (λ (b : Bool). cond (is_isolated tracklets o) 1 0 + cond (is_none home) (cond (o.live && b) 1 0) 0) differs)

-- where a tracklet is isolated, its live observations are among the isolated ones
pub live_are_isolated : (tracklets : List Tracklet) (t : ℕ) → is_none (home_of tracklets t) ≡ true → (observations : List Observation) → count_by (is_live_of t) observations ≤ isolated_in tracklets observations
live_are_isolated tracklets t isolated [] = lit≤ tt
live_are_isolated tracklets t isolated (o ∷ older) =
    omega (arith, here, live_are_isolated tracklets t isolated older, sum_by-cons (λ (o : Observation). cond (is_live_of t o) 1 0) o older, sum_by-cons (λ (o : Observation). cond (is_isolated tracklets o) 1 0) o older)
  where
    here : cond (is_live_of t o) 1 0 ≤ cond (is_isolated tracklets o) 1 0
    here = by o.live (o.track == t) refl
      where
        by : (live b : Bool) → (o.track == t) ≡ b → cond (live && b) 1 0 ≤ cond (live && is_none (home_of tracklets o.track)) 1 0
        by false b is = lit≤ tt
        by true false is = omega arith
        by true true is =
            let alone : is_none (home_of tracklets o.track) ≡ true = ap (λ (u : ℕ). is_none (home_of tracklets u)) (eqb-true _ _ is) ∙ isolated in
            subst (λ (b : Bool). 1 ≤ cond b 1 0) (sym alone) (lit≤ tt)

-- ---- a retraction

pub in_retracted : (tracklets : List Tracklet) (observations : List Observation) (k : ℕ) → AreInTracklets tracklets observations → AreInTracklets tracklets (with_retraction observations k)
in_retracted tracklets [] k there = tt
in_retracted tracklets (o ∷ older) k there = by (k == next_number older) (in_retracted tracklets older k there.1)
  where
    by : (b : Bool) → AreInTracklets tracklets (with_retraction older k) → AreInTracklets tracklets (cond b (record o { live = false } ∷ older) (o ∷ with_retraction older k))
    by true rest = there
    by false rest = (there.0, rest)

-- a count, as one observation is changed
pub count_changed : {A : Type 0} (counts : A → Bool) (change : A → A) (items : List A) (k : ℕ) (item : A) → numbered items k ≡ Some item
    → count_by counts (changed_at change items k) + cond (counts item) 1 0 ≡ count_by counts items + cond (counts (change item)) 1 0
count_changed counts change [] k item there = absurd (none-some item there)
count_changed counts change (newest ∷ older) k item there = by (k == next_number older) refl there (count_changed counts change older k item)
  where
    by : (b : Bool) → (k == next_number older) ≡ b → cond b (Some newest) (numbered older k) ≡ Some item
        → (numbered older k ≡ Some item → count_by counts (changed_at change older k) + cond (counts item) 1 0 ≡ count_by counts older + cond (counts (change item)) 1 0)
        → count_by counts (cond b (change newest ∷ older) (newest ∷ changed_at change older k)) + cond (counts item) 1 0 ≡ count_by counts (newest ∷ older) + cond (counts (change item)) 1 0
    by true is found rest =
        let same : newest ≡ item = same_Some newest item found in
        let old : ◌≡◌ {A = ℕ} (cond (counts newest) 1 0) (cond (counts item) 1 0) = ap (λ (x : _). cond (counts x) 1 0) same in
        let new : ◌≡◌ {A = ℕ} (cond (counts (change newest)) 1 0) (cond (counts (change item)) 1 0) = ap (λ (x : _). cond (counts (change x)) 1 0) same in
        let before = sum_by-cons (λ (x : _). cond (counts x) 1 0) newest older in
        let after = sum_by-cons (λ (x : _). cond (counts x) 1 0) (change newest) older in
        omega arith
    by false is found rest =
        let inner = rest found in
        let before = sum_by-cons (λ (x : _). cond (counts x) 1 0) newest older in
        let after = sum_by-cons (λ (x : _). cond (counts x) 1 0) newest (changed_at change older k) in
        omega arith

-- what counts for something counts
pub count_some : {A : Type 0} (counts : A → Bool) (items : List A) (k : ℕ) (item : A) → numbered items k ≡ Some item → counts item ≡ true → 0 < count_by counts items
count_some counts [] k item at one = absurd (none-some item at)
count_some counts (newest ∷ older) k item at one = by (k == next_number older) at (count_some counts older k item)
  where
    by : (b : Bool) → cond b (Some newest) (numbered older k) ≡ Some item → (numbered older k ≡ Some item → counts item ≡ true → 0 < count_by counts older) → 0 < count_by counts (newest ∷ older)
    by true found rest =
        let here : ◌≡◌ {A = ℕ} (cond (counts newest) 1 0) 1 = ap (λ (b : Bool). cond b 1 0) (ap counts (same_Some newest item found) ∙ one) in
        omega (arith, here, sum_by-cons (λ (x : _). cond (counts x) 1 0) newest older)
    by false found rest = omega (arith, rest found one, sum_by-cons (λ (x : _). cond (counts x) 1 0) newest older)

pub count_low : {A : Type 0} (counts : A → Bool) (items : List A) → count_by counts items ≤ length items
count_low counts [] = lit≤ tt
count_low counts (item ∷ items) = omega (arith, one (counts item), count_low counts items, sum_by-cons (λ (x : _). cond (counts x) 1 0) item items)
  where
    one : (b : Bool) → cond b 1 0 ≤ 1
    one true = omega arith
    one false = omega arith

pub isolated_retracted : (tracklets : List Tracklet) (observations : List Observation) (k : ℕ) (o : Observation) → numbered observations k ≡ Some o → o.live ≡ true
    → isolated_in tracklets (with_retraction observations k) + cond (is_none (home_of tracklets o.track)) 1 0 ≡ isolated_in tracklets observations
isolated_retracted tracklets observations k o there live =
    ap (λ (b : Bool). isolated_in tracklets (with_retraction observations k) + cond (b && is_none (home_of tracklets o.track)) 1 0) (sym live)
    ∙ count_changed (is_isolated tracklets) (λ (o : Observation). record o { live = false }) observations k o there ∙ add-zero (isolated_in tracklets observations)

pub retracted_more : (observations : List Observation) (k : ℕ) (o : Observation) → numbered observations k ≡ Some o → o.live ≡ true → retracted_in (with_retraction observations k) ≡ retracted_in observations + 1
retracted_more observations k o there live =
    sym (add-zero (retracted_in (with_retraction observations k))) ∙ ap (λ (b : Bool). retracted_in (with_retraction observations k) + cond (not b) 1 0) (sym live)
    ∙ count_changed is_retracted (λ (o : Observation). record o { live = false }) observations k o there

-- ---- the file's own counts

pub counted_more : (newest : Tracklet) (tracklets : List Tracklet) (observations : List Observation) {isolated retracted : ℕ} → IsCounted tracklets observations isolated retracted
    → IsCounted (newest ∷ tracklets) observations isolated retracted
counted_more newest tracklets observations counted = record {
  in_tracklets = in_more newest tracklets observations counted.in_tracklets;
  isolated_are = counted.isolated_are ∙ sym (isolated_more newest tracklets observations counted.in_tracklets);
  retracted_are = counted.retracted_are;
}

-- what a test for none tells
pub none_told : {A : Type 0} (o : Option A) (none : Bool) → is_some o ≡ not none → none ≡ is_none o
none_told o true told = sym (ap not told)
none_told o false told = sym (ap not told)

-- a live observation is there
pub live_there : (observations : List Observation) (k : ℕ) → is_live observations k ≡ true → IsSome (numbered observations k)
live_there observations k live = by (numbered observations k) live
  where
    by : (found : Option Observation) → option_map_or (λ (o : Observation). o.live) found false ≡ true → IsSome found
    by None live = absurd (false≢true live)
    by (Some o) live = refl

pub counted_retracted : (tracklets : List Tracklet) (observations : List Observation) (k : ℕ) (o : Observation) {isolated retracted : ℕ} → numbered observations k ≡ Some o → o.live ≡ true
    → IsCounted tracklets observations isolated retracted → (fewer : ℕ) → fewer + cond (is_none (home_of tracklets o.track)) 1 0 ≡ isolated → IsCounted tracklets (with_retraction observations k) fewer (retracted + 1)
counted_retracted tracklets observations k o {isolated} {retracted} there live counted fewer fewer_is = record {
  in_tracklets = in_retracted tracklets observations k counted.in_tracklets;
  isolated_are =
      let after = isolated_retracted tracklets observations k o there live in
      let before : isolated ≡ isolated_in tracklets observations = counted.isolated_are in
      omega arith;
  retracted_are = ap (λ (n : ℕ). n + 1) counted.retracted_are ∙ sym (retracted_more observations k o there live);
}

pub counted_rehomed : (tracklets : List Tracklet) (observations : List Observation) (t : ℕ) (home : Option Designation) {isolated retracted : ℕ} → IsTracklet tracklets t
    → IsCounted tracklets observations isolated retracted → (after : ℕ)
    → after + cond (is_none (home_of tracklets t)) (count_by (is_live_of t) observations) 0 ≡ isolated + cond (is_none home) (count_by (is_live_of t) observations) 0
    → IsCounted (with_home tracklets t home) observations after retracted
counted_rehomed tracklets observations t home {isolated} {retracted} there counted after after_is = record {
  in_tracklets = in_rehomed tracklets t home observations counted.in_tracklets;
  isolated_are =
      let moved = isolated_rehomed tracklets t home there observations in
      let before : isolated ≡ isolated_in tracklets observations = counted.isolated_are in
      omega arith;
  retracted_are = counted.retracted_are;
}

-- a live observation of an isolated tracklet is among the isolated ones
pub some_isolated : (tracklets : List Tracklet) (observations : List Observation) (k : ℕ) (o : Observation) → numbered observations k ≡ Some o → o.live ≡ true → is_none (home_of tracklets o.track) ≡ true
    → 0 < isolated_in tracklets observations
some_isolated tracklets observations k o there live isolated = count_some (is_isolated tracklets) observations k o there (ap (λ (b : Bool). b && is_none (home_of tracklets o.track)) live ∙ isolated)

pub live_at : (observations : List Observation) (k : ℕ) (o : Observation) → numbered observations k ≡ Some o → is_live observations k ≡ true → o.live ≡ true
live_at observations k o there live = sym (ap (λ (found : Option Observation). option_map_or (λ (o : Observation). o.live) found false) there) ∙ live

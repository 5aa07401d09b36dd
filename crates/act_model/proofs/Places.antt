-- Each observation stands in one place.
use Rattle.std.proofs.Common.{◌≡◌, ℕ, ◌+◌, List, [], ◌∷◌, ◌++◌, length, Bool, true, false, cond, Option, Some, None, Result, Ok, Err, refl, sym, ap, suc, ◌∙◌, arith, length-append}
use Rattle.std.specs.Prelude.{not, ◌&&◌, ◌==◌, count_by, is_ok, is_some, is_none}
use Rattle.std.proofs.lemmas.Bool.Decides.{nat_tests}
use Rattle.std.proofs.Math.Numerals.{add-one}
use Rattle.std.proofs.lemmas.List.Sums.{sum_by-append, sum_by-cons}
use Rattle.obs_record.specs.declared.rule.RuleCode.{RuleCode}
use Rattle.packed_names.specs.declared.name.Designation.{Designation}
use Rattle.identify_core.specs.Acts.{LinkAct}
use Rattle.tracklet_file.specs.declared.observation.Observation.{Observation}
use Rattle.tracklet_file.specs.declared.tracklet.Tracklet.{Tracklet}
use Rattle.tracklet_file.specs.Numbering.{next_number, changed_at}
use Rattle.tracklet_file.specs.Tracklets.{home_of, is_retracted, is_isolated, is_homed, retracted_in, isolated_in, homed_in}
use Rattle.act_model.specs.declared.deed.Deed.{Deed}
use Rattle.act_model.specs.declared.deed.Deed.TheVariants.{Submitted, Retracted}
use Rattle.act_model.specs.declared.entry.Entry.{Entry}
use Rattle.act_model.specs.declared.taken.Placed.{Placed}
use Rattle.act_model.specs.declared.taken.Taken.{Taken}
use Rattle.act_model.specs.Deeds.{deeds}
use Rattle.act_model.specs.Designations.{links_of}
use Rattle.act_model.specs.Holdings.{Holdings, with_found, with_batch, holdings, numbers_where, retracted_of, isolated_of, homed_of}
use Rattle.act_model.specs.Observations.{observations}
use Rattle.act_model.specs.Places.{times, is_accepted_number, objects_of, OnePlace, added_by}
use Rattle.act_model.specs.Taken.{accepted_in, is_accepted}
use Rattle.act_model.proofs.Homes.{EqualIsSame, StayOwn, home_given, sound}
use Rattle.act_model.proofs.Objects.{PrincipalOnce, objects_measure}

-- ---- counting

abbrev pub once_if : Bool → ℕ
once_if b = cond b 1 0

pub times_more : (k : ℕ) (xs ys : List ℕ) → times k (xs ++ ys) ≡ times k xs + times k ys
times_more k xs ys = sum_by-append (λ n. cond (n == k) 1 0) xs ys

times_last : (k n : ℕ) (b : Bool) → times k (cond b (n ∷ []) []) ≡ once_if (b && (n == k))
times_last k n false = refl
times_last k n true = by (n == k) refl
  where
    by : (b : Bool) → (n == k) ≡ b → times k (n ∷ []) ≡ once_if (n == k)
    by true is = grind arith
    by false is = grind arith

-- one observation more
pub where_more : (k : ℕ) (p : Observation → Bool) (newest : Observation) (older : List Observation)
    → times k (numbers_where p (newest ∷ older)) ≡ times k (numbers_where p older) + once_if (p newest && (next_number older == k))
where_more k p newest older =
    times_more k (numbers_where p older) _ ∙ ap (λ (n : ℕ). times k (numbers_where p older) + n) (times_last k (next_number older) (p newest))

-- an observation is so in one of three ways
one_of_three : (live same : Bool) (home : Option Designation)
    → once_if (not live && same) + (once_if ((live && is_none home) && same) + once_if ((live && is_some home) && same)) ≡ once_if same
one_of_three false same home = grind arith
one_of_three true same None = grind arith
one_of_three true same (Some d) = grind arith

accepted_more : (n k : ℕ) → once_if (is_accepted_number (n + 1) k) ≡ once_if (is_accepted_number n k) + once_if (n + 1 == k)
accepted_more n k = grind (arith, nat_tests)

module _ (tracklets : List Tracklet) (k : ℕ) where
  abbrev standing : List Observation → ℕ
  standing obs = times k (numbers_where is_retracted obs) + (times k (numbers_where (is_isolated tracklets) obs) + times k (numbers_where (is_homed tracklets) obs))

  regroup : (a b c x y z : ℕ) → (a + x) + ((b + y) + (c + z)) ≡ (a + (b + c)) + (x + (y + z))
  regroup a b c x y z = omega arith

  stands : (obs : List Observation) → standing obs ≡ once_if (is_accepted_number (length obs) k)
  stands [] = grind (arith, nat_tests)
  stands (newest ∷ older) =
      let r = where_more k is_retracted newest older in
      let i = where_more k (is_isolated tracklets) newest older in
      let h = where_more k (is_homed tracklets) newest older in
      let three = one_of_three newest.live (next_number older == k) (home_of tracklets newest.track) in
      let before = stands older in
      let more = accepted_more (length older) k in
      ap (λ (n : ℕ). n + (times k (numbers_where (is_isolated tracklets) (newest ∷ older)) + times k (numbers_where (is_homed tracklets) (newest ∷ older)))) r
      ∙ ap (λ (n : ℕ). (times k (numbers_where is_retracted older) + once_if (is_retracted newest && (next_number older == k))) + (n + times k (numbers_where (is_homed tracklets) (newest ∷ older)))) i
      ∙ ap (λ (n : ℕ). (times k (numbers_where is_retracted older) + once_if (is_retracted newest && (next_number older == k)))
      + ((times k (numbers_where (is_isolated tracklets) older) + once_if (is_isolated tracklets newest && (next_number older == k))) + n)) h
      ∙ regroup (times k (numbers_where is_retracted older)) (times k (numbers_where (is_isolated tracklets) older)) (times k (numbers_where (is_homed tracklets) older)) _ _ _
      ∙ ap (λ (n : ℕ). standing older + n) three
      ∙ ap (λ (n : ℕ). n + once_if (next_number older == k)) before
      ∙ sym more
      ∙ ap (λ (n : ℕ). once_if (is_accepted_number n k)) (rw add-one refl)

each_once : (held : Holdings) (acts : List LinkAct) (k : ℕ) → times k (objects_of held acts) ≡ times k (homed_of held)
    → times k (retracted_of held ++ (isolated_of held ++ objects_of held acts)) ≡ once_if (is_accepted_number (length held.observations) k)
each_once held acts k same =
    times_more k (retracted_of held) (isolated_of held ++ objects_of held acts)
    ∙ ap (λ (n : ℕ). times k (retracted_of held) + n) (times_more k (isolated_of held) (objects_of held acts))
    ∙ ap (λ (n : ℕ). times k (retracted_of held) + (times k (isolated_of held) + n)) same
    ∙ stands held.tracklets k held.observations

-- ---- counts

length_more : (xs : List ℕ) (n : ℕ) (b : Bool) → length (xs ++ cond b (n ∷ []) []) ≡ length xs + once_if b
length_more [] n true = refl
length_more [] n false = refl
length_more (x ∷ xs) n b = let rest = length_more xs n b in grind arith

counted : (p : Observation → Bool) (obs : List Observation) → count_by p obs ≡ length (numbers_where p obs)
counted p [] = refl
counted p (newest ∷ older) =
    sum_by-cons (λ o. cond (p o) 1 0) newest older
    ∙ swapped (once_if (p newest)) (count_by p older) _ (counted p older)
    ∙ sym (length_more (numbers_where p older) (next_number older) (p newest))
  where
    swapped : (b n m : ℕ) → n ≡ m → b + n ≡ m + b
    swapped b n m same = omega arith

-- the places of observations and tracklets together are all
abbrev pub AddsUp : Type 0
AddsUp = (tracklets : List Tracklet) (obs : List Observation) → isolated_in tracklets obs + homed_in tracklets obs + retracted_in obs ≡ length obs

pub one_place : AddsUp → EqualIsSame → StayOwn → PrincipalOnce → (history : List Entry) → OnePlace history
one_place adds_up equal stay principal_once history =
    let held = holdings (deeds history) in
    let acts = links_of (deeds history) in
    let s = sound equal stay history in
    let given = λ (t : ℕ) (d : Designation) (is : home_of held.tracklets t ≡ Some d). home_given acts held.tracklets t d s.homes is in
    let objects = objects_measure principal_once held acts s.own given in
    record {
      once = λ k. each_once held acts k (objects (times k) refl (times_more k));
      counts = record {
        isolated = counted (is_isolated held.tracklets) held.observations;
        objects = counted (is_homed held.tracklets) held.observations ∙ sym (objects length refl length-append);
        retracted = counted is_retracted held.observations;
        accepted = adds_up held.tracklets held.observations;
      };
      homes = given;
      own = s.own;
    }

-- ---- what deeds add

batch_adds : (receipt : ℕ) (lines : List Taken) (held : Holdings) → length (with_batch receipt lines held).observations ≡ length held.observations + accepted_in lines
batch_adds receipt [] held = omega arith
batch_adds receipt (taken ∷ lines) held =
    batch_adds receipt lines (with_found receipt taken.found held)
    ∙ by taken.found
    ∙ ap (λ (n : ℕ). length held.observations + n) (sym (sum_by-cons (λ t. cond (is_accepted t) 1 0) taken lines))
  where
    by : (found : Result Placed RuleCode) → length (with_found receipt found held).observations + accepted_in lines ≡ length held.observations + (cond (is_ok found) 1 0 + accepted_in lines)
    by (Ok placed) = omega arith
    by (Err rule) = omega arith

length_changed : (change : Observation → Observation) (obs : List Observation) (k : ℕ) → length (changed_at change obs k) ≡ length obs
length_changed change [] k = refl
length_changed change (newest ∷ older) k = by (k == next_number older) (length_changed change older k)
  where
    by : (b : Bool) → length (changed_at change older k) ≡ length older → length (cond b (change newest ∷ older) (newest ∷ changed_at change older k)) ≡ length (newest ∷ older)
    by true rest = refl
    by false rest = ap suc rest

none_more : (n : ℕ) → n ≡ n + 0
none_more n = omega arith

pub adds_lines : (past : List Deed) (deed : Deed) → observations (deed ∷ past) ≡ observations past + added_by deed
adds_lines past (Submitted lines) = batch_adds (next_number past) lines (holdings past)
adds_lines past (Retracted k) = length_changed (λ o. record o { live = false }) (holdings past).observations k ∙ none_more _
adds_lines past _ = none_more _

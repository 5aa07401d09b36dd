-- What was observed stays as an office goes on, and so do the designations that it gave.
use Rattle.std.proofs.Common.{◌≡◌, ℕ, ◌+◌, ◌≤◌, List, [], ◌∷◌, length, Bool, true, false, cond, Option, Some, None, option_map, Result, Ok, Err, refl, ap, ◌∙◌, arith}
use Rattle.std.specs.Prelude.{◌==◌, is_some}
use Rattle.std.specs.Ordering.{eq_by_cmp}
use Rattle.std.proofs.lemmas.Bool.Decides.{nat_tests}
use Rattle.packed_names.specs.declared.name.Designation.{Designation}
use Rattle.packed_names.specs.declared.name.Designation.TheVariants.{Provisional}
use Rattle.packed_names.specs.declared.provisional.Provisional.{Provisional as ProvisionalName}
use Rattle.packed_names.specs.Order.{designation_cmp}
use Rattle.obs_record.specs.declared.rule.RuleCode.{RuleCode}
use Rattle.obs_record.specs.declared.sighting.Sighting.{Sighting}
use Rattle.identify_core.specs.Acts.{LinkAct, is_principal_of, principal}
use Rattle.identify_core.specs.Acts.LinkAct.{Given}
use Rattle.tracklet_file.specs.declared.observation.Observation.{Observation}
use Rattle.tracklet_file.specs.Numbering.{next_number, numbered}
use Rattle.tracklet_file.specs.Observations.{sighting_of, with_observation, with_retraction}
use Rattle.act_model.specs.declared.deed.Deed.{Deed}
use Rattle.act_model.specs.declared.deed.Deed.TheVariants.{Enrolled, Stationed, Coded, Submitted, Designated, Attributed, Released, Identified, Separated, Judged, Numbered, Retracted, Opened, Nothing}
use Rattle.act_model.specs.declared.taken.Placed.{Placed}
use Rattle.act_model.specs.declared.taken.Taken.{Taken}
use Rattle.act_model.specs.Holdings.{Holdings, with_found, with_batch, holdings}
use Rattle.act_model.specs.Designations.{with_orders, with_all_given, links_of, is_given}

-- ---- observations

numbered_within : {A : Type 0} (items : List A) (k : ℕ) (x : A) → numbered items k ≡ Some x → k ≤ length items
numbered_within [] k x is = absurd cc
numbered_within (newest ∷ older) k x is = by (k == next_number older) refl (numbered_within older k x) is
  where
    by : (b : Bool) → (k == next_number older) ≡ b → (numbered older k ≡ Some x → k ≤ length older) → cond b (Some newest) (numbered older k) ≡ Some x → k ≤ length (newest ∷ older)
    by true same rest found = grind (arith, nat_tests)
    by false same rest found = let within = rest found in omega arith

-- what is the observation of some number
found_within : (observations : List Observation) (k : ℕ) (s : Sighting) → sighting_of observations k ≡ Some s → k ≤ length observations
found_within observations k s is = by (numbered observations k) refl is
  where
    by : (o : Option Observation) → numbered observations k ≡ o → option_map (λ o. o.sighting) o ≡ Some s → k ≤ length observations
    by None same found = absurd cc
    by (Some o) same found = numbered_within observations k o same

-- one observation more leaves those before it
sighted_with : (observations : List Observation) (track : ℕ) (new : Sighting) (receipt k : ℕ) (s : Sighting) → sighting_of observations k ≡ Some s
    → sighting_of (with_observation observations track new receipt) k ≡ Some s
sighted_with observations track new receipt k s is =
    let within = found_within observations k s is in
    let other : (k == next_number observations) ≡ false = grind (arith, nat_tests) in
    let newest : Observation = record { track = track; sighting = new; entry = receipt; live = true } in
    ap (λ (b : Bool). option_map (λ (o : Observation). o.sighting) (cond b (Some newest) (numbered observations k))) other ∙ is

sighted_found : (receipt : ℕ) (found : Result Placed RuleCode) (held : Holdings) (k : ℕ) (s : Sighting) → sighting_of held.observations k ≡ Some s
    → sighting_of (with_found receipt found held).observations k ≡ Some s
sighted_found receipt (Ok placed) held k s is = sighted_with held.observations placed.track placed.sighting receipt k s is
sighted_found receipt (Err rule) held k s is = is

sighted_batch : (receipt : ℕ) (lines : List Taken) (held : Holdings) (k : ℕ) (s : Sighting) → sighting_of held.observations k ≡ Some s
    → sighting_of (with_batch receipt lines held).observations k ≡ Some s
sighted_batch receipt [] held k s is = is
sighted_batch receipt (taken ∷ lines) held k s is = sighted_batch receipt lines (with_found receipt taken.found held) k s (sighted_found receipt taken.found held k s is)

retracted_length : (observations : List Observation) (j : ℕ) → length (with_retraction observations j) ≡ length observations
retracted_length [] j = refl
retracted_length (newest ∷ older) j = by (j == next_number older) (retracted_length older j)
  where
    by : (b : Bool) → length (with_retraction older j) ≡ length older → length (cond b (record newest { live = false } ∷ older) (newest ∷ with_retraction older j)) ≡ length (newest ∷ older)
    by true rest = refl
    by false rest = omega (arith, rest)

-- a retraction leaves what was observed
sighted_retracted : (observations : List Observation) (j k : ℕ) → sighting_of (with_retraction observations j) k ≡ sighting_of observations k
sighted_retracted [] j k = refl
sighted_retracted (newest ∷ older) j k = by (j == next_number older) (retracted_length older j) (sighted_retracted older j k)
  where
    either : (b : Bool) (one other : Observation) (rest more : Option Observation) → one.sighting ≡ other.sighting → option_map (λ o. o.sighting) rest ≡ option_map (λ o. o.sighting) more
        → option_map (λ o. o.sighting) (cond b (Some one) rest) ≡ option_map (λ o. o.sighting) (cond b (Some other) more)
    either true one other rest more same others = ap (λ (s : Sighting). Some s) same
    either false one other rest more same others = others

    by : (b : Bool) → length (with_retraction older j) ≡ length older → sighting_of (with_retraction older j) k ≡ sighting_of older k
        → sighting_of (cond b (record newest { live = false } ∷ older) (newest ∷ with_retraction older j)) k ≡ sighting_of (newest ∷ older) k
    by true long rest = either (k == next_number older) (record newest { live = false }) newest (numbered older k) (numbered older k) refl refl
    by false long rest =
        ap (λ (n : ℕ). option_map (λ (o : Observation). o.sighting) (cond (k == n + 1) (Some newest) (numbered (with_retraction older j) k))) long
        ∙ either (k == next_number older) newest newest (numbered (with_retraction older j) k) (numbered older k) refl rest

-- what was observed stays
pub sighting_stays : (deed : Deed) (past : List Deed) (k : ℕ) (s : Sighting) → sighting_of (holdings past).observations k ≡ Some s → sighting_of (holdings (deed ∷ past)).observations k ≡ Some s
sighting_stays (Submitted lines) past k s is = sighted_batch (next_number past) lines (holdings past) k s is
sighting_stays (Retracted j) past k s is = sighted_retracted (holdings past).observations j k ∙ is
sighting_stays (Enrolled member) past k s is = is
sighting_stays (Stationed code from to) past k s is = is
sighting_stays (Coded kind letter word) past k s is = is
sighting_stays (Designated tracklets given discovery) past k s is = is
sighting_stays (Attributed t to) past k s is = is
sighting_stays (Released t) past k s is = is
sighting_stays (Identified p q) past k s is = is
sighting_stays (Separated q) past k s is = is
sighting_stays (Judged p u oppositions) past k s is = is
sighting_stays (Numbered pairs) past k s is = is
sighting_stays (Opened half given carried) past k s is = is
sighting_stays Nothing past k s is = is

-- ---- designations

either_given : (b : Bool) (d : Designation) (o : Option Designation) → is_some o ≡ true → is_some (cond b (Some d) o) ≡ true
either_given true d o is = refl
either_given false d o is = is

parted_given : (b : Bool) (d : Designation) (o : Option Designation) → is_some o ≡ true → is_some (cond b (option_map (λ _. d) o) o) ≡ true
parted_given b d None is = absurd cc
parted_given true d (Some p) is = refl
parted_given false d (Some p) is = refl

carried_given : (half : List ProvisionalName) (acts : List LinkAct) (d : Designation) → is_given acts d ≡ true → is_given (with_all_given half acts) d ≡ true
carried_given [] acts d is = is
carried_given (given ∷ more) acts d is =
    carried_given more (Given (Provisional given) ∷ acts) d (either_given (eq_by_cmp designation_cmp (Provisional given) d) (Provisional given) (principal acts d) is)

-- a designation that was given stays given
pub given_stays : (deed : Deed) (past : List Deed) (d : Designation) → is_given (links_of past) d ≡ true → is_given (links_of (deed ∷ past)) d ≡ true
given_stays (Designated tracklets given discovery) past d is = either_given (eq_by_cmp designation_cmp (Provisional given) d) (Provisional given) (principal (links_of past) d) is
given_stays (Opened half given carried) past d is = carried_given (with_orders half carried) (links_of past) d is
given_stays (Identified p s) past d is = either_given (is_principal_of s (principal (links_of past) d)) p (principal (links_of past) d) is
given_stays (Separated s) past d is = parted_given (eq_by_cmp designation_cmp d s) s (principal (links_of past) d) is
given_stays (Enrolled member) past d is = is
given_stays (Stationed code from to) past d is = is
given_stays (Coded kind letter word) past d is = is
given_stays (Submitted lines) past d is = is
given_stays (Attributed t to) past d is = is
given_stays (Released t) past d is = is
given_stays (Judged p u oppositions) past d is = is
given_stays (Numbered pairs) past d is = is
given_stays (Retracted j) past d is = is
given_stays Nothing past d is = is

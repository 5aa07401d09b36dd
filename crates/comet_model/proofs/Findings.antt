-- What an office has of a designation stays as its history grows.
use Rattle.std.proofs.Common.{◌≡◌, ◌≢◌, ℕ, List, [], ◌∷◌, ◌++◌, Bool, true, false, cond, Option, Some, None, refl, sym, ap, subst, ◌∙◌, inl, inr}
use Rattle.std.specs.Prelude.{◌↔◌, is_some}
use Rattle.std.specs.Option.{option_and_then}
use Rattle.std.specs.Ordering.{eq_by_cmp}
use Rattle.std.proofs.lemmas.Bool.{cases_Bool}
use Rattle.packed_names.specs.declared.half_month.HalfMonth.{HalfMonth}
use Rattle.packed_names.specs.declared.name.Designation.{Designation}
use Rattle.packed_names.specs.declared.name.Designation.TheVariants.{Provisional}
use Rattle.packed_names.specs.declared.provisional.Provisional.{Provisional as ProvisionalName}
use Rattle.packed_names.specs.Order.{designation_cmp}
use Rattle.packed_names.specs.Ranges.{IsHalfMonth, IsDesignation}
use Rattle.obs_record.specs.declared.sighting.Sighting.{Sighting}
use Rattle.designate_core.specs.Takes.{RowAct, next_in, discovery_of}
use Rattle.identify_core.specs.Acts.{LinkAct}
use Rattle.tracklet_file.specs.Observations.{sighting_of}
use Rattle.act_model.specs.declared.deed.Deed.{Deed}
use Rattle.act_model.specs.declared.deed.Deed.TheVariants.{Enrolled, Stationed, Coded, Submitted, Designated, Attributed, Released, Identified, Separated, Judged, Numbered, Retracted, Opened, Nothing}
use Rattle.act_model.specs.declared.entry.Entry.{Entry}
use Rattle.act_model.specs.Conducts.{Extends}
use Rattle.act_model.specs.Deeds.{deed_of, deeds}
use Rattle.act_model.specs.Designations.{row_acts_of, links_of, is_given}
use Rattle.act_model.specs.Discoveries.{half_of}
use Rattle.act_model.specs.Fitting.{IsNew}
use Rattle.act_model.specs.Holdings.{holdings}
use Rattle.comet_model.specs.declared.named.Found.{Found}
use Rattle.comet_model.specs.declared.named.Found.TheVariants.{NotGiven, Discovered}
use Rattle.comet_model.specs.Finding.{discovery, found_by, found_of}
use Rattle.comet_model.proofs.Designating.{ActsFit, IsDiscoveredIn, DiscoversObject, deed_discovers}
use Rattle.comet_model.proofs.Sightings.{sighting_stays, given_stays}

-- designations compare equal exactly where they are the same
abbrev pub AreSame : Type 0
AreSame = (one other : Designation) → (eq_by_cmp designation_cmp one other ≡ true) ↔ (one ≡ other)

-- ---- which observation discovered an object

-- the designation isn't the one that is given just now
apart : (same : AreSame) (acts : List LinkAct) (rows : List RowAct) (given : ProvisionalName) (d : Designation) → IsNew rows acts given → is_given acts d ≡ true
    → eq_by_cmp designation_cmp d (Provisional (next_in given.half rows)) ≡ false
apart same acts rows given d new is = elim (cases_Bool (eq_by_cmp designation_cmp d (Provisional (next_in given.half rows)))) [
  | inl it ↦
      let named : d ≡ Provisional given = (same d (Provisional (next_in given.half rows))).0 it ∙ ap (λ (p : ProvisionalName). Provisional p) (sym new.next) in
      let unknown : is_given acts d ≡ false = ap (is_given acts) named ∙ ap (λ (o : Option Designation). is_some o) new.unknown in
      absurd cc
  | inr other ↦ other
]

-- the observation by which the object of a designation was discovered stays the same
number_stays : (same : AreSame) (deed : Deed) (past : List Deed) → DiscoversObject past deed → (d : Designation) → is_given (links_of past) d ≡ true
    → discovery_of d (row_acts_of (deed ∷ past)) ≡ discovery_of d (row_acts_of past)
number_stays same (Designated tracklets given k) past discovers d is =
    ap (λ (b : Bool). cond b (Some k) (discovery_of d (row_acts_of past))) (apart same (links_of past) (row_acts_of past) given d discovers.0 is)
number_stays same (Opened half given carried) past discovers d is = refl
number_stays same (Identified p s) past discovers d is = refl
number_stays same (Separated s) past discovers d is = refl
number_stays same (Enrolled member) past discovers d is = refl
number_stays same (Stationed code from to) past discovers d is = refl
number_stays same (Coded kind letter word) past discovers d is = refl
number_stays same (Submitted lines) past discovers d is = refl
number_stays same (Attributed t to) past discovers d is = refl
number_stays same (Released t) past discovers d is = refl
number_stays same (Judged p u oppositions) past discovers d is = refl
number_stays same (Numbered pairs) past discovers d is = refl
number_stays same (Retracted k) past discovers d is = refl
number_stays same Nothing past discovers d is = refl

-- the observation that discovered the object of a designation is there, and is of the designation's half-month
record IsDiscovered (past : List Deed) (d : Designation) (k : ℕ) : Type 0 where
  name : ProvisionalName
  is_name : d ≡ Provisional name
  sighted : IsDiscoveredIn (holdings past).observations k name.half

still_discovered : (deed : Deed) (past : List Deed) (d : Designation) (k : ℕ) → IsDiscovered past d k → IsDiscovered (deed ∷ past) d k
still_discovered deed past d k is =
    let (s, found, half) = is.sighted in record { name = is.name; is_name = is.is_name; sighted = (s, sighting_stays deed past k s found, half) }

-- an observation with this number
abbrev observed : ℕ → Option ℕ
observed k = Some k

discovered_with : (same : AreSame) (deed : Deed) (past : List Deed) → DiscoversObject past deed → ((d : Designation) (k : ℕ) → discovery_of d (row_acts_of past) ≡ Some k → IsDiscovered past d k)
    → (d : Designation) (k : ℕ) → discovery_of d (row_acts_of (deed ∷ past)) ≡ Some k → IsDiscovered (deed ∷ past) d k
discovered_with same (Designated tracklets given j) past discovers before d k is =
    elim (cases_Bool (eq_by_cmp designation_cmp d (Provisional (next_in given.half (row_acts_of past))))) [
      | inl it ↦
          let named : d ≡ Provisional given = (same d (Provisional (next_in given.half (row_acts_of past)))).0 it ∙ ap (λ (p : ProvisionalName). Provisional p) (sym discovers.0.next) in
          let number : observed j ≡ Some k = sym (ap (λ (b : Bool). cond b (Some j) (discovery_of d (row_acts_of past))) it) ∙ is in
          let number_is : j ≡ k = cc in
          record { name = given; is_name = named; sighted = subst (λ (n : ℕ). IsDiscoveredIn (holdings past).observations n given.half) number_is discovers.1 }
      | inr other ↦
          still_discovered (Designated tracklets given j) past d k
          (before d k (sym (ap (λ (b : Bool). cond b (Some j) (discovery_of d (row_acts_of past))) other) ∙ is))
    ]
discovered_with same (Opened half given carried) past discovers before d k is = still_discovered (Opened half given carried) past d k (before d k is)
discovered_with same (Identified p s) past discovers before d k is = still_discovered (Identified p s) past d k (before d k is)
discovered_with same (Separated s) past discovers before d k is = still_discovered (Separated s) past d k (before d k is)
discovered_with same (Enrolled member) past discovers before d k is = still_discovered (Enrolled member) past d k (before d k is)
discovered_with same (Stationed code from to) past discovers before d k is = still_discovered (Stationed code from to) past d k (before d k is)
discovered_with same (Coded kind letter word) past discovers before d k is = still_discovered (Coded kind letter word) past d k (before d k is)
discovered_with same (Submitted lines) past discovers before d k is = still_discovered (Submitted lines) past d k (before d k is)
discovered_with same (Attributed t to) past discovers before d k is = still_discovered (Attributed t to) past d k (before d k is)
discovered_with same (Released t) past discovers before d k is = still_discovered (Released t) past d k (before d k is)
discovered_with same (Judged p u oppositions) past discovers before d k is = still_discovered (Judged p u oppositions) past d k (before d k is)
discovered_with same (Numbered pairs) past discovers before d k is = still_discovered (Numbered pairs) past d k (before d k is)
discovered_with same (Retracted j) past discovers before d k is = still_discovered (Retracted j) past d k (before d k is)
discovered_with same Nothing past discovers before d k is = still_discovered Nothing past d k (before d k is)

module _ (same : AreSame) (fit : ActsFit) where
  are_discovered : (history : List Entry) (d : Designation) (k : ℕ) → discovery_of d (row_acts_of (deeds history)) ≡ Some k → IsDiscovered (deeds history) d k
  are_discovered [] d k is = absurd cc
  are_discovered (e ∷ past) d k is = discovered_with same (deed_of (deeds past) e) (deeds past) (deed_discovers fit past e) (are_discovered past) d k is

  -- ---- what there is of a designation

  -- a discovery that is there stays
  seen_stays : (deed : Deed) (past : List Deed) (o : Option ℕ) → ((k : ℕ) → o ≡ Some k → (s : Sighting) × (sighting_of (holdings past).observations k ≡ Some s))
      → option_and_then (sighting_of (holdings (deed ∷ past)).observations) o ≡ option_and_then (sighting_of (holdings past).observations) o
  seen_stays deed past None there = refl
  seen_stays deed past (Some k) there = let (s, is) = there k refl in sighting_stays deed past k s is ∙ sym is

  found_stays : (history : List Entry) (e : Entry) (d : Designation) → is_given (links_of (deeds history)) d ≡ true → found_of (deeds (e ∷ history)) d ≡ found_of (deeds history) d
  unfolding found_of
  found_stays history e d is =
      let past : List Deed = deeds history in
      let deed : Deed = deed_of past e in
      let given = given_stays deed past d is in
      let number = number_stays same deed past (deed_discovers fit history e) d is in
      let seen = seen_stays deed past (discovery_of d (row_acts_of past)) (λ k found. let there = (are_discovered history d k found).sighted in (there.0, there.1)) in
      let still : discovery (deed ∷ past) d ≡ discovery past d = ap (option_and_then (sighting_of (holdings (deed ∷ past)).observations)) number ∙ seen in
      ap (λ (b : Bool). found_by b (discovery (deed ∷ past) d)) (given ∙ sym is) ∙ ap (found_by (is_given (links_of past) d)) still

  -- what was found of a designation that the office gave
  given_found : (desk : List Deed) (d : Designation) (found : Found) → found_of desk d ≡ found → found ≢ NotGiven → is_given (links_of desk) d ≡ true
  unfolding found_of
  given_found desk d found is not = by (is_given (links_of desk) d) is
    where
      by : (b : Bool) → found_by b (discovery desk d) ≡ found → b ≡ true
      by true same = refl
      by false same = absurd (not (sym same))

  found_after : (newer history : List Entry) (d : Designation) → found_of (deeds history) d ≢ NotGiven → found_of (deeds (newer ++ history)) d ≡ found_of (deeds history) d
  found_after [] history d not = refl
  found_after (e ∷ newer) history d not =
      let before = found_after newer history d not in
      found_stays (newer ++ history) e d (given_found (deeds (newer ++ history)) d (found_of (deeds history) d) before not) ∙ before

  -- what the office has of a designation that it gave stays
  pub found_longer : (earlier later : List Entry) (d : Designation) → Extends earlier later → found_of (deeds earlier) d ≢ NotGiven → found_of (deeds later) d ≡ found_of (deeds earlier) d
  found_longer earlier later d (newer, is) not = ap (λ (h : List Entry). found_of (deeds h) d) is ∙ found_after newer earlier d not

  -- ---- half-months of discoveries

  -- the half-month in which the object of a designation was discovered is the designation's own
  pub record HasHalf (d : Designation) (half : HalfMonth) : Type 0 where
    pub name : ProvisionalName
    pub is_name : d ≡ Provisional name
    pub is_half : name.half ≡ half

  pub half_found : (history : List Entry) (d : Designation) (half : HalfMonth) → found_of (deeds history) d ≡ Discovered half → HasHalf d half
  unfolding found_of
  half_found history d half is = by_given (is_given (links_of (deeds history)) d) is
    where
      by_sighting : (k : ℕ) → discovery_of d (row_acts_of (deeds history)) ≡ Some k → (o : Option Sighting) → sighting_of (holdings (deeds history)).observations k ≡ o
          → found_by true o ≡ Discovered half → HasHalf d half
      by_sighting k number None seen found = absurd cc
      by_sighting k number (Some s) seen found =
          let it = are_discovered history d k number in
          let (t, there, half_is) = it.sighted in
          let same_sighting : s ≡ t = cc in
          let discovered : half_of s.time ≡ half = cc in
          record { name = it.name; is_name = it.is_name; is_half = sym half_is ∙ ap (λ (x : Sighting). half_of x.time) (sym same_sighting) ∙ discovered }

      by_number : (o : Option ℕ) → discovery_of d (row_acts_of (deeds history)) ≡ o → found_by true (option_and_then (sighting_of (holdings (deeds history)).observations) o) ≡ Discovered half → HasHalf d half
      by_number None number found = absurd cc
      by_number (Some k) number found = by_sighting k number (sighting_of (holdings (deeds history)).observations k) refl found

      by_given : (b : Bool) → found_by b (discovery (deeds history) d) ≡ Discovered half → HasHalf d half
      by_given true found = by_number (discovery_of d (row_acts_of (deeds history))) refl found
      by_given false found = absurd cc

  module _ (named : (history : List Entry) (d : Designation) → is_given (links_of (deeds history)) d ≡ true → IsDesignation d) where
    -- it is one of the years 1925 to 2099
    pub half_is_one : (history : List Entry) (d : Designation) (half : HalfMonth) → found_of (deeds history) d ≡ Discovered half → IsHalfMonth half
    half_is_one history d half is =
        let own = half_found history d half is in
        let given = given_found (deeds history) d (Discovered half) is (λ none. cc) in
        let designation : IsDesignation (Provisional own.name) = subst IsDesignation own.is_name (named history d given) in
        subst IsHalfMonth own.is_half designation.half

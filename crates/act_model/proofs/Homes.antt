-- What stands in every history: the homes of tracklets and what was numbered were given, and principals are their own.
use Rattle.std.proofs.Common.{◌≡◌, ◌≢◌, ◌↔◌, ℕ, ◌+◌, ℤ, List, [], ◌∷◌, All, Bool, true, false, cond, Option, Some, None, option_map, IfSome, IsTrue, Result, Ok, Err, refl, ap, subst, ◌∙◌}
use Rattle.std.specs.Prelude.{not, ◌&&◌, ◌==◌, is_some, reverse, take, option_and_then}
use Rattle.std.specs.Ordering.{eq_by_cmp}
use Rattle.std.proofs.lemmas.List.Elements.{All-nil, All-cons, All-head, All-tail, All-append, All-take, All-filter, All-weaker, filter_passes}
use Rattle.std.proofs.lemmas.List.Sorted.{All-permutation, IsPermutation-reverse}
use Rattle.packed_names.specs.declared.name.Designation.{Designation}
use Rattle.packed_names.specs.declared.name.Designation.TheVariants.{Provisional}
use Rattle.packed_names.specs.declared.name.Name.{Name}
use Rattle.packed_names.specs.declared.name.Name.TheVariants as names
use Rattle.packed_names.specs.Order.{designation_cmp}
use Rattle.identify_core.specs.Acts.{LinkAct, principal, principal_after, is_principal_of, given_in_order}
use Rattle.identify_core.specs.Acts.LinkAct.{Given, Joined, Parted}
use Rattle.identify_core.specs.Principals.{FitsLinks, AreTheirOwn}
use Rattle.numbering_core.specs.declared.numbering.Numbering.{Numbering}
use Rattle.numbering_core.specs.Numbers.{named}
use Rattle.obs_record.specs.declared.line.Line.{Line}
use Rattle.obs_record.specs.declared.name.TrackName.{TrackName}
use Rattle.obs_record.specs.declared.name.TrackName.TheVariants as tracks
use Rattle.obs_record.specs.declared.rule.RuleCode.{RuleCode}
use Rattle.obs_record.specs.declared.sighting.Sighting.{Sighting}
use Rattle.tracklet_file.specs.declared.tracklet.Tracklet.{Tracklet}
use Rattle.tracklet_file.specs.Numbering.{next_number, numbered}
use Rattle.tracklet_file.specs.Tracklets.{with_tracklet, with_home, home_of}
use Rattle.act_model.specs.declared.act.Act.{Act}
use Rattle.act_model.specs.declared.act.Act.TheVariants as act
use Rattle.act_model.specs.declared.deed.Deed.{Deed}
use Rattle.act_model.specs.declared.deed.Deed.TheVariants.{Submitted, Designated, Attributed, Released, Identified, Separated, Numbered, Opened}
use Rattle.act_model.specs.declared.entry.Entry.{Entry}
use Rattle.act_model.specs.declared.reply.Refusal.{Refusal}
use Rattle.act_model.specs.declared.reply.Refusal.TheVariants.{NotPrincipal, SameObject, BothNumbered, NumberedSecondary, NotSecondary}
use Rattle.act_model.specs.declared.ruling.Ruling.{Ruling}
use Rattle.act_model.specs.declared.taken.Placed.{Placed}
use Rattle.act_model.specs.declared.taken.Taken.{Taken}
use Rattle.act_model.specs.BatchRules.{name_of, batch_rulings}
use Rattle.act_model.specs.Deeds.{deed_of, deeds}
use Rattle.act_model.specs.Designations.{links_of, is_given, is_principal, principals, row_acts_of, with_orders}
use Rattle.act_model.specs.Doing.{does, designation_row, attribute_rows, identify_rows, separate_rows, free_rows, is_numbered, eligible_after, taken_after}
use Rattle.act_model.specs.Holdings.{Holdings, holdings, with_begun, with_found, with_batch, with_homes}
use Rattle.act_model.specs.Known.{KnownOffice}
use Rattle.act_model.specs.Knowing.{stands_for, known_of}
use Rattle.act_model.specs.Numbers.{numbers_of, numbered_from, is_eligible}
use Rattle.act_model.specs.OfficeTables.{tables_of}
use Rattle.act_model.specs.Rows.{first_row, unless}
use Rattle.act_model.specs.Taken.{first_home, found_in, taken_lines, tracks_with, track_of_group}
use Rattle.act_model.specs.Verdicts.{verdicts_of}
use Rattle.act_model.proofs.Carried.{all_keep}
use Rattle.act_model.proofs.DeedCases.{deed_cases}
use Rattle.act_model.proofs.Designating.{designated}
use Rattle.act_model.proofs.Legal.{same_deed}

-- ---- what other crates say

abbrev pub EqualIsSame : Type 0
EqualIsSame = (d e : Designation) → (eq_by_cmp designation_cmp d e ≡ true) ↔ (d ≡ e)

abbrev pub StayOwn : Type 0
StayOwn = (act : LinkAct) (past : List LinkAct) → FitsLinks act past → AreTheirOwn past → AreTheirOwn (act ∷ past)

-- ---- what is given

abbrev pub IsGivenTo : List LinkAct → Designation → Type 0
IsGivenTo acts d = IsTrue (is_given acts d)

-- a home that is there was given
abbrev pub HomeGiven : List LinkAct → Option Designation → Type 0
HomeGiven acts home = IfSome home (IsGivenTo acts)

abbrev pub HomesGiven : List LinkAct → List Tracklet → Type 0
HomesGiven acts [] = Unit {0}
HomesGiven acts (newest ∷ older) = HomeGiven acts newest.home × HomesGiven acts older

-- what was numbered was given
abbrev pub NumberGiven : List LinkAct → Numbering → Type 0
NumberGiven acts n = IsGivenTo acts n.designation

either_some : (b : Bool) (x : Designation) (before : Option Designation) → IsTrue (is_some before) → IsTrue (is_some (cond b (Some x) before))
either_some true x before some = refl
either_some false x before some = some

-- what was given stays so
after_given : (act : LinkAct) (d : Designation) (before : Option Designation) → IsTrue (is_some before) → IsTrue (is_some (principal_after act d before))
after_given (Given e) d before some = either_some (eq_by_cmp designation_cmp e d) e before some
after_given (Joined p s) d before some = either_some (is_principal_of s before) p before some
after_given (Parted s) d None some = absurd cc
after_given (Parted s) d (Some p) some = either_some (eq_by_cmp designation_cmp d s) s (Some p) some

still_given : (act : LinkAct) (acts : List LinkAct) (d : Designation) → IsGivenTo acts d → IsGivenTo (act ∷ acts) d
still_given act acts d given = after_given act d (principal acts d) given

still_home : (act : LinkAct) (acts : List LinkAct) (home : Option Designation) → HomeGiven acts home → HomeGiven (act ∷ acts) home
still_home act acts None given = tt
still_home act acts (Some d) given = still_given act acts d given

still_homes : (act : LinkAct) (acts : List LinkAct) (tracklets : List Tracklet) → HomesGiven acts tracklets → HomesGiven (act ∷ acts) tracklets
still_homes act acts [] given = tt
still_homes act acts (newest ∷ older) given = (still_home act acts newest.home given.0, still_homes act acts older given.1)

still_numbers : (act : LinkAct) (acts : List LinkAct) (ns : List Numbering) → All (NumberGiven acts) ns → All (NumberGiven (act ∷ acts)) ns
still_numbers act acts ns given = All-weaker (NumberGiven acts) (NumberGiven (act ∷ acts)) (λ n is. still_given act acts n.designation is) ns given

-- ---- homes of tracklets

module _ (acts : List LinkAct) where
  some_is : (e d : Designation) → Some e ≡ Some d → e ≡ d
  some_is e d is = cc

  home_is : (home : Option Designation) (d : Designation) → HomeGiven acts home → home ≡ Some d → IsGivenTo acts d
  home_is None d given is = absurd cc
  home_is (Some e) d given is = subst (IsGivenTo acts) (some_is e d is) given

  pub home_given : (tracklets : List Tracklet) (t : ℕ) (d : Designation) → HomesGiven acts tracklets → home_of tracklets t ≡ Some d → IsGivenTo acts d
  home_given [] t d given is = absurd cc
  home_given (newest ∷ older) t d given is = by (t == next_number older) (home_given older t d given.1) is
    where
      by : (b : Bool) → (home_of older t ≡ Some d → IsGivenTo acts d) → option_and_then (λ tracklet. tracklet.home) (cond b (Some newest) (numbered older t)) ≡ Some d → IsGivenTo acts d
      by true rest here = home_is newest.home d given.0 here
      by false rest there = rest there

  home_changed : (tracklets : List Tracklet) (t : ℕ) (home : Option Designation) → HomesGiven acts tracklets → HomeGiven acts home → HomesGiven acts (with_home tracklets t home)
  home_changed [] t home given is = tt
  home_changed (newest ∷ older) t home given is = by (t == next_number older) (home_changed older t home given.1 is)
    where
      by : (b : Bool) → HomesGiven acts (with_home older t home) → HomesGiven acts (cond b (record newest { home = home } ∷ older) (newest ∷ with_home older t home))
      by true rest = (is, given.1)
      by false rest = (given.0, rest)

  homes_changed : (tracklets : List Tracklet) (ts : List ℕ) (home : Option Designation) → HomesGiven acts tracklets → HomeGiven acts home → HomesGiven acts (with_homes tracklets ts home)
  homes_changed tracklets [] home given is = given
  homes_changed tracklets (t ∷ more) home given is = homes_changed (with_home tracklets t home) more home (home_changed tracklets t home given is) is

  -- ---- batches

  abbrev FoundGiven : Result Placed RuleCode → Type 0
  FoundGiven (Ok placed) = HomeGiven acts placed.home
  FoundGiven (Err rule) = Unit {0}

  abbrev pub BatchGiven : List Taken → Type 0
  BatchGiven [] = Unit {0}
  BatchGiven (taken ∷ lines) = FoundGiven taken.found × BatchGiven lines

  begun : (placed : Placed) (tracklets : List Tracklet) → HomeGiven acts placed.home → HomesGiven acts tracklets → HomesGiven acts (with_begun placed tracklets)
  begun placed tracklets home given = by (placed.track == next_number tracklets)
    where
      by : (b : Bool) → HomesGiven acts (cond b (with_tracklet tracklets (name_of placed.sighting) placed.sighting.station placed.home) tracklets)
      by true = (home, given)
      by false = given

  found_more : (receipt : ℕ) (found : Result Placed RuleCode) (held : Holdings) → FoundGiven found → HomesGiven acts held.tracklets → HomesGiven acts (with_found receipt found held).tracklets
  found_more receipt (Ok placed) held home given = begun placed held.tracklets home given
  found_more receipt (Err rule) held home given = given

  batch_more : (receipt : ℕ) (lines : List Taken) (held : Holdings) → BatchGiven lines → HomesGiven acts held.tracklets → HomesGiven acts (with_batch receipt lines held).tracklets
  batch_more receipt [] held homes given = given
  batch_more receipt (taken ∷ lines) held homes given =
      batch_more receipt lines (with_found receipt taken.found held) homes.1 (found_more receipt taken.found held homes.0 given)

  module _ (known : KnownOffice) (answers : (name : Name) → HomeGiven acts (known.stands_for name)) where
    first_given : (name : TrackName) → HomeGiven acts (first_home known name)
    first_given (tracks.Number number) = answers (names.Number number)
    first_given (tracks.Designation d) = answers (names.Designation d)
    first_given (tracks.Sub sub) = tt

    found_given : (track : ℕ) (read : Result Sighting RuleCode) (fault : Option RuleCode) → FoundGiven (found_in known track read fault)
    found_given track (Ok s) (Some rule) = tt
    found_given track (Err r) (Some rule) = tt
    found_given track (Ok s) None = first_given (name_of s)
    found_given track (Err rule) None = tt

    batch_given : (before now : ℕ) (lines : List Line) (rulings : List Ruling) → BatchGiven (taken_lines known before now lines rulings)
    batch_given before now [] rulings = tt
    batch_given before now (line ∷ lines) [] = tt
    batch_given before now (line ∷ lines) (ruling ∷ rulings) = (
      found_given (track_of_group before now ruling.group) line.read ruling.fault,
      batch_given before (tracks_with now (found_in known (track_of_group before now ruling.group) line.read ruling.fault)) lines rulings,
    )

  -- ---- numbers

  pub named_given : (ns : List Numbering) (n : ℕ) → All (NumberGiven acts) ns → HomeGiven acts (named ns n)
  named_given [] n given = tt
  named_given (newest ∷ past) n given = by (newest.number.0 == n) (named_given past n (All-tail (NumberGiven acts) newest past given))
    where
      by : (b : Bool) → HomeGiven acts (named past n) → HomeGiven acts (cond b (Some newest.designation) (named past n))
      by true rest = All-head (NumberGiven acts) newest past given
      by false rest = rest

  itself_given : (d : Designation) (o : Option Designation) → principal acts d ≡ o → HomeGiven acts (option_map (λ (_ : Designation). d) o)
  itself_given d None is = tt
  itself_given d (Some p) is = ap is_some is

  stands_given : (ns : List Numbering) → All (NumberGiven acts) ns → (name : Name) → HomeGiven acts (stands_for acts ns name)
  stands_given ns given (names.Number number) = named_given ns number.0 given
  stands_given ns given (names.Designation d) = itself_given d (principal acts d) refl

  numbered_given : (first : ℕ) (ds : List Designation) → All (IsGivenTo acts) ds → All (NumberGiven acts) (numbered_from first ds)
  numbered_given first [] given = All-nil (NumberGiven acts)
  numbered_given first (d ∷ more) given =
      All-cons (NumberGiven acts) (record { designation = d; number = record { 0 = first } }) (numbered_from (first + 1) more) (All-head (IsGivenTo acts) d more given)
      (numbered_given (first + 1) more (All-tail (IsGivenTo acts) d more given))

  reversed_given : (ns : List Numbering) → All (NumberGiven acts) ns → All (NumberGiven acts) (reverse ns)
  reversed_given ns given = All-permutation (NumberGiven acts) ns (reverse ns) (IsPermutation-reverse ns) given

  own_given : (d : Designation) (o : Option Designation) → is_principal_of d o ≡ true → IsTrue (is_some o)
  own_given d None own = absurd cc
  own_given d (Some p) own = refl

  principals_given : All (IsGivenTo acts) (principals acts)
  principals_given =
      All-weaker (λ d. is_principal acts d ≡ true) (IsGivenTo acts) (λ d own. own_given d (principal acts d) own) (principals acts)
      (filter_passes (is_principal acts) (given_in_order acts))

-- ---- deeds

-- what of a deed a tracklet's home, a number or a principal rests on
abbrev pub Fits : List Deed → Deed → Type 0
Fits past (Submitted lines) = BatchGiven (links_of past) lines
Fits past (Attributed t to) = IsGivenTo (links_of past) to
Fits past (Identified p s) = FitsLinks (Joined p s) (links_of past)
Fits past (Separated s) = FitsLinks (Parted s) (links_of past)
Fits past (Numbered pairs) = All (NumberGiven (links_of past)) pairs
Fits past _ = Unit {0}

pub record Sound (past : List Deed) : Type 0 where
  pub homes : HomesGiven (links_of past) (holdings past).tracklets
  pub numbers : All (NumberGiven (links_of past)) (numbers_of past)
  pub own : AreTheirOwn (links_of past)

module _ (equal : EqualIsSame) (stay : StayOwn) where
  itself : (d : Designation) → eq_by_cmp designation_cmp d d ≡ true
  itself d = (equal d d).1 refl

  new_given : (d : Designation) (acts : List LinkAct) → IsGivenTo (Given d ∷ acts) d
  new_given d acts = ap (λ (b : Bool). is_some (cond b (Some d) (principal acts d))) (itself d)

  sound_more : (past : List Deed) (deed : Deed) → Sound past → Fits past deed → Sound (deed ∷ past)
  sound_more past (Submitted lines) s fits = record {
    homes = batch_more (links_of past) (next_number past) lines (holdings past) fits s.homes;
    numbers = s.numbers;
    own = s.own;
  }
  sound_more past (Designated tracklets given discovery) s fits =
      let acts = links_of past in
      let new : LinkAct = Given (Provisional given) in
      record {
        homes = homes_changed (new ∷ acts) (holdings past).tracklets tracklets (Some (Provisional given)) (still_homes new acts (holdings past).tracklets s.homes)
            (new_given (Provisional given) acts);
        numbers = still_numbers new acts (numbers_of past) s.numbers;
        own = stay new acts tt s.own;
      }
  sound_more past (Attributed t to) s fits = record {
    homes = home_changed (links_of past) (holdings past).tracklets t (Some to) s.homes fits;
    numbers = s.numbers;
    own = s.own;
  }
  sound_more past (Released t) s fits = record {
    homes = home_changed (links_of past) (holdings past).tracklets t None s.homes tt;
    numbers = s.numbers;
    own = s.own;
  }
  sound_more past (Identified p q) s fits = record {
    homes = still_homes (Joined p q) (links_of past) (holdings past).tracklets s.homes;
    numbers = still_numbers (Joined p q) (links_of past) (numbers_of past) s.numbers;
    own = stay (Joined p q) (links_of past) fits s.own;
  }
  sound_more past (Separated q) s fits = record {
    homes = still_homes (Parted q) (links_of past) (holdings past).tracklets s.homes;
    numbers = still_numbers (Parted q) (links_of past) (numbers_of past) s.numbers;
    own = stay (Parted q) (links_of past) fits s.own;
  }
  sound_more past (Numbered pairs) s fits = record {
    homes = s.homes;
    numbers = All-append (NumberGiven (links_of past)) (reverse pairs) (numbers_of past) (reversed_given (links_of past) pairs fits) s.numbers;
    own = s.own;
  }
  sound_more past (Opened half given carried) s fits =
      let acts = links_of past in
      let names = with_orders half carried in
      record {
        homes = all_keep (λ acts. HomesGiven acts (holdings past).tracklets) (λ d acts is. still_homes (Given (Provisional d)) acts (holdings past).tracklets is) names acts s.homes;
        numbers = all_keep (λ acts. All (NumberGiven acts) (numbers_of past)) (λ d acts is. still_numbers (Given (Provisional d)) acts (numbers_of past) is) names acts s.numbers;
        own = all_keep (λ acts. AreTheirOwn acts) (λ d acts is. stay (Given (Provisional d)) acts tt is) names acts s.own;
      }
  sound_more past _ s fits = record { homes = s.homes; numbers = s.numbers; own = s.own }

  -- ---- what isn't refused fits

  passed : {A : Type 0} (b : Bool) (r : A) (rows : List (Bool × A)) → cond b (Some r) (first_row rows) ≡ None → (b ≡ false) × (first_row rows ≡ None)
  passed true r rows is = absurd cc
  passed false r rows is = (refl, is)

  negated : (b : Bool) → not b ≡ false → b ≡ true
  negated true is = refl
  negated false is = absurd cc

  is_own : (d : Designation) (o : Option Designation) → is_principal_of d o ≡ true → o ≡ Some d
  is_own d None own = absurd cc
  is_own d (Some q) own = ap Some ((equal q d).0 own)

  own_is : (d : Designation) (o : Option Designation) → is_principal_of d o ≡ false → o ≡ Some d → ⊥
  own_is d o own is = let same : is_principal_of d o ≡ true = ap (is_principal_of d) is ∙ itself d in cc

  apart : (p s : Designation) → eq_by_cmp designation_cmp p s ≡ false → p ≢ s
  apart p s not_equal same = let equal_too : eq_by_cmp designation_cmp p s ≡ true = (equal p s).1 same in cc

  fits_unless : (past : List Deed) (o : Option Refusal) (done deed : Deed) → (o ≡ None → Fits past done) → unless o (Ok done) ≡ Ok deed → Fits past deed
  fits_unless past o done deed fits is = let s = same_deed o done deed is in subst (Fits past) s.1 (fits s.0)

  module _ (past : List Deed) (moment : ℤ) (s : Sound past) where
    taken_given : (lines : List Line) → BatchGiven (links_of past) (taken_after past moment lines)
    taken_given lines =
        batch_given (links_of past) (known_of past) (stands_given (links_of past) (numbers_of past) s.numbers) _ _ lines (batch_rulings (known_of past) (tables_of past) moment lines)

    attributed : (t : ℕ) (to : Designation) → first_row (attribute_rows (holdings past) (links_of past) t to) ≡ None → IsGivenTo (links_of past) to
    attributed t to is =
        let there = passed _ _ (designation_row (links_of past) to ∷ free_rows (holdings past) t) is in
        negated (is_given (links_of past) to) (passed _ _ (free_rows (holdings past) t) there.1).0

    identified : (p q : Designation) → first_row (identify_rows (links_of past) (numbers_of past) p q) ≡ None → FitsLinks (Joined p q) (links_of past)
    identified p q is =
        let acts = links_of past in
        let ns = numbers_of past in
        let last : List (Bool × Refusal) = (is_numbered ns p && is_numbered ns q, BothNumbered) ∷ (is_numbered ns q, NumberedSecondary) ∷ [] in
        let same : List (Bool × Refusal) = (eq_by_cmp designation_cmp p q, SameObject) ∷ last in
        let second : List (Bool × Refusal) = (not (is_principal acts q), NotPrincipal q) ∷ same in
        let first : List (Bool × Refusal) = (not (is_principal acts p), NotPrincipal p) ∷ second in
        let one = passed _ _ (designation_row acts q ∷ first) is in
        let two = passed _ _ first one.1 in
        let three = passed (not (is_principal acts p)) (NotPrincipal p) second two.1 in
        let four = passed (not (is_principal acts q)) (NotPrincipal q) same three.1 in
        let five = passed (eq_by_cmp designation_cmp p q) SameObject last four.1 in
        (is_own p (principal acts p) (negated (is_principal acts p) three.0), is_own q (principal acts q) (negated (is_principal acts q) four.0), apart p q five.0)

    separated : (q : Designation) → first_row (separate_rows (links_of past) q) ≡ None → FitsLinks (Parted q) (links_of past)
    separated q is =
        let rows : List (Bool × Refusal) = (is_principal (links_of past) q, NotSecondary q) ∷ [] in
        let one = passed _ _ rows is in
        let two = passed (is_principal (links_of past) q) (NotSecondary q) [] one.1 in
        own_is q (principal (links_of past) q) two.0

    eligible_given : (most : ℕ) → All (IsGivenTo (links_of past)) (take most (eligible_after past))
    eligible_given most =
        All-take (IsGivenTo (links_of past)) most (eligible_after past)
        (All-filter (is_eligible (holdings past) (links_of past) (verdicts_of past) (numbers_of past)) (IsGivenTo (links_of past)) (principals (links_of past)) (principals_given (links_of past)))

    act_fits : (a : Act) (deed : Deed) → does past moment a ≡ Ok deed → Fits past deed
    unfolding does
    act_fits (act.Submit80 lines) deed is = fits_unless past _ _ deed (λ _. taken_given lines) is
    act_fits (act.SubmitPsv lines) deed is = fits_unless past _ _ deed (λ _. taken_given lines) is
    act_fits (act.Designate tracklets) deed is = (let d = designated (holdings past) (row_acts_of past) tracklets deed is in subst (Fits past) d.deed_is tt)
    act_fits (act.Attribute t to) deed is = fits_unless past _ _ deed (attributed t to) is
    act_fits (act.Identify p q) deed is = fits_unless past _ _ deed (identified p q) is
    act_fits (act.Separate q) deed is = fits_unless past _ _ deed (separated q) is
    act_fits (act.Number first most) deed is = fits_unless past _ _ deed (λ _. numbered_given (links_of past) first (take most (eligible_after past)) (eligible_given most)) is
    act_fits _ deed is = fits_unless past _ _ deed (λ _. tt) is

  deed_fits : (past : List Deed) (e : Entry) → Sound past → Fits past (deed_of past e)
  deed_fits past e s = deed_cases (Fits past) past e tt (λ a deed read done. act_fits past e.moment s a deed done)

  pub sound : (history : List Entry) → Sound (deeds history)
  sound [] = record { homes = tt; numbers = All-nil (NumberGiven []); own = λ d p none. absurd cc }
  sound (e ∷ past) = let s = sound past in sound_more (deeds past) (deed_of (deeds past) e) s (deed_fits (deeds past) e s)

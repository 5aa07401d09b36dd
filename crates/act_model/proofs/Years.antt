-- Every observation that the office accepted is of a year that designations have.
use Rattle.std.proofs.Common.{◌≡◌, ℕ, ℤ, List, [], ◌∷◌, length, map, Bool, true, false, cond, Option, Some, None, Result, Ok, Err, refl, subst}
use Rattle.std.specs.Prelude.{◌==◌}
use Rattle.obs_record.specs.declared.line.Line.{Line}
use Rattle.obs_record.specs.declared.rule.RuleCode.{RuleCode}
use Rattle.obs_record.specs.declared.sighting.Sighting.{Sighting}
use Rattle.station_tables.specs.Rows.{TableRows}
use Rattle.tracklet_file.specs.declared.observation.Observation.{Observation}
use Rattle.tracklet_file.specs.Numbering.{next_number, numbered}
use Rattle.tracklet_file.specs.Observations.{with_retraction}
use Rattle.act_model.specs.declared.act.Act.{Act}
use Rattle.act_model.specs.declared.act.Act.TheVariants as act
use Rattle.act_model.specs.declared.deed.Deed.{Deed}
use Rattle.act_model.specs.declared.deed.Deed.TheVariants.{Submitted}
use Rattle.act_model.specs.declared.entry.Entry.{Entry}
use Rattle.act_model.specs.declared.taken.Placed.{Placed}
use Rattle.act_model.specs.declared.taken.Taken.{Taken}
use Rattle.act_model.specs.Rows.{first_row}
use Rattle.act_model.specs.Known.{KnownOffice}
use Rattle.act_model.specs.Knowing.{known_of}
use Rattle.act_model.specs.BatchRules.{is_in_years, line_rules, unless_broken, checked_reading, with_passed, checked_lines, passed_in, group_fault, reading_fault, ruling_among, batch_rulings}
use Rattle.act_model.specs.Taken.{track_of_group, found_in, tracks_with, taken_lines}
use Rattle.act_model.specs.OfficeTables.{tables_of}
use Rattle.act_model.specs.Holdings.{Holdings, with_found, with_batch, with_deed, holdings}
use Rattle.act_model.specs.Designations.{row_acts_of}
use Rattle.act_model.specs.Doing.{taken_after, does}
use Rattle.act_model.specs.Deeds.{deeds}
use Rattle.act_model.proofs.DeedCases.{deed_cases}
use Rattle.act_model.proofs.Designating.{designated}
use Rattle.act_model.proofs.Legal.{by_deed}
use Rattle.act_model.proofs.RowLemmas.{rows_off, not_off}

-- ---- lists

abbrev pub AreInYears : List Observation → Type 0
AreInYears [] = Unit {0}
AreInYears (o ∷ observations) = (is_in_years o.sighting ≡ true) × AreInYears observations

years_at : (observations : List Observation) (k : ℕ) (o : Observation) → AreInYears observations → numbered observations k ≡ Some o → is_in_years o.sighting ≡ true
years_at [] k o all found = absurd cc
years_at (newest ∷ older) k o all found = by (k == next_number older) (years_at older k o all.1) found
  where
    by : (b : Bool) → (numbered older k ≡ Some o → is_in_years o.sighting ≡ true) → cond b (Some newest) (numbered older k) ≡ Some o → is_in_years o.sighting ≡ true
    by true rest is = let same : newest ≡ o = cc in subst (λ (x : Observation). is_in_years x.sighting ≡ true) same all.0
    by false rest is = rest is

years_retracted : (observations : List Observation) (k : ℕ) → AreInYears observations → AreInYears (with_retraction observations k)
years_retracted [] k all = tt
years_retracted (newest ∷ older) k all = by (k == next_number older) (years_retracted older k all.1)
  where
    by : (b : Bool) → AreInYears (with_retraction older k) → AreInYears (cond b (record newest { live = false } ∷ older) (newest ∷ with_retraction older k))
    by true rest = (all.0, all.1)
    by false rest = (all.0, rest)

-- ---- what a line was found to be

abbrev pub IsFoundInYears : Result Placed RuleCode → Type 0
IsFoundInYears (Ok placed) = is_in_years placed.sighting ≡ true
IsFoundInYears (Err rule) = Unit {0}

abbrev pub AreTakenInYears : List Taken → Type 0
AreTakenInYears [] = Unit {0}
AreTakenInYears (taken ∷ lines) = IsFoundInYears taken.found × AreTakenInYears lines

years_found : (receipt : ℕ) (found : Result Placed RuleCode) (held : Holdings) → IsFoundInYears found → AreInYears held.observations → AreInYears (with_found receipt found held).observations
years_found receipt (Ok placed) held is all = (is, all)
years_found receipt (Err rule) held is all = all

years_batch : (receipt : ℕ) (lines : List Taken) (held : Holdings) → AreTakenInYears lines → AreInYears held.observations → AreInYears (with_batch receipt lines held).observations
years_batch receipt [] held are all = all
years_batch receipt (taken ∷ lines) held are all = years_batch receipt lines (with_found receipt taken.found held) are.1 (years_found receipt taken.found held are.0 all)

-- ---- the rules of a line

passed_years : (known : KnownOffice) (tables : TableRows) (moment : ℤ) (earlier : List Sighting) (s : Sighting) → first_row (line_rules known tables moment earlier s) ≡ None → is_in_years s ≡ true
passed_years known tables moment earlier s none = not_off (is_in_years s) (rows_off (line_rules known tables moment earlier s) none).1.1.1.1.1.1.0

module _ (known : KnownOffice) (tables : TableRows) (moment : ℤ) (passed : List Sighting) where
  found_years : (earlier : List Sighting) (track : ℕ) (read : Result Sighting RuleCode) → IsFoundInYears (found_in known track read (reading_fault passed (checked_reading known tables moment earlier read)))
  unfolding checked_reading
  found_years earlier track (Err rule) = tt
  found_years earlier track (Ok s) = by (first_row (line_rules known tables moment earlier s)) refl
    where
      by_group : (fault : Option RuleCode) → is_in_years s ≡ true → IsFoundInYears (found_in known track (Ok s) fault)
      by_group None is = is
      by_group (Some rule) is = tt

      by : (broken : Option RuleCode) → first_row (line_rules known tables moment earlier s) ≡ broken → IsFoundInYears (found_in known track (Ok s) (reading_fault passed (unless_broken s broken)))
      by None is = by_group (group_fault passed s) (passed_years known tables moment earlier s is)
      by (Some rule) is = tt

  lines_years : (before : ℕ) (lines : List Line) (now : ℕ) (earlier : List Sighting) → AreTakenInYears (taken_lines known before now lines (map (ruling_among passed) (checked_lines known tables moment earlier lines)))
  lines_years before [] now earlier = tt
  lines_years before (line ∷ lines) now earlier =
      let ruling = ruling_among passed (record line { read = checked_reading known tables moment earlier line.read }) in
      let track : ℕ = track_of_group before now ruling.group in (
        found_years earlier track line.read,
        lines_years before lines (tracks_with now (found_in known track line.read ruling.fault)) (with_passed (checked_reading known tables moment earlier line.read) earlier),
      )

taken_years : (past : List Deed) (moment : ℤ) (lines : List Line) → AreTakenInYears (taken_after past moment lines)
unfolding batch_rulings
taken_years past moment lines =
    lines_years (known_of past) (tables_of past) moment (passed_in (checked_lines (known_of past) (tables_of past) moment [] lines))
    (length (holdings past).tracklets) lines (length (holdings past).tracklets) []

-- ---- deeds

module _ (past : List Deed) (moment : ℤ) (all : AreInYears (holdings past).observations) where
  abbrev keeps_years : Deed → Type 0
  keeps_years deed = AreInYears (with_deed (next_number past) deed (holdings past)).observations

  submit_years : (lines : List Line) → keeps_years (Submitted (taken_after past moment lines))
  submit_years lines = years_batch (next_number past) (taken_after past moment lines) (holdings past) (taken_years past moment lines) all

  act_years : (a : Act) (deed : Deed) → does past moment a ≡ Ok deed → keeps_years deed
  unfolding does
  act_years (act.Submit80 lines) deed is = by_deed keeps_years _ _ deed (submit_years lines) is
  act_years (act.SubmitPsv lines) deed is = by_deed keeps_years _ _ deed (submit_years lines) is
  act_years (act.Designate tracklets) deed is =
      let d = designated (holdings past) (row_acts_of past) tracklets deed is in
      subst keeps_years d.deed_is all
  act_years (act.Retract k) deed is = by_deed keeps_years _ _ deed (years_retracted (holdings past).observations k all) is
  act_years _ deed is = by_deed keeps_years _ _ deed all is

-- ---- histories

in_years : (history : List Entry) → AreInYears (holdings (deeds history)).observations
in_years [] = tt
in_years (e ∷ past) =
    let before = in_years past in
    deed_cases (λ (deed : Deed). AreInYears (with_deed (next_number (deeds past)) deed (holdings (deeds past))).observations) (deeds past) e before
    (λ a deed read done. act_years (deeds past) e.moment before a deed done)

pub observed_years : (history : List Entry) (k : ℕ) (o : Observation) → numbered (holdings (deeds history)).observations k ≡ Some o → is_in_years o.sighting ≡ true
observed_years history k o found = years_at (holdings (deeds history)).observations k o (in_years history) found

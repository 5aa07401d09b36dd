-- Every observation that the office accepted is one that may be filed, its station is 3 letters or digits, and every
-- tracklet has a name.
use Rattle.std.proofs.Common.{◌≡◌, ◌⊎◌, ℕ, ℤ, List, [], ◌∷◌, length, map, Bool, true, false, cond, Option, Some, None, Result, Ok, Err, refl, ap, subst, ◌∙◌, inl, inr}
use Rattle.std.specs.Prelude.{take, ◌==◌, IfOk, IfSome, IsSome}
use Rattle.std.proofs.lemmas.Bool.{and_parts, eqb-true}
use Rattle.std.proofs.lemmas.Slice.Eq.{bytes_eq-Decides}
use Rattle.std.proofs.lemmas.List.Elements.{All-head, All-tail}
use Rattle.packed_names.specs.declared.name.Designation.{Designation}
use Rattle.packed_names.specs.declared.number.Number.{Number}
use Rattle.packed_names.specs.Ranges.{IsNumber, IsDesignation}
use Rattle.obs_record.specs.declared.line.Line.{Line}
use Rattle.obs_record.specs.declared.rule.RuleCode.{RuleCode}
use Rattle.obs_record.specs.declared.short.Short.{Short}
use Rattle.obs_record.specs.declared.sighting.Sighting.{Sighting}
use Rattle.obs_record.specs.Filed.{IsOwnName, IsTrackName, IsStated, AreStated, IsFiled}
use Rattle.station_tables.specs.Rows.{StationRow, TableRows}
use Rattle.station_tables.specs.Stations.{is_code, rows_with_code, serving_by, serving_of}
use Rattle.act_bodies.specs.Members.{is_station_code}
use Rattle.tracklet_file.specs.declared.observation.Observation.{Observation}
use Rattle.tracklet_file.specs.declared.tracklet.Tracklet.{Tracklet}
use Rattle.tracklet_file.specs.Numbering.{next_number, numbered}
use Rattle.tracklet_file.specs.Observations.{with_retraction}
use Rattle.tracklet_file.specs.Tracklets.{with_tracklet, with_home}
use Rattle.act_model.specs.declared.act.Act.{Act}
use Rattle.act_model.specs.declared.act.Act.TheVariants as act
use Rattle.act_model.specs.declared.deed.Deed.{Deed}
use Rattle.act_model.specs.declared.deed.Deed.TheVariants.{Submitted}
use Rattle.act_model.specs.declared.entry.Entry.{Entry}
use Rattle.act_model.specs.declared.taken.Placed.{Placed}
use Rattle.act_model.specs.declared.taken.Taken.{Taken}
use Rattle.act_model.specs.Rows.{first_row}
use Rattle.act_model.specs.Known.{KnownOffice}
use Rattle.act_model.specs.Knowing.{known_of}
use Rattle.act_model.specs.Ruling.{is_unknown_station}
use Rattle.act_model.specs.BatchRules.{name_among, name_of, line_rules, unless_broken, checked_reading, with_passed, checked_lines, passed_in, group_fault, reading_fault, ruling_among, batch_rulings}
use Rattle.act_model.specs.Taken.{track_of_group, found_in, tracks_with, taken_lines}
use Rattle.act_model.specs.OfficeTables.{tables_of}
use Rattle.act_model.specs.Holdings.{Holdings, with_begun, with_found, with_batch, with_homes, with_deed, holdings}
use Rattle.act_model.specs.Designations.{row_acts_of}
use Rattle.act_model.specs.Doing.{taken_after, does}
use Rattle.act_model.specs.Deeds.{deeds}
use Rattle.act_model.proofs.DeedCases.{deed_cases}
use Rattle.act_model.proofs.Designating.{designated}
use Rattle.act_model.proofs.Legal.{by_deed}
use Rattle.act_model.proofs.Letters.{AreCodes, all_sound}
use Rattle.act_model.proofs.Read.{IsSound, IsSoundlyRead, EightyStated, PsvStated, LettersPrinted, StationsCoded, sound_read}
use Rattle.act_model.proofs.RowLemmas.{rows_off}

-- ---- lists

-- it may be filed, and its station is 3 letters or digits
abbrev IsOnFile : Sighting → Type 0
IsOnFile s = IsFiled s × (is_station_code (take s.station.len s.station.bytes) ≡ true)

abbrev AreOnFile : List Observation → Type 0
AreOnFile [] = Unit {0}
AreOnFile (o ∷ observations) = IsOnFile o.sighting × AreOnFile observations

abbrev AreNamed : List Tracklet → Type 0
AreNamed [] = Unit {0}
AreNamed (tracklet ∷ tracklets) = IsTrackName tracklet.name × AreNamed tracklets

record AreHeld (held : Holdings) : Type 0 where
  filed : AreOnFile held.observations
  named : AreNamed held.tracklets

filed_at : (observations : List Observation) (k : ℕ) (o : Observation) → AreOnFile observations → numbered observations k ≡ Some o → IsOnFile o.sighting
filed_at [] k o all found = absurd cc
filed_at (newest ∷ older) k o all found = by (k == next_number older) (filed_at older k o all.1) found
  where
    by : (b : Bool) → (numbered older k ≡ Some o → IsOnFile o.sighting) → cond b (Some newest) (numbered older k) ≡ Some o → IsOnFile o.sighting
    by true rest is = let same : newest ≡ o = cc in subst (λ (x : Observation). IsOnFile x.sighting) same all.0
    by false rest is = rest is

named_at : (tracklets : List Tracklet) (t : ℕ) (tracklet : Tracklet) → AreNamed tracklets → numbered tracklets t ≡ Some tracklet → IsTrackName tracklet.name
named_at [] t tracklet all found = absurd cc
named_at (newest ∷ older) t tracklet all found = by (t == next_number older) (named_at older t tracklet all.1) found
  where
    by : (b : Bool) → (numbered older t ≡ Some tracklet → IsTrackName tracklet.name) → cond b (Some newest) (numbered older t) ≡ Some tracklet → IsTrackName tracklet.name
    by true rest is = let same : newest ≡ tracklet = cc in subst (λ (x : Tracklet). IsTrackName x.name) same all.0
    by false rest is = rest is

filed_retracted : (observations : List Observation) (k : ℕ) → AreOnFile observations → AreOnFile (with_retraction observations k)
filed_retracted [] k all = tt
filed_retracted (newest ∷ older) k all = by (k == next_number older) (filed_retracted older k all.1)
  where
    by : (b : Bool) → AreOnFile (with_retraction older k) → AreOnFile (cond b (record newest { live = false } ∷ older) (newest ∷ with_retraction older k))
    by true rest = (all.0, all.1)
    by false rest = (all.0, rest)

named_homed : (tracklets : List Tracklet) (t : ℕ) (home : Option Designation) → AreNamed tracklets → AreNamed (with_home tracklets t home)
named_homed [] t home all = tt
named_homed (newest ∷ older) t home all = by (t == next_number older) (named_homed older t home all.1)
  where
    by : (b : Bool) → AreNamed (with_home older t home) → AreNamed (cond b (record newest { home = home } ∷ older) (newest ∷ with_home older t home))
    by true rest = (all.0, all.1)
    by false rest = (all.0, rest)

all_homed : (tracklets : List Tracklet) (ts : List ℕ) (home : Option Designation) → AreNamed tracklets → AreNamed (with_homes tracklets ts home)
all_homed tracklets [] home all = all
all_homed tracklets (t ∷ more) home all = all_homed (with_home tracklets t home) more home (named_homed tracklets t home all)

-- ---- names

named_among : (perm : Option Number) (prov : Option Designation) (sub : Option Short)
    → IfSome perm (λ number. IsNumber number.0) → IfSome prov IsDesignation → IfSome sub IsOwnName → IsSome perm ⊎ IsSome prov ⊎ IsSome sub → IsTrackName (name_among perm prov sub)
named_among (Some number) prov sub numbers designations own has = numbers
named_among None (Some designation) sub numbers designations own has = designations
named_among None None (Some short) numbers designations own has = own
named_among None None None numbers designations own (inl none) = absurd cc
named_among None None None numbers designations own (inr (inl none)) = absurd cc
named_among None None None numbers designations own (inr (inr none)) = absurd cc

filed_name : (s : Sighting) → IsFiled s → IsTrackName (name_of s)
filed_name s is =
    let sighting = is.sighting in
    named_among s.perm s.prov s.sub sighting.number sighting.designation is.temporary sighting.named

-- ---- what a line was found to be

abbrev IsFoundFiled : Result Placed RuleCode → Type 0
IsFoundFiled (Ok placed) = IsOnFile placed.sighting
IsFoundFiled (Err rule) = Unit {0}

abbrev AreTakenFiled : List Taken → Type 0
AreTakenFiled [] = Unit {0}
AreTakenFiled (taken ∷ lines) = IsFoundFiled taken.found × AreTakenFiled lines

begun_named : (placed : Placed) (tracklets : List Tracklet) → IsFiled placed.sighting → AreNamed tracklets → AreNamed (with_begun placed tracklets)
begun_named placed tracklets is all = by (placed.track == next_number tracklets)
  where
    by : (b : Bool) → AreNamed (cond b (with_tracklet tracklets (name_of placed.sighting) placed.sighting.station placed.home) tracklets)
    by true = (filed_name placed.sighting is, all)
    by false = all

found_held : (receipt : ℕ) (found : Result Placed RuleCode) (held : Holdings) → IsFoundFiled found → AreHeld held → AreHeld (with_found receipt found held)
found_held receipt (Ok placed) held is all = record { filed = (is, all.filed); named = begun_named placed held.tracklets is.0 all.named }
found_held receipt (Err rule) held is all = all

batch_held : (receipt : ℕ) (lines : List Taken) (held : Holdings) → AreTakenFiled lines → AreHeld held → AreHeld (with_batch receipt lines held)
batch_held receipt [] held are all = all
batch_held receipt (taken ∷ lines) held are all = batch_held receipt lines (with_found receipt taken.found held) are.1 (found_held receipt taken.found held are.0 all)

-- ---- the rules of a line

-- a code of 3 bytes, which are letters or digits
abbrev IsCode : Short → Type 0
IsCode code = (code.len ≡ 3) × (is_station_code (take code.len code.bytes) ≡ true)

code_of_row : (code : Short) (row : StationRow) → is_station_code row.code ≡ true → is_code code row.code ≡ true → IsCode code
code_of_row code row coded is =
    let parts = and_parts _ _ is in
    let long = eqb-true code.len 3 parts.0 in
    let same : take 3 code.bytes ≡ row.code = (bytes_eq-Decides (take 3 code.bytes) row.code).0 parts.1 in
    (long, ap (λ (n : ℕ). is_station_code (take n code.bytes)) long ∙ ap is_station_code same ∙ coded)

-- a station that a row of the tables has is such a code
served_code : (code : Short) (date : ℤ) (rows : List StationRow) → AreCodes rows → is_unknown_station (serving_by (rows_with_code code rows) date) ≡ false → IsCode code
served_code code date [] codes known = absurd cc
served_code code date (row ∷ rows) codes known = by (is_code code row.code) refl (served_code code date rows codes.1) known
  where
    by : (b : Bool) → is_code code row.code ≡ b → (is_unknown_station (serving_by (rows_with_code code rows) date) ≡ false → IsCode code)
        → is_unknown_station (serving_by (cond b (row ∷ rows_with_code code rows) (rows_with_code code rows)) date) ≡ false → IsCode code
    by true is rest known = code_of_row code row codes.0 is
    by false is rest known = rest known

station_code : (rows : List StationRow) (code : Short) (date : ℤ) → AreCodes rows → is_unknown_station (serving_of rows code date) ≡ false → IsCode code
unfolding serving_of
station_code rows code date codes known = served_code code date rows codes known

passed_filed : (known : KnownOffice) (tables : TableRows) (moment : ℤ) (earlier : List Sighting) (s : Sighting) → AreCodes tables.stations → IsStated s → first_row (line_rules known tables moment earlier s) ≡ None → IsOnFile s
passed_filed known tables moment earlier s codes stated none =
    let station = station_code tables.stations s.station _ codes (rows_off (line_rules known tables moment earlier s) none).0 in
    (record { sighting = stated.sighting; station = station.0; mode = stated.mode; temporary = stated.temporary }, station.1)

module _ (known : KnownOffice) (tables : TableRows) (moment : ℤ) (passed : List Sighting) (codes : AreCodes tables.stations) where
  found_filed : (earlier : List Sighting) (track : ℕ) (read : Result Sighting RuleCode) → IfOk read IsStated → IsFoundFiled (found_in known track read (reading_fault passed (checked_reading known tables moment earlier read)))
  unfolding checked_reading
  found_filed earlier track (Err rule) stated = tt
  found_filed earlier track (Ok s) stated = by (first_row (line_rules known tables moment earlier s)) refl
    where
      by_group : (fault : Option RuleCode) → IsOnFile s → IsFoundFiled (found_in known track (Ok s) fault)
      by_group None is = is
      by_group (Some rule) is = tt

      by : (broken : Option RuleCode) → first_row (line_rules known tables moment earlier s) ≡ broken → IsFoundFiled (found_in known track (Ok s) (reading_fault passed (unless_broken s broken)))
      by None is = by_group (group_fault passed s) (passed_filed known tables moment earlier s codes stated is)
      by (Some rule) is = tt

  lines_filed : (before : ℕ) (lines : List Line) (now : ℕ) (earlier : List Sighting) → AreStated lines → AreTakenFiled (taken_lines known before now lines (map (ruling_among passed) (checked_lines known tables moment earlier lines)))
  lines_filed before [] now earlier stated = tt
  lines_filed before (line ∷ lines) now earlier stated =
      let ruling = ruling_among passed (record line { read = checked_reading known tables moment earlier line.read }) in
      let track : ℕ = track_of_group before now ruling.group in (
        found_filed earlier track line.read (All-head (λ (l : Line). IfOk l.read IsStated) line lines stated),
        lines_filed before lines (tracks_with now (found_in known track line.read ruling.fault)) (with_passed (checked_reading known tables moment earlier line.read) earlier) (All-tail (λ (l : Line). IfOk l.read IsStated) line lines stated),
      )

taken_filed : (past : List Deed) (moment : ℤ) (lines : List Line) → AreCodes (tables_of past).stations → AreStated lines → AreTakenFiled (taken_after past moment lines)
unfolding batch_rulings
taken_filed past moment lines codes stated =
    lines_filed (known_of past) (tables_of past) moment (passed_in (checked_lines (known_of past) (tables_of past) moment [] lines)) codes
    (length (holdings past).tracklets) lines (length (holdings past).tracklets) [] stated

-- ---- deeds

module _ (past : List Deed) (moment : ℤ) (all : AreHeld (holdings past)) (codes : AreCodes (tables_of past).stations) where
  abbrev keeps_held : Deed → Type 0
  keeps_held deed = AreHeld (with_deed (next_number past) deed (holdings past))

  submit_held : (lines : List Line) → AreStated lines → keeps_held (Submitted (taken_after past moment lines))
  submit_held lines stated = batch_held (next_number past) (taken_after past moment lines) (holdings past) (taken_filed past moment lines codes stated) all

  act_held : (a : Act) (deed : Deed) → IsSound a → does past moment a ≡ Ok deed → keeps_held deed
  unfolding does
  act_held (act.Submit80 lines) deed sound is = by_deed keeps_held _ _ deed (submit_held lines sound) is
  act_held (act.SubmitPsv lines) deed sound is = by_deed keeps_held _ _ deed (submit_held lines sound) is
  act_held (act.Designate tracklets) deed sound is =
      let d = designated (holdings past) (row_acts_of past) tracklets deed is in
      subst keeps_held d.deed_is (record { filed = all.filed; named = all_homed (holdings past).tracklets tracklets _ all.named })
  act_held (act.Attribute t to) deed sound is = by_deed keeps_held _ _ deed (record { filed = all.filed; named = named_homed (holdings past).tracklets t (Some to) all.named }) is
  act_held (act.Release t) deed sound is = by_deed keeps_held _ _ deed (record { filed = all.filed; named = named_homed (holdings past).tracklets t None all.named }) is
  act_held (act.Retract k) deed sound is = by_deed keeps_held _ _ deed (record { filed = filed_retracted (holdings past).observations k all.filed; named = all.named }) is
  act_held _ deed sound is = by_deed keeps_held _ _ deed all is

-- ---- histories

module _ (eighty : EightyStated) (psv : PsvStated) (letters : LettersPrinted) (stations : StationsCoded) where
  all_held : (history : List Entry) → AreHeld (holdings (deeds history))
  all_held [] = record { filed = tt; named = tt }
  all_held (e ∷ past) =
      let before = all_held past in
      deed_cases (λ (deed : Deed). AreHeld (with_deed (next_number (deeds past)) deed (holdings (deeds past)))) (deeds past) e before
      (λ a deed read done. act_held (deeds past) e.moment before (all_sound eighty psv letters stations past).1 a deed (subst IsSoundlyRead read (sound_read eighty psv letters stations e.verb e.body)) done)

  pub observations_filed : (history : List Entry) (k : ℕ) (o : Observation) → numbered (holdings (deeds history)).observations k ≡ Some o → IsFiled o.sighting
  observations_filed history k o found = (let held = all_held history in (filed_at (holdings (deeds history)).observations k o held.filed found).0)

  pub stations_coded : (history : List Entry) (k : ℕ) (o : Observation) → numbered (holdings (deeds history)).observations k ≡ Some o → is_station_code (take o.sighting.station.len o.sighting.station.bytes) ≡ true
  stations_coded history k o found = (let held = all_held history in (filed_at (holdings (deeds history)).observations k o held.filed found).1)

  pub tracklets_named : (history : List Entry) (t : ℕ) (tracklet : Tracklet) → numbered (holdings (deeds history)).tracklets t ≡ Some tracklet → IsTrackName tracklet.name
  tracklets_named history t tracklet found = (let held = all_held history in named_at (holdings (deeds history)).tracklets t tracklet held.named found)

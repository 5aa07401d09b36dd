-- What a designation is sure of that an act `designate` gave: the observation by which its object was discovered is
-- there, and is of the designation's half-month.
use Rattle.std.proofs.Common.{◌≡◌, ℕ, ℤ, ◌≤◌, List, [], ◌∷◌, ◌++◌, length, Bool, true, false, cond, Option, Some, None, option_map, Result, Ok, Err, refl, ap, subst, ◌∙◌}
use Rattle.std.specs.Prelude.{filter_map, flat_map, codes, take}
use Rattle.std.specs.List.{cons_option}
use Rattle.std.proofs.lemmas.Bool.{and_parts, leb-true}
use Rattle.std.proofs.lemmas.Option.{cond_some}
use Rattle.serde_json.specs.Data.{Data}
use Rattle.ascii_text.specs.Reading.{bind_some}
use Rattle.obs_record.specs.declared.line.Line.{Line}
use Rattle.obs_record.specs.declared.rule.HeaderFault.{HeaderFault}
use Rattle.obs_record.specs.declared.sighting.Sighting.{Sighting}
use Rattle.packed_names.specs.declared.half_month.HalfMonth.{HalfMonth}
use Rattle.station_tables.specs.Stations.{overlaps}
use Rattle.station_tables.specs.Codes.{has_code}
use Rattle.designate_core.specs.Takes.{RowAct, next_in}
use Rattle.tracklet_file.specs.declared.observation.Observation.{Observation}
use Rattle.tracklet_file.specs.Numbering.{numbered}
use Rattle.tracklet_file.specs.Observations.{sighting_of, observations_of}
use Rattle.act_bodies.specs.declared.designate.Designate.{Designate as DesignateBody}
use Rattle.act_bodies.specs.Bodies.{enrol_of, station_of, code_of, designate_of, designate_in, attribute_of, release_of, identify_of, separate_of, verdict_of, number_of_body, retract_of, opening_of}
use Rattle.act_bodies.specs.Members.{object_of, wholes_in, is_selection, tracklets_in}
use Rattle.ades_psv.specs.Batch.{psv_lines_of}
use Rattle.act_model.specs.declared.act.Act.{Act}
use Rattle.act_model.specs.declared.act.Act.TheVariants as act
use Rattle.act_model.specs.declared.act.ActFault.{ActFault}
use Rattle.act_model.specs.declared.deed.Deed.{Deed}
use Rattle.act_model.specs.declared.deed.Deed.TheVariants.{Enrolled, Stationed, Coded, Submitted, Designated, Attributed, Released, Identified, Separated, Judged, Numbered, Retracted, Opened, Nothing}
use Rattle.act_model.specs.declared.entry.Entry.{Entry}
use Rattle.act_model.specs.declared.reply.Refusal.{Refusal}
use Rattle.act_model.specs.declared.request.Verb.{Verb}
use Rattle.act_model.specs.declared.request.Verb.TheVariants as verb
use Rattle.act_model.specs.declared.seen.Seen.{Seen}
use Rattle.act_model.specs.Acts.{IsRead, read_as, enrol_act, station_act, code_act, designate_act, attribute_act, release_act, identify_act, separate_act, verdict_act, number_act, retract_act, opening_act, psv_act, act_of}
use Rattle.act_model.specs.Deeds.{unless_refused_deed, done_if_read, deed_of, deeds}
use Rattle.act_model.specs.Designations.{row_acts_of, links_of}
use Rattle.act_model.specs.Discoveries.{seen_if_live, seen_at, seen_of, seen_in, is_sooner, sooner, earliest, span, half_of}
use Rattle.act_model.specs.Doing.{enrol_rows, row_rows, batch_rows, designate_rows, object_rows, attribute_rows, release_rows, identify_rows, separate_rows, verdict_rows, number_rows, retract_rows, opening_rows, designates_seen, designates, eligible_after, taken_after, does}
use Rattle.act_model.specs.Fitting.{IsNew, FitsObjects}
use Rattle.act_model.specs.Holdings.{Holdings, holdings}
use Rattle.act_model.specs.Numbers.{numbers_of, numbered_from}
use Rattle.act_model.specs.OfficeTables.{tables_of}
use Rattle.act_model.specs.Roster.{members}
use Rattle.act_model.specs.Rows.{first_row, unless}

-- ---- live observations

-- the observation with this number was made at this time
abbrev pub IsSighted : List Observation → ℕ → ℤ → Type 0
IsSighted observations k t = (s : Sighting) × (sighting_of observations k ≡ Some s) × (s.time ≡ t)

abbrev AreSighted : List Observation → List Seen → Type 0
AreSighted observations [] = Unit {0}
AreSighted observations (seen ∷ more) = IsSighted observations seen.number seen.time × AreSighted observations more

sighted_both : (observations : List Observation) (one other : List Seen) → AreSighted observations one → AreSighted observations other → AreSighted observations (one ++ other)
sighted_both observations [] other first second = second
sighted_both observations (seen ∷ more) other first second = (first.0, sighted_both observations more other first.1 second)

module _ (observations : List Observation) where
  sighted_these : (ks : List ℕ) → AreSighted observations (filter_map (seen_at observations) ks)
  sighted_these [] = tt
  sighted_these (k ∷ ks) = by (numbered observations k) refl (sighted_these ks)
    where
      where_live : (b : Bool) (o : Observation) → numbered observations k ≡ Some o → AreSighted observations (filter_map (seen_at observations) ks)
          → AreSighted observations (cons_option (cond b (Some (record { number = k; time = o.sighting.time })) None) (filter_map (seen_at observations) ks))
      where_live true o is rest = ((o.sighting, ap (λ (x : Option Observation). option_map (λ o. o.sighting) x) is, refl), rest)
      where_live false o is rest = rest

      by : (o : Option Observation) → numbered observations k ≡ o → AreSighted observations (filter_map (seen_at observations) ks) → AreSighted observations (cons_option (seen_if_live k o) (filter_map (seen_at observations) ks))
      by None is rest = rest
      by (Some o) is rest = where_live o.live o is rest

  sighted_tracklets : (ts : List ℕ) → AreSighted observations (seen_in observations ts)
  sighted_tracklets [] = tt
  sighted_tracklets (t ∷ ts) = sighted_both observations (seen_of observations t) (flat_map (seen_of observations) ts) (sighted_these (observations_of observations t)) (sighted_tracklets ts)

  abbrev is_sighted : Seen → Type 0
  is_sighted seen = IsSighted observations seen.number seen.time

  sighted_either : (b : Bool) (one other : Seen) → is_sighted one → is_sighted other → is_sighted (cond b one other)
  sighted_either true one other first second = first
  sighted_either false one other first second = second

  sighted_earliest : (first : Seen) (more : List Seen) → is_sighted first → AreSighted observations more → is_sighted (earliest first more)
  sighted_earliest first [] is all = is
  sighted_earliest first (next ∷ more) is all = sighted_earliest (sooner first next) more (sighted_either (is_sooner next first) next first all.0 is) all.1

-- ---- what an act `designate` does

refused_not : {A : Type 0} (o : Option Refusal) (r : Result A Refusal) (done : A) → unless o r ≡ Ok done → (o ≡ None) × (r ≡ Ok done)
refused_not None r done is = (refl, is)
refused_not (Some refusal) r done is = absurd cc

-- what is done
abbrev ended : Deed → Result Deed Refusal
ended deed = Ok deed

done_is : (done deed : Deed) → ended done ≡ Ok deed → done ≡ deed
done_is done deed is = cc

-- the observation that discovered the object of a designation is there, and is of the designation's half-month
abbrev pub IsDiscoveredIn : List Observation → ℕ → HalfMonth → Type 0
IsDiscoveredIn observations k half = (s : Sighting) × (sighting_of observations k ≡ Some s) × (half_of s.time ≡ half)

module _ (held : Holdings) (rows : List RowAct) (tracklets : List ℕ) (deed : Deed) where
  abbrev Discovers : Deed → Type 0
  Discovers (Designated ts given k) = IsDiscoveredIn held.observations k given.half
  Discovers _ = Unit {0}

  discovers_seen : (seen : List Seen) → AreSighted held.observations seen → designates_seen rows tracklets seen ≡ Ok deed → Discovers deed
  discovers_seen [] all is = absurd cc
  discovers_seen (first ∷ more) all is =
      let (none, done) = refused_not (first_row (object_rows rows (span first more) (half_of (earliest first more).time))) (Ok (Designated tracklets (next_in (half_of (earliest first more).time) rows) (earliest first more).number)) deed is in
      let (s, found, time) = sighted_earliest held.observations first more all.0 all.1 in
      subst Discovers (done_is (Designated tracklets (next_in (half_of (earliest first more).time) rows) (earliest first more).number) deed done) (s, found, ap half_of time)

  discovers : designates held rows tracklets ≡ Ok deed → Discovers deed
  discovers is = discovers_seen (seen_in held.observations tracklets) (sighted_tracklets held.observations tracklets) (refused_not (first_row (designate_rows held tracklets)) (designates_seen rows tracklets (seen_in held.observations tracklets)) deed is).1

-- ---- what was read

-- this many tracklets are at most that a body may name
abbrev pub IsFew : Act → Type 0
IsFew (act.Designate tracklets) = (1 ≤ length tracklets) × (length tracklets ≤ 100)
IsFew _ = Unit {0}

abbrev IsFewRead : Result Act ActFault → Type 0
IsFewRead (Ok a) = IsFew a
IsFewRead (Err fault) = Unit {0}

few_in : (value : Data) (body : DesignateBody) → designate_in value ≡ Some body → (1 ≤ length body.tracklets) × (length body.tracklets ≤ 100)
unfolding designate_in tracklets_in
few_in value body is =
    let a = bind_some (tracklets_in value) (λ tracklets. Some (record { tracklets = tracklets })) body is in
    let b = bind_some (wholes_in (codes "tracklets") value) (λ numbers. cond (is_selection numbers) (Some numbers) None) a.0 a.1 in
    let tested = cond_some (is_selection b.0) b.0 a.0 b.2 in
    let named : a.0 ≡ body.tracklets = let e = a.2 in cc in
    let same : b.0 ≡ body.tracklets = tested.1 ∙ named in
    let bounds = and_parts _ _ (and_parts _ _ tested.0).0 in
    subst (λ (ts : List ℕ). (1 ≤ length ts) × (length ts ≤ 100)) same (leb-true 1 (length b.0) bounds.0, leb-true (length b.0) 100 bounds.1)

few_of : (bytes : List ℕ) (body : DesignateBody) → designate_of bytes ≡ Some body → (1 ≤ length body.tracklets) × (length body.tracklets ≤ 100)
unfolding designate_of
few_of bytes body is = let object = bind_some (object_of 1 bytes) designate_in body is in few_in object.0 body object.2

few_designate : (bytes : List ℕ) (o : Option DesignateBody) → designate_of bytes ≡ o → IsFewRead (read_as designate_act o)
few_designate bytes (Some body) is = few_of bytes body is
few_designate bytes None is = tt

few_as : {B : Type 0} (asked : B → Act) (o : Option B) → ((body : B) → IsFew (asked body)) → IsFewRead (read_as asked o)
few_as asked (Some body) few = few body
few_as asked None few = tt

few_psv : (o : Result (List Line) (HeaderFault × ℕ)) → IsFewRead (psv_act o)
few_psv (Ok lines) = tt
few_psv (Err fault) = tt

few_read : (v : Verb) (body : List ℕ) → IsFewRead (act_of v body)
unfolding act_of
few_read verb.Enrol body = few_as enrol_act (enrol_of body) (λ _. tt)
few_read verb.Station body = few_as station_act (station_of body) (λ _. tt)
few_read verb.Code body = few_as code_act (code_of body) (λ _. tt)
few_read verb.Submit80 body = tt
few_read verb.SubmitPsv body = few_psv (psv_lines_of body)
few_read verb.Designate body = few_designate body (designate_of body) refl
few_read verb.Attribute body = few_as attribute_act (attribute_of body) (λ _. tt)
few_read verb.Release body = few_as release_act (release_of body) (λ _. tt)
few_read verb.Identify body = few_as identify_act (identify_of body) (λ _. tt)
few_read verb.Separate body = few_as separate_act (separate_of body) (λ _. tt)
few_read verb.Verdict body = few_as verdict_act (verdict_of body) (λ _. tt)
few_read verb.Number body = few_as number_act (number_of_body body) (λ _. tt)
few_read verb.Opening body = few_as opening_act (opening_of body) (λ _. tt)
few_read verb.Retract body = few_as retract_act (retract_of body) (λ _. tt)
few_read verb.Receipt body = tt
few_read verb.Tally body = tt
few_read verb.Object body = tt
few_read verb.Tracklet body = tt
few_read verb.Isolated body = tt
few_read verb.HalfMonth body = tt
few_read verb.Name body = tt
few_read verb.Catalogue body = tt
few_read verb.Unknown body = tt

-- ---- the deed of an entry

-- an act that is done fits what was done before
abbrev pub ActsFit : Type 0
ActsFit = (history : List Entry) (moment : ℤ) (a : Act) (deed : Deed) → IsRead a → does (deeds history) moment a ≡ Ok deed → FitsObjects (deeds history) deed

-- what a deed is sure of that gives a designation: it is the next one of its half-month, which the office didn't give
-- before, and the observation by which its object was discovered is there and of its half-month
abbrev pub DiscoversObject : List Deed → Deed → Type 0
DiscoversObject past (Designated tracklets given k) = IsNew (row_acts_of past) (links_of past) given × IsDiscoveredIn (holdings past).observations k given.half
DiscoversObject past _ = Unit {0}

module _ (fit : ActsFit) (history : List Entry) (moment : ℤ) where
  abbrev past : List Deed
  past = deeds history

  other_unless : (o : Option Refusal) (done deed : Deed) → DiscoversObject past done → unless o (Ok done) ≡ Ok deed → DiscoversObject past deed
  other_unless o done deed is done_ok = subst (DiscoversObject past) (done_is done deed (refused_not o (Ok done) deed done_ok).1) is

  new_and_discovered : (deed : Deed) (tracklets : List ℕ) → FitsObjects past deed → Discovers (holdings past) (row_acts_of past) tracklets deed deed → DiscoversObject past deed
  new_and_discovered (Designated ts given k) tracklets fits is = (fits.1, is)
  new_and_discovered (Enrolled member) tracklets fits is = tt
  new_and_discovered (Stationed code from to) tracklets fits is = tt
  new_and_discovered (Coded kind letter word) tracklets fits is = tt
  new_and_discovered (Submitted lines) tracklets fits is = tt
  new_and_discovered (Attributed t to) tracklets fits is = tt
  new_and_discovered (Released t) tracklets fits is = tt
  new_and_discovered (Identified p s) tracklets fits is = tt
  new_and_discovered (Separated s) tracklets fits is = tt
  new_and_discovered (Judged p u oppositions) tracklets fits is = tt
  new_and_discovered (Numbered pairs) tracklets fits is = tt
  new_and_discovered (Opened half given carried) tracklets fits is = tt
  new_and_discovered (Retracted k) tracklets fits is = tt
  new_and_discovered Nothing tracklets fits is = tt

  act_discovers : (a : Act) (deed : Deed) → IsFew a → does past moment a ≡ Ok deed → DiscoversObject past deed
  unfolding does
  act_discovers (act.Enrol k name role) deed few is = other_unless (first_row (enrol_rows (members past) k)) (Enrolled (record { key = k; rank = role })) deed tt is
  act_discovers (act.Station code name from to) deed few is = other_unless (first_row (row_rows (overlaps (tables_of past).stations code from to))) (Stationed code from to) deed tt is
  act_discovers (act.Code kind letter word) deed few is = other_unless (first_row (row_rows (has_code (tables_of past).codes kind letter word))) (Coded kind letter word) deed tt is
  act_discovers (act.Submit80 lines) deed few is = other_unless (first_row (batch_rows (taken_after past moment lines))) (Submitted (taken_after past moment lines)) deed tt is
  act_discovers (act.SubmitPsv lines) deed few is = other_unless (first_row (batch_rows (taken_after past moment lines))) (Submitted (taken_after past moment lines)) deed tt is
  act_discovers (act.Designate tracklets) deed few is =
      new_and_discovered deed tracklets (fit history moment (act.Designate tracklets) deed few is) (discovers (holdings past) (row_acts_of past) tracklets deed is)
  act_discovers (act.Attribute t to) deed few is = other_unless (first_row (attribute_rows (holdings past) (links_of past) t to)) (Attributed t to) deed tt is
  act_discovers (act.Release t) deed few is = other_unless (first_row (release_rows (holdings past) t)) (Released t) deed tt is
  act_discovers (act.Identify p s) deed few is = other_unless (first_row (identify_rows (links_of past) (numbers_of past) p s)) (Identified p s) deed tt is
  act_discovers (act.Separate s) deed few is = other_unless (first_row (separate_rows (links_of past) s)) (Separated s) deed tt is
  act_discovers (act.Verdict d u oppositions) deed few is = other_unless (first_row (verdict_rows (links_of past) d)) (Judged d u oppositions) deed tt is
  act_discovers (act.Number first most) deed few is = other_unless (first_row (number_rows (numbers_of past) first most (eligible_after past))) (Numbered (numbered_from first (take most (eligible_after past)))) deed tt is
  act_discovers (act.Opening half given carried) deed few is = other_unless (first_row (opening_rows (row_acts_of past) half)) (Opened half given carried) deed tt is
  act_discovers (act.Retract k) deed few is = other_unless (first_row (retract_rows (holdings past).observations k)) (Retracted k) deed tt is

-- the deed of an entry: nothing, or what its act does
deed_cases : (P : Deed → Type 0) (past : List Deed) (e : Entry) → P Nothing → ((a : Act) (deed : Deed) → act_of e.verb e.body ≡ Ok a → does past e.moment a ≡ Ok deed → P deed) → P (deed_of past e)
unfolding deed_of
deed_cases P past e nothing done = of_read (act_of e.verb e.body) refl
  where
    of_done : (a : Act) → act_of e.verb e.body ≡ Ok a → (r : Result Deed Refusal) → does past e.moment a ≡ r → P (unless_refused_deed r)
    of_done a read (Ok deed) is = done a deed read is
    of_done a read (Err refusal) is = nothing

    of_read : (r : Result Act ActFault) → act_of e.verb e.body ≡ r → P (done_if_read past e.moment r)
    of_read (Ok a) is = of_done a is (does past e.moment a) refl
    of_read (Err fault) is = nothing

-- each deed of a history that gives a designation is sure of this
pub deed_discovers : ActsFit → (history : List Entry) (e : Entry) → DiscoversObject (deeds history) (deed_of (deeds history) e)
deed_discovers fit history e =
    deed_cases (DiscoversObject (deeds history)) (deeds history) e tt
    (λ a deed read done. act_discovers fit history e.moment a deed (subst IsFewRead read (few_read e.verb e.body)) done)

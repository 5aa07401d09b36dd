-- What an act does after the deeds before it, or the first refusal that it meets, in groups over the values that they
-- ask.
use Rattle.std.specs.Prelude.{ℕ, ℤ, pos, int_lt, Bool, not, nat_le, nat_lt, ◌==◌, ◌&&◌, List, [], ◌∷◌, ◌++◌, map}
use Rattle.std.specs.Prelude.{flat_map, length, take, is_some, is_none, Option, Some, None, Result, Ok, Err}
use Rattle.std.specs.Ordering.{eq_by_cmp}
use Rattle.act_bodies.specs.declared.enrol.Rank.{Rank}
use Rattle.act_bodies.specs.declared.key.Key.{Key}
use Rattle.packed_names.specs.declared.half_month.HalfMonth.{HalfMonth}
use Rattle.packed_names.specs.declared.name.Designation.{Designation}
use Rattle.packed_names.specs.declared.number.TheConstants.{GREATEST_NUMBER}
use Rattle.packed_names.specs.Order.{designation_cmp}
use Rattle.packed_names.specs.Ranges.{limit_of}
use Rattle.designate_core.specs.Takes.{RowAct, given_in, is_begun, next_in}
use Rattle.identify_core.specs.Acts.{LinkAct}
use Rattle.numbering_core.specs.declared.numbering.Numbering.{Numbering}
use Rattle.numbering_core.specs.Numbers.{number_of, next_number}
use Rattle.obs_record.specs.declared.line.Line.{Line}
use Rattle.obs_record.specs.declared.short.Short.{Short}
use Rattle.station_tables.specs.declared.kind.Kind.{Kind}
use Rattle.station_tables.specs.Rows.{TableRows}
use Rattle.station_tables.specs.Stations.{overlaps}
use Rattle.station_tables.specs.Codes.{has_code}
use Rattle.tracklet_file.specs.declared.observation.Observation.{Observation}
use Rattle.tracklet_file.specs.declared.tracklet.Tracklet.{Tracklet}
use Rattle.tracklet_file.specs.Numbering.{numbered}
use Rattle.tracklet_file.specs.Observations.{is_live}
use Rattle.tracklet_file.specs.Tracklets.{home_of}
use Rattle.act_model.specs.declared.act.Act.{Act}
use Rattle.act_model.specs.declared.act.Act.TheVariants as act
use Rattle.act_model.specs.declared.deed.Deed.{Deed}
use Rattle.act_model.specs.declared.deed.Deed.TheVariants.{Enrolled, Stationed, Coded, Submitted, Designated}
use Rattle.act_model.specs.declared.deed.Deed.TheVariants.{Attributed, Released, Identified, Separated, Judged}
use Rattle.act_model.specs.declared.deed.Deed.TheVariants.{Numbered, Retracted, Opened}
use Rattle.act_model.specs.declared.reply.Refusal.{Refusal}
use Rattle.act_model.specs.declared.reply.Refusal.TheVariants.{Unread, UnknownThing, NoLine, NotIsolated, NotHomed}
use Rattle.act_model.specs.declared.reply.Refusal.TheVariants.{Empty, OneNight, HalfMonthFull, HalfMonthBegun}
use Rattle.act_model.specs.declared.reply.Refusal.TheVariants.{NotPrincipal, SameObject, BothNumbered}
use Rattle.act_model.specs.declared.reply.Refusal.TheVariants.{NumberedSecondary, NotSecondary, AlreadyRetracted}
use Rattle.act_model.specs.declared.reply.Refusal.TheVariants.{NotNext, NoneEligible, NumbersFull, AlreadyThere}
use Rattle.act_model.specs.declared.reply.Refusal.TheVariants.{RosterFull}
use Rattle.act_model.specs.declared.reply.Part.TheVariants as part
use Rattle.act_model.specs.declared.reply.Thing.TheVariants as thing
use Rattle.act_model.specs.declared.roster.Member.{Member}
use Rattle.act_model.specs.declared.roster.TheConstants.{CALLERS}
use Rattle.act_model.specs.declared.seen.Seen.{Seen}
use Rattle.act_model.specs.declared.taken.Taken.{Taken}
use Rattle.act_model.specs.Rows.{first_row, unless}
use Rattle.act_model.specs.Roster.{members, enrolled_as, next_caller}
use Rattle.act_model.specs.OfficeTables.{tables_of}
use Rattle.act_model.specs.BatchRules.{batch_rulings}
use Rattle.act_model.specs.Taken.{taken_lines, accepted_in, faults_in}
use Rattle.act_model.specs.Holdings.{Holdings, holdings}
use Rattle.act_model.specs.Designations.{row_acts_of, links_of, is_given, is_principal}
use Rattle.act_model.specs.Discoveries.{seen_of, seen_in, earliest, span, half_of}
use Rattle.act_model.specs.Verdicts.{verdicts_of}
use Rattle.act_model.specs.Numbers.{numbers_of, eligible_objects, numbered_from, last_number}
use Rattle.act_model.specs.Knowing.{known_of}

-- an enrolment with this key, where these are enrolled
abbrev pub enrol_rows : List Member → Key → List (Bool × Refusal)
enrol_rows enrolled key =
    (is_some (enrolled_as enrolled key), AlreadyThere) ∷ (nat_le CALLERS (next_caller enrolled), RosterFull) ∷ []

-- a row that is there already
abbrev pub row_rows : Bool → List (Bool × Refusal)
row_rows is_there = (is_there, AlreadyThere) ∷ []

-- a batch of these lines
abbrev pub batch_rows : List Taken → List (Bool × Refusal)
batch_rows lines = (accepted_in lines == 0, NoLine (faults_in lines)) ∷ []

-- a retraction of this observation, where these are there
abbrev pub retract_rows : List Observation → ℕ → List (Bool × Refusal)
retract_rows observations k =
    (is_none (numbered observations k), UnknownThing (thing.Observation k))
    ∷ (not (is_live observations k), AlreadyRetracted k)
    ∷ []

-- a tracklet and a designation that are named
abbrev pub tracklet_row : List Tracklet → ℕ → Bool × Refusal
tracklet_row tracklets t = (is_none (numbered tracklets t), UnknownThing (thing.Tracklet t))

abbrev pub designation_row : List LinkAct → Designation → Bool × Refusal
designation_row acts d = (not (is_given acts d), UnknownThing (thing.Designation d))

-- a tracklet that is to come into an object
abbrev pub free_rows : Holdings → ℕ → List (Bool × Refusal)
free_rows held t =
    (is_some (home_of held.tracklets t), NotIsolated t) ∷ (length (seen_of held.observations t) == 0, Empty t) ∷ []

-- tracklets that are to become an object: all of them are there, before any is tested further
abbrev pub designate_rows : Holdings → List ℕ → List (Bool × Refusal)
designate_rows held tracklets = map (tracklet_row held.tracklets) tracklets ++ flat_map (free_rows held) tracklets

-- half a day, in nanoseconds
abbrev pub half_a_day : ℕ
half_a_day = 43200000000000

-- an object that is observed over this time and was discovered in this half-month
abbrev pub object_rows : List RowAct → ℤ → HalfMonth → List (Bool × Refusal)
object_rows rows time half =
    (int_lt time (pos half_a_day), OneNight time)
    ∷ (not (nat_lt (given_in half rows) (limit_of half)), HalfMonthFull half (limit_of half))
    ∷ []

-- a half-month that is to be taken over: it wasn't taken over before, and no designation was given in it
abbrev pub opening_rows : List RowAct → HalfMonth → List (Bool × Refusal)
opening_rows rows half = (is_begun half rows, HalfMonthBegun half) ∷ []

-- a tracklet that is to be added to an object, and one that is to be taken out
abbrev pub attribute_rows : Holdings → List LinkAct → ℕ → Designation → List (Bool × Refusal)
attribute_rows held acts t to = tracklet_row held.tracklets t ∷ designation_row acts to ∷ free_rows held t

abbrev pub release_rows : Holdings → ℕ → List (Bool × Refusal)
release_rows held t = tracklet_row held.tracklets t ∷ (is_none (home_of held.tracklets t), NotHomed t) ∷ []

-- the designation has a number
abbrev pub is_numbered : List Numbering → Designation → Bool
is_numbered numbered d = is_some (number_of numbered d)

-- objects that are to be made one
abbrev pub identify_rows : List LinkAct → List Numbering → Designation → Designation → List (Bool × Refusal)
identify_rows acts numbered p s =
    designation_row acts p
    ∷ designation_row acts s
    ∷ (not (is_principal acts p), NotPrincipal p)
    ∷ (not (is_principal acts s), NotPrincipal s)
    ∷ (eq_by_cmp designation_cmp p s, SameObject)
    ∷ (is_numbered numbered p && is_numbered numbered s, BothNumbered)
    ∷ (is_numbered numbered s, NumberedSecondary)
    ∷ []

-- a designation that is to be an object of its own again
abbrev pub separate_rows : List LinkAct → Designation → List (Bool × Refusal)
separate_rows acts s = designation_row acts s ∷ (is_principal acts s, NotSecondary s) ∷ []

-- a verdict on this designation
abbrev pub verdict_rows : List LinkAct → Designation → List (Bool × Refusal)
verdict_rows acts d = designation_row acts d ∷ (not (is_principal acts d), NotPrincipal d) ∷ []

-- numbers from the first on, where this is the next one
abbrev pub next_rows : Option ℕ → ℕ → List (Bool × Refusal)
next_rows None first = []
next_rows (Some next) first = (not (first == next), NotNext next) ∷ []

-- numbers from the first on for at most this many of the objects that can be numbered
abbrev pub number_rows : List Numbering → (first most : ℕ) → List Designation → List (Bool × Refusal)
number_rows numbered first most objects =
    next_rows (next_number numbered) first
    ++ ((length objects == 0, NoneEligible) ∷ (
      nat_lt GREATEST_NUMBER (last_number first (take most objects)),
      NumbersFull,
    ) ∷ [])

-- ---- what is done unless it is refused

-- an enrolment, where these are enrolled
abbrev pub enrols : List Member → Key → Rank → Result Deed Refusal
enrols enrolled key role =
    unless (first_row (enrol_rows enrolled key)) (Ok (Enrolled (record { key = key; rank = role })))

-- a station row and a code row, where these are the tables
abbrev pub enters_station : TableRows → (code : List ℕ) (from to : ℤ) → Result Deed Refusal
enters_station tables code from to =
    unless (first_row (row_rows (overlaps tables.stations code from to))) (Ok (Stationed code from to))

abbrev pub enters_code : TableRows → Kind → (letter : ℕ) → Short → Result Deed Refusal
enters_code tables kind letter word =
    unless (first_row (row_rows (has_code tables.codes kind letter word))) (Ok (Coded kind letter word))

-- a batch of these lines
abbrev pub submits : List Taken → Result Deed Refusal
submits lines = unless (first_row (batch_rows lines)) (Ok (Submitted lines))

-- a retraction, where these observations are there
abbrev pub retracts : List Observation → ℕ → Result Deed Refusal
retracts observations k = unless (first_row (retract_rows observations k)) (Ok (Retracted k))

-- An object of these tracklets, where these are their live observations: it gets the next designation of the half-month
-- in which the earliest one was made. Each tracklet has one, and an act names a tracklet at least.
abbrev pub designates_seen : List RowAct → List ℕ → List Seen → Result Deed Refusal
designates_seen rows tracklets [] = Err (Unread part.Body)
designates_seen rows tracklets (first ∷ more) =
    unless (first_row (object_rows rows (span first more) (half_of (earliest first more).time)))
    (Ok (Designated tracklets (next_in (half_of (earliest first more).time) rows) (earliest first more).number))

abbrev pub designates : Holdings → List RowAct → List ℕ → Result Deed Refusal
designates held rows tracklets =
    unless (first_row (designate_rows held tracklets))
    (designates_seen rows tracklets (seen_in held.observations tracklets))

-- A half-month is taken over, in which this many designations were given elsewhere. Those with these orders become
-- objects.
abbrev pub opens : List RowAct → HalfMonth → (given : ℕ) (carried : List ℕ) → Result Deed Refusal
opens rows half given carried = unless (first_row (opening_rows rows half)) (Ok (Opened half given carried))

-- a tracklet comes into an object, and out of one
abbrev pub attributes : Holdings → List LinkAct → ℕ → Designation → Result Deed Refusal
attributes held acts t to = unless (first_row (attribute_rows held acts t to)) (Ok (Attributed t to))

abbrev pub releases : Holdings → ℕ → Result Deed Refusal
releases held t = unless (first_row (release_rows held t)) (Ok (Released t))

-- two objects become one, and a designation an object of its own
abbrev pub identifies : List LinkAct → List Numbering → Designation → Designation → Result Deed Refusal
identifies acts numbered p s = unless (first_row (identify_rows acts numbered p s)) (Ok (Identified p s))

abbrev pub separates : List LinkAct → Designation → Result Deed Refusal
separates acts s = unless (first_row (separate_rows acts s)) (Ok (Separated s))

-- a verdict
abbrev pub judges : List LinkAct → Designation → (u oppositions : ℕ) → Result Deed Refusal
judges acts d u oppositions = unless (first_row (verdict_rows acts d)) (Ok (Judged d u oppositions))

-- numbers for at most this many of these objects
abbrev pub numbers : List Numbering → (first most : ℕ) → List Designation → Result Deed Refusal
numbers numbered first most objects =
    unless (first_row (number_rows numbered first most objects))
    (Ok (Numbered (numbered_from first (take most objects))))

-- the objects that can be numbered after these deeds
abbrev pub eligible_after : List Deed → List Designation
eligible_after past = eligible_objects (holdings past) (links_of past) (verdicts_of past) (numbers_of past)

-- the lines of a batch that comes at this moment, with what becomes of each
abbrev pub taken_after : List Deed → ℤ → List Line → List Taken
taken_after past moment lines =
    taken_lines (known_of past) (length (holdings past).tracklets) (length (holdings past).tracklets) lines
    (batch_rulings (known_of past) (tables_of past) moment lines)

-- what an act does after these deeds, at this moment
unfoldable pub does : List Deed → ℤ → Act → Result Deed Refusal
does past moment (act.Enrol key name role) = enrols (members past) key role
does past moment (act.Station code name from to) = enters_station (tables_of past) code from to
does past moment (act.Code kind letter word) = enters_code (tables_of past) kind letter word
does past moment (act.Submit80 lines) = submits (taken_after past moment lines)
does past moment (act.SubmitPsv lines) = submits (taken_after past moment lines)
does past moment (act.Designate tracklets) = designates (holdings past) (row_acts_of past) tracklets
does past moment (act.Attribute t to) = attributes (holdings past) (links_of past) t to
does past moment (act.Release t) = releases (holdings past) t
does past moment (act.Identify p s) = identifies (links_of past) (numbers_of past) p s
does past moment (act.Separate s) = separates (links_of past) s
does past moment (act.Verdict d u oppositions) = judges (links_of past) d u oppositions
does past moment (act.Number first most) = numbers (numbers_of past) first most (eligible_after past)
does past moment (act.Retract k) = retracts (holdings past).observations k
does past moment (act.Opening half given carried) = opens (row_acts_of past) half given carried

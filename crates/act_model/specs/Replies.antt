-- What the office answers to an act that it accepted, and the text and status of every reply.
use Rattle.std.specs.Prelude.{ℕ, ◌+◌, true, false, List, [], ◌∷◌, ◌++◌, flat_map, codes, decimal, Result, Ok, Err}
use Rattle.std.specs.Fmt.{signed_decimal}
use Rattle.packed_names.specs.declared.name.Designation.TheVariants.{Provisional}
use Rattle.obs_record.specs.declared.rule.RuleCode.{RuleCode}
use Rattle.act_model.specs.declared.deed.Deed.{Deed}
use Rattle.act_model.specs.declared.deed.Deed.TheVariants.{Enrolled, Submitted, Designated, Numbered, Opened}
use Rattle.act_model.specs.declared.entry.Entry.{Entry}
use Rattle.act_model.specs.declared.reply.Excess.TheVariants as excess
use Rattle.act_model.specs.declared.reply.Fault.{Fault}
use Rattle.act_model.specs.declared.reply.Part.TheVariants as part
use Rattle.act_model.specs.declared.reply.Refusal.{Refusal}
use Rattle.act_model.specs.declared.reply.Refusal.TheVariants.{TooLarge, Unread, UnknownKey, OtherRequest, Role}
use Rattle.act_model.specs.declared.reply.Refusal.TheVariants.{UnknownThing, Header, NoLine, NotIsolated, NotHomed}
use Rattle.act_model.specs.declared.reply.Refusal.TheVariants.{Empty, OneNight, HalfMonthFull, HalfMonthBegun}
use Rattle.act_model.specs.declared.reply.Refusal.TheVariants.{NotPrincipal, SameObject, BothNumbered}
use Rattle.act_model.specs.declared.reply.Refusal.TheVariants.{NumberedSecondary, NotSecondary, AlreadyRetracted}
use Rattle.act_model.specs.declared.reply.Refusal.TheVariants.{NotNext, NoneEligible, NumbersFull, AlreadyThere}
use Rattle.act_model.specs.declared.reply.Refusal.TheVariants.{RosterFull, JournalFull, DiskFault, NoMemory}
use Rattle.act_model.specs.declared.reply.Reply.{Reply}
use Rattle.act_model.specs.declared.reply.Reply.TheVariants.{Done, Refused}
use Rattle.act_model.specs.declared.reply.Text.{Text}
use Rattle.act_model.specs.declared.reply.Text.TheVariants as texts
use Rattle.act_model.specs.declared.reply.Thing.TheVariants as thing
use Rattle.act_model.specs.declared.taken.Placed.{Placed}
use Rattle.act_model.specs.declared.taken.Taken.{Taken}
use Rattle.act_model.specs.Deeds.{deed_of, deeds}
use Rattle.act_model.specs.Roster.{members, next_caller}
use Rattle.act_model.specs.History.{next_receipt}
use Rattle.act_model.specs.Taken.{accepted_in, refused_in}
use Rattle.act_model.specs.Observations.{observations}
use Rattle.act_model.specs.Texts.{line_of, header_name, receipt_line, caller_line, counts_line, accepted_line}
use Rattle.act_model.specs.Texts.{refused_line, designation_text, half_month_text, object_line, object_lines}
use Rattle.act_model.specs.Texts.{number_lines}

-- the answer to a line that was taken in so, where this many observations came before it
abbrev pub line_answer : ℕ → ℕ → Result Placed RuleCode → List ℕ
line_answer before number (Ok placed) = accepted_line number (before + 1) placed.track
line_answer before number (Err rule) = refused_line number rule

-- how many observations there are after it: an accepted line is the next observation
abbrev pub observations_with : ℕ → Result Placed RuleCode → ℕ
observations_with before (Ok placed) = before + 1
observations_with before (Err rule) = before

-- the answers to the lines of a batch, in their order
abbrev pub line_answers : List Taken → ℕ → List ℕ
line_answers [] before = []
line_answers (taken ∷ lines) before =
    line_answer before taken.line taken.found ++ line_answers lines (observations_with before taken.found)

-- the answer to a batch of these lines that became the entry with this receipt, where this many observations came
-- before it
unfoldable pub batch_answer : ℕ → ℕ → List Taken → List ℕ
batch_answer receipt before lines =
    receipt_line receipt ++ (counts_line (accepted_in lines) (refused_in lines) ++ line_answers lines before)

-- the answer to a deed after these deeds, whose entry has this receipt
abbrev pub deed_answer : ℕ → List Deed → Deed → List ℕ
deed_answer receipt past (Submitted lines) = batch_answer receipt (observations past) lines
deed_answer receipt past (Enrolled member) = receipt_line receipt ++ caller_line (next_caller (members past))
deed_answer receipt past (Designated tracklets given discovery) =
    receipt_line receipt ++ object_line (Provisional given)
deed_answer receipt past (Numbered pairs) = receipt_line receipt ++ number_lines pairs
deed_answer receipt past (Opened half given carried) = receipt_line receipt ++ object_lines half carried
deed_answer receipt past _ = receipt_line receipt

-- the answer to an entry, worked out at the history before it
unfoldable pub entry_answer : List Entry → Entry → List ℕ
entry_answer past entry = deed_answer (next_receipt past) (deeds past) (deed_of (deeds past) entry)

-- the lines of the faults of a batch
abbrev pub fault_lines : List Fault → List ℕ
fault_lines faults = flat_map (λ fault. refused_line fault.line fault.rule) faults

-- the line of a refusal: its number, its name, and what it carries; the faults of a batch follow in lines of their own
abbrev pub refusal_text : Refusal → List ℕ
refusal_text (TooLarge (excess.Length size)) = line_of (codes "refused 14 TooLarge bytes " ++ decimal size)
refusal_text (TooLarge (excess.Lines count)) = line_of (codes "refused 14 TooLarge lines " ++ decimal count)
refusal_text (Unread part.Verb) = line_of (codes "refused 1 Unread verb")
refusal_text (Unread part.Number) = line_of (codes "refused 1 Unread number")
refusal_text (Unread part.Body) = line_of (codes "refused 1 Unread body")
refusal_text UnknownKey = line_of (codes "refused 2 UnknownKey")
refusal_text (OtherRequest receipt) = line_of (codes "refused 3 OtherRequest receipt " ++ decimal receipt)
refusal_text Role = line_of (codes "refused 4 Role")
refusal_text (UnknownThing (thing.Observation k)) = line_of (codes "refused 5 UnknownThing observation " ++ decimal k)
refusal_text (UnknownThing (thing.Tracklet t)) = line_of (codes "refused 5 UnknownThing tracklet " ++ decimal t)
refusal_text (UnknownThing (thing.Designation d)) =
    line_of (codes "refused 5 UnknownThing designation " ++ designation_text d)
refusal_text (UnknownThing (thing.Receipt number)) = line_of (codes "refused 5 UnknownThing receipt " ++ decimal number)
refusal_text (Header fault line) =
    line_of (codes "refused 6 Header " ++ header_name fault ++ codes " line " ++ decimal line)
refusal_text (NoLine faults) = line_of (codes "refused 7 NoLine") ++ fault_lines faults
refusal_text (NotIsolated t) = line_of (codes "refused 8 NotIsolated " ++ decimal t)
refusal_text (NotHomed t) = line_of (codes "refused 8 NotHomed " ++ decimal t)
refusal_text (Empty t) = line_of (codes "refused 8 Empty " ++ decimal t)
refusal_text (OneNight time) = line_of (codes "refused 8 OneNight " ++ signed_decimal time)
refusal_text (HalfMonthFull half limit) =
    line_of (codes "refused 9 HalfMonthFull " ++ half_month_text half ++ codes " " ++ decimal limit)
refusal_text (HalfMonthBegun half) = line_of (codes "refused 18 HalfMonthBegun " ++ half_month_text half)
refusal_text (NotPrincipal d) = line_of (codes "refused 10 NotPrincipal " ++ designation_text d)
refusal_text SameObject = line_of (codes "refused 10 SameObject")
refusal_text BothNumbered = line_of (codes "refused 10 BothNumbered")
refusal_text NumberedSecondary = line_of (codes "refused 10 NumberedSecondary")
refusal_text (NotSecondary d) = line_of (codes "refused 10 NotSecondary " ++ designation_text d)
refusal_text (AlreadyRetracted k) = line_of (codes "refused 11 AlreadyRetracted " ++ decimal k)
refusal_text (NotNext next) = line_of (codes "refused 12 NotNext " ++ decimal next)
refusal_text NoneEligible = line_of (codes "refused 12 NoneEligible")
refusal_text NumbersFull = line_of (codes "refused 12 NumbersFull")
refusal_text AlreadyThere = line_of (codes "refused 13 AlreadyThere")
refusal_text RosterFull = line_of (codes "refused 13 RosterFull")
refusal_text (JournalFull used more limit) =
    line_of (codes "refused 15 JournalFull used " ++ decimal used ++ codes " more " ++ decimal more ++ codes " limit "
    ++ decimal limit)
refusal_text (DiskFault false) = line_of (codes "refused 16 DiskFault untouched")
refusal_text (DiskFault true) = line_of (codes "refused 16 DiskFault doubt")
refusal_text NoMemory = line_of (codes "refused 17 NoMemory")

abbrev pub text_of : Reply → List ℕ
text_of (Done text) = text
text_of (Refused refusal) = refusal_text refusal

-- the bytes of a text
abbrev pub text_bytes : Text → List ℕ
text_bytes (texts.Lines text) = text
text_bytes (texts.Line line) = line.items

-- anything else isn't allowed by what the office has
abbrev pub refusal_status : Refusal → ℕ
refusal_status (TooLarge what) = 413
refusal_status (Unread what) = 400
refusal_status UnknownKey = 401
refusal_status Role = 403
refusal_status (UnknownThing thing) = 404
refusal_status (Header fault line) = 422
refusal_status (NoLine faults) = 422
refusal_status (DiskFault doubt) = 503
refusal_status NoMemory = 507
refusal_status _ = 409

abbrev pub status_of : Reply → ℕ
status_of (Done text) = 200
status_of (Refused refusal) = refusal_status refusal

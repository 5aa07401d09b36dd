-- The act that a request asks for. It is a function of the verb and the body alone.
use Rattle.std.specs.Prelude.{ℕ, ◌≤◌, List, length, Option, Some, None, Result, Ok, Err, ◌≤ℤ◌}
use Rattle.packed_names.specs.Ranges.{IsNumber}
use Rattle.act_bodies.specs.declared.enrol.Enrol.{Enrol as EnrolBody}
use Rattle.act_bodies.specs.declared.station.Station.{Station as StationBody}
use Rattle.act_bodies.specs.declared.code.Code.{Code as CodeBody}
use Rattle.act_bodies.specs.declared.designate.Designate.{Designate as DesignateBody}
use Rattle.act_bodies.specs.declared.attribute.Attribute.{Attribute as AttributeBody}
use Rattle.act_bodies.specs.declared.release.Release.{Release as ReleaseBody}
use Rattle.act_bodies.specs.declared.identify.Identify.{Identify as IdentifyBody}
use Rattle.act_bodies.specs.declared.separate.Separate.{Separate as SeparateBody}
use Rattle.act_bodies.specs.declared.verdict.Verdict.{Verdict as VerdictBody}
use Rattle.act_bodies.specs.declared.number.Number.{Number as NumberBody}
use Rattle.act_bodies.specs.declared.retract.Retract.{Retract as RetractBody}
use Rattle.act_bodies.specs.declared.opening.Opening.{Opening as OpeningBody}
use Rattle.act_bodies.specs.Bodies.{enrol_of, station_of, code_of, designate_of, attribute_of, release_of, identify_of}
use Rattle.act_bodies.specs.Bodies.{separate_of, verdict_of, number_of_body, retract_of, opening_of}
use Rattle.act_bodies.specs.Bodies.{IsOpening}
use Rattle.obs_record.specs.declared.line.Line.{Line}
use Rattle.obs_record.specs.declared.rule.HeaderFault.{HeaderFault}
use Rattle.act_bodies.specs.declared.fault.BodyFault.{BodyFault}
use Rattle.act_bodies.specs.declared.fault.BodyFault.TheVariants as bodies
use Rattle.ades_psv.specs.declared.fault.PsvFault.{PsvFault}
use Rattle.ades_psv.specs.declared.fault.PsvFault.TheVariants as batches
use Rattle.col80_format.specs.Batch.{lines_of}
use Rattle.ades_psv.specs.Batch.{psv_lines_of}
use Rattle.act_model.specs.Queries.{IsReadQuery}
use Rattle.act_model.specs.declared.request.Verb.{Verb}
use Rattle.act_model.specs.declared.request.Verb.TheVariants.{Enrol, Station, Code, Submit80, SubmitPsv, Designate}
use Rattle.act_model.specs.declared.request.Verb.TheVariants.{Attribute, Release, Identify, Separate, Verdict, Number}
use Rattle.act_model.specs.declared.request.Verb.TheVariants.{Retract, Opening}
use Rattle.act_model.specs.declared.act.Act.{Act}
use Rattle.act_model.specs.declared.act.Act.TheVariants as act
use Rattle.act_model.specs.declared.heard.Asked.{Asked}
use Rattle.act_model.specs.declared.heard.Asked.TheVariants as asked
use Rattle.act_model.specs.declared.act.ActFault.{ActFault}
use Rattle.act_model.specs.declared.act.ActFault.TheVariants.{Unread, Header, NoMemory}

-- the fault of an act whose body has this fault
abbrev pub fault_of_body : BodyFault → ActFault
fault_of_body bodies.Unread = Unread
fault_of_body bodies.NoMemory = NoMemory

abbrev pub fault_of_psv : PsvFault → ActFault
fault_of_psv (batches.Header fault line) = Header fault line
fault_of_psv batches.NoMemory = NoMemory

-- what was asked, or the body isn't as the verb wants it
abbrev pub read_as : {B : Type 0} → (B → Act) → Option B → Result Act ActFault
read_as asked (Some body) = Ok (asked body)
read_as asked None = Err Unread

abbrev pub enrol_act : EnrolBody → Act
enrol_act body = act.Enrol body.key body.name body.role

abbrev pub station_act : StationBody → Act
station_act body = act.Station body.code body.name body.from body.to

abbrev pub code_act : CodeBody → Act
code_act body = act.Code body.kind body.letter body.word

abbrev pub designate_act : DesignateBody → Act
designate_act body = act.Designate body.tracklets

abbrev pub attribute_act : AttributeBody → Act
attribute_act body = act.Attribute body.tracklet body.to

abbrev pub release_act : ReleaseBody → Act
release_act body = act.Release body.tracklet

abbrev pub identify_act : IdentifyBody → Act
identify_act body = act.Identify body.principal body.secondary

abbrev pub separate_act : SeparateBody → Act
separate_act body = act.Separate body.secondary

abbrev pub verdict_act : VerdictBody → Act
verdict_act body = act.Verdict body.object body.u body.oppositions

abbrev pub number_act : NumberBody → Act
number_act body = act.Number body.first body.most

abbrev pub retract_act : RetractBody → Act
retract_act body = act.Retract body.observation

abbrev pub opening_act : OpeningBody → Act
opening_act body = act.Opening body.half body.given body.carried

-- a batch in PSV form, or the first fault of its headers
abbrev pub psv_act : Result (List Line) (HeaderFault × ℕ) → Result Act ActFault
psv_act (Ok lines) = Ok (act.SubmitPsv lines)
psv_act (Err fault) = Err (Header fault.0 fault.1)

-- The act of a verb and a body. Every body is one of a batch of 80 columns; one in PSV form may have a fault of its
-- headers; any other act has the body that its verb wants; and the verb of a query, or one that names nothing, is no
-- act.
unfoldable pub act_of : Verb → List ℕ → Result Act ActFault
act_of Enrol body = read_as enrol_act (enrol_of body)
act_of Station body = read_as station_act (station_of body)
act_of Code body = read_as code_act (code_of body)
act_of Submit80 body = Ok (act.Submit80 (lines_of body))
act_of SubmitPsv body = psv_act (psv_lines_of body)
act_of Designate body = read_as designate_act (designate_of body)
act_of Attribute body = read_as attribute_act (attribute_of body)
act_of Release body = read_as release_act (release_of body)
act_of Identify body = read_as identify_act (identify_of body)
act_of Separate body = read_as separate_act (separate_of body)
act_of Verdict body = read_as verdict_act (verdict_of body)
act_of Number body = read_as number_act (number_of_body body)
act_of Retract body = read_as retract_act (retract_of body)
act_of Opening body = read_as opening_act (opening_of body)
act_of _ body = Err Unread

-- What reading a body makes sure of: a station's last day isn't before its first; the tracklets that are to become an
-- object are one at least, and at most 100; this many numbers are asked for, from a number that can be given; and a
-- half-month is taken over with a count that it can have, and with at most 100 different orders up to this count.
abbrev pub IsRead : Act → Type 0
IsRead (act.Station code name from to) = from ≤ℤ to
IsRead (act.Designate tracklets) = (1 ≤ length tracklets) × (length tracklets ≤ 100)
IsRead (act.Number first most) = IsNumber first × (1 ≤ most) × (most ≤ 1000)
IsRead (act.Opening half given carried) = IsOpening (record { half = half; given = given; carried = carried })
IsRead _ = Unit {0}

abbrev pub IsReadAsked : Asked → Type 0
IsReadAsked (asked.Act act) = IsRead act
IsReadAsked (asked.Header fault line) = Unit {0}
IsReadAsked (asked.Query query) = IsReadQuery query

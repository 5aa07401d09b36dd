-- What the numbers of an act that was read are sure of.
use Rattle.std.proofs.Common.{IfOk, ◌≡◌, ℕ, List, Some, Result}
use Rattle.packed_names.specs.Ranges.{IsNumber}
use Rattle.act_bodies.specs.declared.number.Number.{Number as NumberBody}
use Rattle.act_bodies.specs.declared.opening.Opening.{Opening as OpeningBody}
use Rattle.act_bodies.specs.Bodies.{enrol_of, station_of, code_of, designate_of, attribute_of, release_of, identify_of, separate_of, verdict_of, number_of_body, retract_of, opening_of, IsOpening}
use Rattle.ades_psv.specs.Batch.{psv_lines_of}
use Rattle.act_model.specs.declared.act.Act.{Act}
use Rattle.act_model.specs.declared.act.Act.TheVariants as act
use Rattle.act_model.specs.declared.act.ActFault.{ActFault}
use Rattle.act_model.specs.declared.request.Verb.{Verb}
use Rattle.act_model.specs.declared.request.Verb.TheVariants.{Enrol, Station, Code, SubmitPsv, Designate, Attribute, Release, Identify, Separate, Verdict, Number, Retract, Opening}
use Rattle.act_model.specs.Acts.{enrol_act, station_act, code_act, designate_act, attribute_act, release_act, identify_act, separate_act, verdict_act, number_act, retract_act, opening_act, act_of, IsRead}
use Rattle.act_model.proofs.DeedCases.{of_body, of_psv}

-- the first number that is asked for is one that can be given, and an opening's count and orders are in their ranges
abbrev pub IsInRange : Act → Type 0
IsInRange (act.Number first most) = IsNumber first
IsInRange (act.Opening half given carried) = IsOpening (record { half = half; given = given; carried = carried })
IsInRange _ = Unit {0}

pub range_of_read : (a : Act) → IsRead a → IsInRange a
range_of_read (act.Number first most) read = read.0
range_of_read (act.Opening half given carried) read = read
range_of_read _ read = tt

abbrev pub IsInRangeRead : Result Act ActFault → Type 0
IsInRangeRead read = IfOk read IsInRange

-- the bodies of numberings ask for numbers that can be given
abbrev pub AreFirst : Type 0
AreFirst = (bytes : List ℕ) (number : NumberBody) → number_of_body bytes ≡ Some number → IsNumber number.first

-- the bodies of openings have a count and orders in their ranges
abbrev pub AreOpenings : Type 0
AreOpenings = (bytes : List ℕ) (opening : OpeningBody) → opening_of bytes ≡ Some opening → IsOpening opening

module _ (firsts : AreFirst) (openings : AreOpenings) where
  pub read_in_range : (verb : Verb) (body : List ℕ) → IsInRangeRead (act_of verb body)
  unfolding act_of
  read_in_range Enrol body = of_body IsInRange enrol_act (enrol_of body) (λ _ _. tt)
  read_in_range Station body = of_body IsInRange station_act (station_of body) (λ _ _. tt)
  read_in_range Code body = of_body IsInRange code_act (code_of body) (λ _ _. tt)
  read_in_range SubmitPsv body = of_psv IsInRange (psv_lines_of body) (λ _ _. tt)
  read_in_range Designate body = of_body IsInRange designate_act (designate_of body) (λ _ _. tt)
  read_in_range Attribute body = of_body IsInRange attribute_act (attribute_of body) (λ _ _. tt)
  read_in_range Release body = of_body IsInRange release_act (release_of body) (λ _ _. tt)
  read_in_range Identify body = of_body IsInRange identify_act (identify_of body) (λ _ _. tt)
  read_in_range Separate body = of_body IsInRange separate_act (separate_of body) (λ _ _. tt)
  read_in_range Verdict body = of_body IsInRange verdict_act (verdict_of body) (λ _ _. tt)
  read_in_range Number body = of_body IsInRange number_act (number_of_body body) (firsts body)
  read_in_range Retract body = of_body IsInRange retract_act (retract_of body) (λ _ _. tt)
  read_in_range Opening body = of_body IsInRange opening_act (opening_of body) (openings body)
  read_in_range _ body = tt

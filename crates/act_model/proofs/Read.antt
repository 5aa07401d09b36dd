-- What an act that was read is sure of: its lines state what may be filed, its letter is one of its kind, and its
-- station's code is 3 letters or digits.
use Rattle.std.proofs.Common.{IfOk, ◌≡◌, ℕ, true, List, Some, Result, Ok}
use Rattle.obs_record.specs.declared.line.Line.{Line}
use Rattle.obs_record.specs.Filed.{AreStated}
use Rattle.station_tables.specs.Letters.{IsLetterOf}
use Rattle.act_bodies.specs.declared.code.Code.{Code as CodeBody}
use Rattle.act_bodies.specs.declared.station.Station.{Station as StationBody}
use Rattle.act_bodies.specs.Members.{is_station_code}
use Rattle.act_bodies.specs.Bodies.{enrol_of, station_of, code_of, designate_of, attribute_of, release_of, identify_of, separate_of, verdict_of, number_of_body, retract_of, opening_of}
use Rattle.col80_format.specs.Batch.{lines_of}
use Rattle.ades_psv.specs.Batch.{psv_lines_of}
use Rattle.act_model.specs.declared.act.Act.{Act}
use Rattle.act_model.specs.declared.act.Act.TheVariants as act
use Rattle.act_model.specs.declared.act.ActFault.{ActFault}
use Rattle.act_model.specs.declared.request.Verb.{Verb}
use Rattle.act_model.specs.declared.request.Verb.TheVariants.{Enrol, Station, Code, Submit80, SubmitPsv, Designate, Attribute, Release, Identify, Separate, Verdict, Number, Retract, Opening}
use Rattle.act_model.specs.Acts.{enrol_act, station_act, code_act, designate_act, attribute_act, release_act, identify_act, separate_act, verdict_act, number_act, retract_act, opening_act, act_of}
use Rattle.act_model.proofs.DeedCases.{of_body, of_psv}

abbrev pub IsSound : Act → Type 0
IsSound (act.Submit80 lines) = AreStated lines
IsSound (act.SubmitPsv lines) = AreStated lines
IsSound (act.Code kind letter word) = IsLetterOf kind letter
IsSound (act.Station code name from to) = is_station_code code ≡ true
IsSound _ = Unit {0}

abbrev pub IsSoundlyRead : Result Act ActFault → Type 0
IsSoundlyRead read = IfOk read IsSound

-- ---- laws of the crates below

abbrev pub EightyStated : Type 0
EightyStated = (body : List ℕ) → AreStated (lines_of body)

abbrev pub PsvStated : Type 0
PsvStated = (body : List ℕ) (lines : List Line) → psv_lines_of body ≡ Ok lines → AreStated lines

abbrev pub LettersPrinted : Type 0
LettersPrinted = (bytes : List ℕ) (code : CodeBody) → code_of bytes ≡ Some code → IsLetterOf code.kind code.letter

abbrev pub StationsCoded : Type 0
StationsCoded = (bytes : List ℕ) (station : StationBody) → station_of bytes ≡ Some station → is_station_code station.code ≡ true

module _ (eighty : EightyStated) (psv : PsvStated) (letters : LettersPrinted) (stations : StationsCoded) where
  pub sound_read : (verb : Verb) (body : List ℕ) → IsSoundlyRead (act_of verb body)
  unfolding act_of
  sound_read Enrol body = of_body IsSound enrol_act (enrol_of body) (λ _ _. tt)
  sound_read Station body = of_body IsSound station_act (station_of body) (stations body)
  sound_read Code body = of_body IsSound code_act (code_of body) (letters body)
  sound_read Submit80 body = eighty body
  sound_read SubmitPsv body = of_psv IsSound (psv_lines_of body) (psv body)
  sound_read Designate body = of_body IsSound designate_act (designate_of body) (λ _ _. tt)
  sound_read Attribute body = of_body IsSound attribute_act (attribute_of body) (λ _ _. tt)
  sound_read Release body = of_body IsSound release_act (release_of body) (λ _ _. tt)
  sound_read Identify body = of_body IsSound identify_act (identify_of body) (λ _ _. tt)
  sound_read Separate body = of_body IsSound separate_act (separate_of body) (λ _ _. tt)
  sound_read Verdict body = of_body IsSound verdict_act (verdict_of body) (λ _ _. tt)
  sound_read Number body = of_body IsSound number_act (number_of_body body) (λ _ _. tt)
  sound_read Retract body = of_body IsSound retract_act (retract_of body) (λ _ _. tt)
  sound_read Opening body = of_body IsSound opening_act (opening_of body) (λ _ _. tt)
  sound_read _ body = tt

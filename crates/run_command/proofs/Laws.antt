-- The laws of readings and of the office on which the proofs of a run rest, as the crates below ensure them.
use Rattle.std.proofs.Common.{◌≡◌, true, ℕ, ℤ, List, ◌++◌, Option, Some}
use Rattle.obs_time.specs.Instants.{IsInstantNs}
use Rattle.act_bodies.specs.declared.key.Key.{Key}
use Rattle.act_model.specs.declared.entry.Entry.{Entry}
use Rattle.act_model.specs.declared.keeper.OfficeState.{OfficeState}
use Rattle.read_ahead.specs.declared.body.Body.TheVariants.{NoRoom}
use Rattle.act_model.specs.declared.request.Request.{Request}
use Rattle.act_model.specs.declared.reply.Refusal.{Refusal}
use Rattle.act_model.specs.declared.reply.Refusal.TheVariants.{NoMemory}
use Rattle.act_model.specs.declared.reply.Reply.{Reply}
use Rattle.act_model.specs.declared.reply.Reply.TheVariants.{Done, Refused}
use Rattle.act_model.specs.History.{Kept, numbered_entry, EachNumberOnce}
use Rattle.act_model.specs.Legal.{IsLegal}
use Rattle.act_model.specs.Places.{OnePlace}
use Rattle.act_model.specs.Requests.{is_act}
use Rattle.act_model.specs.Step.{step}
use Rattle.act_model.specs.Unbroken.{UnbrokenRows, UnbrokenNumbers}
use Rattle.act_model.specs.Conducts.{Extends, HadMemory, HadNoFault, IsStepped, IsAcknowledged, EitherWay}
use Rattle.act_model.specs.Clocks.{ClockState, Gives}
use Rattle.mpc_desk.specs.Accepted.{AddsLines}
use Rattle.act_model.specs.Turns.{Turn, Answers, IsTurn, Mends, Conduct, at_rest}

-- what is known of legal histories: a turn and a conduct leave them, and what stands for a number in one does in later
-- ones; an act that was answered stands for its number
pub record KeptLaws : Type 0 where
  pub legal_step : (founder : Key) (limit : Option ℕ) (past after : List Entry) (request : Request) (reading : ℤ) (reply : Reply) → IsLegal founder past → IsInstantNs reading → step founder limit past request reading ≡ (reply, after) → IsLegal founder after
  pub legal_conduct : (founder : Key) (limit : Option ℕ) (before after : OfficeState) (turns : List Turn) → EitherWay (IsLegal founder) before → Conduct founder limit before turns after → EitherWay (IsLegal founder) after
  pub acknowledged : (founder : Key) (limit : Option ℕ) (before after : OfficeState) (turn : Turn) (text : List ℕ) → IsTurn founder limit before turn after → is_act turn.request.verb ≡ true → turn.reply ≡ Done text
      → (mended : List Entry) × Mends before.settled before.doubt mended × IsAcknowledged founder mended turn.request text after.settled
  pub kept : (founder : Key) (earlier later : List Entry) (caller number : ℕ) (k : Kept) → IsLegal founder later → Extends earlier later → numbered_entry earlier caller number ≡ Some k → numbered_entry later caller number ≡ Some k

pub record OfficeLaws : Type 0 where
  pub keeps : KeptLaws
  -- a clock that gave some readings and then others gave them all
  pub readings : (before between after : ClockState) (xs ys : List ℤ) → Gives before between xs → Gives between after ys → Gives before after (xs ++ ys)
  -- histories grow, and keep each number once; a legal history has each number once
  pub grow : (founder : Key) (limit : Option ℕ) (before after : OfficeState) (turns : List Turn) → Conduct founder limit before turns after → Extends before.settled after.settled
  pub once : (founder : Key) (limit : Option ℕ) (before after : OfficeState) (turns : List Turn) → Conduct founder limit before turns after → EitherWay EachNumberOnce before → EitherWay EachNumberOnce after
  pub legal_once : (founder : Key) (history : List Entry) → IsLegal founder history → EachNumberOnce history
  -- each accepted observation stands in one place, and designations and numbers follow one another
  pub places : (history : List Entry) → OnePlace history
  pub rows : (history : List Entry) → UnbrokenRows history
  pub numbers : (history : List Entry) → UnbrokenNumbers history
  -- a later history has the accepted observations of an earlier one, and those of its newer entries
  pub lines : (earlier later : List Entry) → Extends earlier later → AddsLines earlier later
  -- where no fault was counted nothing is in doubt, and where memory was never refused either a conduct is the step
  pub rests : (founder : Key) (limit : Option ℕ) (past : List Entry) (after : OfficeState) (turns : List Turn) → Conduct founder limit (at_rest past) turns after → HadNoFault turns → after ≡ at_rest after.settled
  pub steps : (founder : Key) (limit : Option ℕ) (past : List Entry) (after : OfficeState) (turns : List Turn) → Conduct founder limit (at_rest past) turns after → HadNoFault turns → HadMemory turns → IsStepped founder limit past turns after.settled

-- what is known of out of memory
pub record WantLaws : Type 0 where
  -- it may stand in the place of a refusal
  pub instead : (founder : Key) (limit : Option ℕ) (past after : List Entry) (request : Request) (reading : ℤ) (refusal : Refusal) → Answers founder limit past request reading (Refused refusal) after → Answers founder limit past request reading (Refused NoMemory) after
  -- it is the answer to a body without room, and changes nothing
  pub no_step : (founder : Key) (limit : Option ℕ) (past : List Entry) (request : Request) (reading : ℤ) → request.body ≡ NoRoom → step founder limit past request reading ≡ (Refused NoMemory, past)
  pub no_room : (founder : Key) (limit : Option ℕ) (past after : List Entry) (request : Request) (reading : ℤ) (reply : Reply) → request.body ≡ NoRoom → Answers founder limit past request reading reply after → (reply ≡ Refused NoMemory) × (after ≡ past)

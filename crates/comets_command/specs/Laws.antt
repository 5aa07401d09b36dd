-- The laws of the crates below on which those of a run rest.
use Rattle.std.specs.Prelude.{◌≡◌, true, ℕ, ℤ, List, ◌++◌, Option, Some}
use Rattle.obs_time.specs.Instants.{IsInstantNs}
use Rattle.obs_journal.specs.Chains.{IsInForce}
use Rattle.act_bodies.specs.declared.key.Key.{Key}
use Rattle.act_bodies.specs.Keys.{key_text, begins_with_plus}
use Rattle.act_model.specs.declared.deed.Deed.{Deed}
use Rattle.act_model.specs.declared.entry.Entry.{Entry}
use Rattle.act_model.specs.declared.keeper.OfficeState.{OfficeState}
use Rattle.act_model.specs.Clocks.{ClockState, Gives}
use Rattle.act_model.specs.Conducts.{Extends, EitherWay}
use Rattle.act_model.specs.History.{Kept, numbered_entry, EachNumberOnce}
use Rattle.act_model.specs.Legal.{IsLegal as IsLegalHistory}
use Rattle.act_model.specs.Turns.{at_rest}
use Rattle.mpc_desk.specs.Files.{Stands, StandsFirst}
use Rattle.mpc_desk.specs.Opening.{IsDamagedFirst, IsDamagedSecond}
use Rattle.mpc_desk.specs.Pairs.{FilePair, StandBoth}
use Rattle.comet_model.specs.declared.reply.CometReply.{CometReply}
use Rattle.comet_model.specs.declared.reply.CometReply.TheVariants.{Done}
use Rattle.comet_model.specs.declared.request.CometRequest.{CometRequest}
use Rattle.comet_model.specs.Conducts.{HadMemory, HadNoFault, IsStepped, IsAcknowledged}
use Rattle.comet_model.specs.Legal.{IsLegal}
use Rattle.comet_model.specs.Requests.{is_act}
use Rattle.comet_model.specs.Step.{step}
use Rattle.comet_model.specs.Turns.{CometTurn, IsTurn, Conduct}
use Rattle.comet_model.specs.Unbroken.{UnbrokenNames}
use Rattle.comet_desk.specs.Files.{HoldsEntries}
use Rattle.comet_desk.specs.Opening.{IsDamaged}

pub record RegisterLaws : Type 0 where
  -- a clock that gave some readings and then others gave them all
  pub readings : (before between after : ClockState) (xs ys : List ℤ) → Gives before between xs
      → Gives between after ys → Gives before after (xs ++ ys)
  -- a step and a conduct leave legal registers legal
  pub legal_step : (founder : Key) (limit : Option ℕ) (desk : List Deed) (past after : List Entry)
      (request : CometRequest) (reading : ℤ) (reply : CometReply) → IsLegal founder desk past → IsInstantNs reading
      → step founder limit desk past request reading ≡ (reply, after) → IsLegal founder desk after
  pub legal_conduct : (founder : Key) (limit : Option ℕ) (desk : List Deed) (before after : OfficeState)
      (turns : List CometTurn) → EitherWay (IsLegal founder desk) before
      → Conduct founder limit desk before turns after → EitherWay (IsLegal founder desk) after
  -- registers grow; a legal one has each number once; names follow one another
  pub grow : (founder : Key) (limit : Option ℕ) (desk : List Deed) (before after : OfficeState)
      (turns : List CometTurn) → Conduct founder limit desk before turns after
      → Extends before.settled after.settled
  pub once : (founder : Key) (desk : List Deed) (entries : List Entry) → IsLegal founder desk entries
      → EachNumberOnce entries
  pub names : (desk : List Deed) (entries : List Entry) → UnbrokenNames desk entries
  -- an act that was answered stands for its number, and what stands for a number in one legal register does in later
  -- ones
  pub acknowledged : (founder : Key) (limit : Option ℕ) (desk : List Deed) (before after : OfficeState)
      (turn : CometTurn) (text : List ℕ) → IsTurn founder limit desk before turn after
      → is_act turn.request.verb ≡ true → turn.reply ≡ Done text
      → IsAcknowledged desk turn.request text after.settled
  pub kept : (founder : Key) (desk : List Deed) (earlier later : List Entry) (number : ℕ) (k : Kept)
      → IsLegal founder desk later → Extends earlier later → numbered_entry earlier 0 number ≡ Some k
      → numbered_entry later 0 number ≡ Some k
  -- where no fault was counted nothing is in doubt, and where memory was never refused either a conduct is the step
  pub rests : (founder : Key) (limit : Option ℕ) (desk : List Deed) (past : List Entry) (after : OfficeState)
      (turns : List CometTurn) → Conduct founder limit desk (at_rest past) turns after → HadNoFault turns
      → after ≡ at_rest after.settled
  pub steps : (founder : Key) (limit : Option ℕ) (desk : List Deed) (past : List Entry) (after : OfficeState)
      (turns : List CometTurn) → Conduct founder limit desk (at_rest past) turns after → HadNoFault turns
      → HadMemory turns → IsStepped founder limit desk past turns after.settled

-- what is known of files that are damaged: none of them stands for what is legal
pub record DamageLaws : Type 0 where
  pub first : (founder : Key) (file : List ℕ) (offset : ℕ) (history : List Entry)
      → IsDamagedFirst founder file offset → IsLegalHistory founder history → StandsFirst file history → ⊥
  pub second : (founder : Key) (file : List ℕ) (offset : ℕ) (history : List Entry)
      → IsDamagedSecond founder file offset → IsLegalHistory founder history → Stands file history → ⊥
  pub in_force : (founder : Key) (file : List ℕ) (offset : ℕ) → IsDamagedSecond founder file offset → IsInForce file
  pub register : (founder : Key) (desk : List Deed) (file : List ℕ) (offset : ℕ) (entries : List Entry)
      → IsDamaged founder desk file offset → IsLegal founder desk entries → HoldsEntries file entries → ⊥
  -- what is legal under one founding officer is under each; two files stand for one history
  pub any_founder : (founder other : Key) (history : List Entry) → begins_with_plus (key_text other) ≡ true
      → IsLegalHistory founder history → IsLegalHistory other history
  pub one_history : (files : FilePair) (h k : List Entry) → StandBoth files h → StandBoth files k → h ≡ k

-- What is said of each call of a register on a disk: the event that it is in the register's world. The contracts of the
-- calls name these, and the law of worlds joins them.
use Rattle.std.specs.Prelude.{◌≡◌, ◌↔◌, true, false, List, Some, None, Result, Ok, IfOk, OnErr}
use Rattle.disk_model.specs.declared.disk.Failed.{Failed}
use Rattle.obs_journal.specs.declared.journal.Settled.{Settled}
use Rattle.obs_journal.specs.declared.journal.Settled.TheVariants.{Nothing}
use Rattle.act_model.specs.declared.deed.Deed.{Deed}
use Rattle.act_model.specs.Turns.{Mends}
use Rattle.mpc_desk.specs.Disks.{DiskWords}
use Rattle.comet_model.specs.declared.reply.CometReply.{CometReply}
use Rattle.comet_model.specs.declared.request.CometRequest.{CometRequest}
use Rattle.comet_model.specs.Requests.{is_act}
use Rattle.comet_desk.specs.Desks.{CometDeskState, CometAct, ActsInTurn, TakesTurn, IsAtRest}

-- what is said of an act beside an office with these deeds
pub record IsAct {D : Type 0} (on : DiskWords D) (desk : List Deed) (call : CometAct D) : Type 0 where
  pub act : is_act call.request.verb ≡ true
  pub turn : TakesTurn on.faults desk call.old call.request (Some call.reading) call.reply call.new
  pub inside : ActsInTurn on.moment on.since on.faults desk call
  pub at_rest : IsAtRest on.leaves call.new
  pub founder : call.new.founder ≡ call.old.founder
  pub limit : call.new.limit ≡ call.old.limit

-- what is said of a query
pub record IsQuery {D : Type 0} (on : DiskWords D) (desk : List Deed) (register : CometDeskState D)
    (request : CometRequest) (reply : CometReply) : Type 0 where
  pub query : is_act request.verb ≡ false
  pub turn : TakesTurn on.faults desk register request None reply register

-- what is said of a mending
pub record IsMending {D : Type 0} (on : DiskWords D) (old : CometDeskState D) (result : Result Settled Failed)
    (new : CometDeskState D) : Type 0 where
  pub nothing : (result ≡ Ok Nothing) ↔ (old.state.doubt ≡ None)
  pub settled : IfOk result (λ _. new.state.doubt ≡ None)
  pub mends : IfOk result (λ _. Mends old.state.settled old.state.doubt new.state.settled)
  pub still_in_doubt : OnErr result (new.state ≡ old.state)
  pub at_rest : IsAtRest on.leaves new
  pub founder : new.founder ≡ old.founder
  pub limit : new.limit ≡ old.limit

-- What is said of each call of an office on its disks: the event that it is in the office's world. The contracts of the
-- calls name these, and the law of worlds joins them.
use Rattle.std.specs.Prelude.{◌≡◌, ◌↔◌, true, false, Some, None, Result, Ok, IfOk, OnErr}
use Rattle.disk_model.specs.declared.disk.Failed.{Failed}
use Rattle.obs_journal.specs.declared.journal.Settled.{Settled}
use Rattle.obs_journal.specs.declared.journal.Settled.TheVariants.{Nothing}
use Rattle.act_model.specs.declared.reply.Reply.{Reply}
use Rattle.act_model.specs.declared.request.Request.{Request}
use Rattle.act_model.specs.Keepers.{TakesTurn}
use Rattle.act_model.specs.Requests.{is_act}
use Rattle.act_model.specs.Turns.{Mends}
use Rattle.mpc_desk.specs.Desks.{DeskState, DeskAct, ActsInTurn, IsAtRest, office_of}
use Rattle.mpc_desk.specs.Disks.{DiskWords}
use Rattle.mpc_desk.specs.Pairs.{PairState}

-- what is said of an act
pub record IsAct {D : Type 0} (on : DiskWords D) (call : DeskAct D) : Type 0 where
  pub act : is_act call.request.verb ≡ true
  pub turn : TakesTurn (office_of on.faults call.old) call.request (Some call.reading) call.reply
      (office_of on.faults call.new)
  pub inside : ActsInTurn on.moment on.since on.faults call
  pub at_rest : IsAtRest on.leaves call.new
  pub founder : call.new.founder ≡ call.old.founder
  pub limit : call.new.limit ≡ call.old.limit

-- what is said of a query
pub record IsQuery {D : Type 0} (on : DiskWords D) (desk : DeskState D) (request : Request) (reply : Reply)
    : Type 0 where
  pub query : is_act request.verb ≡ false
  pub turn : TakesTurn (office_of on.faults desk) request None reply (office_of on.faults desk)

-- what is said of a mending
pub record IsMending {D : Type 0} (on : DiskWords D) (old : DeskState D) (result : Result Settled Failed)
    (new : DeskState D) : Type 0 where
  pub nothing : (result ≡ Ok Nothing) ↔ (old.state.doubt ≡ None)
  pub settled : IfOk result (λ _. new.state.doubt ≡ None)
  pub mends : IfOk result (λ _. Mends old.state.settled old.state.doubt new.state.settled)
  pub still_in_doubt : OnErr result (new.state ≡ old.state)
  pub at_rest : IsAtRest on.leaves new
  pub founder : new.founder ≡ old.founder
  pub limit : new.limit ≡ old.limit

-- what is said of closing: the disks that are given back are the office's
abbrev pub IsClosed : {D : Type 0} → PairState D → D → D → Type 0
IsClosed office first second = (first ≡ office.first) × (second ≡ office.chained.disk)

use Rattle.std.proofs.Common.{subst}
use Rattle.mpc_desk.specs.Disks.{disk_words}
use Rattle.mpc_desk.specs.Events.{IsAct}
use Rattle.mpc_desk.specs.Pairs.{PairState}
use Rattle.mpc_desk.proofs.Pairing.{rest_both}
use Rattle.mpc_desk.proofs.desk.Desk.act.Goals as goal

pub returns-clause-acts : goal.returns-clause-acts
returns-clause-acts g c =
    subst (λ (d : PairState g.row.D.Denot). IsAct {D = g.row.D.Denot} (disk_words g.D.Disk.reads g.D.Disk.leaves g.D.Disk.moment g.D.Disk.since g.D.Disk.faults) (record { old = d.chained; request = c.args.request.now; reading = c.args.reading; reply = c.act.result; new = c.act.new.self })) c.self.view_is c.act.ensures.event

pub returns-clause-at_rest : goal.returns-clause-at_rest
returns-clause-at_rest g c = λ files left. rest_both c.one_chain.ensures.in_force c.act.new.self.state files (c.act.ensures.at_rest files.second left.1)

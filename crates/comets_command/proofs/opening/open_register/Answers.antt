use Rattle.std.proofs.Common.{List, sym, subst}
use Rattle.act_model.specs.declared.entry.Entry.{Entry}
use Rattle.act_model.specs.Deeds.{deeds}
use Rattle.command_ends.specs.declared.status.Status.{Status}
use Rattle.command_ends.specs.Disks.{disk_words}
use Rattle.command_ends.specs.Opening.{status_of}
use Rattle.comets_command.specs.Opening.{EndsUnbegun}
use Rattle.comets_command.proofs.Unbegun.{unbegun}
use Rattle.comets_command.proofs.opening.open_register.Goals as goal

pub returns-in-Err-clause-unbegun : goal.returns-in-Err-clause-unbegun
returns-in-Err-clause-unbegun g c =
    let on = disk_words g.D.Disk.reads g.D.Disk.leaves g.D.Disk.moment g.D.Disk.since g.D.Disk.faults in
    subst (λ (s : Status). EndsUnbegun on c.args.founder (deeds c.args.office.now.chained.state.settled) c.args.disk c.in-Err.disk s) (sym c.unopened.ensures)
    (subst (λ (h : List Entry). EndsUnbegun on c.args.founder (deeds h) c.args.disk c.in-Err.disk (status_of c.in-Err.fault)) c.core.ensures.history
    (unbegun on c.args.founder (deeds c.core.result.now.history) c.args.disk c.in-Err.disk c.in-Err.fault c.in-Err.ensures.ends))

use Rattle.std.proofs.Common.{refl, sym, subst}
use Rattle.mpc_desk.specs.Pairs.{pair}
use Rattle.command_ends.specs.declared.status.Status.{Status}
use Rattle.command_ends.specs.Disks.{disk_words}
use Rattle.command_ends.specs.Opening.{EndsUnopened}
use Rattle.command_ends.proofs.Unopened.{nothing_called}
use Rattle.command_ends.proofs.opening.not_begun.Goals as goal

pub returns-clause-no_memory : goal.returns-clause-no_memory
returns-clause-no_memory g c = λ founder is.
    let on = disk_words g.D.Disk.reads g.D.Disk.leaves g.D.Disk.moment g.D.Disk.since g.D.Disk.faults in
    subst (λ (s : Status). EndsUnopened on founder (pair c.args.disk c.args.second) (pair c.args.disk c.args.second) 0 s) (sym is)
    (nothing_called on founder (pair c.args.disk c.args.second) (pair c.args.disk c.args.second) 0 refl g.met.D.Disk.only_now refl)

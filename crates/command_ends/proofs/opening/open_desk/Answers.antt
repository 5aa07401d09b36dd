use Rattle.std.proofs.Common.{sym, subst, ◌∙◌}
use Rattle.mpc_desk.specs.Pairs.{pair}
use Rattle.command_ends.specs.declared.status.Status.{Status}
use Rattle.command_ends.specs.Disks.{disk_words}
use Rattle.command_ends.specs.Opening.{EndsUnopened}
use Rattle.command_ends.proofs.Unopened.{unopened_ends, undamaged}
use Rattle.command_ends.proofs.opening.open_desk.Goals as goal

pub returns-in-Err-clause-unopened : goal.returns-in-Err-clause-unopened
returns-in-Err-clause-unopened g c =
    let on = disk_words g.D.Disk.reads g.D.Disk.leaves g.D.Disk.moment g.D.Disk.since g.D.Disk.faults in
    let start = pair c.args.disk c.args.second in
    let end = pair c.in-Err.disk c.in-Err.second in
    rw (c.not_begun.ensures.disk, c.not_begun.ensures.second)
    (subst (λ (s : Status). EndsUnopened on c.args.founder start end c.not_begun.result.added s) (sym (c.not_begun.ensures.status ∙ c.unopened.ensures))
    (unopened_ends on c.args.founder start end c.not_begun.result.added c.not_begun.ensures.added c.in-Err.fault c.in-Err.ensures.ends))

pub returns-in-Err-clause-sound : goal.returns-in-Err-clause-sound
returns-in-Err-clause-sound g c =
    undamaged c.damage.ensures.first c.damage.ensures.second c.damage.ensures.in_force (disk_words g.D.Disk.reads g.D.Disk.leaves g.D.Disk.moment g.D.Disk.since g.D.Disk.faults) c.args.founder
    (pair c.args.disk c.args.second) (pair c.in-Err.disk c.in-Err.second) c.in-Err.fault c.not_begun.result.status (c.not_begun.ensures.status ∙ c.unopened.ensures) c.in-Err.ensures.ends

use Rattle.std.proofs.Common.{subst}
use Rattle.std.specs.Prelude.{IfOk, IfErr}
use Rattle.act_bodies.specs.declared.key.Key.{Key}
use Rattle.mpc_desk.specs.Pairs.{pair}
use Rattle.command_ends.specs.Disks.{disk_words}
use Rattle.command_ends.specs.Opening.{Opens, EndsUnopened}
use Rattle.command_ends.proofs.Unchanged.{sound_at_any}
use Rattle.command_ends.proofs.reading.open_to_read.Goals as goal

pub returns-clause-opens : goal.returns-clause-opens
returns-clause-opens g c =
    let on = disk_words g.D.Disk.reads g.D.Disk.leaves g.D.Disk.moment g.D.Disk.since g.D.Disk.faults in
    subst (λ (k : Key). IfOk c.open_desk.result (λ desk. Opens on k (pair c.args.disk c.args.second) desk)) c.reader.ensures.key c.open_desk.ensures.opens

pub returns-clause-unopened : goal.returns-clause-unopened
returns-clause-unopened g c =
    let on = disk_words g.D.Disk.reads g.D.Disk.leaves g.D.Disk.moment g.D.Disk.since g.D.Disk.faults in
    subst (λ (k : Key). IfErr c.open_desk.result (λ ended. EndsUnopened on k (pair c.args.disk c.args.second) (pair ended.disk ended.second) ended.added ended.status)) c.reader.ensures.key c.open_desk.ensures.unopened

pub returns-clause-sound : goal.returns-clause-sound
returns-clause-sound g c =
    sound_at_any c.any_founder.ensures (disk_words g.D.Disk.reads g.D.Disk.leaves g.D.Disk.moment g.D.Disk.since g.D.Disk.faults) (pair c.args.disk c.args.second)
    c.open_desk.result (λ ended. ended.status) c.reader.result c.reader.ensures.key c.open_desk.ensures.sound

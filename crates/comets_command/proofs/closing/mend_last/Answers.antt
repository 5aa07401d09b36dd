use Rattle.command_ends.specs.Disks.{disk_words}
use Rattle.comets_command.proofs.Closings.{mends_done, mends_failed}
use Rattle.comets_command.proofs.closing.mend_last.Goals as goal

pub returns-in-Ok : goal.returns-in-Ok
returns-in-Ok g c =
    mends_done (disk_words g.D.Disk.reads g.D.Disk.leaves g.D.Disk.moment g.D.Disk.since g.D.Disk.faults) c.args.register.now c.mend.new.self
    c.in-Ok.ensures.mends c.in-Ok.ensures.settled c.in-Ok.ensures.no_call c.in-Ok.ensures.unwritten.no_image c.in-Ok.ensures.at_rest c.in-Ok.ensures.counts

pub returns-in-Err : goal.returns-in-Err
returns-in-Err g c =
    mends_failed (disk_words g.D.Disk.reads g.D.Disk.leaves g.D.Disk.moment g.D.Disk.since g.D.Disk.faults) c.args.register.now c.mend.new.self
    (λ none. let is = c.in-Err.ensures.nothing.1 none in absurd cc)
    c.in-Err.ensures.still_in_doubt c.in-Err.ensures.unwritten.no_image c.in-Err.ensures.at_rest c.in-Err.ensures.counts c.in-Err.ensures.cause

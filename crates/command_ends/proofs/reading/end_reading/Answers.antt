use Rattle.mpc_desk.specs.Pairs.{pair}
use Rattle.mpc_desk.specs.PairLaws.{same_pair}
use Rattle.command_ends.specs.Disks.{disk_words}
use Rattle.command_ends.proofs.Unchanged.{keeps}
use Rattle.command_ends.proofs.reading.end_reading.Goals as goal

pub returns-clause-disks : goal.returns-clause-disks
returns-clause-disks g c = same_pair _ _ _ _ c.close-disk.ensures.0 c.close-disk.ensures.1

pub returns-clause-keeps : goal.returns-clause-keeps
returns-clause-keeps g c = λ founder disks opens.
    keeps c.legal_numbers_once.ensures c.one_place.ensures c.unbroken_rows.ensures c.unbroken_numbers.ensures c.lines_are_added.ensures
    (disk_words g.D.Disk.reads g.D.Disk.leaves g.D.Disk.moment g.D.Disk.since g.D.Disk.faults) founder disks (pair c.close-disk.result.0 c.close-disk.result.1) c.args.desk opens
    (same_pair _ _ _ _ c.close-disk.ensures.0 c.close-disk.ensures.1)

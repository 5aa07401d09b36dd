use Rattle.std.proofs.Common.{◌-◌}
use Rattle.disk_model.proofs.opened.Opened.write_again.Given as goal

abbrev pub decreases-loop-at : goal.decreases-loop-at
decreases-loop-at g l = l.part.end - l.at

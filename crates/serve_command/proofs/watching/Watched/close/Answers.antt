use Rattle.std.proofs.Common.{subst}
use Rattle.std.specs.List.{AllByRecursion}
use Rattle.serve_command.specs.Images.{HasPassed, WasAsked, WatchedState}
use Rattle.serve_command.proofs.watching.Watched.close.Goals as goal

pub returns-clause-passed : goal.returns-clause-passed
returns-clause-passed g c =
    subst
    (λ (w : WatchedState g.row.D.Denot). AllByRecursion (λ then. HasPassed g.D.Disk.moment g.D.Disk.since g.W.Opening.history g.W.Opening.moment g.W.Opening.images (WasAsked w.answered) c.self.inside.desk then.0)
    w.answered)
    c.self.view_is c.self.invariant.1

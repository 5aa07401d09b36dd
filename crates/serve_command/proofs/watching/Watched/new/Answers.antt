use Rattle.std.proofs.Common.{sym, subst}
use Rattle.std.specs.List.{AllByRecursion}
use Rattle.serve_command.specs.Images.{Answered, HasPassed, WasAsked}
use Rattle.serve_command.proofs.WatchLemmas.{watched_first}
use Rattle.serve_command.proofs.watching.Watched.new.Goals as goal

pub invariant_of-result : goal.invariant_of-result
invariant_of-result g c = (
  watched_first g.D.Disk.moment g.D.Disk.since g.W.Opening.history g.W.Opening.moment g.W.Opening.images (WasAsked c.new.result.items) c.args.desk c.requires.settled
      c.requires.legal c.requires.history c.requires.moment c.requires.images,
  subst (λ (l : Answered g.row.D.Denot). AllByRecursion (λ then. HasPassed g.D.Disk.moment g.D.Disk.since g.W.Opening.history g.W.Opening.moment g.W.Opening.images (WasAsked l) c.args.desk then.0) l)
      (sym c.new.ensures) tt,
)

use Rattle.serve_command.proofs.KeptLemmas.{stamped_query}
use Rattle.serve_command.proofs.watching.WatchedKeeper.ask.Goals as goal

pub returns : goal.returns
returns g c = record {
  turn = rw (← c.self.view_is)
      (stamped_query g.D.Disk.moment g.D.Disk.since g.D.Disk.faults c.args.request.now c.ask.result c.self.inside.desk c.self.inside.answered.items c.ask.ensures.turn);
}

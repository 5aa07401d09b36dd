use Rattle.std.proofs.lemmas.Bool.{and_parts}
use Rattle.act_bodies.proofs.DesignateLaws.{distinct}
use Rattle.act_bodies.proofs.designate.read_designate.Goals as goal

pub returns-clause-different : goal.returns-clause-different
returns-clause-different c = distinct c.in_ok-tracklets.tracklets (and_parts _ _ c.in_ok-tracklets.ensures.selection).1

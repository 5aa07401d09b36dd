use Rattle.std.proofs.Common.{Some, None, pos, subst}
use Rattle.act_model.specs.Deeds.{deeds}
use Rattle.comet_desk.specs.Desks.{CometDeskState, TakesTurn}
use Rattle.comet_desk.proofs.Mended.{seen}
use Rattle.comet_desk.proofs.Turned.{ask_turn}
use Rattle.comet_desk.proofs.desk.CometDesk.ask.Goals as goal

pub returns-clause-turn : goal.returns-clause-turn
returns-clause-turn g c =
    subst (λ (d : CometDeskState g.row.D.Denot). TakesTurn g.D.Disk.faults (deeds (g.V.Shelf.history c.args.shelf.now)) d c.args.request.now None c.ask.result d) c.self.view_is
    (ask_turn g.D.Disk.faults (deeds (g.V.Shelf.history c.args.shelf.now)) (seen c.self.inside.limit c.self.inside.register c.self.inside.doubt c.self.inside.journal.disk)
    c.args.request.now c.ask.result c.requires.query (c.ask.ensures.answer (Some c.self.inside.limit) (pos 0)))

pub returns-clause-event : goal.returns-clause-event
returns-clause-event g c = record { query = c.requires.query; turn = returns-clause-turn g c }

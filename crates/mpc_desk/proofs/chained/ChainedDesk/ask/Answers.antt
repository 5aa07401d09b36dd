use Rattle.std.proofs.Common.{Some, None, pos, subst}
use Rattle.act_model.specs.Keepers.{TakesTurn}
use Rattle.mpc_desk.specs.Desks.{DeskState, office_of, state_of}
use Rattle.mpc_desk.proofs.Turned.{ask_turn}
use Rattle.mpc_desk.proofs.chained.ChainedDesk.ask.Goals as goal

pub returns-clause-turn : goal.returns-clause-turn
returns-clause-turn g c =
    subst (λ (d : DeskState g.row.D.Denot). TakesTurn (office_of g.D.Disk.faults d) c.args.request.now None c.answer.result (office_of g.D.Disk.faults d)) c.self.view_is
    (ask_turn g.D.Disk.faults (record { founder = c.self.inside.core.founder; limit = c.self.inside.limit; state = state_of c.self.inside.core c.self.inside.doubt; disk = c.self.inside.journal.disk })
    c.args.request.now c.answer.result c.requires.query (c.answer.ensures.answer (Some c.self.inside.limit) (pos 0)))

pub returns-clause-event : goal.returns-clause-event
returns-clause-event g c = record { query = c.requires.query; turn = returns-clause-turn g c }

use Rattle.std.proofs.Common.{sym, ◌∙◌}
use Rattle.command_ends.specs.Disks.{disk_words}
use Rattle.comets_command.proofs.RegisterTurns.{act_turn, query_turn}
use Rattle.comets_command.proofs.turns.take_turn.Goals as goal

pub returns-then-is_act-clause-turn : goal.returns-then-is_act-clause-turn
returns-then-is_act-clause-turn g c =
    act_turn (disk_words g.D.Disk.reads g.D.Disk.leaves g.D.Disk.moment g.D.Disk.since g.D.Disk.faults) _ c.args.register.now c.act.new.self c.args.request.now c.act.result _ _ c.now-reading.result
    (sym c.is_act.ensures ∙ c.if-is_act.true) c.now-reading.ensures.years c.now-reading.ensures.told c.now-reading.ensures.later c.now-reading.ensures.last
    c.act.ensures.inside (record { founder = c.act.ensures.founder; limit = c.act.ensures.limit; at_rest = λ _. c.act.ensures.at_rest })

pub returns-else-is_act-clause-turn : goal.returns-else-is_act-clause-turn
returns-else-is_act-clause-turn g c =
    query_turn (disk_words g.D.Disk.reads g.D.Disk.leaves g.D.Disk.moment g.D.Disk.since g.D.Disk.faults) _ c.args.register.now c.args.request.now c.ask.result _
    (sym c.is_act.ensures ∙ c.if-is_act.false) c.ask.ensures.turn.turn.takes.answers

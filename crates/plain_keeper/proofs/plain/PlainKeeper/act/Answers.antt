use Rattle.std.proofs.Common.{None}
use Rattle.plain_keeper.proofs.MemoryTurns.{no_disk, plain_turn}
use Rattle.plain_keeper.proofs.plain.PlainKeeper.act.Goals as goal

pub returns-clause-turn : goal.returns-clause-turn
returns-clause-turn c =
    plain_turn c.args.self.now c.act_stepwise.new.self c.args.request.now c.args.reading c.act_stepwise.result c.requires.act c.ns.ensures.range c.act_stepwise.ensures.founder c.act_stepwise.ensures.answers

pub returns-clause-no_disk : goal.returns-clause-no_disk
returns-clause-no_disk c =
    no_disk c.disk_faults_have_a_cause.ensures.step c.args.self.now.founder None c.args.self.now.history c.args.request.now c.args.reading c.act_stepwise.result c.act_stepwise.new.self.history c.act_stepwise.ensures.answers

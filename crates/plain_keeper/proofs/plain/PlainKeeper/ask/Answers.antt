use Rattle.std.proofs.Common.{None, pos, subst}
use Rattle.act_model.specs.Keepers.{TakesTurn}
use Rattle.desk_core.specs.Office.{Office}
use Rattle.plain_keeper.specs.Plain.{plain_office}
use Rattle.plain_keeper.proofs.MemoryTurns.{no_disk, plain_query}
use Rattle.plain_keeper.proofs.plain.PlainKeeper.ask.Goals as goal

pub returns-clause-turn : goal.returns-clause-turn
returns-clause-turn c =
    subst (λ (o : Office). TakesTurn (plain_office o) c.args.request.now None c.answer.result (plain_office o)) c.self.view_is
    (plain_query c.self.inside.core c.args.request.now c.answer.result c.requires.query (c.answer.ensures.answer None (pos 0)))

pub returns-clause-no_disk : goal.returns-clause-no_disk
returns-clause-no_disk c = no_disk c.disk_faults_have_a_cause.ensures.step c.self.inside.core.founder None c.self.inside.core.history c.args.request.now (pos 0) c.answer.result c.self.inside.core.history (c.answer.ensures.answer None (pos 0))

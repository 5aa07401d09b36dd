use Rattle.office_workload.proofs.RunLemmas.{taken_by, refused_by}
use Rattle.office_workload.proofs.running.take.Goals as goal

pub returns-clause-taken : goal.returns-clause-taken
returns-clause-taken c =
    taken_by c.args.keeper.now.founder c.args.keeper.now.history c.act.new.self.history c.args.request.now c.requires.founder c.moment.result c.act.result c.reply_result.result c.moment.ensures c.reply_result.ensures c.act.ensures.answers

pub returns-clause-refused : goal.returns-clause-refused
returns-clause-refused c =
    refused_by c.args.keeper.now.founder c.args.keeper.now.history c.act.new.self.history c.args.request.now c.requires.founder c.moment.result c.act.result c.reply_result.result c.moment.ensures c.reply_result.ensures c.act.ensures.answers

use Rattle.std.proofs.Common.{ap}
use Rattle.office_workload.proofs.RunLemmas.{told_all, told_else}
use Rattle.office_workload.proofs.summaries.summary_of.Goals as goal

pub returns-in-Ok : goal.returns-in-Ok
returns-in-Ok c =
    told_all c.summary_at.result c.args.seed c.args.count c.args.keeper.now.history c.take_all.new.keeper.history c.core.result.now.history
    c.requires.empty (ap (λ o. o.history) c.core.ensures) c.in-Ok.ensures.taken c.summary_at.ensures

pub returns-in-Err : goal.returns-in-Err
returns-in-Err c =
    told_else c.told_refusal.result c.args.seed c.args.count c.args.keeper.now.history c.in-Err.refusal
    c.requires.empty c.in-Err.ensures.refused c.told_refusal.ensures.text c.told_refusal.ensures.other

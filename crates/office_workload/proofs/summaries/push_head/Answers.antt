use Rattle.std.proofs.Common.{[], ◌∷◌}
use Rattle.std.specs.Prelude.{codes}
use Rattle.office_workload.specs.Lines.{numbered}
use Rattle.office_workload.specs.Summaries.{head_line}
use Rattle.office_workload.proofs.TextLemmas.{on_ok, joined}
use Rattle.office_workload.proofs.summaries.push_head.Goals as goal

pub returns : goal.returns
unfolding head_line
returns c =
    on_ok c.push.result _ _
    (joined c.args.out.now (numbered (codes "workload seed ") c.args.seed) (numbered (codes " count ") c.args.count) (10 ∷ [])
    c.push_numbered.new.out c.push_numbered-2.new.out c.push.new.self c.in_ok-push_numbered.ensures c.in_ok-push_numbered-2.ensures)
    c.push.ensures.ok

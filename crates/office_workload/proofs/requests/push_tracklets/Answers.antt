use Rattle.std.proofs.Common.{◌-◌, ◌*◌}
use Rattle.std.specs.Prelude.{codes}
use Rattle.office_workload.specs.Lines.{numbered, designation_body}
use Rattle.office_workload.proofs.TextLemmas.{on_ok, joined}
use Rattle.office_workload.proofs.requests.push_tracklets.Goals as goal

pub returns : goal.returns
unfolding designation_body
returns c =
    on_ok c.extend_from_slice.result _ _
    (joined c.args.out.now (numbered (codes "{\"tracklets\":[") (2 * c.args.i - 1)) (numbered (codes ",") (2 * c.args.i)) (codes "]}")
    c.push_numbered.new.out c.push_numbered-2.new.out c.extend_from_slice.new.self c.in_ok-push_numbered.ensures c.in_ok-push_numbered-2.ensures)
    c.extend_from_slice.ensures.ok

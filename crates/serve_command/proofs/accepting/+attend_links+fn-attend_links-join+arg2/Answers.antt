use Rattle.std.proofs.Common.{ap}
use Rattle.intake_lock.specs.Passes.{PassState}
use Rattle.serve_command.specs.Gathering.{door_of}
use Rattle.serve_command.proofs.Gathering.{no_link, same_end, branch_joined, root_went_on}
use Rattle.serve_command.proofs.accepting.+attend_links+fn-attend_links-join+arg2.Goals as goal

pub returns-in-Err-clause-gathers : goal.returns-in-Err-clause-gathers
returns-in-Err-clause-gathers g t c = no_link _ _ _ c.in-Err.stop c.in-Err.ensures.none.0 c.in-Err.ensures.none.1

pub returns-in-Ok-split_root-clause-gathers : goal.returns-in-Ok-split_root-clause-gathers
returns-in-Ok-split_root-clause-gathers g t c =
    branch_joined _ _ _ c.in-Ok.link.0 c.in-Ok.link.1 _ c.in-Ok.ensures.link.0 c.in-Ok.ensures.link.1 c.in-Ok.ensures.link.2 _ _
    (record { to_come = c.another-other.ensures.stays; last = c.another-other.ensures.kept })
    (record { to_come = c.another-other.ensures.same; last = c.another-other.ensures.last })
    _ _ _ _ _ _ c.in-Ok-split_root.ensures.stem.1 c.in-Ok-split_root.ensures.branch.1 c.join.ensures.view c.with_end-root.ensures.ends
    c.join-gathered.ensures.second.1
    (same_end _ _ _ _ _ _ _ _ _ (ap (λ (p : PassState). p.view) c.with_end-root.ensures.same.0)
    (ap (door_of g.T.Gate.links g.T.Gate.faults) c.with_end-root.ensures.same.1) c.with_end-root.ensures.same.2
    c.join-gathered.ensures.first.4)
    c.join.ensures.seen.0 c.join.ensures.seen.1

pub returns-in-Err-split_root-clause-gathers : goal.returns-in-Err-split_root-clause-gathers
returns-in-Err-split_root-clause-gathers g t c =
    root_went_on _ _ _ c.in-Ok.link.0 c.in-Ok.link.1 _ c.in-Ok.ensures.link.0 c.in-Ok.ensures.link.1 c.in-Ok.ensures.link.2 _ _
    (record { to_come = c.another-other.ensures.stays; last = c.another-other.ensures.kept })
    (record { to_come = c.another-other.ensures.same; last = c.another-other.ensures.last })
    _ _ _ _ (ap (λ (p : PassState). p.view) c.in-Err-split_root.ensures.back) c.with_end.ensures.ends
    c.attend_link-root.ensures.attended
    (same_end _ _ _ _ _ _ _ _ _ (ap (λ (p : PassState). p.view) c.with_end.ensures.same.0)
    (ap (door_of g.T.Gate.links g.T.Gate.faults) c.with_end.ensures.same.1) c.with_end.ensures.same.2 c.attend_links.ensures.gathers)

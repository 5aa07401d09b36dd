use Rattle.std.proofs.Common.{◌≡◌, length, subst}
use Rattle.std.specs.Prelude.{IfSome}
use Rattle.obs_journal.specs.Chains.{IsBrokenAt}
use Rattle.obs_journal.proofs.Quiet.{if_both}
use Rattle.obs_journal.proofs.opening.recover_chain.Goals as goal

pub returns-clause-damaged : goal.returns-clause-damaged
returns-clause-damaged g c = λ file offset is.
    let damaged = c.read_row.ensures.damaged file offset is in (
      damaged.0,
      if_both (λ bytes. length bytes ≡ c.in_ok-end.end) (λ bytes. length bytes ≡ c.in_ok-end.end → IsBrokenAt bytes offset) (λ bytes. IsBrokenAt bytes offset) (g.D.Disk.reads c.args.disk.now) (λ bytes at_end said. said at_end) c.in_ok-end.ensures.end
          (subst (λ r. IfSome r (λ bytes. length bytes ≡ c.in_ok-end.end → IsBrokenAt bytes offset)) c.safe_end.ensures.unwritten.same damaged.1),
    )

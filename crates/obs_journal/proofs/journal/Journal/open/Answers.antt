use Rattle.std.proofs.Common.{◌∙◌, ap}
use Rattle.std.specs.Prelude.{Err}
use Rattle.obs_journal.proofs.Chains.{never_broken}
use Rattle.obs_journal.proofs.journal.Journal.open.Goals as goal

pub returns-in-Err-clause-sound : goal.returns-in-Err-clause-sound
returns-in-Err-clause-sound g c = λ file offset is known chains.
    never_broken (g.D.Disk.reads c.args.disk) offset (c.recover_chain.ensures.damaged file offset (c.in-Err.is ∙ ap Err is)).1 known (λ bytes bytes_are. chains bytes (g.met.D.Disk.as_read c.args.disk bytes bytes_are))

pub returns-in-Err-clause-damaged : goal.returns-in-Err-clause-damaged
returns-in-Err-clause-damaged g c = λ file offset is. c.recover_chain.ensures.damaged file offset (c.in-Err.is ∙ ap Err is)

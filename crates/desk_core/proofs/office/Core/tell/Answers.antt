use Rattle.std.proofs.Common.{inl}
use Rattle.desk_core.proofs.ClaimLemmas.{told_unheard, if_refused}
use Rattle.desk_core.proofs.office.Core.tell.Goals as goal

pub returns-in-Err-clause-due : goal.returns-in-Err-clause-due
returns-in-Err-clause-due c = inl (told_unheard c.args.claim c.args.verb c.args.bytes.now c.args.self.now.history c.in-Err.refusal c.in-Err.ensures.refused)

pub returns-in-Err-clause-refused : goal.returns-in-Err-clause-refused
returns-in-Err-clause-refused c = if_refused _ _ c.in-Err.refusal (told_unheard c.args.claim c.args.verb c.args.bytes.now c.args.self.now.history c.in-Err.refusal c.in-Err.ensures.refused)

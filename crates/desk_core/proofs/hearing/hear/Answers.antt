use Rattle.std.proofs.Common.{None, Some, inl}
use Rattle.desk_core.proofs.ClaimLemmas.{heard_asked, heard_who}
use Rattle.desk_core.proofs.hearing.hear.Goals as goal

pub returns-in-Err-clause-due : goal.returns-in-Err-clause-due
returns-in-Err-clause-due c = heard_asked c.args.claim c.args.verb c.args.bytes.now c.in-Err.refusal c.in-Err.ensures.due

pub returns-in_default-clause-due : goal.returns-in_default-clause-due
returns-in_default-clause-due c = inl (heard_who c.args.claim c.args.verb c.args.bytes.now c.in-Ok.asked None c.in-Ok.ensures.due c.in_default.is)

pub returns-clause-due : goal.returns-clause-due
returns-clause-due c = heard_who c.args.claim c.args.verb c.args.bytes.now c.in-Ok.asked (Some c.in-Some.caller) c.in-Ok.ensures.due c.in-Some.is

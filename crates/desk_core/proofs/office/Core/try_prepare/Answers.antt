use Rattle.std.proofs.Common.{Ok, Err, inl, sym, ◌∙◌}
use Rattle.act_model.specs.Deeds.{deeds}
use Rattle.act_model.specs.Roster.{members}
use Rattle.desk_core.proofs.ClaimLemmas.{outcome_bytes, outcome_unclaimed, outcome_act, no_bytes, has_bytes, if_refused, if_taken}
use Rattle.desk_core.proofs.Steps.{prepared_as}
use Rattle.desk_core.proofs.office.Core.try_prepare.Goals as goal

pub returns-in-Err-clause-answer : goal.returns-in-Err-clause-answer
returns-in-Err-clause-answer c = inl (outcome_bytes c.args.self.now.founder c.args.limit c.args.self.now.history c.args.request.now c.args.reading c.in-Err.refusal c.in-Err.ensures.refused)

pub returns-in-Err-clause-announced : goal.returns-in-Err-clause-announced
returns-in-Err-clause-announced c = if_refused _ _ c.in-Err.refusal (no_bytes c.args.self.now.founder (members (deeds c.args.self.now.history)) c.args.request.now c.in-Err.refusal c.in-Err.ensures.refused)

pub returns-in-Err-claim_of-clause-answer : goal.returns-in-Err-claim_of-clause-answer
returns-in-Err-claim_of-clause-answer c =
    inl (outcome_unclaimed c.args.self.now.founder c.args.limit c.args.self.now.history c.args.request.now c.args.reading c.in-Ok.bytes.now c.in-Err-claim_of.refusal c.in-Ok.ensures.bytes (sym c.claim_of.ensures ∙ c.in-Err-claim_of.is))

pub returns-in-Err-claim_of-clause-announced : goal.returns-in-Err-claim_of-clause-announced
returns-in-Err-claim_of-clause-announced c =
    if_refused _ _ c.in-Err-claim_of.refusal (has_bytes c.args.self.now.founder (members (deeds c.args.self.now.history)) c.args.request.now c.in-Ok.bytes.now (Err c.in-Err-claim_of.refusal) c.in-Ok.ensures.bytes (sym c.claim_of.ensures ∙ c.in-Err-claim_of.is))

pub returns-clause-answer : goal.returns-clause-answer
returns-clause-answer c =
    prepared_as c.args.limit c.args.self.now.history _ _ c.prepare_claimed.new.self.spare c.prepare_claimed.result
    (outcome_act c.args.self.now.founder c.args.limit c.args.self.now.history c.args.request.now c.args.reading c.in-Ok.bytes.now c.in-Ok-claim_of.claim c.in-Ok.ensures.bytes (sym c.claim_of.ensures ∙ c.in-Ok-claim_of.is) c.requires.act)
    c.prepare_claimed.ensures.answer

pub returns-clause-announced : goal.returns-clause-announced
returns-clause-announced c =
    if_taken _ c.in-Ok-claim_of.claim _ (has_bytes c.args.self.now.founder (members (deeds c.args.self.now.history)) c.args.request.now c.in-Ok.bytes.now (Ok c.in-Ok-claim_of.claim) c.in-Ok.ensures.bytes (sym c.claim_of.ensures ∙ c.in-Ok-claim_of.is))

use Rattle.std.proofs.Common.{inl, sym, ◌∙◌}
use Rattle.desk_core.proofs.ClaimLemmas.{outcome_bytes, outcome_unclaimed, outcome_query}
use Rattle.desk_core.proofs.Steps.{told_as, one_refusal, query_refused}
use Rattle.desk_core.proofs.office.Core.try_answer.Goals as goal

pub returns-in-Err-clause-told : goal.returns-in-Err-clause-told
returns-in-Err-clause-told c = λ limit reading. inl (outcome_bytes c.args.self.now.founder limit c.args.self.now.history c.args.request.now reading c.in-Err.refusal c.in-Err.ensures.refused)

pub returns-in-Err-clause-refused : goal.returns-in-Err-clause-refused
returns-in-Err-clause-refused c = λ limit reading refusal.
    one_refusal _ _ c.in-Err.refusal refusal (outcome_bytes c.args.self.now.founder limit c.args.self.now.history c.args.request.now reading c.in-Err.refusal c.in-Err.ensures.refused)

pub returns-in-Err-claim_of-clause-told : goal.returns-in-Err-claim_of-clause-told
returns-in-Err-claim_of-clause-told c = λ limit reading.
    inl (outcome_unclaimed c.args.self.now.founder limit c.args.self.now.history c.args.request.now reading c.in-Ok.bytes.now c.in-Err-claim_of.refusal c.in-Ok.ensures.bytes (sym c.claim_of.ensures ∙ c.in-Err-claim_of.is))

pub returns-in-Err-claim_of-clause-refused : goal.returns-in-Err-claim_of-clause-refused
returns-in-Err-claim_of-clause-refused c = λ limit reading refusal.
    one_refusal _ _ c.in-Err-claim_of.refusal refusal (outcome_unclaimed c.args.self.now.founder limit c.args.self.now.history c.args.request.now reading c.in-Ok.bytes.now c.in-Err-claim_of.refusal c.in-Ok.ensures.bytes (sym c.claim_of.ensures ∙ c.in-Err-claim_of.is))

pub returns-clause-told : goal.returns-clause-told
returns-clause-told c = λ limit reading.
    told_as _ _ c.tell.result (outcome_query c.args.self.now.founder limit c.args.self.now.history c.args.request.now reading c.in-Ok.bytes.now c.in-Ok-claim_of.claim c.in-Ok.ensures.bytes (sym c.claim_of.ensures ∙ c.in-Ok-claim_of.is) c.requires.query)
    c.tell.ensures.due

pub returns-clause-refused : goal.returns-clause-refused
returns-clause-refused c = λ limit reading refusal.
    query_refused _ _ c.tell.result refusal (outcome_query c.args.self.now.founder limit c.args.self.now.history c.args.request.now reading c.in-Ok.bytes.now c.in-Ok-claim_of.claim c.in-Ok.ensures.bytes (sym c.claim_of.ensures ∙ c.in-Ok-claim_of.is) c.requires.query)
    c.tell.ensures.refused

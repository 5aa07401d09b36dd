use Rattle.std.proofs.Common.{◌≡◌, ℕ, true, false, ap, sym, ◌∙◌}
use Rattle.act_model.specs.declared.reply.Refusal.TheVariants.{OtherRequest}
use Rattle.act_model.specs.declared.reply.Reply.TheVariants.{Refused}
use Rattle.act_model.specs.Step.{Keeps, is_resend}
use Rattle.desk_core.proofs.ClaimLemmas.{act_other}
use Rattle.desk_core.proofs.ResendLemmas.{StandsAt, stands_at, act_again}
use Rattle.desk_core.proofs.office.Core.reply_again.Goals as goal

pub is_resent-requires : goal.is_resent-requires
is_resent-requires c = (stands_at c.filed-filed.result.now c.args.self.now.history c.args.claim c.args.place c.filed-filed.ensures.history c.requires.used).within

pub kept_answer-requires-clause-within : goal.kept_answer-requires-clause-within
kept_answer-requires-clause-within c = (stands_at c.filed-filed.result.now c.args.self.now.history c.args.claim c.args.place c.filed-filed.ensures.history c.requires.used).within

pub receipt_at-requires : goal.receipt_at-requires
receipt_at-requires c = (stands_at c.filed-filed.result.now c.args.self.now.history c.args.claim c.args.place c.filed-filed.ensures.history c.requires.used).within

-- the request that became the entry
pub returns-in-Ok : goal.returns-in-Ok
returns-in-Ok c = λ limit moment.
    let filed = c.filed-filed.result.now in
    let past = c.args.self.now.history in
    let stands : StandsAt filed past c.args.claim c.args.place = stands_at filed past c.args.claim c.args.place c.filed-filed.ensures.history c.requires.used in
    let same : is_resend c.args.verb c.args.bytes.now stands.k.entry ≡ true = sym (c.is_resent.ensures stands.k stands.at) ∙ c.if-is_resent.true in
    act_again limit filed past c.args.claim c.args.place c.args.verb c.args.bytes.now moment stands c.in-Ok.text c.requires.act c.filed-filed.ensures.read same (c.in-Ok.ensures stands.k stands.at)

-- another one
pub returns-in-Ok-hear : goal.returns-in-Ok-hear
returns-in-Ok-hear c = λ limit moment.
    let filed = c.filed-filed.result.now in
    let past = c.args.self.now.history in
    let stands : StandsAt filed past c.args.claim c.args.place = stands_at filed past c.args.claim c.args.place c.filed-filed.ensures.history c.requires.used in
    let other : is_resend c.args.verb c.args.bytes.now stands.k.entry ≡ false = sym (c.is_resent.ensures stands.k stands.at) ∙ c.if-is_resent.false in
    act_other limit past c.args.claim c.args.verb c.args.bytes.now moment c.in-Ok-hear.heard c.in-Ok-hear.ensures.due stands.k stands.kept_is other
    ∙ ap (λ (n : ℕ). Keeps (Refused (OtherRequest n))) (sym (c.receipt_at.ensures stands.k stands.at))

use Rattle.std.proofs.Common.{List, ◌∷◌, None, sym, ap, ◌∙◌, subst}
use Rattle.act_model.specs.declared.entry.Entry.{Entry}
use Rattle.act_model.specs.declared.reply.Reply.TheVariants.{Refused}
use Rattle.act_model.specs.Turns.{Answers}
use Rattle.desk_core.specs.Office.{Office}
use Rattle.plain_keeper.proofs.MemoryTurns.{answers_kept, answers_refused, answers_ready}
use Rattle.plain_keeper.proofs.plain.PlainKeeper.act_stepwise.Goals as goal

pub returns-in-Kept-clause-answers : goal.returns-in-Kept-clause-answers
returns-in-Kept-clause-answers c =
    subst (λ (o : Office). Answers o.founder None o.history c.args.request.now c.args.reading c.in-Kept.reply c.prepare.new.self.history) c.self.view_is
    (subst (λ (h : List Entry). Answers c.self.inside.core.founder None c.self.inside.core.history c.args.request.now c.args.reading c.in-Kept.reply h) (sym c.in-Kept.ensures.history)
    (answers_kept c.self.inside.core.founder None c.self.inside.core.history c.args.request.now c.args.reading c.in-Kept.reply c.in-Kept.ensures.answer))

pub returns-in-Refused-clause-answers : goal.returns-in-Refused-clause-answers
returns-in-Refused-clause-answers c =
    subst (λ (o : Office). Answers o.founder None o.history c.args.request.now c.args.reading (Refused c.in-Refused.refusal) c.prepare.new.self.history) c.self.view_is
    (subst (λ (h : List Entry). Answers c.self.inside.core.founder None c.self.inside.core.history c.args.request.now c.args.reading (Refused c.in-Refused.refusal) h) (sym c.in-Refused.ensures.history)
    (answers_refused c.self.inside.core.founder None c.self.inside.core.history c.args.request.now c.args.reading c.in-Refused.refusal c.in-Refused.ensures.answer))

pub returns-clause-answers : goal.returns-clause-answers
returns-clause-answers c =
    subst (λ (o : Office). Answers o.founder None o.history c.args.request.now c.args.reading c.commit.result c.commit.new.self.history) c.self.view_is
    (subst (λ (h : List Entry). Answers c.self.inside.core.founder None c.self.inside.core.history c.args.request.now c.args.reading c.commit.result h) (sym (c.commit.ensures.history ∙ ap (λ (h : List Entry). c.in-Ready.prepared.entry ∷ h) c.in-Ready.ensures.history))
    (answers_ready c.self.inside.core.founder None c.self.inside.core.history c.args.request.now c.args.reading c.in-Ready.prepared.entry c.commit.result c.in-Ready.prepared.answer c.in-Ready.ensures.answer.0 c.commit.ensures.reply c.in-Ready.ensures.answer.1.answer))

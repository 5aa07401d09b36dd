use Rattle.std.proofs.Common.{◌≡◌, sym, subst, inl, refl}
use Rattle.act_model.specs.declared.act.Act.{Act}
use Rattle.act_model.specs.declared.heard.Asked.TheVariants as asked
use Rattle.act_model.specs.declared.reply.Part.TheVariants as part
use Rattle.act_model.specs.declared.reply.Refusal.TheVariants.{Unread, Header}
use Rattle.act_model.specs.Deeds.{deeds}
use Rattle.act_model.specs.Doing.{does}
use Rattle.act_model.specs.Rows.{IsDue}
use Rattle.desk_core.specs.Doing.{IsActAtOnce}
use Rattle.desk_core.proofs.Working.{work_barred, work_other, due_act, exact_act}
use Rattle.desk_core.proofs.office.Core.work_out.Goals as goal

pub returns-then-is_barred-clause-due : goal.returns-then-is_barred-clause-due
returns-then-is_barred-clause-due c = inl (work_barred c.args.self.now.history c.args.moment c.args.heard c.is_barred.result c.if-is_barred.true c.is_barred.ensures)

pub returns-in-Act-clause-due : goal.returns-in-Act-clause-due
returns-in-Act-clause-due c =
    due_act c.args.self.now.history c.args.moment c.args.heard c.is_barred.result c.in-Act.act c.does.result c.if-is_barred.false c.is_barred.ensures c.in-Act.is
    (subst (λ (act : Act). IsDue (does (deeds c.args.self.now.history) c.args.moment act) c.does.result) c.in-Act.act-is c.does.ensures.due)

pub returns-in-Header-clause-due : goal.returns-in-Header-clause-due
returns-in-Header-clause-due c =
    inl (work_other c.args.self.now.history c.args.moment c.args.heard c.is_barred.result (asked.Header c.in-Header.fault c.in-Header.line) (Header c.in-Header.fault c.in-Header.line) c.if-is_barred.false c.is_barred.ensures c.in-Header.is refl)

pub returns-in-Query-clause-due : goal.returns-in-Query-clause-due
returns-in-Query-clause-due c =
    inl (work_other c.args.self.now.history c.args.moment c.args.heard c.is_barred.result (asked.Query c.in-Query.field-0) (Unread part.Verb) c.if-is_barred.false c.is_barred.ensures c.in-Query.is refl)

pub returns-then-is_barred-clause-exact : goal.returns-then-is_barred-clause-exact
returns-then-is_barred-clause-exact c = λ once. sym (work_barred c.args.self.now.history c.args.moment c.args.heard c.is_barred.result c.if-is_barred.true c.is_barred.ensures)

pub returns-in-Act-clause-exact : goal.returns-in-Act-clause-exact
returns-in-Act-clause-exact c =
    exact_act c.args.self.now.history c.args.moment c.args.heard c.is_barred.result c.in-Act.act c.does.result c.if-is_barred.false c.is_barred.ensures c.in-Act.is
    (subst (λ (act : Act). IsActAtOnce (deeds c.args.self.now.history) act → c.does.result ≡ does (deeds c.args.self.now.history) c.args.moment act) c.in-Act.act-is c.does.ensures.exact)

pub returns-in-Header-clause-exact : goal.returns-in-Header-clause-exact
returns-in-Header-clause-exact c = λ once.
    sym (work_other c.args.self.now.history c.args.moment c.args.heard c.is_barred.result (asked.Header c.in-Header.fault c.in-Header.line) (Header c.in-Header.fault c.in-Header.line) c.if-is_barred.false c.is_barred.ensures c.in-Header.is refl)

pub returns-in-Query-clause-exact : goal.returns-in-Query-clause-exact
returns-in-Query-clause-exact c = λ once.
    sym (work_other c.args.self.now.history c.args.moment c.args.heard c.is_barred.result (asked.Query c.in-Query.field-0) (Unread part.Verb) c.if-is_barred.false c.is_barred.ensures c.in-Query.is refl)

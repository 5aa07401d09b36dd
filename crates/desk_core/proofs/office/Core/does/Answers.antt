use Rattle.std.proofs.Common.{subst, sym, ap, ◌∙◌}
use Rattle.act_model.specs.declared.act.Act.TheVariants as act
use Rattle.act_model.specs.Acts.{IsRead}
use Rattle.act_model.specs.Deeds.{deeds}
use Rattle.act_model.specs.Doing.{does}
use Rattle.desk_core.specs.Doing.{IsActAtOnce}
use Rattle.desk_core.proofs.ObjectLemmas.{done_fits, done_exactly, designates_at_once, numbers_at_once}
use Rattle.desk_core.proofs.office.Core.does.Goals as goal

pub returns-in-Designate-clause-fits : goal.returns-in-Designate-clause-fits
unfolding does
returns-in-Designate-clause-fits c =
    done_fits c.acts_fit.ensures c.args.self.now.history c.args.moment (act.Designate c.in-Designate.tracklets) c.designates.result
    (subst IsRead c.in-Designate.is c.requires.read) c.designates.ensures.due c.designates.ensures.kind

pub returns-in-Identify-clause-fits : goal.returns-in-Identify-clause-fits
unfolding does
returns-in-Identify-clause-fits c =
    done_exactly c.acts_fit.ensures c.args.self.now.history c.args.moment (act.Identify c.in-Identify.principal c.in-Identify.secondary) c.identifies.result
    (subst IsRead c.in-Identify.is c.requires.read) c.identifies.ensures.due c.identifies.ensures.kind

pub returns-in-Separate-clause-fits : goal.returns-in-Separate-clause-fits
unfolding does
returns-in-Separate-clause-fits c =
    done_exactly c.acts_fit.ensures c.args.self.now.history c.args.moment (act.Separate c.in-Separate.s) c.separates.result
    (subst IsRead c.in-Separate.is c.requires.read) c.separates.ensures.due c.separates.ensures.kind

pub returns-in-Verdict-clause-fits : goal.returns-in-Verdict-clause-fits
unfolding does
returns-in-Verdict-clause-fits c =
    done_exactly c.acts_fit.ensures c.args.self.now.history c.args.moment (act.Verdict c.in-Verdict.object c.in-Verdict.u c.in-Verdict.oppositions) c.judges.result
    (subst IsRead c.in-Verdict.is c.requires.read) c.judges.ensures.due c.judges.ensures.kind

pub returns-in-Number-clause-fits : goal.returns-in-Number-clause-fits
unfolding does
returns-in-Number-clause-fits c =
    done_fits c.acts_fit.ensures c.args.self.now.history c.args.moment (act.Number c.in-Number.first c.in-Number.most) c.numbers.result
    (subst IsRead c.in-Number.is c.requires.read) c.numbers.ensures.due c.numbers.ensures.kind

pub returns-clause-fits : goal.returns-clause-fits
unfolding does
returns-clause-fits c =
    done_exactly c.acts_fit.ensures c.args.self.now.history c.args.moment (act.Opening c.in-Opening.half c.in-Opening.given c.in-Opening.carried) c.opens.result
    (subst IsRead c.in-Opening.is c.requires.read) c.opens.ensures.due c.opens.ensures.kind

pub returns-in-Designate-clause-exact : goal.returns-in-Designate-clause-exact
returns-in-Designate-clause-exact c = λ once.
    let past = deeds c.args.self.now.history in
    designates_at_once past c.args.moment c.designates.result c.in-Designate.tracklets c.designates.ensures.unknown (subst (IsActAtOnce past) c.in-Designate.is once)
    ∙ ap (does past c.args.moment) (sym c.in-Designate.is)

pub returns-in-Number-clause-exact : goal.returns-in-Number-clause-exact
returns-in-Number-clause-exact c = λ once.
    let past = deeds c.args.self.now.history in
    numbers_at_once past c.args.moment c.numbers.result c.in-Number.first c.in-Number.most c.numbers.ensures.not_next (subst (IsActAtOnce past) c.in-Number.is once)
    ∙ ap (does past c.args.moment) (sym c.in-Number.is)

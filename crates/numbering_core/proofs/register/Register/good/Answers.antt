use Rattle.std.proofs.Common.{ap, ◌∙◌}
use Rattle.numbering_core.specs.Verdicts.{verdict_of, is_good}
use Rattle.numbering_core.specs.RegisterValue.{RegisterValue}
use Rattle.numbering_core.proofs.VerdictLemmas.{found_is}
use Rattle.numbering_core.proofs.register.Register.good.Goals as goal

pub returns-clause-good : goal.returns-clause-good
returns-clause-good c =
    c.is_good.ensures ∙ ap is_good (c.verdict_of.ensures ∙ found_is c.orders.ensures c.args.p _)
    ∙ ap (λ (v : RegisterValue). is_good (verdict_of v.verdicts c.args.p)) c.self.view_is

pub returns-clause-acts : goal.returns-clause-acts
returns-clause-acts c = λ acts stand. returns-clause-good c ∙ ap is_good (stand c.args.p)

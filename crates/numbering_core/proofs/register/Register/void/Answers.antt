use Rattle.std.proofs.Common.{ap, false, reverse, None, ◌∙◌}
use Rattle.numbering_core.specs.Verdicts.{verdict_after, verdict_of}
use Rattle.numbering_core.specs.Verdicts.VerdictAct.{Voided}
use Rattle.numbering_core.specs.Indexes.{verdicts_in}
use Rattle.numbering_core.specs.RegisterValue.{RegisterValue}
use Rattle.numbering_core.proofs.VerdictLemmas.{voided}
use Rattle.numbering_core.proofs.OpenLemmas.{verdict_changed, none_open}
use Rattle.numbering_core.proofs.register.Register.void.Goals as goal

pub invariant_of-self : goal.invariant_of-self
invariant_of-self c =
    let numbered = reverse c.self.inside.numbered.items in (
      c.self.invariant.0,
      verdict_changed c.orders.ensures numbered (verdict_of (verdicts_in c.self.inside.verdicts.items)) (verdict_of (verdicts_in c.remove.new.self.items))
          c.self.inside.open.items c.close.new.open.items c.args.p None false (none_open numbered c.args.p) c.close.ensures.finds
          (voided c.orders.ensures _ _ c.args.p c.remove.ensures.finds) c.self.invariant.1,
    )

pub returns-clause-verdicts : goal.returns-clause-verdicts
returns-clause-verdicts c = λ d.
    voided c.orders.ensures _ _ c.args.p c.remove.ensures.finds d
    ∙ ap (λ (v : RegisterValue). verdict_after (Voided c.args.p) d (verdict_of v.verdicts d)) c.self.view_is

pub returns-clause-acts : goal.returns-clause-acts
returns-clause-acts c = λ acts stand d. returns-clause-verdicts c d ∙ ap (verdict_after (Voided c.args.p) d) (stand d)

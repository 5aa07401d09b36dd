use Rattle.std.proofs.Common.{Option, Some, ap, reverse, ◌∙◌}
use Rattle.std.specs.Prelude.{◌&&◌, is_none}
use Rattle.packed_names.specs.declared.number.Number.{Number}
use Rattle.numbering_core.specs.declared.verdict.Verdict.{Verdict}
use Rattle.numbering_core.specs.Verdicts.{verdict_after, verdict_of, is_good}
use Rattle.numbering_core.specs.Verdicts.VerdictAct.{Set}
use Rattle.numbering_core.specs.Indexes.{verdicts_in}
use Rattle.numbering_core.specs.RegisterValue.{RegisterValue}
use Rattle.numbering_core.proofs.VerdictLemmas.{set_after}
use Rattle.numbering_core.proofs.OpenLemmas.{verdict_changed}
use Rattle.numbering_core.proofs.register.Register.set.Goals as goal

pub invariant_of-self : goal.invariant_of-self
invariant_of-self c =
    let verdict : Verdict = record { principal = c.args.p; u = c.args.u; oppositions = c.args.oppositions } in
    let is = c.is_open-is_open.ensures ∙ ap (λ (n : Option Number). is_none n && is_good (Some verdict)) (c.self.invariant.0.indexed c.args.p) in (
      c.self.invariant.0,
      verdict_changed c.orders.ensures (reverse c.self.inside.numbered.items) (verdict_of (verdicts_in c.self.inside.verdicts.items))
          (verdict_of (verdicts_in c.insert.new.self.items)) c.self.inside.open.items c.keep.new.open.items c.args.p (Some verdict) c.is_open-is_open.result is c.keep.ensures.finds
          (set_after c.orders.ensures _ _ _ c.insert.ensures.finds) c.self.invariant.1,
    )

pub returns-clause-verdicts : goal.returns-clause-verdicts
returns-clause-verdicts c = λ d.
    set_after c.orders.ensures _ _ _ c.insert.ensures.finds d
    ∙ ap (λ (v : RegisterValue). verdict_after (Set c.args.p c.args.u c.args.oppositions) d (verdict_of v.verdicts d)) c.self.view_is

pub returns-clause-acts : goal.returns-clause-acts
returns-clause-acts c = λ acts stand d. returns-clause-verdicts c d ∙ ap (verdict_after (Set c.args.p c.args.u c.args.oppositions) d) (stand d)

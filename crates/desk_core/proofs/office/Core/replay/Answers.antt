use Rattle.std.proofs.Common.{List, ◌∷◌, w64, refl, sym, ap, subst, ◌∙◌}
use Rattle.std.specs.Prelude.{is_some}
use Rattle.std.proofs.lemmas.Int.{to_z-of_z}
use Rattle.obs_time.specs.Instants.{IsInstantNs}
use Rattle.act_model.specs.declared.entry.Entry.{Entry}
use Rattle.desk_core.proofs.ReplayLemmas.{comes_back, stays_out, never_follows, same_fault}
use Rattle.desk_core.proofs.office.Core.replay.Goals as goal

pub returns-then-not-may_follow-clause-not_legal : goal.returns-then-not-may_follow-clause-not_legal
returns-then-not-may_follow-clause-not_legal c = λ fault.
    never_follows c.args.self.now.founder c.args.self.now.history c.args.caller c.args.number c.args.moment c.args.verb c.args.body.now c.in-Some.verb (sym c.act_with.ensures.found ∙ c.in-Some.is)
    c.in-Some-new.moment (c.in-Some-new.ensures.value ∙ to_z-of_z w64 c.args.moment c.ranges.moment) c.in-Some.ensures.act
    (λ may. let test = c.may_follow.ensures.1 may in absurd cc)

pub returns-in-Ok-come_again-clause-added : goal.returns-in-Ok-come_again-clause-added
returns-in-Ok-come_again-clause-added c =
    let back = to_z-of_z w64 c.args.moment c.ranges.moment in
    let entry : Entry = record { caller = c.args.caller; number = c.args.number; moment = c.in-Some-new.moment; verb = c.in-Some.verb; body = c.args.body.now } in
    comes_back c.args.self.now.founder c.args.self.now.history c.args.caller c.args.number c.args.moment c.args.verb c.args.body.now c.in-Some.verb (sym c.act_with.ensures.found ∙ c.in-Some.is)
    c.in-Some-new.moment (c.in-Some-new.ensures.value ∙ back) c.in-Some.ensures.act
    c.in-Ok.request c.in-Ok-come_again.prepared.entry c.commit.new.self.history
    (subst IsInstantNs back (c.new.ensures.some.0 (ap is_some c.in-Some-new.is)))
    (c.in-Ok.ensures.asks entry refl refl refl refl) (c.if-not-may_follow.ensures.0 refl) c.in-Ok-come_again.ensures.ready
    (c.commit.ensures.history ∙ ap (λ (h : List Entry). c.in-Ok-come_again.prepared.entry ∷ h) c.in-Ok-come_again.ensures.history)

pub returns-clause-not_legal : goal.returns-clause-not_legal
returns-clause-not_legal c = λ fault.
    stays_out c.args.self.now.founder c.args.self.now.history c.args.caller c.args.number c.args.moment c.args.verb c.args.body.now c.in-Some.verb (sym c.act_with.ensures.found ∙ c.in-Some.is)
    c.in-Some-new.moment (c.in-Some-new.ensures.value ∙ to_z-of_z w64 c.args.moment c.ranges.moment) c.in-Some.ensures.act
    c.in-Ok.request (c.in-Ok.ensures.asks (record { caller = c.args.caller; number = c.args.number; moment = c.in-Some-new.moment; verb = c.in-Some.verb; body = c.args.body.now }) refl refl refl refl)
    (λ adds. c.in-Err.ensures.not_legal (same_fault c.in-Err.fault _ fault) _ adds)

use Rattle.std.proofs.Common.{◌≡◌, sym, ap, subst, ◌∙◌}
use Rattle.act_model.specs.declared.keeper.Office.{Office}
use Rattle.intake_lock.specs.declared.view.Role.TheVariants.{Root}
use Rattle.intake_lock.specs.declared.view.Stage.TheVariants.{Idle}
use Rattle.intake_lock.specs.declared.view.View.{View}
use Rattle.intake_lock.specs.Passes.{LockState, PassState, view_in}
use Rattle.intake_lock.specs.Rule.{Closes}
use Rattle.intake_lock.proofs.Passes.{close_some, close_value}
use Rattle.intake_lock.proofs.lock.TurnLock.close.Goals as goal

pub unreachable-requires : goal.unreachable-requires
unreachable-requires g c =
    let view : view_in c.pass.inside.badge.views ≡ c.into_seat.result.me.0 = ap view_in c.into_seat.ensures.2 in
    let given : c.args.pass.view ≡ c.into_seat.result.me.0 = sym (ap (λ (p : PassState). p.view) c.pass.view_is) ∙ view in
    close_some g.V.Keeper.office (g.V.Keeper.office c.self.inside.table.shared.key.value) c.into_seat.result.id c.into_seat.result.me.0
    (subst (λ (v : View). v.role ≡ Root 0) given c.requires.root)
    (subst (λ (v : View). v.stage ≡ Idle) view c.pass.invariant.1)
    _ _ c.take-taken.result c.close_with-closed.ensures.values.2 c.take-taken.ensures.value c.in_default.is

pub returns : goal.returns
returns g c =
    let view : view_in c.pass.inside.badge.views ≡ c.into_seat.result.me.0 = ap view_in c.into_seat.ensures.2 in
    let given : c.args.pass.view ≡ c.into_seat.result.me.0 = sym (ap (λ (p : PassState). p.view) c.pass.view_is) ∙ view in
    subst (λ (v : View). Closes c.args.self.opening v (g.V.Keeper.office c.in-Some.value)) (sym given)
    (subst (λ (o : Office). Closes o c.into_seat.result.me.0 (g.V.Keeper.office c.in-Some.value)) (ap (λ (l : LockState). l.opening) c.self.view_is)
    (close_value g.V.Keeper.office (g.V.Keeper.office c.self.inside.table.shared.key.value) c.into_seat.result.id c.into_seat.result.me.0
    (subst (λ (v : View). v.role ≡ Root 0) given c.requires.root)
    (subst (λ (v : View). v.stage ≡ Idle) view c.pass.invariant.1)
    _ _ c.take-taken.result c.in-Some.value c.close_with-closed.ensures.values.2 c.take-taken.ensures.value c.in-Some.is))

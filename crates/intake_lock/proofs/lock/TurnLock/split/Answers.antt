use Rattle.std.proofs.Common.{◌≡◌, sym, ap, subst, ◌∙◌, arith}
use Rattle.intake_lock.specs.declared.view.Stage.TheVariants.{Idle}
use Rattle.intake_lock.specs.declared.view.View.{View}
use Rattle.intake_lock.specs.Passes.{LockState, PassState, MaySplit, view_in}
use Rattle.intake_lock.proofs.Passes.{splits, may_split}
use Rattle.intake_lock.proofs.lock.TurnLock.split.Goals as goal

pub split_seat-other-requires : goal.split_seat-other-requires
split_seat-other-requires g c =
    let words : c.self.inside.table.shared.table_id.words ≡ 3 = c.self.invariant.0 in
    let view : view_in c.pass.inside.badge.views ≡ c.into_seat-seat.result.me.0 = ap view_in c.into_seat-seat.ensures.2 in
    let given : c.args.pass.view ≡ c.into_seat-seat.result.me.0 = sym (ap (λ (p : PassState). p.view) c.pass.view_is) ∙ view in
    let root = may_split c.into_seat-seat.result.me.0.role (subst (λ (v : View). MaySplit v.role) given c.requires.root) in (
      c.into_seat-seat.ensures.0 ∙ ap (λ (p : PassState). p.lock) c.pass.view_is ∙ c.requires.lock ∙ sym (ap (λ (l : LockState). l.id) c.self.view_is),
      omega arith,
      splits c.steps_add_one_entry.ensures g.V.Keeper.office (g.V.Keeper.office c.self.inside.table.shared.key.value) c.into_seat-seat.result.id root.0 c.into_seat-seat.result.me.0 root.1
          (subst (λ (v : View). v.stage ≡ Idle) view c.pass.invariant.1) root.2,
    )

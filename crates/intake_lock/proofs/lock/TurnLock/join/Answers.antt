use Rattle.std.proofs.Common.{◌≡◌, ◌≤◌, ℕ, List, length, Option, sym, ap, subst, ◌∙◌, arith}
use Rattle.intake_lock.specs.declared.view.Role.TheVariants.{Branch}
use Rattle.intake_lock.specs.declared.view.Stage.TheVariants.{Idle}
use Rattle.intake_lock.specs.declared.view.View.{View}
use Rattle.intake_lock.specs.Passes.{LockState, PassState, IsRoot, view_in}
use Rattle.intake_lock.specs.Views.{live, history_seen, joint_view}
use Rattle.intake_lock.proofs.Passes.{joins, is_root, joined_live, also_short}
use Rattle.intake_lock.proofs.Steps.{tells}
use Rattle.intake_lock.proofs.lock.TurnLock.join.Goals as goal

pub join_seat-requires : goal.join_seat-requires
join_seat-requires g c =
    let words : c.self.inside.table.shared.table_id.words ≡ 3 = c.self.invariant.0 in
    let view : view_in c.pass.inside.badge.views ≡ c.into_seat-seat.result.me.0 = ap view_in c.into_seat-seat.ensures.2 in
    let view' : view_in c.other.inside.badge.views ≡ c.into_seat.result.me.0 = ap view_in c.into_seat.ensures.2 in
    let given : c.args.pass.view ≡ c.into_seat-seat.result.me.0 = sym (ap (λ (p : PassState). p.view) c.pass.view_is) ∙ view in
    let given' : c.args.other.view ≡ c.into_seat.result.me.0 = sym (ap (λ (p : PassState). p.view) c.other.view_is) ∙ view' in
    let root = is_root c.into_seat-seat.result.me.0.role (subst (λ (v : View). IsRoot v.role) given c.requires.root) in (
      c.into_seat-seat.ensures.0 ∙ ap (λ (p : PassState). p.lock) c.pass.view_is ∙ c.requires.lock.0 ∙ sym (ap (λ (l : LockState). l.id) c.self.view_is),
      c.into_seat.ensures.0 ∙ ap (λ (p : PassState). p.lock) c.other.view_is ∙ c.requires.lock.1 ∙ sym (ap (λ (l : LockState). l.id) c.self.view_is),
      c.into_seat.ensures.3,
      omega arith,
      joins c.steps_add_one_entry.ensures g.V.Keeper.office (g.V.Keeper.office c.self.inside.table.shared.key.value) c.into_seat-seat.result.id c.into_seat.result.id root.0 c.into_seat-seat.result.me.0 c.into_seat.result.me.0 root.1
          (subst (λ (v : View). v.stage ≡ Idle) view c.pass.invariant.1)
          (subst (λ (v : View). v.role ≡ Branch) given' c.requires.branch)
          (subst (λ (v : View). v.stage ≡ Idle) view' c.other.invariant.1),
    )

pub load-requires : goal.load-requires
load-requires g c =
    let words : c.self.inside.table.shared.table_id.words ≡ 3 = c.self.invariant.0 in
    let view : view_in c.pass.inside.badge.views ≡ c.into_seat-seat.result.me.0 = ap view_in c.into_seat-seat.ensures.2 in
    let given : c.args.pass.view ≡ c.into_seat-seat.result.me.0 = sym (ap (λ (p : PassState). p.view) c.pass.view_is) ∙ view in
    let root = is_root c.into_seat-seat.result.me.0.role (subst (λ (v : View). IsRoot v.role) given c.requires.root) in
    let both : c.join_seat.new.seat.me.0 ≡ joint_view c.into_seat-seat.result.me.0 c.into_seat.result.me.0 = ap (λ (m : View × List (ℕ × Option g.row.V.Denot)). m.0) c.join_seat.ensures.2 in (
      c.join_seat.ensures.0 ∙ c.into_seat-seat.ensures.0 ∙ ap (λ (p : PassState). p.lock) c.pass.view_is ∙ c.requires.lock.0 ∙ sym (ap (λ (l : LockState). l.id) c.self.view_is),
      omega arith,
      tells c.steps_add_one_entry.ensures g.V.Keeper.office (g.V.Keeper.office c.self.inside.table.shared.key.value) c.self.inside.table.shared.table_id.slots c.join_seat.new.seat.id c.join_seat.new.seat.me
          (subst (λ (v : View). live v ≡ 1) (sym both) (joined_live c.into_seat-seat.result.me.0 c.into_seat.result.me.0 root.0 root.1))
          (subst (λ (v : View). length v.also ≤ length (history_seen v)) (sym both) (also_short c.into_seat-seat.result.me.0 c.into_seat.result.me.0)),
    )

use Rattle.std.proofs.Common.{◌≡◌, ℕ, List, ◌∷◌, Option, Some, sym, ap, subst, ◌∙◌, arith}
use Rattle.atomic_table.specs.Table.{rest}
use Rattle.intake_lock.specs.declared.view.Stage.TheVariants.{Idle}
use Rattle.intake_lock.specs.declared.view.View.{View}
use Rattle.intake_lock.specs.Passes.{LockState, PassState, view_in}
use Rattle.intake_lock.specs.Views.{live}
use Rattle.intake_lock.proofs.Steps.{draws}
use Rattle.intake_lock.proofs.lock.TurnLock.enter.Goals as goal

pub fetch_add-ticket-requires : goal.fetch_add-ticket-requires
fetch_add-ticket-requires g c =
    let words : c.self.inside.table.shared.table_id.words ≡ 3 = c.self.invariant.0 in
    let view : view_in c.pass.inside.badge.views ≡ c.into_seat-seat.result.me.0 = ap view_in c.into_seat-seat.ensures.2 in (
      c.into_seat-seat.ensures.0 ∙ ap (λ (p : PassState). p.lock) c.pass.view_is ∙ c.requires ∙ sym (ap (λ (l : LockState). l.id) c.self.view_is),
      omega arith,
      draws c.steps_add_one_entry.ensures g.V.Keeper.office (g.V.Keeper.office c.self.inside.table.shared.key.value) c.self.inside.table.shared.table_id.slots c.into_seat-seat.result.id c.into_seat-seat.result.me
          (subst (λ (v : View). live v ≡ 1) view c.pass.invariant.2)
          (subst (λ (v : View). v.stage ≡ Idle) view c.pass.invariant.1),
    )

pub exchange-taken-requires : goal.exchange-taken-requires
exchange-taken-requires g c =
    let gets = c.await_turn.ensures.gets.1 in
    let held = ap (λ (m : View × List (ℕ × Option g.row.V.Denot)). m.1) gets.seat in (
      c.await_turn.ensures.seat.0 ∙ c.fetch_add-ticket.ensures.0 ∙ c.into_seat-seat.ensures.0 ∙ ap (λ (p : PassState). p.lock) c.pass.view_is ∙ c.requires ∙ sym (ap (λ (l : LockState). l.id) c.self.view_is),
      (Some gets.keeper, held ∙ ap (λ (xs : List (ℕ × Option g.row.V.Denot)). (0, Some gets.keeper) ∷ rest xs) (sym held)),
    )

use Rattle.std.proofs.Common.{◌≡◌, ℕ, List, [], ◌∷◌, Option, Some, sym, ap, subst, ◌∙◌, arith}
use Rattle.atomic_table.specs.Table.{rest}
use Rattle.intake_lock.specs.declared.view.Stage.TheVariants.{Holding}
use Rattle.intake_lock.specs.declared.view.View.{View}
use Rattle.intake_lock.specs.Passes.{LockState, TurnState}
use Rattle.intake_lock.specs.Views.{live, published_view}
use Rattle.intake_lock.proofs.Steps.{leaves}
use Rattle.intake_lock.proofs.lock.TurnLock.leave.Goals as goal

pub fetch_add-served-requires : goal.fetch_add-served-requires
fetch_add-served-requires g c =
    let words : c.self.inside.table.shared.table_id.words ≡ 3 = c.self.invariant.0 in
    let told : c.exchange.new.seat.me.0 ≡ published_view (g.V.Keeper.office c.turn.inside.keeper) c.turn.inside.log.view c.turn.inside.seat.me.0 =
    ap (λ (m : View × List (ℕ × Option g.row.V.Denot)). m.0) c.exchange.ensures.3 ∙ ap (λ (m : View × List (ℕ × Option g.row.V.Denot)). m.0) c.publish.ensures.told in
    let held : c.exchange.new.seat.me.1 ≡ (0, Some c.turn.inside.keeper) ∷ [] =
    ap (λ (m : View × List (ℕ × Option g.row.V.Denot)). m.1) c.exchange.ensures.3
    ∙ ap (λ (xs : List (ℕ × Option g.row.V.Denot)). (0, Some c.turn.inside.keeper) ∷ rest xs) (ap (λ (m : View × List (ℕ × Option g.row.V.Denot)). m.1) c.publish.ensures.told ∙ c.turn.invariant.0) in (
      c.exchange.ensures.0 ∙ c.publish.ensures.seat.0 ∙ ap (λ (t : TurnState). t.lock) c.turn.view_is ∙ c.requires ∙ sym (ap (λ (l : LockState). l.id) c.self.view_is),
      omega arith,
      leaves c.steps_add_one_entry.ensures g.V.Keeper.office (g.V.Keeper.office c.self.inside.table.shared.key.value) c.self.inside.table.shared.table_id.slots c.exchange.new.seat.id c.turn.invariant.1.0 c.exchange.new.seat.me
          (subst (λ (v : View). live v ≡ 1) (sym told) c.turn.invariant.2)
          (subst (λ (v : View). v.stage ≡ Holding c.turn.invariant.1.0) (sym told) c.turn.invariant.1.1)
          c.turn.inside.keeper held
          (sym (ap (λ (v : View). v.office) told)),
    )

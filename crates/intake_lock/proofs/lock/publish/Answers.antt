use Rattle.std.proofs.Common.{length, sym, ap, ◌∙◌, arith}
use Rattle.act_model.specs.declared.keeper.Office.{Office}
use Rattle.intake_lock.proofs.Steps.{publishes}
use Rattle.intake_lock.proofs.lock.publish.Goals as goal

pub store-requires : goal.store-requires
store-requires g c = (
  c.requires.seat.0,
  omega (arith, c.requires.seat.1),
  publishes c.steps_add_one_entry.ensures g.V.Keeper.office (g.V.Keeper.office c.args.words.now.key.value) c.args.words.now.table_id.slots c.args.seat.now.id c.requires.turn.0 c.args.seat.now.me c.requires.live c.requires.turn.1 g.W.Turned.items g.W.Turned.office c.histories_are_legal.ensures.conduct c.requires.called c.entries.result
      (c.entries.ensures ∙ ap (λ (o : Office). length o.state.settled) (sym c.requires.office))
      c.entries.type_inv,
)

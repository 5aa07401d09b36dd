use Rattle.std.proofs.Common.{arith}
use Rattle.intake_lock.proofs.Steps.{looks}
use Rattle.intake_lock.proofs.lock.look.Goals as goal

pub load-served-requires : goal.load-served-requires
load-served-requires g c = (
  c.requires.seat.0,
  omega (arith, c.requires.seat.1),
  looks c.steps_add_one_entry.ensures g.V.Keeper.office (g.V.Keeper.office c.args.words.now.key.value) c.args.words.now.table_id.slots c.args.seat.now.id c.requires.ticket.0 c.args.seat.now.me c.requires.live c.requires.ticket.1 c.requires.seat.2,
)

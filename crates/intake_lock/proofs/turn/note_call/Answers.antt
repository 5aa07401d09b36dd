use Rattle.std.proofs.Common.{◌∷◌, refl}
use Rattle.intake_lock.proofs.turn.note_call.Goals as goal

pub load-requires : goal.load-requires
load-requires g c = (c.requires.place, λ n views holds at low. (c.requires.call.0 ∷ c.args.log.now.view, tt, (c.requires.call.0, refl, c.requires.call.1)))

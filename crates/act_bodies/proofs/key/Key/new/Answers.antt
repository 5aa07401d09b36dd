use Rattle.act_bodies.proofs.Padded.{key-from_copy}
use Rattle.act_bodies.proofs.key.Key.new.Goals as goal

pub returns : goal.returns
returns c = key-from_copy c.args.text.now c.copy_from_slice.new.self c.min-len.result c.min-len.ensures c.copy_from_slice.ensures.after

use Rattle.object_rules.proofs.TimeLemmas.{chain_later}
use Rattle.object_rules.proofs.chains.next_track.Goals as goal

pub returns : goal.returns
returns c = chain_later c.args.file.now.tracklets c.args.d c.args.after c.next_at.result c.next_at.ensures.next c.next_at.ensures.rest

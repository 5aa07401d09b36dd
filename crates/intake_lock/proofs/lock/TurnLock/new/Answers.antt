use Rattle.intake_lock.proofs.Passes.{opens}
use Rattle.intake_lock.proofs.lock.TurnLock.new.Goals as goal

pub new-requires : goal.new-requires
new-requires g c =
    rw (c.of-about.ensures, c.push_reserved.ensures.items, c.reserve.ensures.items, c.new-slots.ensures.items)
    (opens g.V.Keeper.office c.args.value c.entries-entries.result c.entries-entries.ensures c.entries-entries.type_inv c.requires)

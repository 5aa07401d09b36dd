use Rattle.std.proofs.lemmas.Result.{on_ok_weaker}
use Rattle.obs_journal.proofs.Writes.{safe_after, wrote_still}
use Rattle.obs_journal.proofs.writing.write_and_sync.Goals as goal

pub returns-clause-safe : goal.returns-clause-safe
returns-clause-safe g c =
    on_ok_weaker _ (safe_after g.D.Disk.reads g.D.Disk.leaves g.D.Disk.moment g.D.Disk.since g.met.D.Disk.known g.met.D.Disk.counts_now c.args.at c.args.bytes.now
    c.in_ok-write_at.ensures.wrote c.write_at.ensures.time c.write_at.ensures.images c.sync.ensures.reads c.sync.ensures.time c.sync.ensures.images) c.sync.ensures.safe

pub returns-clause-wrote : goal.returns-clause-wrote
returns-clause-wrote g c =
    on_ok_weaker _ (λ _. wrote_still c.args.at c.args.bytes.now (g.D.Disk.reads c.args.disk.now) _ _ c.in_ok-write_at.ensures.wrote c.sync.ensures.reads) c.sync.ensures.safe

use Rattle.std.proofs.Common.{length}
use Rattle.std.proofs.lemmas.Result.{on_ok_weaker}
use Rattle.obs_journal.proofs.Moves.{adds_written, stays_written}
use Rattle.obs_journal.proofs.second.add.Goals as goal

pub returns-clause-adds : goal.returns-clause-adds
returns-clause-adds g c =
    on_ok_weaker _ (λ wrote. adds_written g.D.Disk.reads g.D.Disk.leaves g.D.Disk.moment g.D.Disk.since g.met.D.Disk.counts_now c.args.at c.args.bytes.now c.requires wrote c.write_at.ensures.time c.write_at.ensures.images) c.write_at.ensures.wrote

pub returns-clause-shut : goal.returns-clause-shut
returns-clause-shut g c = stays_written g.D.Disk.reads g.D.Disk.leaves g.D.Disk.moment g.D.Disk.since g.met.D.Disk.counts_now c.args.at (length c.args.bytes.now) c.requires c.write_at.ensures.time c.write_at.ensures.images

use Rattle.disk_model.specs.Memory.{Synced}
use Rattle.disk_model.proofs.Steps.{passes_records, each_sync}
use Rattle.disk_model.proofs.memory.MemDiskDisk.sync.Goals as goal

pub returns-clause-time : goal.returns-clause-time
returns-clause-time c = passes_records _ _ Synced c.try_sync.ensures.records

pub returns-clause-images : goal.returns-clause-images
returns-clause-images c = each_sync c.args.self.now c.try_sync.new.self c.try_sync.ensures.records

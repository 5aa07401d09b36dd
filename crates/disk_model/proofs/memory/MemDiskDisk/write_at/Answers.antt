use Rattle.disk_model.specs.Memory.{Wrote}
use Rattle.disk_model.proofs.Steps.{passes_records, each_write}
use Rattle.disk_model.proofs.memory.MemDiskDisk.write_at.Goals as goal

pub returns-clause-time : goal.returns-clause-time
returns-clause-time c = passes_records _ _ (Wrote c.args.at c.args.bytes.now) c.try_write.ensures.records

pub returns-clause-images : goal.returns-clause-images
returns-clause-images c = each_write c.args.self.now c.try_write.new.self c.args.at c.args.bytes.now c.try_write.ensures.records

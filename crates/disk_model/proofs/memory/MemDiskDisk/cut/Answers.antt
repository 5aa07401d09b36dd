use Rattle.disk_model.specs.Memory.{Cut}
use Rattle.disk_model.proofs.Steps.{passes_records, each_cut}
use Rattle.disk_model.proofs.memory.MemDiskDisk.cut.Goals as goal

pub returns-clause-time : goal.returns-clause-time
returns-clause-time c = passes_records _ _ (Cut c.args.len) c.try_cut.ensures.records

pub returns-clause-images : goal.returns-clause-images
returns-clause-images c = each_cut c.args.self.now c.try_cut.new.self c.args.len c.try_cut.ensures.records

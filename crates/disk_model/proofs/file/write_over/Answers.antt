use Rattle.std.proofs.Common.{rules}
use Rattle.disk_model.proofs.Writes.{over_lengthened}
use Rattle.disk_model.proofs.file.write_over.Goals as goal

pub returns-clause-items : goal.returns-clause-items
returns-clause-items c = over_lengthened c.args.at c.args.bytes.now c.args.file.now.items c.lengthen.new.file.items c.replace.new.bytes c.lengthen.new.file.len (search rules) c.lengthen.ensures.items (search rules) (search rules)

use Rattle.std.proofs.Common.{◌+◌, ◌-◌, List, ℕ, length, drop, subst, sym, arith, length-take}
use Rattle.disk_model.specs.Crashes.{Torn}
use Rattle.disk_model.specs.FileLaws.{torn_part}
use Rattle.disk_model.proofs.file.tear.Goals as goal

pub returns-clause-torn : goal.returns-clause-torn
returns-clause-torn c =
    subst (λ (l : List ℕ). Torn c.args.at (length c.args.bytes.now) c.args.image.now.items l) (sym c.write_over.ensures.items)
    (torn_part c.args.at (length c.args.bytes.now) (c.args.at + c.part-from.result.0) _ c.args.image.now.items (omega arith)
    (let part = length-take (c.part-from.result.1 - c.part-from.result.0) (drop c.part-from.result.0 c.args.bytes.now) in omega (arith, part, c.part-from.ensures.order, c.part-from.ensures.within)))

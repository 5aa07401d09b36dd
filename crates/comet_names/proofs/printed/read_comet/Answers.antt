use Rattle.std.proofs.Common.{Ok, Err}
use Rattle.packed_names.specs.declared.name.NameFault.TheVariants.{Spelling, OutOfRange}
use Rattle.comet_names.proofs.PrintedLaws.{printed_exactly}
use Rattle.comet_names.proofs.printed.read_comet.Goals as goal

pub returns-clause-comet : goal.returns-clause-comet
returns-clause-comet c = λ comet. printed_exactly c.texts.ensures c.args.text.now c.printed.result c.printed.ensures.exact (Ok comet)

pub returns-clause-out_of_range : goal.returns-clause-out_of_range
returns-clause-out_of_range c = printed_exactly c.texts.ensures c.args.text.now c.printed.result c.printed.ensures.exact (Err OutOfRange)

pub returns-clause-spelling : goal.returns-clause-spelling
returns-clause-spelling c = printed_exactly c.texts.ensures c.args.text.now c.printed.result c.printed.ensures.exact (Err Spelling)

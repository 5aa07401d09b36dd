use Rattle.std.proofs.Common.{Ok, Err}
use Rattle.packed_names.specs.declared.name.NameFault.TheVariants.{Spelling, OutOfRange}
use Rattle.packed_names.proofs.PrintedLaws.{half_exactly}
use Rattle.packed_names.proofs.printed.read_half.Goals as goal

pub returns-clause-half : goal.returns-clause-half
returns-clause-half c = λ half. half_exactly c.texts.ensures c.args.text.now c.printed_half.result c.printed_half.ensures.exact (Ok half)

pub returns-clause-out_of_range : goal.returns-clause-out_of_range
returns-clause-out_of_range c = half_exactly c.texts.ensures c.args.text.now c.printed_half.result c.printed_half.ensures.exact (Err OutOfRange)

pub returns-clause-spelling : goal.returns-clause-spelling
returns-clause-spelling c = half_exactly c.texts.ensures c.args.text.now c.printed_half.result c.printed_half.ensures.exact (Err Spelling)

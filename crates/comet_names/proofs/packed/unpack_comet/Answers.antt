use Rattle.std.proofs.Common.{Ok, Err}
use Rattle.packed_names.specs.declared.name.NameFault.TheVariants.{Spelling, OutOfRange}
use Rattle.comet_names.proofs.PackedLaws.{packed_exactly}
use Rattle.comet_names.proofs.packed.unpack_comet.Goals as goal

pub returns-clause-comet : goal.returns-clause-comet
returns-clause-comet c = λ comet. packed_exactly c.texts.ensures c.args.text.now c.unpacked.result c.unpacked.ensures.exact (Ok comet)

pub returns-clause-out_of_range : goal.returns-clause-out_of_range
returns-clause-out_of_range c = packed_exactly c.texts.ensures c.args.text.now c.unpacked.result c.unpacked.ensures.exact (Err OutOfRange)

pub returns-clause-spelling : goal.returns-clause-spelling
returns-clause-spelling c = packed_exactly c.texts.ensures c.args.text.now c.unpacked.result c.unpacked.ensures.exact (Err Spelling)

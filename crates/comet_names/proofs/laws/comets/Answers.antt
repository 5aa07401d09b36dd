use Rattle.std.proofs.Common.{refl, Ok}
use Rattle.comet_names.proofs.PackedLaws.{packed_exactly}
use Rattle.comet_names.proofs.PrintedLaws.{printed_exactly}
use Rattle.comet_names.proofs.laws.comets.Goals as goal

pub returns : goal.returns
returns c = record {
  packed_exactly = λ text comet. packed_exactly c.texts.ensures text _ refl (Ok comet);
  printed_exactly = λ text comet. printed_exactly c.texts.ensures text _ refl (Ok comet);
}

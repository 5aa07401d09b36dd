use Rattle.std.proofs.Common.{refl, Ok}
use Rattle.packed_names.proofs.PackedLaws.{packed_exactly}
use Rattle.packed_names.proofs.PrintedLaws.{printed_exactly}
use Rattle.packed_names.proofs.laws.names.Goals as goal

pub returns : goal.returns
returns c = record {
  packed_exactly = λ text name. packed_exactly c.texts.ensures text _ refl (Ok name);
  printed_exactly = λ text name. printed_exactly c.texts.ensures text _ refl (Ok name);
}

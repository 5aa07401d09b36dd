use Rattle.std.proofs.Common.{length, ap, arith}
use Rattle.obs_journal.proofs.Bytes.{length-kept}
use Rattle.obs_journal.proofs.parcel.Parcel.body.Goals as goal

pub between-requires : goal.between-requires
between-requires c = omega (arith, length-kept _ _ c.self.invariant.bytes_are, ap length c.deref.ensures.value)

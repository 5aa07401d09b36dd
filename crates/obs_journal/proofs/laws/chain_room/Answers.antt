use Rattle.std.proofs.Common.{[], ◌∷◌, arith}
use Rattle.obs_journal.specs.declared.format.Format.TheVariants.{Chained}
use Rattle.obs_journal.proofs.Rows.{row_length-append}
use Rattle.obs_journal.proofs.laws.chain_room.Goals as goal

pub returns : goal.returns
returns c = λ parcels parcel. omega (arith, row_length-append Chained parcels (parcel ∷ []))

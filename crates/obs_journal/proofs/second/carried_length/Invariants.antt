use Rattle.std.proofs.Common.{◌≡◌, ◌+◌, take}
use Rattle.obs_journal.specs.Formats.{row_length_in}
use Rattle.obs_journal.specs.declared.format.Format.TheVariants.{Chained}
use Rattle.obs_journal.specs.Opening.{parcels_of}
use Rattle.obs_journal.proofs.second.carried_length.Given as goal

abbrev pub invariant-loop-placed : goal.invariant-loop-placed
invariant-loop-placed l = l.length ≡ row_length_in Chained (parcels_of (take l.placed-index l.parcels)) + 2

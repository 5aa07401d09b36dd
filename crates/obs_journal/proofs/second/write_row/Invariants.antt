use Rattle.std.proofs.Common.{◌≤◌, take}
use Rattle.obs_journal.specs.Opening.{parcels_of}
use Rattle.obs_journal.specs.Moves.{StaysShut}
use Rattle.obs_journal.proofs.Moves.{IsWritten}
use Rattle.obs_journal.proofs.second.write_row.Given as goal

abbrev pub invariant-loop-placed : goal.invariant-loop-placed
invariant-loop-placed g l = record {
  written : IsWritten g.D.Disk.reads g.D.Disk.leaves (parcels_of (take l.placed-index l.parcels)) l.gate l.last l.fn.second l.second;
  shut : StaysShut g.D.Disk.leaves g.D.Disk.moment g.D.Disk.since l.fn.second l.second;
  counts : g.D.Disk.faults l.fn.second ≤ g.D.Disk.faults l.second;
}

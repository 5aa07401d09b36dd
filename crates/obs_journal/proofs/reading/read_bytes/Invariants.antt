use Rattle.std.proofs.Common.{◌≡◌, ◌+◌, ◌≤◌, ◌++◌, length, take, drop}
use Rattle.std.specs.Prelude.{IfSome}
use Rattle.obs_journal.specs.Journals.{IsUnwritten}
use Rattle.obs_journal.proofs.reading.read_bytes.Given as goal

abbrev pub invariant-loop-left : goal.invariant-loop-left
invariant-loop-left g l = record {
  place : l.from + l.left ≡ l.fn.at + l.fn.count;
  within : l.left ≤ l.fn.count;
  size : length l.bytes.items + l.left ≡ length l.fn.bytes.items + l.fn.count;
  told : IfSome (g.D.Disk.reads l.fn.disk) (λ file. l.bytes.items ++ take l.left (drop l.from file) ≡ l.fn.bytes.items ++ take l.fn.count (drop l.fn.at file));
  unwritten : IsUnwritten g.D.Disk.reads g.D.Disk.moment g.D.Disk.since l.fn.disk l.disk;
  counts : g.D.Disk.faults l.fn.disk ≤ g.D.Disk.faults l.disk;
}

abbrev pub decreases-loop-left : goal.decreases-loop-left
decreases-loop-left g l = l.left

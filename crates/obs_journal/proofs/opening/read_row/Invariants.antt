use Rattle.std.proofs.Common.{◌≡◌, ◌-◌, ◌<◌, ◌≤◌, length}
use Rattle.std.specs.Prelude.{IfSome}
use Rattle.obs_journal.specs.Formats.{head, first_seal, last_seal, front_length, kept_seal}
use Rattle.obs_journal.specs.Journals.{IsUnwritten}
use Rattle.obs_journal.specs.Opening.{parcels_of, placed_in}
use Rattle.obs_journal.proofs.Places.{IsRead}
use Rattle.obs_journal.proofs.opening.read_row.Given as goal

abbrev pub invariant-gates : goal.invariant-gates
invariant-gates g l = record {
  inside : l.gate < l.end;
  place : l.gate ≡ front_length l.format (parcels_of l.parcels);
  offsets : l.parcels ≡ placed_in l.format (length (head l.format)) (parcels_of l.parcels);
  sealed : kept_seal l.format l.last ≡ last_seal l.format (first_seal l.format) (parcels_of l.parcels);
  told : IfSome (g.D.Disk.reads l.fn.disk) (λ file. length file ≡ l.end → IsRead l.format file (parcels_of l.parcels) l.gate);
  unwritten : IsUnwritten g.D.Disk.reads g.D.Disk.moment g.D.Disk.since l.fn.disk l.disk;
  counts : g.D.Disk.faults l.fn.disk ≤ g.D.Disk.faults l.disk;
}

abbrev pub decreases-gates : goal.decreases-gates
decreases-gates g l = l.end - l.gate

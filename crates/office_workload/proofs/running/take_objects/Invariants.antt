use Rattle.std.proofs.Common.{◌≡◌}
use Rattle.office_workload.specs.Generating.{number_at}
use Rattle.office_workload.specs.Workloads.{officer}
use Rattle.office_workload.proofs.RunLemmas.{Goes}
use Rattle.office_workload.proofs.running.take_objects.Given as goal

-- the requests of the objects so far were taken
abbrev pub invariant-objects : goal.invariant-objects
invariant-objects l = record {
  goes : Goes l.seed l.count l.fn.keeper.history l.before l.keeper.history;
  number : l.x ≡ number_at l.seed l.before;
  founder : l.keeper.founder ≡ officer;
}

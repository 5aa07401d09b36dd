-- What `workload` promises, over every sink.
use Rattle.std.specs.Prelude.{ℕ}
use Rattle.command_ends.specs.declared.status.Status.{Status}
use Rattle.command_ends.specs.Courses.{SinkWords, Change, SinkCause, IsFaultless}
use Rattle.command_ends.specs.Statuses.{IsDoneOrNoMemory}
use Rattle.export_command.specs.Exports.{IsWritten}
use Rattle.office_workload.specs.Summaries.{summary}
use Rattle.workload_command.specs.Ends.{IsOwn}

-- The sink took the summary, so far as the status says. No fault gives `Done`, or `NoMemory`, and a fault has its
-- cause. It ends with none of the statuses of other commands.
pub record KeepsWorkload {K : Type 0} (write : SinkWords K) (sink : Change K) (status : Status) (seed count : ℕ)
    : Type 0 where
  pub written : IsWritten (write.taken sink.old) (write.taken sink.new) (summary seed count) status
  pub complete : IsFaultless write.faults sink → IsDoneOrNoMemory status
  pub write_cause : SinkCause write sink status
  pub own : IsOwn status

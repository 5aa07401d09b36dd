-- What `look` promises, over every sink and every mirror.
use Rattle.std.specs.Prelude.{◌≡◌, ◌≤◌, ℤ, Some}
use Rattle.command_ends.specs.declared.status.Status.{Status}
use Rattle.command_ends.specs.declared.status.Status.TheVariants.{MirrorFault}
use Rattle.command_ends.specs.Courses.{SinkWords, Change, HasCause, SinkCause, IsFaultless}
use Rattle.command_ends.specs.Statuses.{IsDoneOrNoMemory}
use Rattle.mirror_store.specs.declared.rows.MirrorRows.{MirrorRows}
use Rattle.mirror_store.specs.Words.{MirrorWords}
use Rattle.look_command.specs.Looks.{first_moment, look_text}
use Rattle.look_command.specs.Ends.{Writes, Looks, IsOwn}

-- What was written at each end.
--
-- Where the mirror tells its lists, the text is a function of them and of the two days; any other mirror gives some
-- rows in range, and the text is theirs. The lists stay. No fault gives `Done`, or `NoMemory`, and each fault has its
-- cause. It ends with none of the statuses of other commands.
pub record KeepsLook {K M : Type 0} (write : SinkWords K) (kept : MirrorWords M) (from to : ℤ) (sink : Change K)
    (mirror : Change M) (status : Status) : Type 0 where
  pub told : (lists : MirrorRows) → kept.told mirror.old ≡ Some lists
      → Writes write sink (look_text from to lists) status
  pub looks : Looks write (kept.told mirror.old) (first_moment from) (first_moment to) sink status
  pub held : kept.told mirror.new ≡ kept.told mirror.old
  pub complete : IsFaultless write.faults sink → IsFaultless kept.faults mirror → IsDoneOrNoMemory status
  pub write_cause : SinkCause write sink status
  pub mirror_cause : HasCause kept.faults mirror MirrorFault status
  pub mirror_counts : kept.faults mirror.old ≤ kept.faults mirror.new
  pub own : IsOwn status

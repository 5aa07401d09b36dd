-- A door that is open as long as links are wanted of it.
use Rattle.std.specs.Prelude.{◌≡◌, ℕ, ◌-◌, ◌<◌}
use Rattle.call_log.specs.Counts.{one_more}
use Rattle.desk_io.specs.Doors.{IsUncalled}
use Rattle.desk_io.specs.Streams.{StreamSourceState, StreamSinkState}
use Rattle.desk_io.specs.declared.doors.Next.{Next}
use Rattle.desk_io.specs.declared.doors.Next.TheVariants as answers

-- how many links are wanted yet, and how often the door failed
pub record ServingState : Type 0 where
  pub wanted : ℕ
  pub faults : ℕ

-- one call: shut where no link is wanted; else a link that nobody has used yet, after which one fewer is wanted, a
-- failure that was counted, or out of memory
abbrev pub ServesOnce : ServingState → ServingState → Next StreamSourceState StreamSinkState → Type 0
ServesOnce before after (answers.Link source sink) =
    (0 < before.wanted) × (after ≡ record before { wanted = before.wanted - 1 }) × IsUncalled source sink
ServesOnce before after answers.Shut = (before.wanted ≡ 0) × (after ≡ before)
ServesOnce before after answers.Failed =
    (0 < before.wanted) × (after ≡ record before { faults = one_more before.faults })
ServesOnce before after answers.NoMemory = (0 < before.wanted) × (after ≡ before)

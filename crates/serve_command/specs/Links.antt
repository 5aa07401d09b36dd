-- A link that came through a door: it was attended, and then its source and its sink were ended.
use Rattle.std.specs.Prelude.{◌≡◌, ℕ, Bool, false, List, [], ◌∷◌, ◌++◌, Option, Some}
use Rattle.std.specs.Io.KnownBytes.{Keeps}
use Rattle.call_log.specs.Counts.{Rises}
use Rattle.desk_io.specs.Reads.{Passes}
use Rattle.intake_lock.specs.declared.view.Item.{Item}
use Rattle.intake_lock.specs.declared.view.View.{View}
use Rattle.act_model.specs.Clocks.{ClockState}
use Rattle.http_connection.specs.Streams.{HasNoHeadFault}
use Rattle.http_connection.specs.Attending.{items_of, IsAttended, ReadCounts, WriteCounts, IsEndedOrWanting}
use Rattle.serve_command.specs.declared.ends.LinkEnd.{LinkEnd}

-- what the sources and the sinks of a door's links say about themselves
pub record LinkWords (I O : Type 0) : Type 1 where
  pub left : I → Option (List ℕ)
  pub gives : Passes I
  pub read_faults : I → ℕ
  pub has_source : I → Bool
  pub taken : O → Option (List ℕ)
  pub write_faults : O → ℕ
  pub has_sink : O → Bool

abbrev pub link_words : {I O : Type 0} → (I → Option (List ℕ)) → Passes I → (I → ℕ) → (I → Bool)
    → (O → Option (List ℕ)) → (O → ℕ) → (O → Bool) → LinkWords I O
link_words left gives read_faults has_source taken write_faults has_sink = record {
  left = left;
  gives = gives;
  read_faults = read_faults;
  has_source = has_source;
  taken = taken;
  write_faults = write_faults;
  has_sink = has_sink;
}

-- what there is when a link comes to be attended: its source and its sink, what the pass knows, and the clock
pub record LinkStart (I O : Type 0) : Type 0 where
  pub source : I
  pub sink : O
  pub view : View
  pub clock : ClockState

abbrev pub link_start : {I O : Type 0} → I → O → View → ClockState → LinkStart I O
link_start source sink view clock = record { source = source; sink = sink; view = view; clock = clock }

-- The link was attended by a pass that knows this after, and left so. Then its source and its sink were given up: what
-- they tell is what they told when the link was left.
pub record IsLinkAttended {I O : Type 0} (on : LinkWords I O) (start : LinkStart I O) (end : LinkEnd I O)
    (after : View) : Type 0 where
  pub read : I
  pub written : O
  pub clock_after : ClockState
  pub attended : IsAttended on.left on.gives
      (record { view = start.view; clock = start.clock; taken = on.taken start.sink; source = start.source })
      (record { view = after; clock = clock_after; taken = on.taken written; source = read }) end.left
  pub source_stays : Keeps (on.left read) (on.left end.source)
  pub sink_stays : Keeps (on.taken written) (on.taken end.sink)
  pub source_ended : on.has_source end.source ≡ false
  pub sink_ended : on.has_sink end.sink ≡ false
  pub read_counts : ReadCounts end.left (on.read_faults start.source) (on.read_faults end.source)
  pub write_counts : WriteCounts end.left (on.write_faults start.sink) (on.write_faults end.sink)
  pub complete : (bytes : List ℕ) → on.left start.source ≡ Some bytes → HasNoHeadFault bytes
      → ¬ Rises (on.read_faults start.source) (on.read_faults end.source)
      → ¬ Rises (on.write_faults start.sink) (on.write_faults end.sink) → IsEndedOrWanting end.left

-- a link that the door gave, and how it was attended
pub record Attendance {I O : Type 0} (on : LinkWords I O) : Type 0 where
  pub start : LinkStart I O
  pub end : LinkEnd I O
  pub after : View
  pub attended : IsLinkAttended on start end after

-- the link as the door gave it
abbrev pub link_of : {I O : Type 0} {on : LinkWords I O} → Attendance on → I × O
link_of attendance = (attendance.start.source, attendance.start.sink)

abbrev pub end_of : {I O : Type 0} {on : LinkWords I O} → Attendance on → LinkEnd I O
end_of attendance = attendance.end

-- the calls that were made for the link, the newest first
abbrev pub calls_of : {I O : Type 0} {on : LinkWords I O} → Attendance on → List Item
calls_of attendance = items_of attendance.attended.attended.link.exchanges

-- the calls that were made for these links
abbrev pub calls_in : {I O : Type 0} {on : LinkWords I O} → List (Attendance on) → List Item
calls_in [] = []
calls_in (attendance ∷ attendances) = calls_of attendance ++ calls_in attendances

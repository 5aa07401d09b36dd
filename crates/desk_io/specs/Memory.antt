-- A source and a sink in memory.
use Rattle.std.specs.Prelude.{◌≡◌, ℕ, Bool, ◌-◌, ◌<◌, ◌⊎◌, min, List, [], ◌++◌, length, drop}
use Rattle.call_log.specs.Calls.{Calls, FailsNext, passed, failed}

-- the bytes that a source still gives, the most that one read gives, its calls, and whether it is open
pub record SourceState : Type 0 where
  pub left : List ℕ
  pub greatest : ℕ
  pub calls : Calls
  pub is_open : Bool

-- how many bytes a read into so much room gives
abbrev pub given_length : SourceState → ℕ → ℕ
given_length source room = min source.greatest (min room (length source.left))

-- after a read that gave n bytes
abbrev pub after_giving : SourceState → ℕ → SourceState
after_giving source n = record source { left = drop n source.left; calls = passed source.calls }

-- one read: it gave these bytes, or it failed and gave none
abbrev pub GivesOnce : SourceState → List ℕ → SourceState → Type 0
GivesOnce before bytes after =
    (after ≡ after_giving before (length bytes)) ⊎ ((bytes ≡ [])
    × (after ≡ record before { calls = failed before.calls }))

-- the bytes that a sink took, how many it takes at most, its calls, and whether it is open
pub record SinkState : Type 0 where
  pub taken : List ℕ
  pub capacity : ℕ
  pub calls : Calls
  pub is_open : Bool

-- how many bytes it takes from here on
abbrev pub room : SinkState → ℕ
room sink = sink.capacity - length sink.taken

-- the next write is one of those that are to fail, or nothing of its piece finds room
abbrev pub WriteFails : SinkState → ℕ → Type 0
WriteFails sink piece_length = FailsNext sink.calls ⊎ (0 < piece_length × room sink ≡ 0)

-- after a write of which it took these bytes
abbrev pub after_taking : SinkState → List ℕ → SinkState
after_taking sink bytes = record sink { taken = sink.taken ++ bytes; calls = passed sink.calls }

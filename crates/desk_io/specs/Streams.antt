-- A source and a sink over streams, of whose content nothing is known.
use Rattle.std.specs.Prelude.{◌≡◌, ◌⊎◌, ℕ, Bool, ◌-◌, ◌==◌, if◌then◌else◌, List, [], length}
use Rattle.call_log.specs.Counts.{one_more}

-- whether a source still has its stream, how often it failed, and how many reads can still give bytes
pub record StreamSourceState : Type 0 where
  pub is_open : Bool
  pub faults : ℕ
  pub reads : ℕ

-- after a read that gave n bytes
abbrev pub after_read : StreamSourceState → ℕ → StreamSourceState
after_read source n = record source { reads = if n == 0 then source.reads else source.reads - 1 }

-- one read: it gave these bytes, or it failed and gave none
abbrev pub GivesOnce : StreamSourceState → List ℕ → StreamSourceState → Type 0
GivesOnce before bytes after =
    (after ≡ after_read before (length bytes)) ⊎ ((bytes ≡ [])
    × (after ≡ record before { faults = one_more before.faults }))

-- whether a sink still has its stream, and how often it failed
pub record StreamSinkState : Type 0 where
  pub is_open : Bool
  pub faults : ℕ

-- The calls of an object in memory, some of which are to fail.
use Rattle.std.specs.Prelude.{ℕ, List, Contains}
use Rattle.call_log.specs.Counts.{one_more}

-- which calls are to fail, counted from 1, how many were made, and how many of them failed
pub record Calls : Type 0 where
  pub fails : List ℕ
  pub made : ℕ
  pub faults : ℕ

-- no call was made yet
abbrev pub no_calls : List ℕ → Calls
no_calls fails = record { fails = fails; made = 0; faults = 0 }

-- the next call is one of those that are to fail
abbrev pub FailsNext : Calls → Type 0
FailsNext calls = Contains calls.fails (one_more calls.made)

-- after a call that did what it could
abbrev pub passed : Calls → Calls
passed calls = record calls { made = one_more calls.made }

-- after a call that failed
abbrev pub failed : Calls → Calls
failed calls = record calls { made = one_more calls.made; faults = one_more calls.faults }

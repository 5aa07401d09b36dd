-- How a reading ends, and how one is chosen.
use Rattle.std.specs.Prelude.{ℕ, ◌==◌, if◌then◌else◌, List, length, Option, Some, None}

-- a value, where nothing stands after it
abbrev pub whole : {A : Type 0} → A → List ℕ → Option A
whole value rest = if length rest == 0 then Some value else None

-- the first of two that is there
abbrev pub first_of : {A : Type 0} → Option A → Option A → Option A
first_of (Some x) other = Some x
first_of None other = other

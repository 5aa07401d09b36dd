-- Counts of calls and of faults, which never fall.
use Rattle.std.specs.Prelude.{ℕ, ◌+◌, ◌-◌, ◌^◌, ◌≤◌, min}

-- a count that went up by one: at the end of its type it stands still
abbrev pub one_more : ℕ → ℕ
one_more n = min (n + 1) (2 ^ 64 - 1)

-- a count rose, or stands at the end of its type
abbrev pub Rises : ℕ → ℕ → Type 0
Rises before now = one_more before ≤ now

-- A clock that goes by steps.
use Rattle.std.specs.Prelude.{ℕ, ℤ, pos, ◌*◌, ◌+ℤ◌}
use Rattle.std.specs.Int.{int_min}
use Rattle.obs_time.specs.Instants.{last_instant}

-- the last reading, the next one, and by how many nanoseconds each one is later than the one before
pub record TickState : Type 0 where
  pub last : ℤ
  pub next : ℤ
  pub step : ℕ

-- the k-th reading to come, counted from 0: this many steps after the next one, but no later than the last moment of
-- 2199
abbrev pub tick : TickState → ℕ → ℤ
tick clock k = int_min (clock.next +ℤ pos (k * clock.step)) last_instant

-- The moments of UTC that observations may have: nanoseconds since 1970-01-01T00:00:00, every day of 86,400 seconds.
use Rattle.std.specs.Prelude.{ℕ, ℤ, pos, neg_ℤ, ◌≤ℤ◌}

-- the nanoseconds of a day
abbrev pub nanos_of_a_day : ℕ
nanos_of_a_day = 86_400_000_000_000

-- the first moment of 1800-01-01, which is day -62,091
abbrev pub first_instant : ℤ
first_instant = neg_ℤ (pos 5_364_662_400_000_000_000)

-- the last nanosecond of 2199-12-31, which is day 84,005
abbrev pub last_instant : ℤ
last_instant = pos 7_258_118_399_999_999_999

-- this many nanoseconds since 1970 lie in the years 1800 to 2199
abbrev pub IsInstantNs : ℤ → Type 0
IsInstantNs ns = (first_instant ≤ℤ ns) × (ns ≤ℤ last_instant)

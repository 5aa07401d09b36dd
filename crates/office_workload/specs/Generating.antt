-- The numbers that a seed starts, each worked out from the one before it.
use Rattle.std.specs.Prelude.{ℕ, zero, suc, ◌+◌, ◌*◌, ◌%◌, ◌^◌}

-- the number after this one
unfoldable pub number_after : ℕ → ℕ
number_after x = (6364136223846793005 * x + 1442695040888963407) % 2 ^ 64

-- the i-th number after the seed
unfoldable pub number_at : ℕ → ℕ → ℕ
number_at seed zero = seed
number_at seed (suc i) = number_after (number_at seed i)

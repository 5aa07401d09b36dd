-- The order of a designation in its half-month, as a letter and a cycle: the 25 letters are gone through again and
-- again, and the cycle tells how often they were.
use Rattle.std.specs.Prelude.{ℕ, ◌+◌, ◌-◌, ◌*◌, ◌/◌, ◌%◌}

-- the index of an order's letter: orders 1 to 25 have A to Z, and order 26 has A again
abbrev pub letter_index : ℕ → ℕ
letter_index order = (order - 1) % 25

-- how often the letters were gone through before an order
abbrev pub cycle_of : ℕ → ℕ
cycle_of order = (order - 1) / 25

-- the order that a cycle and a letter's index stand for
abbrev pub order_of : ℕ → ℕ → ℕ
order_of cycle letter = 25 * cycle + letter + 1

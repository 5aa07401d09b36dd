-- What a clock says about itself, and the readings that it gave.
use Rattle.std.specs.Prelude.{◌≡◌, ℕ, ◌+◌, ℤ, List, [], ◌∷◌, length, Option}
use Rattle.act_model.specs.Turns.{AreReadings}

-- a clock: its k-th reading to come, where it is known, and its last reading
pub record ClockState : Type 0 where
  pub to_come : ℕ → Option ℤ
  pub last : ℤ

-- what a clock says about itself
abbrev pub clock_of : {C : Type 0} → (C → ℕ → Option ℤ) → (C → ℤ) → C → ClockState
clock_of reading last clock = record { to_come = reading clock; last = last clock }

-- the last of some readings, and the one before them where there are none
abbrev pub last_of : ℤ → List ℤ → ℤ
last_of before [] = before
last_of before (reading ∷ readings) = last_of reading readings

-- the clock gave these readings and no others, as far as they are known, and the last of them is its last reading
pub record Gives (before after : ClockState) (readings : List ℤ) : Type 0 where
  pub known : AreReadings before.to_come 0 readings
  pub later : (k : ℕ) → after.to_come k ≡ before.to_come (k + length readings)
  pub last : after.last ≡ last_of before.last readings

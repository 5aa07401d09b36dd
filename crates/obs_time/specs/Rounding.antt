-- Rounding to the nearest multiple of a unit, halves away from zero.
use Rattle.std.specs.Prelude.{◌≡◌, ℕ, suc, ◌+◌, ◌*◌, ◌/◌, ◌≤◌, ℤ, pos, negsuc, neg_ℤ, ◌-ℤ◌, ◌*ℤ◌, unsigned_abs}

-- how far two values lie from each other
abbrev pub distance : ℤ → ℤ → ℕ
distance a b = unsigned_abs (a -ℤ b)

-- r is the multiple of the unit that is nearest to x, and of two equally near ones the one farther from zero
pub record IsNearest (x : ℤ) (unit : ℕ) (r : ℤ) : Type 0 where
  pub times : ℤ
  pub multiple : r ≡ times *ℤ pos unit
  pub nearest : (k : ℤ) → distance x r ≤ distance x (k *ℤ pos unit)
  pub farther : (k : ℤ) → distance x (k *ℤ pos unit) ≡ distance x r → unsigned_abs (k *ℤ pos unit) ≤ unsigned_abs r

-- the multiple of the unit that is nearest to a number, and of two the greater
abbrev pub nearest_multiple : ℕ → ℕ → ℕ
nearest_multiple n unit = (n + unit / 2) / unit * unit

-- the nearest multiple of the unit, by the value's size
abbrev pub rounded : ℤ → ℕ → ℤ
rounded (pos n) unit = pos (nearest_multiple n unit)
rounded (negsuc n) unit = neg_ℤ (pos (nearest_multiple (suc n) unit))

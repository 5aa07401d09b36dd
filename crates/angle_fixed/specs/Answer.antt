-- Which answer of a reader of angles is right, case by case.
use Rattle.std.specs.Prelude.{◌≡◌, ℕ, ◌<◌, ◌≤◌, Bool, ℤ, List, Result, Ok, Err}
use Rattle.angle_fixed.specs.declared.fault.AngleFault.{AngleFault}
use Rattle.angle_fixed.specs.declared.fault.AngleFault.TheVariants.{Spelling, Range, Decimals}
use Rattle.angle_fixed.specs.Angles.{Parts, IsSpelled, IsSpelledSigned, time_units, arc_units, quarter, signed}

-- the parts are a time of the day: 00 00 00 to 23 59 59 and decimals
pub record IsOnClock (p : Parts) : Type 0 where
  pub hour : p.whole ≤ 23
  pub minute : p.minute ≤ 59
  pub second : p.second ≤ 59

-- the parts are an angle of at most 90 degrees
pub record IsWithinQuarter (p : Parts) : Type 0 where
  pub minute : p.minute ≤ 59
  pub second : p.second ≤ 59
  pub units : arc_units p ≤ quarter

-- A right ascension is what the text spells, where it has at most three decimals and is a time of the day: its units,
-- and how many decimals there are. Where no parts are spelled, the spelling is wrong; where there are more decimals,
-- they are too many; where it is no time of the day, it is out of range.
abbrev pub ReadsTime : List ℕ → Result (ℕ × ℕ) AngleFault → Type 0
ReadsTime text (Ok x) = (p : Parts) × IsSpelled p text × (p.count ≤ 3) × IsOnClock p × (x ≡ (time_units p, p.count))
ReadsTime text (Err Spelling) = (p : Parts) → IsSpelled p text → ⊥
ReadsTime text (Err Decimals) = (p : Parts) × IsSpelled p text × (3 < p.count)
ReadsTime text (Err Range) = (p : Parts) × IsSpelled p text × (p.count ≤ 3) × (IsOnClock p → ⊥)

-- A declination is what the text spells after its sign, where it has at most two decimals and is at most 90 degrees:
-- its units with the sign, how many decimals there are, and whether the sign is a minus. The faults are as above.
abbrev pub ReadsArc : List ℕ → Result (ℤ × ℕ × Bool) AngleFault → Type 0
ReadsArc text (Ok x) = (p : Bool × Parts) × IsSpelledSigned p text × (p.1.count ≤ 2) × IsWithinQuarter p.1
    × (x ≡ (signed p.0 (arc_units p.1), p.1.count, p.0))
ReadsArc text (Err Spelling) = (p : Bool × Parts) → IsSpelledSigned p text → ⊥
ReadsArc text (Err Decimals) = (p : Bool × Parts) × IsSpelledSigned p text × (2 < p.1.count)
ReadsArc text (Err Range) = (p : Bool × Parts) × IsSpelledSigned p text × (p.1.count ≤ 2) × (IsWithinQuarter p.1 → ⊥)

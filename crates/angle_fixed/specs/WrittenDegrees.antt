-- What the code keeps of degrees with decimals: it works out the value of at most twelve decimals.
use Rattle.std.specs.Prelude.{◌^◌, ◌<◌, ◌≤◌, Option, Some, None, Result, Err}
use Rattle.ascii_text.specs.declared.numbers.DecimalNumber.{DecimalNumber}
use Rattle.ascii_text.specs.DecimalNumbers.{NumberParts}
use Rattle.angle_fixed.specs.declared.fault.AngleFault.{AngleFault}
use Rattle.angle_fixed.specs.declared.fault.AngleFault.TheVariants.{Spelling, Decimals}

-- up to three digits stand before the point, and up to twelve decimals after it
pub record IsBoundedDegrees (d : DecimalNumber) : Type 0 where
  pub digits : d.digits ≤ 3
  pub whole : d.whole < 10 ^ d.digits
  pub few : d.decimals.count ≤ 12
  pub value : d.decimals.value < 10 ^ d.decimals.count

-- the answer to what was found
abbrev pub found_answer : {V : Type 0} → (NumberParts → Result V AngleFault) → Option (Option NumberParts)
    → Result V AngleFault
found_answer judge None = Err Spelling
found_answer judge (Some None) = Err Decimals
found_answer judge (Some (Some p)) = judge p

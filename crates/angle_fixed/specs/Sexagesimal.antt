-- What the code keeps of a sexagesimal text, as parts.
use Rattle.std.specs.Prelude.{◌^◌, ◌<◌}
use Rattle.angle_fixed.specs.declared.reading.Sexagesimal.{Sexagesimal}
use Rattle.angle_fixed.specs.Angles.{Parts}

abbrev pub parts : Sexagesimal → Parts
parts s = record {
  whole = s.whole;
  minute = s.minute;
  second = s.second;
  count = s.decimals.count;
  value = s.decimals.value;
}

-- each part has two digits, and the decimals have as many as they say
pub record IsBounded (s : Sexagesimal) : Type 0 where
  pub whole : s.whole < 100
  pub minute : s.minute < 100
  pub second : s.second < 100
  pub value : s.decimals.value < 10 ^ s.decimals.count

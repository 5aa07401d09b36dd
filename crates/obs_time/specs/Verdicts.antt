-- What is to be said of the numbers that a text shows, in plain facts.
use Rattle.std.specs.Prelude.{Result, Ok, Err}
use Rattle.obs_time.specs.declared.fault.TimeFault.{TimeFault}
use Rattle.obs_time.specs.declared.fault.TimeFault.TheVariants.{Spelling, NoSuchDate, Range, Decimals}

-- the right value, or the first that is wrong: too many decimals, then a number out of range, then a date that the
-- calendar has not
abbrev pub IsVerdict : {V : Type 0} → Type 0 → Type 0 → Type 0 → (V → Type 0) → Result V TimeFault → Type 0
IsVerdict few range exists IsRight (Ok value) = few × range × exists × IsRight value
IsVerdict few range exists IsRight (Err Decimals) = ¬ few
IsVerdict few range exists IsRight (Err Range) = few × ¬ range
IsVerdict few range exists IsRight (Err NoSuchDate) = few × range × ¬ exists
IsVerdict few range exists IsRight (Err Spelling) = ⊥

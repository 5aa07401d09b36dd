-- Readings of a clock.
use Rattle.std.proofs.Common.{[], refl, sym, ap, add-zero}
use Rattle.act_model.specs.Clocks.{ClockState, Gives}

-- no reading was taken
pub gives_none : (clock : ClockState) → Gives clock clock []
gives_none clock = record { known = tt; later = λ k. ap clock.to_come (sym (add-zero k)); last = refl }

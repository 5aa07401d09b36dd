use Rattle.std.proofs.Common.{◌≡◌, ℕ, ◌<◌, false, eqb, get_or}
use Rattle.ades_psv.proofs.cells.bar_behind.Given as goal

abbrev pub invariant-bytes : goal.invariant-bytes
invariant-bytes l = (k : ℕ) → k < l.place → eqb (get_or l.text k 0) 124 ≡ false

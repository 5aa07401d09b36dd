use Rattle.std.proofs.Common.{◌≡◌, ◌+◌, ◌≤◌, List, ◌++◌, length, drop}
use Rattle.act_model.specs.declared.taken.Taken.{Taken}
use Rattle.act_model.specs.Taken.{taken_with, taken_lines}
use Rattle.desk_core.specs.Office.{AreTracked}
use Rattle.desk_core.proofs.taking.taken_lines.Given as goal

-- the lines so far and what becomes of those that are left are all; whatever is tracked after these is tracked with
-- them
abbrev pub invariant-loop-place : goal.invariant-loop-place
invariant-loop-place g l =
    let office = g.V.Known.office l.known in
    record {
      placed : length l.list ≡ l.place;
      taken : taken_with l.fn.lines l.list ++ taken_lines office l.tracks l.now (drop l.place l.fn.lines) (drop l.place l.rulings) ≡ taken_lines office l.tracks l.tracks l.fn.lines l.rulings;
      tracked : (rest : List Taken) → AreTracked l.now rest → AreTracked l.tracks (taken_with l.fn.lines l.list ++ rest);
      more : l.now ≤ l.tracks + l.place;
    }

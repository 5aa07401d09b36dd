use Rattle.std.proofs.Common.{◌≡◌, ◌+◌, ◌≤◌, length}
use Rattle.std.specs.List.{position_from}
use Rattle.ades_psv.specs.Cells.{is_word, cells}
use Rattle.ades_psv.proofs.cells.place_of.Given as goal

abbrev pub invariant-cells : goal.invariant-cells
invariant-cells l = record { room : l.place + length l.rest ≤ length l.line; found : position_from (is_word l.text) l.place (cells l.rest) ≡ position_from (is_word l.text) 0 (cells l.line) }

abbrev pub decreases-cells : goal.decreases-cells
decreases-cells l = length l.rest

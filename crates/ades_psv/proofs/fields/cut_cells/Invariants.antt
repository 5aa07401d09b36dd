use Rattle.std.proofs.Common.{◌≡◌, ℕ, ◌<◌, ◌≤◌, List, [], drop, length, get_or, Bor}
use Rattle.ades_psv.specs.Cells.{cells}
use Rattle.ades_psv.proofs.fields.cut_cells.Given as goal

abbrev pub invariant-cells : goal.invariant-cells
invariant-cells l = record {
  same : l.cut.line ≡ l.initial.cut.line;
  rest : drop l.place (cells l.initial.cut.line.now) ≡ cells l.rest;
  within : length l.rest ≤ length l.initial.cut.line.now;
  kept : length l.cut.first ≡ 16;
  first : (k : ℕ) (d : Bor (List ℕ)) → k < l.place → (get_or l.cut.first k d).now ≡ get_or (cells l.initial.cut.line.now) k [];
  clear : (k : ℕ) (d : Bor (List ℕ)) → k < 16 → l.place ≤ k → (get_or l.cut.first k d).now ≡ [];
}

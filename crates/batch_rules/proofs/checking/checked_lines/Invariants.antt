use Rattle.std.proofs.Common.{◌≡◌, [], ◌++◌, map, drop}
use Rattle.std.specs.Prelude.{reverse}
use Rattle.act_model.specs.BatchRules.{checked_lines, passed_in}
use Rattle.batch_rules.specs.Earlier.{line_of}
use Rattle.batch_rules.proofs.checking.checked_lines.Given as goal

-- the lines that were checked, before those that are left, are all; the rows are those of the tables; and the earlier
-- ones are what the lines have
abbrev pub invariant-loop-place : goal.invariant-loop-place
invariant-loop-place g l =
    let office = g.V.Known.office l.known in record {
      lines : map line_of l.checked.items ++ checked_lines office l.tables l.moment l.earlier (drop l.place l.lines) ≡ checked_lines office l.tables l.moment [] l.lines;
      rows : l.rows ≡ l.tables;
      passed : reverse l.earlier ≡ passed_in (map line_of l.checked.items);
    }

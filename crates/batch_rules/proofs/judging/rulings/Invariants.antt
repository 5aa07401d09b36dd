use Rattle.std.proofs.Common.{◌≡◌, ◌++◌, [], map, take, drop}
use Rattle.act_model.specs.BatchRules.{passed_in}
use Rattle.batch_rules.specs.Earlier.{line_of}
use Rattle.batch_rules.specs.Points.{found_at, point_of}
use Rattle.batch_rules.specs.Numbers.{keys_after, ruling_by}
use Rattle.batch_rules.specs.Numbered.{IsNumbered}
use Rattle.batch_rules.proofs.judging.rulings.Given as goal

-- the groups of the lines so far are numbered, the points that are left are those of the lines that are left, and the
-- rulings so far and those on what is left are all, by all keys
abbrev pub invariant-loop-line : goal.invariant-loop-line
invariant-loop-line l =
    let found = found_at l.groups in
    let all = keys_after found [] (map line_of l.checked) in
    let left = map line_of (drop l.line-index l.checked) in record {
      numbered : IsNumbered l.groups.keys (keys_after found [] (map line_of (take l.line-index l.checked))) l.numbering;
      points : drop l.next l.groups.points ≡ map (point_of l.groups.keys) (passed_in left);
      list : l.list ++ map (ruling_by found all) left ≡ map (ruling_by found all) (map line_of l.checked);
    }

use Rattle.std.proofs.Common.{◌≡◌, ◌++◌, drop, flat_map}
use Rattle.act_model.specs.QueryTexts.{name_line}
use Rattle.catalogue_export.proofs.object.push_name_lines.Given as goal

-- the lines so far and those of what is left are those of all
abbrev pub invariant-loop-d : goal.invariant-loop-d
invariant-loop-d l = l.out ++ flat_map name_line (drop l.d-index l.members) ≡ l.fn.out ++ flat_map name_line l.members

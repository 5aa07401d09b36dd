use Rattle.std.proofs.Common.{◌-◌, ◌*◌}
use Rattle.serve_command.proofs.accepting.+attend_links+fn-attend_links-join+arg2.Given as goal

-- twice the links that may still come; between two calls stands one of the closure
abbrev pub decreases-attend_links : goal.decreases-attend_links
decreases-attend_links g l = l.left * 2

abbrev pub decreases-join+arg2 : goal.decreases-join+arg2
decreases-join+arg2 g l = l.left * 2 - 1

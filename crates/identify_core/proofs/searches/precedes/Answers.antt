use Rattle.std.proofs.Common.{ap, ◌∙◌}
use Rattle.std.specs.Ordering.{is_lt}
use Rattle.identify_core.proofs.OrderLemmas.{designation_order}
use Rattle.identify_core.proofs.searches.precedes.Goals as goal

pub returns : goal.returns
returns c = c.is_lt.ensures ∙ ap is_lt (c.cmp.ensures ∙ designation_order c.args.one c.args.other)

use Rattle.std.proofs.Common.{ap, ◌∙◌}
use Rattle.std.specs.Ordering.{is_lt}
use Rattle.identify_core.proofs.OrderLemmas.{link_order}
use Rattle.identify_core.proofs.searches.is_before.Goals as goal

pub returns : goal.returns
returns c = c.is_lt.ensures ∙ ap is_lt (c.cmp.ensures ∙ link_order c.args.one c.args.other)

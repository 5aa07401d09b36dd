use Rattle.std.proofs.Common.{rules}
use Rattle.std.proofs.lemmas.List.Sorted.{IsPartitionPoint-from_clause}
use Rattle.identify_core.specs.Keeping.{is_below}
use Rattle.identify_core.proofs.LinkLemmas.{linked}
use Rattle.identify_core.proofs.PlaceLemmas.{prefix_from, parted_below}
use Rattle.identify_core.proofs.searches.count_before.Goals as goal

pub returns-clause-count : goal.returns-clause-count
returns-clause-count c =
    let point = IsPartitionPoint-from_clause (is_below c.args.p) _ _ c.partition_point.ensures.partitioned (parted_below c.args.p c.args.links.now c.requires) (λ a r q k. search rules) in
    prefix_from (is_below c.args.p) c.args.links.now c.partition_point.result (linked c.args.p c.args.p) c.partition_point.ensures.bound point

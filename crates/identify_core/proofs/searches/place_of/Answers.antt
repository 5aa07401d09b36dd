use Rattle.std.proofs.Common.{rules}
use Rattle.std.specs.Ordering.{is_lt}
use Rattle.std.proofs.lemmas.List.Sorted.{IsPartitionPoint-from_clause}
use Rattle.identify_core.specs.declared.link.Link.{Link}
use Rattle.identify_core.specs.Keeping.{link_cmp}
use Rattle.identify_core.proofs.PlaceLemmas.{prefix_from, parted_at}
use Rattle.identify_core.proofs.searches.place_of.Goals as goal

pub returns-clause-count : goal.returns-clause-count
returns-clause-count c =
    let point = IsPartitionPoint-from_clause (λ (x : Link). is_lt (link_cmp x c.args.link)) _ _ c.partition_point.ensures.partitioned (parted_at c.args.link c.args.links.now c.requires) (λ a r q k. search rules) in
    prefix_from (λ (x : Link). is_lt (link_cmp x c.args.link)) c.args.links.now c.partition_point.result c.args.link c.partition_point.ensures.bound point

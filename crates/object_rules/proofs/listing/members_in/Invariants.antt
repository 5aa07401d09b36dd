use Rattle.std.proofs.Common.{◌≡◌, map, take}
use Rattle.object_rules.proofs.listing.members_in.Given as goal

abbrev pub invariant-loop-link : goal.invariant-loop-link
invariant-loop-link l = l.names ≡ map (λ link. link.member) (take l.link-index l.links)

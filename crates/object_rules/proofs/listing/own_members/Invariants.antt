use Rattle.std.proofs.Common.{◌≡◌, ◌++◌, drop}
use Rattle.identify_core.specs.Principals.{own_members}
use Rattle.object_rules.proofs.listing.own_members.Given as goal

-- those that were found, and those among the links that are left, are all
abbrev pub invariant-loop-link : goal.invariant-loop-link
invariant-loop-link l = l.names ++ own_members (drop l.link-index l.links) ≡ own_members l.links

use Rattle.std.proofs.Common.{◌≡◌, flat_map, map, drop}
use Rattle.object_rules.specs.Numbering.{is_any_live}
use Rattle.object_rules.specs.Timing.{numbers_at}
use Rattle.object_rules.proofs.observed.is_member_live.Given as goal

-- no observation of the members so far is live
abbrev pub invariant-loop-link : goal.invariant-loop-link
invariant-loop-link l =
    is_any_live l.file.observations (flat_map (numbers_at l.file.observations l.file.tracklets) (map (λ link. link.member) (drop l.link-index l.links)))
    ≡ is_any_live l.file.observations (flat_map (numbers_at l.file.observations l.file.tracklets) (map (λ link. link.member) l.links))

use Rattle.std.proofs.Common.{◌≡◌, List, Some, ap, sym, subst, ◌∙◌}
use Rattle.identify_core.specs.declared.link.Link.{Link}
use Rattle.identify_core.specs.Principals.{principal_of}
use Rattle.identify_core.specs.Keeping.{EachOnce}
use Rattle.identify_core.proofs.ChangeLemmas.{still_gives}
use Rattle.identify_core.proofs.changes.give_all.Goals as goal

pub first_of-requires-clause-once : goal.first_of-requires-clause-once
first_of-requires-clause-once c = subst EachOnce (sym c.as_slice.ensures.value) c.members.invariant.kept.once

pub members-preserved : goal.members-preserved
members-preserved c =
    let now = c.members.links.items in
    let member = c.in-Some.link.member in
    let mine : principal_of now member ≡ Some c.args.s =
    ap (λ (ls : List Link). principal_of ls member) (sym c.as_slice.ensures.value) ∙ c.in-Some.ensures.there ∙ ap Some c.in-Some.ensures.principal in
    record {
      kept = c.give.ensures.kept;
      still = still_gives c.args.p c.args.s member c.args.links.now.items now c.give.new.links.items c.members.invariant.still mine c.give.ensures.principals;
      length = c.give.ensures.length ∙ c.members.invariant.length;
      capacity = c.give.ensures.capacity ∙ c.members.invariant.capacity;
      room = c.give.ensures.room ∙ c.members.invariant.room;
    }

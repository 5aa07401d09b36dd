use Rattle.std.proofs.Common.{sym, ◌∙◌}
use Rattle.batch_rules.specs.KeyTests.{same_key}
use Rattle.batch_rules.proofs.Any.{none_placed}
use Rattle.batch_rules.proofs.key_places.GroupKeys.placed.Goals as goal

pub returns-in_ok-place-in-None-clause-place : goal.returns-in_ok-place-in-None-clause-place
returns-in_ok-place-in-None-clause-place c =
    c.in_ok-place-in-None.ensures.place ∙ sym (none_placed (same_key c.args.key) c.args.self.now c.in-None.ensures.none)

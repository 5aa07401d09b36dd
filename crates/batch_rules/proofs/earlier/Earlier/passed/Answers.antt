use Rattle.std.proofs.Common.{ap, sym, ◌∙◌}
use Rattle.std.specs.Prelude.{reverse}
use Rattle.std.proofs.lemmas.List.{reverse-reverse}
use Rattle.batch_rules.specs.Earlier.{pointed_sightings}
use Rattle.batch_rules.proofs.earlier.Earlier.passed.Goals as goal

pub returns : goal.returns
returns c = sym (reverse-reverse (pointed_sightings c.self.inside.passed.items)) ∙ ap reverse c.self.view_is

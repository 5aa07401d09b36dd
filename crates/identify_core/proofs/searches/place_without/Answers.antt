use Rattle.std.proofs.Common.{arith}
use Rattle.std.proofs.lemmas.Bool.Decides.{nat_tests}
use Rattle.identify_core.proofs.PlaceLemmas.{place_removed}
use Rattle.identify_core.proofs.searches.place_without.Goals as goal

pub returns-then-from-place-clause-count : goal.returns-then-from-place-clause-count
returns-then-from-place-clause-count c =
    let at = place_removed c.args.link c.args.links.now c.args.from c.requires.sorted c.requires.from in
    grind (arith, nat_tests, at, c.place_of-place.ensures.count, c.if-from-place.true)

pub returns-else-from-place-clause-count : goal.returns-else-from-place-clause-count
returns-else-from-place-clause-count c =
    let at = place_removed c.args.link c.args.links.now c.args.from c.requires.sorted c.requires.from in
    grind (arith, nat_tests, at, c.place_of-place.ensures.count, c.if-from-place.false)

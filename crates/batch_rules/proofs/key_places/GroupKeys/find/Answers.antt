use Rattle.std.proofs.Common.{◌≡◌, ◌<◌, true, rules, ℕ, List, length, get_or, ap, sym, subst, ◌∙◌, arith}
use Rattle.std.specs.List.{list_any}
use Rattle.std.proofs.lemmas.List.{length-map}
use Rattle.batch_rules.specs.KeyTests.{same_key}
use Rattle.batch_rules.specs.Marks.{key_mark}
use Rattle.batch_rules.specs.Numbers.{StandsIn}
use Rattle.batch_rules.proofs.Standing.{stands_at, none_marked}
use Rattle.batch_rules.proofs.key_places.GroupKeys.find.Goals as goal

pub returns-in-Some-clause-there : goal.returns-in-Some-clause-there
returns-in-Some-clause-there c =
    let key = c.args.key.now in
    let place = c.in-Some.place in
    let keys = c.self.inside.keys.items in
    let many : length c.self.inside.index.marks ≡ length keys = ap (λ (ms : List ℕ). length ms) c.self.invariant.0 ∙ length-map keys key_mark in
    let within : place < length keys = subst (λ (n : ℕ). place < n) many c.in-Some.ensures.within in
    let same : same_key (get_or keys place key) key ≡ true = search rules in
    subst (StandsIn key place) c.self.view_is (stands_at keys place key c.self.invariant.1 within same)

pub returns-in-None-clause-none : goal.returns-in-None-clause-none
returns-in-None-clause-none c =
    let key = c.args.key.now in
    let keys = c.self.inside.keys.items in
    let many : length c.self.inside.index.marks ≡ length keys = ap (λ (ms : List ℕ). length ms) c.self.invariant.0 ∙ length-map keys key_mark in
    ap (list_any (same_key key)) (sym c.self.view_is)
    ∙ none_marked keys key c.self.inside.index.marks c.self.invariant.0 (λ place within marked d.
    let fails = c.in-None.ensures.none place (omega (arith, within, many)) (marked ∙ sym c.requires) in
    search rules)

use Rattle.std.proofs.Common.{◌≡◌, ◌<◌, true, List, length, get_or, ap, sym, subst, ◌∙◌, arith}
use Rattle.batch_rules.specs.declared.keys.GroupKey.{GroupKey}
use Rattle.batch_rules.specs.KeyTests.{same_key}
use Rattle.batch_rules.specs.Numbers.{StandsIn}
use Rattle.batch_rules.proofs.Standing.{stands_at}
use Rattle.batch_rules.proofs.key_places.GroupKeys.is_at.Goals as goal

pub returns-then-place-len : goal.returns-then-place-len
returns-then-place-len c is =
    let key = c.args.key.now in
    let place = c.args.place in
    let keys = c.self.inside.keys.items in
    let within : place < length keys = omega (arith, c.if-place-len.true, c.len.ensures) in
    let same : same_key (get_or keys place key) key ≡ true =
    sym (c.is_same.ensures key ∙ ap (λ (ks : List GroupKey). same_key (get_or ks place key) key) c.as_slice.ensures.value) ∙ is in
    subst (StandsIn key place) c.self.view_is (stands_at keys place key c.self.invariant.1 within same)

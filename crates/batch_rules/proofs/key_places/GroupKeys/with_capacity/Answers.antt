use Rattle.std.proofs.Common.{◌≡◌, List, [], length, map, ap, sym, subst, ◌∙◌, arith}
use Rattle.std.specs.List.{IsDistinct}
use Rattle.batch_rules.specs.declared.keys.GroupKey.{GroupKey}
use Rattle.batch_rules.specs.KeyTests.{same_key}
use Rattle.batch_rules.specs.Marks.{key_mark}
use Rattle.batch_rules.proofs.key_places.GroupKeys.with_capacity.Goals as goal

pub invariant_of-result : goal.invariant_of-result
unfolding IsDistinct
invariant_of-result c =
    let none : c.in_ok-with_capacity.field-0.items ≡ [] = c.in_ok-with_capacity.ensures.items in (
      c.reserve.ensures.marks ∙ c.in_ok-index.ensures ∙ ap (map key_mark) (sym none),
      subst (IsDistinct same_key) (sym none) tt,
      omega (arith, ap (λ (ks : List GroupKey). length ks) none),
    )

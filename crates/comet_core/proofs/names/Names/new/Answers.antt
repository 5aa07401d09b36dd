use Rattle.std.proofs.Common.{◌≡◌, [], map, ap, sym, subst, ◌∙◌}
use Rattle.comet_core.specs.Names.{AreOnce, name_mark}
use Rattle.comet_core.proofs.names.Names.new.Goals as goal

pub invariant_of-result : goal.invariant_of-result
invariant_of-result c =
    let none : c.new.result.items ≡ [] = c.new.ensures.items in (
      c.in_ok-new.ensures ∙ ap (map name_mark) (sym none),
      subst AreOnce (sym none) tt,
    )

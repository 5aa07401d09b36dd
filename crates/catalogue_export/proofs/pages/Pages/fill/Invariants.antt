use Rattle.std.proofs.Common.{◌≡◌}
use Rattle.act_model.specs.Deeds.{deeds}
use Rattle.catalogue_export.specs.PageTexts.{to_come}
use Rattle.catalogue_export.specs.Walks.{steps_left}
use Rattle.catalogue_export.proofs.pages.Pages.fill.Given as goal

-- what is to come stays
abbrev pub invariant-making : goal.invariant-making
invariant-making g l =
    let history = g.V.Shelf.history l.shelf in
    (l.self.used ≡ 0) × (to_come history l.self ≡ to_come history l.fn.self)

abbrev pub decreases-making : goal.decreases-making
decreases-making g l = steps_left (deeds (g.V.Shelf.history l.shelf)) l.self.walk

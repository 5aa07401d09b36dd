use Rattle.std.proofs.Common.{◌≡◌, ◌++◌, length}
use Rattle.catalogue_export.specs.PageTexts.{to_come}
use Rattle.catalogue_export.proofs.exporting.push_pages.Given as goal

-- the text so far, and what is to come, are the whole
abbrev pub invariant-pages : goal.invariant-pages
invariant-pages g l =
    let history = g.V.Shelf.history l.shelf in
    l.text ++ to_come history l.pages ≡ l.fn.text ++ to_come history l.fn.pages

abbrev pub decreases-pages : goal.decreases-pages
decreases-pages g l = length (to_come (g.V.Shelf.history l.shelf) l.pages)

use Rattle.std.proofs.Common.{◌≡◌, length}
use Rattle.catalogue_export.proofs.PageLemmas.{Sends}
use Rattle.catalogue_export.specs.PageTexts.{to_come}
use Rattle.catalogue_export.proofs.exporting.write_pages.Given as goal

-- the sink took the pages so far, and never failed
abbrev pub invariant-pages : goal.invariant-pages
invariant-pages g l =
    let history = g.V.Shelf.history l.shelf in
    Sends (g.K.Sink.taken l.fn.sink) (g.K.Sink.taken l.sink) (to_come history l.fn.pages) (to_come history l.pages) l.written
    × (g.K.Sink.faults l.sink ≡ g.K.Sink.faults l.fn.sink)
    × (g.K.Sink.is_open l.sink ≡ g.K.Sink.is_open l.fn.sink)

abbrev pub decreases-pages : goal.decreases-pages
decreases-pages g l = length (to_come (g.V.Shelf.history l.shelf) l.pages)

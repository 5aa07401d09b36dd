use Rattle.std.proofs.Common.{sym, subst}
use Rattle.col80_format.specs.LineText.{AreLetters}
use Rattle.act_model.specs.Deeds.{deeds}
use Rattle.act_model.specs.Holdings.{holdings}
use Rattle.act_model.specs.OfficeTables.{tables_of}
use Rattle.catalogue_export.proofs.LetterLemmas.{filed_at, letters_printed}
use Rattle.catalogue_export.proofs.lines.line_behind.Goals as goal

pub write_line-line-requires-clause-shape : goal.write_line-line-requires-clause-shape
write_line-line-requires-clause-shape g c =
    (filed_at (holdings (deeds (g.V.Shelf.history c.args.shelf.now))).observations (c.observations_are_filed.ensures (g.V.Shelf.history c.args.shelf.now)) c.args.k c.in-Some.s.now c.in-Some.ensures).sighting.shape

pub write_line-line-requires-clause-magnitude : goal.write_line-line-requires-clause-magnitude
write_line-line-requires-clause-magnitude g c =
    (filed_at (holdings (deeds (g.V.Shelf.history c.args.shelf.now))).observations (c.observations_are_filed.ensures (g.V.Shelf.history c.args.shelf.now)) c.args.k c.in-Some.s.now c.in-Some.ensures).sighting.magnitude

pub write_line-line-requires-clause-decimals : goal.write_line-line-requires-clause-decimals
write_line-line-requires-clause-decimals g c =
    (filed_at (holdings (deeds (g.V.Shelf.history c.args.shelf.now))).observations (c.observations_are_filed.ensures (g.V.Shelf.history c.args.shelf.now)) c.args.k c.in-Some.s.now c.in-Some.ensures).sighting.decimals

pub write_line-line-requires-clause-station : goal.write_line-line-requires-clause-station
write_line-line-requires-clause-station g c =
    (filed_at (holdings (deeds (g.V.Shelf.history c.args.shelf.now))).observations (c.observations_are_filed.ensures (g.V.Shelf.history c.args.shelf.now)) c.args.k c.in-Some.s.now c.in-Some.ensures).station

pub write_line-line-requires-clause-letters : goal.write_line-line-requires-clause-letters
write_line-line-requires-clause-letters g c =
    let history = g.V.Shelf.history c.args.shelf.now in
    let rows = (tables_of (deeds history)).codes in
    subst AreLetters (sym c.letters_for.ensures)
    (letters_printed rows (c.letters_are_printed.ensures history) c.in-Some.s.now
    (filed_at (holdings (deeds history)).observations (c.observations_are_filed.ensures history) c.args.k c.in-Some.s.now c.in-Some.ensures))

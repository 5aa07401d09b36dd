use Rattle.std.proofs.Common.{refl, sym}
use Rattle.act_model.specs.Deeds.{deeds}
use Rattle.catalogue_export.proofs.WalkSteps.{tracked}
use Rattle.catalogue_export.specs.Pieces.{track_line_of}
use Rattle.catalogue_export.proofs.walk.Walk.in_track.Goals as goal

pub returns-in_ok-push_made-in-Some-clause-ok : goal.returns-in_ok-push_made-in-Some-clause-ok
returns-in_ok-push_made-in-Some-clause-ok g c =
    let history = g.V.Shelf.history c.args.shelf.now in
    let text = track_line_of (deeds history) c.args.t c.in-Some.k.now in
    tracked history c.args.self.now c.args.out.now c.args.t c.args.at c.in-Some.k.now text c.push_made.new.out c.requires (sym c.in-Some.ensures.value) refl
    (c.in_ok-push_made-in-Some.ensures.ok text c.track_line.ensures)

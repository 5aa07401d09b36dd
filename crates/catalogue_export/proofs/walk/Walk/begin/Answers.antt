use Rattle.catalogue_export.proofs.WalkSteps.{begun}
use Rattle.catalogue_export.specs.Pieces.{Front, piece_text}
use Rattle.catalogue_export.proofs.walk.Walk.begin.Goals as goal

pub returns-clause-ok : goal.returns-clause-ok
returns-clause-ok g c =
    let history = g.V.Shelf.history c.args.shelf.now in
    begun history c.args.self.now c.args.out.now c.in_ok-principals.principals c.push_made.new.out c.requires c.in_ok-principals.ensures
    (c.in_ok-push_made.ensures.ok (piece_text history Front) c.front.ensures)

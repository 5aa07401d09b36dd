use Rattle.act_model.specs.Catalogue.{object_head}
use Rattle.act_model.specs.Deeds.{deeds}
use Rattle.catalogue_export.proofs.WalkSteps.{entered_object}
use Rattle.catalogue_export.proofs.walk.Walk.enter_object.Goals as goal

pub returns-clause-ok : goal.returns-clause-ok
returns-clause-ok g c =
    let history = g.V.Shelf.history c.args.shelf.now in
    entered_object history c.args.self.now c.args.out.now c.requires.0 c.args.p c.args.next c.in_ok-names.names c.in_ok-observations.observations c.push_made.new.out c.requires.1 c.requires.2 c.in_ok-names.ensures
    c.in_ok-observations.ensures (c.in_ok-push_made.ensures.ok (object_head (deeds history) c.args.p) c.object_head.ensures)

use Rattle.std.proofs.Common.{refl, sym}
use Rattle.act_model.specs.Catalogue.{object_line}
use Rattle.act_model.specs.Deeds.{deeds}
use Rattle.catalogue_export.proofs.WalkSteps.{observed}
use Rattle.catalogue_export.proofs.walk.Walk.at_observation.Goals as goal

pub returns-in_ok-push_made-in-Some-clause-ok : goal.returns-in_ok-push_made-in-Some-clause-ok
returns-in_ok-push_made-in-Some-clause-ok g c =
    let history = g.V.Shelf.history c.args.shelf.now in
    let text = object_line (deeds history) c.args.p c.in-Some.k.now in
    observed history c.args.self.now c.args.out.now c.args.p c.args.next c.args.at c.in-Some.k.now text c.push_made.new.out c.requires (sym c.in-Some.ensures.value) refl
    (c.in_ok-push_made-in-Some.ensures.ok text c.object_line.ensures)

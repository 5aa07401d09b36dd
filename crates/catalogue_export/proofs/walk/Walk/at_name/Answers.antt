use Rattle.std.proofs.Common.{refl, sym}
use Rattle.catalogue_export.proofs.WalkSteps.{named}
use Rattle.catalogue_export.specs.Pieces.{name_text}
use Rattle.catalogue_export.proofs.walk.Walk.at_name.Goals as goal

pub returns-in_ok-push_made-in-Some-clause-ok : goal.returns-in_ok-push_made-in-Some-clause-ok
returns-in_ok-push_made-in-Some-clause-ok g c =
    let text = name_text c.args.p c.in-Some.d.now in
    named (g.V.Shelf.history c.args.shelf.now) c.args.self.now c.args.out.now c.args.p c.args.next c.args.at c.in-Some.d.now text c.push_made.new.out c.requires (sym c.in-Some.ensures.value) refl
    (c.in_ok-push_made-in-Some.ensures.ok text c.name_text.ensures)

use Rattle.std.proofs.Common.{◌∙◌, sym, Some, None}
use Rattle.std.proofs.lemmas.List.{append-nil}
use Rattle.act_model.specs.Deeds.{deeds}
use Rattle.mirror_store.specs.Mirrored.{sight_of}
use Rattle.mirror_store.proofs.SightLemmas.{rows_more}
use Rattle.mirror_store.proofs.sights.sight_rows.Goals as goal
use Rattle.mirror_store.proofs.sights.sight_rows.Goals.{in-Some+in_ok-push, in_default}

pub loop-before-preserved : goal.loop-before-preserved
loop-before-preserved g c =
    let more = rows_more (sight_of (deeds (g.V.Shelf.history c.args.shelf.now))) c.loop-before.before in
    elim c.match-sight_of.branch [
      | in-Some+in_ok-push w ↦ more (Some w.in-Some.row) c.loop-before.rows c.match-sight_of.rows w.in-Some.ensures c.loop-before.invariant (w.rows-is ∙ w.in_ok-push.ensures.ok)
      | in_default w ↦ more None c.loop-before.rows c.match-sight_of.rows w.in_default.ensures c.loop-before.invariant (w.rows-is ∙ sym (append-nil c.loop-before.rows))
    ]

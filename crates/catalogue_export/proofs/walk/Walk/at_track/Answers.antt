use Rattle.std.proofs.Common.{◌≤◌, length, arith}
use Rattle.act_model.specs.Deeds.{deeds}
use Rattle.act_model.specs.Holdings.{holdings}
use Rattle.catalogue_export.proofs.WalkSteps.{ended}
use Rattle.catalogue_export.proofs.walk.Walk.at_track.Goals as goal

pub returns-clause-ok : goal.returns-clause-ok
returns-clause-ok g c =
    let history = g.V.Shelf.history c.args.shelf.now in
    let all : length (holdings (deeds history)).tracklets ≤ c.args.after = omega (arith, c.tracks.ensures) in
    ended history c.args.self.now c.args.out.now c.args.after c.extend_from_slice.new.self c.requires all c.in_ok-extend_from_slice.ensures.ok

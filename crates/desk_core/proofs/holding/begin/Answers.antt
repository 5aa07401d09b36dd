use Rattle.std.proofs.Common.{◌≤◌, length, arith}
use Rattle.desk_core.proofs.Numbered.{there}
use Rattle.desk_core.proofs.holding.begin.Goals as goal

pub returns-else-track-tracks-clause-there : goal.returns-else-track-tracks-clause-there
returns-else-track-tracks-clause-there c =
    let within : c.args.placed.now.track ≤ length c.args.file.now.tracklets = let track = c.track.ensures in let tracks = c.tracks.ensures in let test = c.if-track-tracks.false in omega arith in
    there c.args.file.now.tracklets c.args.placed.now.track c.requires.tracked.0 within

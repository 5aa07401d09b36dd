use Rattle.std.proofs.Common.{rules, ℕ, Option, sym, subst}
use Rattle.std.specs.Prelude.{IfSome}
use Rattle.tracklet_file.specs.Tracklets.{IsTracklet}
use Rattle.tracklet_file.specs.Contents.{Contents, AreInTracklets}
use Rattle.tracklet_file.proofs.CountLemmas.{track_there}
use Rattle.tracklet_file.proofs.file.TrackletFile.track_of.Goals as goal

pub returns-clause-track : goal.returns-clause-track
returns-clause-track c = search rules

pub returns-clause-there : goal.returns-clause-there
returns-clause-there c =
    subst (λ (o : Option ℕ). IfSome o (IsTracklet c.args.self.now.tracklets)) (sym (returns-clause-track c))
    (track_there c.args.self.now.tracklets c.args.self.now.observations c.args.k (subst (λ (v : Contents). AreInTracklets v.tracklets v.observations) c.self.view_is c.self.invariant.kept.counted.in_tracklets))

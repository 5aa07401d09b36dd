use Rattle.std.proofs.Common.{◌+◌, Bool, cond, ap, ◌∙◌, arith}
use Rattle.std.specs.Prelude.{reverse}
use Rattle.std.proofs.lemmas.List.{length-reverse}
use Rattle.tracklet_file.specs.Contents.{Contents}
use Rattle.tracklet_file.proofs.NumberingLemmas.{reverse_push}
use Rattle.tracklet_file.proofs.CountLemmas.{none_told}
use Rattle.tracklet_file.proofs.KeepingLemmas.{kept_tracklet}
use Rattle.tracklet_file.proofs.HomeLemmas.{homed_more}
use Rattle.tracklet_file.proofs.file.TrackletFile.add_track.Goals as goal

pub invariant_of-self : goal.invariant_of-self
invariant_of-self c =
    let tracklets_are = ap reverse c.push_reserved.ensures.items ∙ reverse_push c.self.inside.tracklets.items _ in
    record {
      indexed = c.self.invariant.indexed;
      kept = kept_tracklet _ _ _ c.self.invariant.kept _ _ _ tracklets_are c.push_reserved-2.ensures.items;
      homed = homed_more c.orders.ensures _ (reverse c.self.inside.tracklets.items) _ _ _ _ c.self.invariant.homed
          (omega (arith, length-reverse c.self.inside.tracklets.items)) tracklets_are c.enter.ensures.finds
          (c.with_one-self-inside.ensures ∙ ap (λ (b : Bool). c.self.inside.isolated_tracks + cond b 1 0) (none_told c.args.home c.is_none.result c.is_none.ensures))
          (omega (arith, ap (λ (v : Contents). v.tracklet_room) c.self.view_is, c.requires)) c.enter.ensures.room;
    }

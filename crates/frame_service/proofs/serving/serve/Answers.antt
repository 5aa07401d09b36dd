use Rattle.std.proofs.Common.{refl, ◌∙◌}
use Rattle.frame_service.proofs.Progress.{progress_start, progress_more, stops_so}
use Rattle.frame_service.proofs.serving.serve.Goals as goal

pub frames-init : goal.frames-init
frames-init g c = record {
  laws = record {
    frame_goes_on = c.goes_on.ensures.frames;
    stream_goes_on = c.goes_on.ensures.streams;
    stream_joins = c.session_behind.ensures.streams;
    nothing = c.no_frame_yet.ensures.nothing;
  };
  progress = progress_start _ _ g.A.Attendant.answers _ c.requires.unread;
  source_faultless = refl;
  sink_faultless = refl;
  source_stays = refl;
  sink_stays = refl;
}

pub frames-preserved : goal.frames-preserved
frames-preserved g c = record {
  laws = c.frames.invariant.laws;
  progress = rw c.saturating_add-offset.ensures (progress_more _ _ g.A.Attendant.answers _ c.frames.invariant.laws _ c.frames.offset c.frames.invariant.progress _ c.in-Ok.size c.in-Ok.ensures.step);
  source_faultless = c.in-Ok.ensures.source_faults ∙ c.frames.invariant.source_faultless;
  sink_faultless = c.in-Ok.ensures.sink_faults ∙ c.frames.invariant.sink_faultless;
  source_stays = c.in-Ok.ensures.source_stays ∙ c.frames.invariant.source_stays;
  sink_stays = c.in-Ok.ensures.sink_stays ∙ c.frames.invariant.sink_stays;
}

pub returns-in-Err-clause-stops : goal.returns-in-Err-clause-stops
returns-in-Err-clause-stops g c =
    stops_so _ _ g.A.Attendant.answers _ c.frames.invariant.laws _ c.frames.offset c.frames.invariant.progress _ c.in-Err.stop c.in-Err.ensures.step

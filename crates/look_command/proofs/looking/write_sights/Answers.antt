use Rattle.std.proofs.Common.{ℕ, List, ◌∙◌, refl, subst, arith}
use Rattle.std.proofs.lemmas.Result.{MatchResult-from_err}
use Rattle.std.specs.Io.KnownBytes.{Appends}
use Rattle.desk_io.specs.Outside.{AppendsPart}
use Rattle.look_command.specs.Looks.{sight_line}
use Rattle.look_command.proofs.LineLemmas.{sent_none, sent_more, sent_part, sent_all}
use Rattle.look_command.proofs.looking.write_sights.Goals as goal

pub rows-init : goal.rows-init
rows-init g c = record { written = sent_none sight_line (g.K.Sink.taken c.args.sink.now) c.args.rows.now; faultless = refl; stays = refl }

pub returns-in_err-write_all-clause-part : goal.returns-in_err-write_all-clause-part
returns-in_err-write_all-clause-part g c =
    MatchResult-from_err c.from_residual.result _ _ c.from_residual.ensures.0
    (λ _.
    sent_part sight_line (g.K.Sink.taken c.args.sink.now) c.args.rows.now (g.K.Sink.taken c.rows.sink) c.rows.row-index c.rows.invariant.written (g.K.Sink.taken c.write_all.new.sink) _ c.rows-test.true
    (subst (λ (text : List ℕ). AppendsPart (g.K.Sink.taken c.rows.sink) (g.K.Sink.taken c.write_all.new.sink) text) (c.as_slice.ensures.value ∙ c.sight_line.ensures) c.in_err-write_all.ensures.part))

pub rows-preserved : goal.rows-preserved
rows-preserved g c = record {
  written =
      sent_more sight_line (g.K.Sink.taken c.args.sink.now) c.args.rows.now (g.K.Sink.taken c.rows.sink) c.rows.row-index c.rows.invariant.written (g.K.Sink.taken c.write_all.new.sink) _ c.rows-test.true
      (subst (λ (text : List ℕ). Appends (g.K.Sink.taken c.rows.sink) (g.K.Sink.taken c.write_all.new.sink) text) (c.as_slice.ensures.value ∙ c.sight_line.ensures) c.in_ok-write_all.ensures.whole);
  faultless = c.in_ok-write_all.ensures.faultless ∙ c.rows.invariant.faultless;
  stays = c.write_all.ensures.stays ∙ c.rows.invariant.stays;
}

pub returns-clause-whole : goal.returns-clause-whole
returns-clause-whole g c =
    sent_all sight_line (g.K.Sink.taken c.args.sink.now) c.args.rows.now (g.K.Sink.taken c.rows.sink) c.rows.row-index c.rows.invariant.written (omega (arith, c.rows-test.false))

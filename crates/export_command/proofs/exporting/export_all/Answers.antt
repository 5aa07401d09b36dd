use Rattle.std.proofs.Common.{refl, sym, subst, ◌∙◌, inl, inr}
use Rattle.act_model.specs.Catalogue.{catalogue}
use Rattle.mpc_desk.specs.Pairs.{pair}
use Rattle.command_ends.specs.declared.status.Status.{Status}
use Rattle.command_ends.specs.Reading.{reader}
use Rattle.export_command.specs.Exports.{IsWritten}
use Rattle.export_command.proofs.exporting.export_all.Goals as goal

pub returns-in-Err-clause-ends : goal.returns-in-Err-clause-ends
returns-in-Err-clause-ends g c = inl (refl, c.in-Err.ensures.unopened)

pub returns-clause-ends : goal.returns-clause-ends
returns-clause-ends g c =
    let history = c.in-Ok.desk.chained.state.settled in
    inr (record {
      history = history;
      keeps = c.end_reading.ensures.keeps reader (pair c.args.disk c.args.second) c.in-Ok.ensures.opens;
      written = subst (λ (s : Status). IsWritten (g.K.Sink.taken c.args.sink.now) (g.K.Sink.taken c.write_out-status.new.sink) (catalogue history) s) (sym c.end_reading.ensures.status) c.write_out-status.ensures.written;
    })

pub returns-clause-sound : goal.returns-clause-sound
returns-clause-sound g c = λ key files history file offset plus read stood legal is.
    subst (λ (s : Status). IsWritten (g.K.Sink.taken c.args.sink.now) (g.K.Sink.taken c.write_out-status.new.sink) (catalogue c.in-Ok.desk.chained.state.settled) s) (sym c.end_reading.ensures.status ∙ is) c.write_out-status.ensures.written

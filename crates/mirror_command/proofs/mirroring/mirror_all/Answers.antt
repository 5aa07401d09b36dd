use Rattle.std.proofs.Common.{refl, sym, subst, ◌∙◌, inl, inr}
use Rattle.mpc_desk.specs.Pairs.{pair}
use Rattle.command_ends.specs.declared.status.Status.{Status}
use Rattle.command_ends.specs.Courses.{sink_words, change}
use Rattle.command_ends.specs.Reading.{reader}
use Rattle.mirror_store.specs.Words.{mirror_words}
use Rattle.mirror_command.specs.Ends.{AtHistory}
use Rattle.mirror_command.proofs.mirroring.mirror_all.Goals as goal

pub returns-in-Err-clause-ends : goal.returns-in-Err-clause-ends
returns-in-Err-clause-ends g c = inl (record { silent = refl; unmirrored = refl; unopened = c.in-Err.ensures.unopened })

pub returns-clause-ends : goal.returns-clause-ends
returns-clause-ends g c =
    let history = c.in-Ok.desk.chained.state.settled in
    inr (record {
      history = history;
      keeps = c.end_reading.ensures.keeps reader (pair c.args.disk c.args.second) c.in-Ok.ensures.opens;
      ends =
          subst (λ (s : Status). AtHistory (sink_words g.K.Sink.taken g.K.Sink.faults g.K.Sink.is_open) (mirror_words g.M.Mirror.told g.M.Mirror.faults) (change c.args.sink.now c.mirror_out-status.new.sink) (change c.args.mirror.now c.mirror_out-status.new.mirror) history s)
          (sym c.end_reading.ensures.status) c.mirror_out-status.ensures.ends;
    })

pub returns-clause-sound : goal.returns-clause-sound
returns-clause-sound g c = λ key files history file offset plus read stood legal is.
    subst (λ (s : Status). AtHistory (sink_words g.K.Sink.taken g.K.Sink.faults g.K.Sink.is_open) (mirror_words g.M.Mirror.told g.M.Mirror.faults) (change c.args.sink.now c.mirror_out-status.new.sink) (change c.args.mirror.now c.mirror_out-status.new.mirror) c.in-Ok.desk.chained.state.settled s)
    (sym c.end_reading.ensures.status ∙ is) c.mirror_out-status.ensures.ends

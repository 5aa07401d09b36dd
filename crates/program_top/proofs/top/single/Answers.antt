use Rattle.std.proofs.Common.{◌≡◌, List, ℕ, Option, Some, false, refl, sym, subst, rules}
use Rattle.command_line.specs.declared.command.Command.{Command}
use Rattle.command_line.specs.Commands.{command_of}
use Rattle.mpc_desk.specs.PairLaws.{same_pair}
use Rattle.command_ends.specs.declared.status.Status.{Status}
use Rattle.command_ends.specs.Courses.{sink_words, change}
use Rattle.mirror_store.specs.Words.{mirror_words}
use Rattle.workload_command.specs.Promises.{KeepsWorkload}
use Rattle.program_top.specs.Jobs.{is_done_alone}
use Rattle.program_top.proofs.Looked.{look_kept}
use Rattle.program_top.proofs.Promised.{by_run, by_export, by_mirror, by_look, by_workload, by_comets, by_usage}
use Rattle.program_top.proofs.top.single.Goals as goal

-- the words name this command
named : (words : List (List ℕ)) (result : Option Command) (command one : Command) → result ≡ command_of words → result ≡ Some command → command ≡ one → Some one ≡ command_of words
named words result command one reads some is = cc

pub returns-in-Some-Run : goal.returns-in-Some-Run
returns-in-Some-Run g c = record {
  promises =
      rw c.ended_beside.ensures (by_run _ _ _ _ _ _ _ (command_of c.args.words.now) c.in-Some-Run.key (named c.args.words.now c.command_of.result c.in-Some-Run.field-0 _ c.command_of.ensures.command c.in-Some-Run.is c.in-Some-Run.field-0-is)
      refl refl c.run-ended.ensures.promises);
}

pub returns-in-Some-Export : goal.returns-in-Some-Export
returns-in-Some-Export g c = record {
  promises =
      rw c.ended_beside-in-Some-Export.ensures (by_export _ _ _ _ _ _ _ (command_of c.args.words.now) (named c.args.words.now c.command_of.result c.in-Some-Export.field-0 _ c.command_of.ensures.command c.in-Some-Export.is c.in-Some-Export.field-0-is)
      refl refl (record { source_rests = refl; clock_rests = refl; keeps = c.export.ensures.promises }));
}

pub returns-in-Some-Mirror : goal.returns-in-Some-Mirror
returns-in-Some-Mirror g c = record {
  promises =
      rw c.ended_beside-in-Some-Mirror.ensures (by_mirror _ _ _ _ _ _ _ (command_of c.args.words.now) (named c.args.words.now c.command_of.result c.in-Some-Mirror.field-0 _ c.command_of.ensures.command c.in-Some-Mirror.is c.in-Some-Mirror.field-0-is)
      refl (record { source_rests = refl; clock_rests = refl; keeps = c.mirror-ended.ensures.promises }));
}

pub returns-in-Some-Look : goal.returns-in-Some-Look
returns-in-Some-Look g c =
    let from = c.in-Some-Look.from in
    let to = c.in-Some-Look.to in
    let begun = c.not_begun-ended.ensures in
    record {
      promises =
          rw c.ended_beside-in-Some-Look.ensures (by_look _ _ _ _ _ _ _ (command_of c.args.words.now) from to (named c.args.words.now c.command_of.result c.in-Some-Look.field-0 _ c.command_of.ensures.command c.in-Some-Look.is c.in-Some-Look.field-0-is) refl (record {
            source_rests = refl;
            clock_rests = refl;
            disks_rest = same_pair _ _ _ _ begun.disk begun.second;
            added = begun.added;
            keeps =
                look_kept (sink_words g.K.Sink.taken g.K.Sink.faults g.K.Sink.is_open) (mirror_words g.M.Mirror.told g.M.Mirror.faults) c.command_of.result c.in-Some-Look.field-0 from to
                (change c.args.sink.now c.look.new.sink) (change c.args.mirror.now c.look.new.mirror) c.look.result _ c.in-Some-Look.is c.in-Some-Look.field-0-is c.command_of.ensures.range begun.status c.look.ensures.promises;
          }));
    }

pub returns-in-Some-Workload : goal.returns-in-Some-Workload
returns-in-Some-Workload g c =
    let seed = c.in-Some-Workload.seed in
    let count = c.in-Some-Workload.count in
    record {
      promises =
          rw c.ended_beside-in-Some-Workload.ensures (by_workload _ _ _ _ _ _ _ (command_of c.args.words.now) seed count (named c.args.words.now c.command_of.result c.in-Some-Workload.field-0 _ c.command_of.ensures.command c.in-Some-Workload.is c.in-Some-Workload.field-0-is)
          refl refl (record {
            source_rests = refl;
            clock_rests = refl;
            disks_rest = same_pair _ _ _ _ c.not_begun.ensures.disk c.not_begun.ensures.second;
            added = c.not_begun.ensures.added;
            keeps =
                subst (λ (s : Status). KeepsWorkload (sink_words g.K.Sink.taken g.K.Sink.faults g.K.Sink.is_open) (change c.args.sink.now c.workload-status.new.sink) s seed count) (sym c.not_begun.ensures.status) c.workload-status.ensures.promises;
          }));
    }

pub returns-in-Some-Comets : goal.returns-in-Some-Comets
returns-in-Some-Comets g c = record {
  promises =
      rw c.ended_beside-in-Some-Comets.ensures (by_comets _ _ _ _ _ _ _ (command_of c.args.words.now) c.in-Some-Comets.key (named c.args.words.now c.command_of.result c.in-Some-Comets.field-0 _ c.command_of.ensures.command c.in-Some-Comets.is c.in-Some-Comets.field-0-is)
      refl c.comets-ended.ensures.promises);
}

pub returns-in-Some-Serve : goal.returns-in-Some-Serve
returns-in-Some-Serve g c =
    let none : is_done_alone (command_of c.args.words.now) ≡ false = search rules in
    let begun = c.not_begun-in-Some-Serve.ensures in
    record { promises = rw c.ended_beside-in-Some-Serve.ensures (by_usage _ _ _ _ _ _ _ (command_of c.args.words.now) none refl refl (record { status = begun.status; uncalled = (refl, refl, refl); disks = same_pair _ _ _ _ begun.disk begun.second; added = begun.added })) }

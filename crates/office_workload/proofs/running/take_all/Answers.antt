use Rattle.office_workload.proofs.RunLemmas.{if_err, all_taken, object_refused, station_refused}
use Rattle.office_workload.proofs.TextLemmas.{on_ok}
use Rattle.office_workload.proofs.running.take_all.Goals as goal

pub returns-in-Ok-clause-taken : goal.returns-in-Ok-clause-taken
returns-in-Ok-clause-taken c =
    on_ok c.take_objects.result _ _ (all_taken c.args.seed c.args.count c.args.keeper.now.history c.take_station.new.keeper.history c.in-Ok.ensures.taken c.take_objects.new.keeper.history) c.take_objects.ensures.taken

pub returns-in-Ok-clause-refused : goal.returns-in-Ok-clause-refused
returns-in-Ok-clause-refused c =
    if_err c.take_objects.result _ _ (object_refused c.args.seed c.args.count c.args.keeper.now.history c.take_station.new.keeper.history c.in-Ok.ensures.taken) c.take_objects.ensures.refused

pub returns-in-Err-clause-refused : goal.returns-in-Err-clause-refused
returns-in-Err-clause-refused c = station_refused c.args.seed c.args.count c.args.keeper.now.history c.in-Err.refusal c.in-Err.ensures.refused

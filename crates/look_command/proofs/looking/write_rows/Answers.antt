use Rattle.std.proofs.Common.{flat_map}
use Rattle.std.proofs.lemmas.Result.{MatchResult-from_err, on_err_weaker}
use Rattle.look_command.specs.Looks.{object_line, sight_line}
use Rattle.look_command.proofs.Joining.{part_of_front, part_behind_front}
use Rattle.look_command.proofs.looking.write_rows.Goals as goal

pub returns-in_err-write_objects-clause-part : goal.returns-in_err-write_objects-clause-part
returns-in_err-write_objects-clause-part g c =
    MatchResult-from_err c.from_residual.result _ _ c.from_residual.ensures.0
    (λ _.
    part_of_front (g.K.Sink.taken c.args.sink.now) (g.K.Sink.taken c.write_objects.new.sink) (flat_map object_line c.args.objects.now) (flat_map sight_line c.args.sights.now) c.in_err-write_objects.ensures.part)

pub returns-clause-part : goal.returns-clause-part
returns-clause-part g c =
    on_err_weaker c.write_sights.result
    (part_behind_front (g.K.Sink.taken c.args.sink.now) (g.K.Sink.taken c.write_sights.new.sink) (flat_map object_line c.args.objects.now) (flat_map sight_line c.args.sights.now) (g.K.Sink.taken c.write_objects.new.sink) c.in_ok-write_objects.ensures.whole)
    c.write_sights.ensures.part

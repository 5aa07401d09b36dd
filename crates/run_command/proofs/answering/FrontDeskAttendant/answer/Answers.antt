use Rattle.command_ends.specs.Disks.{disk_words}
use Rattle.run_command.proofs.Laws.{WantLaws}
use Rattle.run_command.proofs.Answered.{answered_by}
use Rattle.run_command.proofs.answering.FrontDeskAttendant.answer.Goals as goal

pub returns : goal.returns
returns g c =
    let wants : WantLaws = record { instead = c.out_of_memory_changes_nothing.ensures.instead; no_step = c.no_room_no_step.ensures.step; no_room = c.no_room_no_step.ensures.turn } in
    λ frame r. answered_by wants (disk_words g.D.Disk.reads g.D.Disk.leaves g.D.Disk.moment g.D.Disk.since g.D.Disk.faults) _ _ _ _ c.args.read frame r c.request_of-request.result c.take_turn-reply.result c.speak.result c.request_of-request.ensures c.take_turn-reply.ensures c.speak.ensures

use Rattle.std.proofs.Common.{List, refl, subst}
use Rattle.act_model.specs.declared.entry.Entry.{Entry}
use Rattle.act_model.specs.Clocks.{clock_of}
use Rattle.act_model.specs.Deeds.{deeds}
use Rattle.frame_service.specs.Exchanges.{spoken_bytes}
use Rattle.command_ends.specs.Disks.{disk_words}
use Rattle.comets_command.specs.Conducted.{TurnBeside}
use Rattle.comets_command.specs.Serving.{FrontState, AnswersBeside}
use Rattle.comets_command.proofs.NoRoom.{NoRoomLaws}
use Rattle.comets_command.proofs.Answered.{answered_by}
use Rattle.comets_command.proofs.answering.FrontCometsAttendant.answer.Goals as goal

pub returns : goal.returns
returns g c =
    let on = disk_words g.D.Disk.reads g.D.Disk.leaves g.D.Disk.moment g.D.Disk.since g.D.Disk.faults in
    let before = clock_of g.C.Clock.reading g.C.Clock.last c.args.clock.now in
    let after = clock_of g.C.Clock.reading g.C.Clock.last c.take_turn-reply.new.clock in
    let room : NoRoomLaws = record { step = c.no_room_no_step.ensures.step; turn = c.no_room_no_step.ensures.turn } in
    let office = c.self.inside.office in
    let old : FrontState _ = record { office = office; register = c.self.inside.register } in
    let new : FrontState _ = record { office = office; register = c.take_turn-reply.new.register } in
    let turn =
    subst (λ (h : List Entry). TurnBeside on (deeds h) c.self.inside.register c.request_of-request.result c.take_turn-reply.result c.take_turn-reply.new.register before after)
    c.core.ensures.history c.take_turn-reply.ensures.turn in
    λ frame r. subst (λ (front : FrontState _). AnswersBeside on front before (record { frame = frame; reply = spoken_bytes c.speak.result }) new after) c.self.view_is
    (answered_by room on old before new after c.args.read frame r c.request_of-request.result c.take_turn-reply.result c.speak.result c.request_of-request.ensures turn refl c.speak.ensures)

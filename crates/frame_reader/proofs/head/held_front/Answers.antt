use Rattle.std.proofs.Common.{[], refl}
use Rattle.frame_reader.proofs.head.held_front.Goals as goal

-- a frame may still come, since bytes that may follow complete a head
pub returns-in-Part : goal.returns-in-Part
returns-in-Part c =
    let part = c.in-Part.ensures.part.0 refl in
    let begins = part.1 in (
      (c.no_frame_yet.ensures.head c.args.bytes.now part.0, λ never. c.never_a_frame.ensures.heads c.args.bytes.now never begins.0 begins.1 [] begins.2 begins.3),
      c.in-Part.ensures.short refl,
    )

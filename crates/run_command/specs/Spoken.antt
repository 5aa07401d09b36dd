-- A reply with its text, as it goes to the sink.
use Rattle.std.specs.Prelude.{◌≡◌, ◌⊎◌, List}
use Rattle.act_model.specs.declared.reply.Fault.{Fault}
use Rattle.act_model.specs.declared.reply.Refusal.TheVariants.{NoLine, NoMemory}
use Rattle.act_model.specs.declared.reply.Reply.{Reply}
use Rattle.act_model.specs.declared.reply.Reply.TheVariants.{Refused}
use Rattle.act_model.specs.Replies.{status_of, text_of, text_bytes}
use Rattle.frame_service.specs.declared.spoken.Spoken.{Spoken}

-- the status and the text are those of the reply
abbrev pub IsSpoken : Reply → Spoken → Type 0
IsSpoken reply spoken = (spoken.status ≡ status_of reply) × (text_bytes spoken.text ≡ text_of reply)

-- they are those of the reply, or of NoMemory in the place of the lines of a NoLine
abbrev pub Speaks : Reply → Spoken → Type 0
Speaks reply spoken =
    IsSpoken reply spoken
    ⊎ ((faults : List Fault) × (reply ≡ Refused (NoLine faults)) × IsSpoken (Refused NoMemory) spoken)

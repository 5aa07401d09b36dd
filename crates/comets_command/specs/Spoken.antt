-- A reply with its text, as it goes to the sink.
use Rattle.std.specs.Prelude.{◌≡◌}
use Rattle.act_model.specs.Replies.{text_bytes}
use Rattle.comet_model.specs.declared.reply.CometReply.{CometReply}
use Rattle.comet_model.specs.Replies.{status_of, text_of}
use Rattle.frame_service.specs.declared.spoken.Spoken.{Spoken}

-- the status and the text are those of the reply
abbrev pub IsSpoken : CometReply → Spoken → Type 0
IsSpoken reply spoken = (spoken.status ≡ status_of reply) × (text_bytes spoken.text ≡ text_of reply)

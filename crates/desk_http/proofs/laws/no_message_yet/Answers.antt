use Rattle.desk_http.proofs.Messages.{no_head_no_message, no_request_no_head, body_missing, nothing_stands}
use Rattle.desk_http.proofs.laws.no_message_yet.Goals as goal

pub returns : goal.returns
returns c = record { request = λ bytes none. no_head_no_message bytes (no_request_no_head bytes none); head = no_head_no_message; body = body_missing; nothing = nothing_stands }

use Rattle.desk_http.proofs.Messages.{one_head, one_message}
use Rattle.desk_http.proofs.laws.one_message.Goals as goal

pub returns : goal.returns
returns c = record { heads = one_head; messages = one_message }

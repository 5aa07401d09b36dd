use Rattle.desk_http.proofs.Messages.{head_grows, message_grows}
use Rattle.desk_http.proofs.laws.goes_on.Goals as goal

pub returns : goal.returns
returns c = record { heads = head_grows; messages = message_grows }

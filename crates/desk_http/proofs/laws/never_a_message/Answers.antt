use Rattle.desk_http.proofs.Messages.{never_now, never_later, never_some}
use Rattle.desk_http.proofs.laws.never_a_message.Goals as goal

pub returns : goal.returns
returns c = record { now = never_now; later = never_later; some = never_some }

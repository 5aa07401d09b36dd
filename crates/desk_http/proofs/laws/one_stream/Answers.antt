use Rattle.desk_http.proofs.Messages.{one_stream}
use Rattle.desk_http.proofs.laws.one_stream.Goals as goal

pub returns : goal.returns
returns c = one_stream

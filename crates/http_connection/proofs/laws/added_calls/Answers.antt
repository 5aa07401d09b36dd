use Rattle.http_connection.proofs.Calls.{added_later}
use Rattle.http_connection.proofs.laws.added_calls.Goals as goal

pub returns : goal.returns
returns c =
    let laws = c.call_laws.ensures in
    record {
      act = λ founder limit history later item goes_on is added. (added_later laws founder limit history later item goes_on is added).0;
      stands = λ founder limit history later item goes_on is added. (added_later laws founder limit history later item goes_on is added).1;
      stamp = λ founder limit history later item goes_on is added. (added_later laws founder limit history later item goes_on is added).2;
    }

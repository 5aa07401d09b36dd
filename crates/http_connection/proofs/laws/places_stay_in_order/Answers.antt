use Rattle.http_connection.proofs.Calls.{order_on}
use Rattle.http_connection.proofs.laws.places_stay_in_order.Goals as goal

pub returns : goal.returns
returns c = λ founder limit history later from least items. order_on c.call_laws.ensures founder limit history later from least items

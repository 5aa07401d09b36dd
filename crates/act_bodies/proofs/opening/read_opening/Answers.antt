use Rattle.std.proofs.lemmas.Result.{IfOk-weaker}
use Rattle.act_bodies.proofs.OpeningLaws.{opening_in-is_opening}
use Rattle.act_bodies.proofs.opening.read_opening.Goals as goal

pub returns-clause-ranges : goal.returns-clause-ranges
returns-clause-ranges c = IfOk-weaker c.opening_in.result _ _ (λ opening found. opening_in-is_opening _ opening found) c.opening_in.ensures.read

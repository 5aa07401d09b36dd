use Rattle.std.proofs.lemmas.Result.{IfOk-weaker}
use Rattle.act_bodies.proofs.EnrolLaws.{enrol_in-is_key, enrol_in-plain}
use Rattle.act_bodies.proofs.enrol.read_enrol.Goals as goal

pub returns-clause-key : goal.returns-clause-key
returns-clause-key c = IfOk-weaker c.enrol_in.result _ _ (λ enrol found. enrol_in-is_key _ enrol found) c.enrol_in.ensures.read

pub returns-clause-plain : goal.returns-clause-plain
returns-clause-plain c = IfOk-weaker c.enrol_in.result _ _ (λ enrol found. enrol_in-plain _ enrol found) c.enrol_in.ensures.read

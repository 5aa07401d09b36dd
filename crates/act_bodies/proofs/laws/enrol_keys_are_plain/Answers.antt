use Rattle.act_bodies.proofs.EnrolLaws.{enrol_of-plain}
use Rattle.act_bodies.proofs.laws.enrol_keys_are_plain.Goals as goal

pub returns : goal.returns
returns c = λ bytes enrol. enrol_of-plain bytes enrol

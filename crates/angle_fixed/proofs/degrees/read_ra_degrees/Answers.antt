use Rattle.std.proofs.Common.{◌∙◌}
use Rattle.angle_fixed.proofs.Cases.{ra_degrees_one, ra_found}
use Rattle.angle_fixed.proofs.degrees.read_ra_degrees.Goals as goal

pub returns : goal.returns
returns c =
    let one = ra_degrees_one c.texts.ensures in
    let exact = c.ra_degrees.ensures ∙ ra_found c.args.text.now in
    record { exact = exact; answer = rw exact (one.reads c.args.text.now); only = λ other right. exact ∙ one.only c.args.text.now other right }

use Rattle.std.proofs.Common.{◌∙◌}
use Rattle.angle_fixed.proofs.Cases.{dec_degrees_one, dec_found}
use Rattle.angle_fixed.proofs.degrees.read_dec_degrees.Goals as goal

pub returns : goal.returns
returns c =
    let one = dec_degrees_one c.texts.ensures in
    let exact = c.dec_degrees.ensures ∙ dec_found c.args.text.now in
    record { exact = exact; answer = rw exact (one.reads c.args.text.now); only = λ other right. exact ∙ one.only c.args.text.now other right }

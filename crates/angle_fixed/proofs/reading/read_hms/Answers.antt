use Rattle.std.proofs.Common.{◌∙◌}
use Rattle.angle_fixed.proofs.Cases.{time_one}
use Rattle.angle_fixed.proofs.reading.read_hms.Goals as goal

pub returns : goal.returns
returns c =
    let one = time_one c.texts.ensures in
    record { exact = c.hms.ensures; answer = rw c.hms.ensures (one.reads c.args.text.now); only = λ other right. c.hms.ensures ∙ one.only c.args.text.now other right }

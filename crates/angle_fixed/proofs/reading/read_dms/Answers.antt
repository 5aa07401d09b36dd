use Rattle.std.proofs.Common.{◌∙◌}
use Rattle.angle_fixed.proofs.Cases.{arc_one}
use Rattle.angle_fixed.proofs.reading.read_dms.Goals as goal

pub returns : goal.returns
returns c =
    let one = arc_one c.texts.ensures in
    record { exact = c.dms.ensures; answer = rw c.dms.ensures (one.reads c.args.text.now); only = λ other right. c.dms.ensures ∙ one.only c.args.text.now other right }

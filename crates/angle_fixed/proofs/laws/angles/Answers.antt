use Rattle.angle_fixed.proofs.Cases.{time_one, arc_one, ra_degrees_one, dec_degrees_one}
use Rattle.angle_fixed.proofs.Written.{time_text_again, arc_text_again}
use Rattle.angle_fixed.proofs.laws.angles.Goals as goal

pub returns : goal.returns
returns c =
    let texts = c.texts.ensures in
    assumption (time_one texts, arc_one texts, ra_degrees_one texts, dec_degrees_one texts, time_text_again texts, arc_text_again texts)

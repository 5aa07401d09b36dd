use Rattle.std.proofs.Common.{◌∙◌}
use Rattle.angle_fixed.proofs.Written.{time_text_reads, time_text_again}
use Rattle.angle_fixed.proofs.writing.write_hms.Goals as goal

pub returns-clause-read : goal.returns-clause-read
returns-clause-read c = rw c.time_text.ensures.text (time_text_reads c.args.ra c.args.decimals c.requires c.time_text.ensures.within)

pub returns-clause-again : goal.returns-clause-again
returns-clause-again c = λ text wide right. c.time_text.ensures.text ∙ time_text_again c.texts.ensures text c.args.ra c.args.decimals wide right

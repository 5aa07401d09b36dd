use Rattle.std.proofs.Common.{◌∙◌}
use Rattle.angle_fixed.proofs.Written.{arc_text_reads, arc_text_again}
use Rattle.angle_fixed.proofs.writing.write_dms.Goals as goal

pub returns-clause-read : goal.returns-clause-read
returns-clause-read c = rw c.arc_text.ensures.text (arc_text_reads c.args.dec c.args.decimals c.args.minus c.requires c.arc_text.ensures.within)

pub returns-clause-again : goal.returns-clause-again
returns-clause-again c = λ text wide right. c.arc_text.ensures.text ∙ arc_text_again c.texts.ensures text c.args.dec c.args.decimals c.args.minus wide right

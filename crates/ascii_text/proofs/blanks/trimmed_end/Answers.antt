use Rattle.std.proofs.Common.{◌∙◌, length, ap, sym, arith}
use Rattle.std.proofs.lemmas.List.{length_push}
use Rattle.ascii_text.specs.Blanks.{blanks, trimmed_end}
use Rattle.ascii_text.proofs.BlankTexts.{trimmed_end-blanks}
use Rattle.ascii_text.proofs.blanks.trimmed_end.Goals as goal

pub loop-before-preserved : goal.loop-before-preserved
unfolding blanks
loop-before-preserved c =
    (sym (ap trimmed_end c.in-Some.ensures.some ∙ trimmed_end-blanks c.in-Some.before.now 1) ∙ c.loop-before.invariant.0, omega (arith, ap length c.in-Some.ensures.some, length_push c.in-Some.before.now 32))

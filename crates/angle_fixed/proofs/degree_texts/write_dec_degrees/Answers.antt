use Rattle.std.proofs.Common.{◌∙◌}
use Rattle.angle_fixed.proofs.Cases.{dec_degrees_one}
use Rattle.angle_fixed.proofs.DegreesWritten.{dec_degrees_text_reads, dec_degrees_text_again}
use Rattle.angle_fixed.proofs.degree_texts.write_dec_degrees.Goals as goal

pub returns : goal.returns
returns c =
    let text = c.dec_text.ensures.text in
    let read = dec_degrees_text_reads c.args.dec c.dec_text.ensures.within in
    record {
      exact = text;
      read = rw text read;
      value = rw text ((dec_degrees_one c.texts.ensures).only _ _ read);
      again = λ spelled wide first right. text ∙ dec_degrees_text_again c.texts.ensures c.args.dec spelled wide first right;
    }

use Rattle.std.proofs.Common.{◌∙◌}
use Rattle.angle_fixed.proofs.Cases.{ra_degrees_one}
use Rattle.angle_fixed.proofs.DegreesWritten.{ra_degrees_text_reads, ra_degrees_text_again}
use Rattle.angle_fixed.proofs.degree_texts.write_ra_degrees.Goals as goal

pub returns : goal.returns
returns c =
    let text = c.ra_text.ensures.text in
    let read = ra_degrees_text_reads c.texts.ensures c.args.ra in
    record {
      exact = text;
      read = rw text read;
      value = rw text ((ra_degrees_one c.texts.ensures).only _ _ read);
      again = λ p spelled_text spelled twelve plain value. text ∙ ra_degrees_text_again c.texts.ensures p spelled_text c.args.ra spelled twelve plain value c.ra_text.ensures.within;
    }

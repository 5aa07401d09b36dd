use Rattle.obs_time.proofs.Verdicts.{date_judged}
use Rattle.obs_time.proofs.DayLaws.{day_judged, day_answered, day_answer_only}
use Rattle.obs_time.proofs.IsoLaws.{iso_judged, iso_answered, iso_answer_only}
use Rattle.obs_time.proofs.TextLaws.{one_text, text_is_kept}
use Rattle.obs_time.proofs.laws.times.Goals as goal

pub returns : goal.returns
returns c =
    let texts = c.texts.ensures in
    record {
      day_answered = day_answered texts;
      day_answer_only = day_answer_only texts;
      iso_answered = iso_answered texts;
      iso_answer_only = iso_answer_only texts;
      date_judged = date_judged;
      day_judged = day_judged;
      iso_judged = iso_judged;
      one_text = one_text texts;
      text_is_kept = text_is_kept texts;
    }

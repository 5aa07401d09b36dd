-- A date that is written is read again, and what is read is written so.
use Rattle.std.proofs.Common.{◌≡◌, ℕ, List, [], length, Some, Result, refl, ap, ◌∙◌, ℤ, eqb}
use Rattle.std.proofs.lemmas.Bool.{eqb-true}
use Rattle.std.proofs.lemmas.List.{nil_from_length}
use Rattle.ascii_text.specs.declared.digits.Radix.TheVariants.{Ten}
use Rattle.ascii_text.specs.Reading.{digits_at, behind}
use Rattle.ascii_text.specs.Judged.{IsReader}
use Rattle.ascii_text.specs.Answering.{it_answers, one_answer}
use Rattle.obs_time.specs.declared.fault.TimeFault.{TimeFault}
use Rattle.obs_time.specs.declared.fault.TimeFault.TheVariants.{Spelling}
use Rattle.obs_time.specs.DateText.{WrittenDate, HasDigits, SpellsDate, date_text, date_at, whole_date, judge_date, date_of, IsDateAnswer}
use Rattle.obs_time.proofs.Readings.{each, made, tested}
use Rattle.ascii_text.specs.Laws.{TextLaws}

-- what is read from the front of a text was written there
pub record TakesDate (separator : ℕ) (text : List ℕ) (x : WrittenDate × List ℕ) : Type 0 where
  pub spelling : text ≡ date_text separator x.0 x.1
  pub digits : HasDigits x.0

module _ (texts : TextLaws) where
  open texts use {digits_again, digits_takes, behind-cons, behind_takes}

  pub date_again : (separator : ℕ) (date : WrittenDate) (rest : List ℕ) → HasDigits date → date_at separator (date_text separator date rest) ≡ Some (date, rest)
  unfolding date_at
  date_again separator date rest digits =
      rw (digits_again Ten 4 date.year _ digits.year, behind-cons separator _, digits_again Ten 2 date.month _ digits.month, behind-cons separator _, digits_again Ten 2 date.day rest digits.day) refl

  pub date_takes : (separator : ℕ) (text : List ℕ) (x : WrittenDate × List ℕ) → date_at separator text ≡ Some x → TakesDate separator text x
  unfolding date_at
  date_takes separator text =
      each (digits_at Ten 4 text) _ _ (λ year a. each (behind separator year.1) _ _ (λ months b. each (digits_at Ten 2 months) _ _ (λ month c.
      each (behind separator month.1) _ _ (λ days d. each (digits_at Ten 2 days) _ _ (λ day e.
      let year_is = digits_takes Ten 4 text year.0 year.1 a in
      let month_is = digits_takes Ten 2 months month.0 month.1 c in
      let day_is = digits_takes Ten 2 days day.0 day.1 e in
      made _ _ (record {
        spelling = cc (year_is.0, behind_takes separator year.1 months b, month_is.0, behind_takes separator month.1 days d, day_is.0);
        digits = record { year = year_is.1; month = month_is.1; day = day_is.1 };
      }))))))

  -- the reader of `YYYY-MM-DD`
  pub reads_dates : IsReader SpellsDate whole_date
  unfolding whole_date
  reads_dates = record {
    again = λ date text spelled. rw (spelled.spelling, date_again 45 date [] spelled.digits) refl;
    takes = λ text. each (date_at 45 text) _ _ (λ date a. tested (eqb (length date.1) 0) date.0 _ (λ b.
        let took = date_takes 45 text date a in
        let ended = nil_from_length date.1 (eqb-true _ _ b) in
        record { digits = took.digits; spelling = took.spelling ∙ ap (date_text 45 date.0) ended }));
  }

  -- the computed answer to a text is an answer to it, and the only one
  pub date_answered : (text : List ℕ) → IsDateAnswer text (date_of text)
  unfolding date_of
  date_answered text = it_answers SpellsDate whole_date reads_dates judge_date Spelling text

  pub date_answer_only : (text : List ℕ) (other : Result ℤ TimeFault) → IsDateAnswer text other → other ≡ date_of text
  date_answer_only text other h = one_answer SpellsDate whole_date reads_dates judge_date Spelling text other (date_of text) h (date_answered text)

-- A day with decimals that is written is read again, what is read is written so, and the judge gives the one verdict.
use Rattle.std.proofs.Common.{arith, ◌≡◌, ℕ, ◌*◌, ◌≤◌, inl, inr, true, ◌&&◌, leb, List, length, Result, Ok, Err, refl, ap, ◌∙◌, ℤ, ◌↔◌, ◌<◌}
use Rattle.std.specs.Prelude.{IfOk}
use Rattle.std.proofs.lemmas.Bool.{leb-true, le-leb, and_parts, and_from}
use Rattle.ascii_text.specs.Blanks.{blanks, are_blanks}
use Rattle.ascii_text.specs.Reading.{decimals_at}
use Rattle.ascii_text.specs.Judged.{IsReader}
use Rattle.ascii_text.specs.Answering.{it_answers, one_answer}
use Rattle.obs_time.specs.declared.fault.TimeFault.{TimeFault}
use Rattle.obs_time.specs.declared.fault.TimeFault.TheVariants.{Spelling}
use Rattle.obs_time.specs.Dates.{day_number, moment}
use Rattle.obs_time.specs.DateText.{date_at, judge_date, is_observed_year, date_exists}
use Rattle.obs_time.specs.DayText.{WrittenDay, SpellsDay, IsDayVerdict, IsDayAnswer, day_at, decimal_unit, judge_day, day_fraction_of}
use Rattle.obs_time.proofs.Readings.{each, tested}
use Rattle.obs_time.proofs.Verdicts.{word_of-date, one_verdict, observed_year, existing_date}
use Rattle.obs_time.proofs.DateLaws.{date_again, date_takes}
use Rattle.obs_time.proofs.DayLemmas.{unit_whole, decimals_exact, decimals_are, decimals_below}
use Rattle.ascii_text.specs.Laws.{TextLaws}
use Rattle.obs_time.specs.Instants.{nanos_of_a_day, IsInstantNs}
use Rattle.obs_time.proofs.YearLaws.{in_range}

same_pair : (t t' : ℤ) (count count' : ℕ) → t ≡ t' → count ≡ count' → ◌≡◌ {A = ℤ × ℕ} (t, count) (t', count')
same_pair t t' count count' e f = cc

pub day_judged : (day : WrittenDay) (answer : Result (ℤ × ℕ) TimeFault) → IsDayVerdict day answer ↔ (answer ≡ judge_day day)
unfolding judge_day judge_date
day_judged day answer =
    let date = day.date in
    let number = day_number date.year date.month date.day in
    let part = day.decimals * decimal_unit day.count in
    one_verdict _ _ _ _ (leb day.count 6) (is_observed_year date.year) (date_exists date.year date.month date.day) (moment number part, day.count)
    (record {
      few_tells = (leb-true day.count 6, le-leb day.count 6);
      range_tells = observed_year date.year;
      exists_tells = existing_date date.year date.month date.day;
      right = λ few. (record { ns = part; part = decimals_exact day.decimals day.count _ _ (unit_whole day.count few); exact = refl }, refl);
      only = λ few read is.
          let ns : is.0.ns ≡ part = decimals_are day.decimals day.count _ _ is.0.ns (unit_whole day.count few) is.0.part in
          same_pair _ _ _ _ (is.0.exact ∙ ap (moment number) ns) is.1;
    })
    (judge_day day) answer (word_of-date (λ (n : ℤ). (moment n part, day.count)) (leb day.count 6) true (is_observed_year date.year) (date_exists date.year date.month date.day) number)

-- what is said of a text that spells a day
pub day_said : (text : List ℕ) (t : ℤ) (count : ℕ) → IsDayAnswer text (Ok (t, count)) → (day : WrittenDay) × SpellsDay day text × IsDayVerdict day (Ok (t, count))
day_said text t count (inl h) = (h.0, h.1, (day_judged h.0 (Ok (t, count))).1 h.2)
day_said text t count (inr h) = absurd cc

-- how many decimals are read
pub decimals_read : (text : List ℕ) (answer : Result (ℤ × ℕ) TimeFault) → IsDayAnswer text answer → IfOk answer (λ read. (1 ≤ read.1) × (read.1 ≤ 6))
decimals_read text (Ok read) h =
    let said = day_said text read.0 read.1 h in
    (omega (arith, said.1.some, said.2.3.1), omega (arith, said.2.0, said.2.3.1))
decimals_read text (Err fault) h = tt

-- and it is a moment of the observed years
pub day_in_range : (text : List ℕ) (t : ℤ) (count : ℕ) → IsDayAnswer text (Ok (t, count)) → IsInstantNs t
day_in_range text t count answer =
    let said = day_said text t count answer in
    let day = said.0 in
    let is = said.2 in
    let at = is.3.0 in
    let units = unit_whole day.count is.0 in
    let below : at.ns < nanos_of_a_day = rw (decimals_are day.decimals day.count _ _ at.ns units at.part) (decimals_below day.decimals day.count _ _ units (omega arith) said.1.decimals) in
    in_range day.date.year day.date.month day.date.day at.ns t is.2 is.1 below at.exact

module _ (texts : TextLaws) where
  open texts use {decimals_again, decimals_takes, are_blanks-blanks, are_blanks_takes, digit_run-blanks, no_point-blanks}

  -- the reader of `YYYY MM DD.d`
  pub reads_days : IsReader SpellsDay day_at
  unfolding day_at
  reads_days = record {
    again = λ day text spelled.
        let space = spelled.space in
        let passed : (leb 1 day.count && are_blanks (blanks space)) ≡ true = and_from _ _ (le-leb 1 day.count spelled.some) (are_blanks-blanks space) in
        rw (spelled.spelling, date_again texts 32 day.date _ spelled.digits, decimals_again day.count day.decimals (blanks space) spelled.decimals (digit_run-blanks space) (no_point-blanks space), passed) refl;
    takes = λ text. each (date_at 32 text) _ _ (λ date a. each (decimals_at date.1) _ _ (λ decimals b. tested (leb 1 decimals.0.0 && are_blanks decimals.1) _ _ (λ c.
        let tests = and_parts (leb 1 decimals.0.0) (are_blanks decimals.1) c in
        let date_is = date_takes texts 32 text date a in
        let decimals_is = decimals_takes date.1 decimals b in
        record {
          digits = date_is.digits;
          some = leb-true 1 decimals.0.0 tests.0;
          decimals = decimals_is.below;
          space = length decimals.1;
          spelling = cc (date_is.spelling, decimals_is.text_is, are_blanks_takes decimals.1 tests.1);
        })));
  }

  -- the computed answer to a text is an answer to it, and the only one
  pub day_answered : (text : List ℕ) → IsDayAnswer text (day_fraction_of text)
  unfolding day_fraction_of
  day_answered text = it_answers SpellsDay day_at reads_days judge_day Spelling text

  pub day_answer_only : (text : List ℕ) (other : Result (ℤ × ℕ) TimeFault) → IsDayAnswer text other → other ≡ day_fraction_of text
  day_answer_only text other h = one_answer SpellsDay day_at reads_days judge_day Spelling text other (day_fraction_of text) h (day_answered text)

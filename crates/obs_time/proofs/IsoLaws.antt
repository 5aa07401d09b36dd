-- An ISO time that is written is read again, what is read is written so, and the judge gives the one verdict.
use Rattle.std.proofs.Common.{◌≡◌, ℕ, ◌+◌, ◌*◌, ◌-◌, ◌^◌, inl, inr, Bool, true, false, ◌&&◌, cond, eqb, ltb, leb, List, [], ◌∷◌, length, Option, Some, None, Result, Ok, Err, refl, sym, ap, ◌∙◌, ℤ, arith, ◌↔◌, ◌<◌, ◌≤◌}
use Rattle.std.proofs.lemmas.Bool.{eqb-true, leb-true, le-leb}
use Rattle.std.proofs.lemmas.Bool.Decides.{nat_tests, Decides-and}
use Rattle.std.proofs.lemmas.List.{nil_from_length}
use Rattle.ascii_text.specs.declared.digits.Radix.TheVariants.{Ten}
use Rattle.ascii_text.specs.Reading.{◌>>=◌, digits_at, behind, decimals_at, decimals_within, at_most}
use Rattle.ascii_text.specs.Judged.{IsReader, answer_of}
use Rattle.ascii_text.specs.Answering.{it_answers, one_answer}
use Rattle.obs_time.specs.declared.fault.TimeFault.{TimeFault}
use Rattle.obs_time.specs.declared.fault.TimeFault.TheVariants.{Spelling, Decimals}
use Rattle.obs_time.specs.Dates.{day_number, moment}
use Rattle.obs_time.specs.DateText.{WrittenDate, HasDigits, date_text, date_at, judge_date, is_observed_year, date_exists}
use Rattle.obs_time.specs.IsoText.{WrittenClock, ClockHasDigits, WrittenIso, SpellsIso, IsIsoVerdict, IsIsoAnswer, clock_text, clock_at, time_at, iso_at, iso_within, seconds_of, nanos_of_a_second, is_time_of_day, ns_of_iso, judge_iso, iso_of, IsTimeOfDay, clock_of}
use Rattle.obs_time.proofs.Readings.{each, made, tested}
use Rattle.obs_time.proofs.Verdicts.{word_of-date, one_verdict, observed_year, existing_date}
use Rattle.obs_time.proofs.DateLaws.{date_again, date_takes}
use Rattle.obs_time.proofs.DayLemmas.{decimals_exact, decimals_are, decimals_below}
use Rattle.ascii_text.specs.Laws.{TextLaws}
use Rattle.std.specs.Bool.{Decides}
use Rattle.std.proofs.lemmas.Nat.{pow-add}
use Rattle.obs_time.specs.Instants.{nanos_of_a_day, IsInstantNs}
use Rattle.obs_time.proofs.YearLaws.{in_range}

-- ---- times of day

-- a second is a whole number of units of up to nine decimals
pub second_in_units : (count : ℕ) → count ≤ 9 → 10 ^ (9 - count) * 10 ^ count ≡ nanos_of_a_second
second_in_units count few =
    let nine : 9 - count + count ≡ 9 = omega arith in
    sym (pow-add 10 (9 - count) count) ∙ ap (λ (k : ℕ). 10 ^ k) nine

-- the test of a time of day
pub time_of_day : (clock : WrittenClock) → Decides (is_time_of_day clock) (IsTimeOfDay clock)
time_of_day clock = (
  λ e. record { hour = grind (arith, nat_tests); minute = grind (arith, nat_tests); second = grind (arith, nat_tests) },
  λ h. grind (arith, nat_tests, h.hour, h.minute, h.second),
)

-- a day has 86,400 seconds
pub seconds_below : (clock : WrittenClock) → IsTimeOfDay clock → seconds_of clock < 86_400
seconds_below clock is = omega (arith, is.hour, is.minute, is.second)

-- the time of day after this many seconds, and how many they are
pub seconds_of_clock : (seconds : ℕ) → seconds_of (clock_of seconds) ≡ seconds
seconds_of_clock seconds = omega arith

pub clock_in_day : (seconds : ℕ) → seconds < 86_400 → IsTimeOfDay (clock_of seconds)
clock_in_day seconds below = record { hour = omega arith; minute = omega arith; second = omega arith }

same_clock : (a b : WrittenClock) → a.hour ≡ b.hour → a.minute ≡ b.minute → a.second ≡ b.second → a ≡ b
same_clock a b hour minute second =
    ap (λ (h : ℕ). record { hour = h; minute = a.minute; second = a.second }) hour ∙ ap (λ (m : ℕ). record { hour = b.hour; minute = m; second = a.second }) minute ∙ ap (λ (s : ℕ). record { hour = b.hour; minute = b.minute; second = s }) second

pub clock_of_seconds : (clock : WrittenClock) → IsTimeOfDay clock → clock ≡ clock_of (seconds_of clock)
clock_of_seconds clock is =
    same_clock clock (clock_of (seconds_of clock)) (omega (arith, is.minute, is.second)) (omega (arith, is.minute, is.second)) (omega (arith, is.second))

-- ---- the judge

pub iso_judged : (iso : WrittenIso) (answer : Result ℤ TimeFault) → IsIsoVerdict iso answer ↔ (answer ≡ judge_iso iso)
unfolding judge_iso judge_date
iso_judged iso answer =
    let date = iso.date in
    let number = day_number date.year date.month date.day in
    let clock = is_time_of_day iso.clock in
    let year = is_observed_year date.year in
    one_verdict _ _ _ _ (leb iso.count 9) (clock && year) (date_exists date.year date.month date.day) (moment number (ns_of_iso iso))
    (record {
      few_tells = (leb-true iso.count 9, le-leb iso.count 9);
      range_tells = Decides-and clock year (time_of_day iso.clock) (observed_year date.year);
      exists_tells = λ range. existing_date date.year date.month date.day range.1;
      right = λ few. record { ns = iso.decimals * 10 ^ (9 - iso.count); part = decimals_exact iso.decimals iso.count _ _ (second_in_units iso.count few); exact = refl };
      only = λ few t is. is.exact ∙ ap (λ (n : ℕ). moment number (seconds_of iso.clock * nanos_of_a_second + n)) (decimals_are iso.decimals iso.count _ _ is.ns (second_in_units iso.count few) is.part);
    })
    (judge_iso iso) answer (word_of-date (λ (n : ℤ). moment n (ns_of_iso iso)) (leb iso.count 9) clock year (date_exists date.year date.month date.day) number)

-- what is said of a text that spells an ISO time
pub iso_said : (text : List ℕ) (t : ℤ) → IsIsoAnswer text (Ok t) → (iso : WrittenIso) × SpellsIso iso text × IsIsoVerdict iso (Ok t)
iso_said text t (inl h) = (h.0, h.1, (iso_judged h.0 (Ok t)).1 h.2)
iso_said text t (inr h) = absurd cc

-- and it is a moment of the observed years
pub iso_in_range : (text : List ℕ) (t : ℤ) → IsIsoAnswer text (Ok t) → IsInstantNs t
iso_in_range text t answer =
    let said = iso_said text t answer in
    let iso = said.0 in
    let is = said.2 in
    let at = is.3 in
    let units = second_in_units iso.count is.0 in
    let part : at.ns < nanos_of_a_second = rw (decimals_are iso.decimals iso.count _ _ at.ns units at.part) (decimals_below iso.decimals iso.count _ _ units (omega arith) said.1.decimals) in
    let below : seconds_of iso.clock * nanos_of_a_second + at.ns < nanos_of_a_day = omega (arith, seconds_below iso.clock is.1.0) in
    in_range iso.date.year iso.date.month iso.date.day (seconds_of iso.clock * nanos_of_a_second + at.ns) t is.2 is.1.1 below at.exact

-- ---- more than nine decimals, which aren't worked out

-- the word on the parts that were read, with nothing in place of too many decimals
abbrev pub word_within : Option ((WrittenDate × WrittenClock) × Option (ℕ × ℕ)) → Result ℤ TimeFault
word_within None = Err Spelling
word_within (Some parts) = elim parts.1 as (λ _. Result ℤ TimeFault) [
  | None ↦ Err Decimals
  | Some decimals ↦ judge_iso (record { date = parts.0.0; clock = parts.0.1; count = decimals.0; decimals = decimals.1 })
]

-- two words on what a step gives are one, where they are one on nothing and on each value of the step
each_word : {A B C V : Type 0} (P : Option B → V) (Q : Option C → V) (o : Option A) (f : A → Option B) (g : A → Option C) → P None ≡ Q None → ((x : A) → P (f x) ≡ Q (g x)) → P (o >>= f) ≡ Q (o >>= g)
each_word P Q None f g nothing h = nothing
each_word P Q (Some x) f g nothing h = h x

within_end : (ends : Bool) (time : WrittenDate × WrittenClock) (decimals : ℕ × ℕ) (many : Bool) → ltb 9 decimals.0 ≡ many
    → word_within (cond ends (Some (time, cond many None (Some decimals))) None) ≡ answer_of judge_iso Spelling (cond ends (Some (record { date = time.0; clock = time.1; count = decimals.0; decimals = decimals.1 })) None)
unfolding answer_of judge_iso
within_end false time decimals many e = refl
within_end true time decimals false e = refl
within_end true time decimals true e = let test : leb decimals.0 9 ≡ false = grind (arith, nat_tests, e) in rw test refl

within_decimals : (time : WrittenDate × WrittenClock) (o : Option ((ℕ × ℕ) × List ℕ))
    → word_within ((o >>= at_most 9) >>= λ decimals. behind 90 decimals.1 >>= λ zone. cond (eqb (length zone) 0) (Some (time, decimals.0)) None)
    ≡ answer_of judge_iso Spelling (o >>= λ decimals. behind 90 decimals.1 >>= λ zone. cond (eqb (length zone) 0) (Some (record { date = time.0; clock = time.1; count = decimals.0.0; decimals = decimals.0.1 })) None)
unfolding answer_of
within_decimals time None = refl
within_decimals time (Some decimals) =
    each_word word_within (answer_of judge_iso Spelling) (behind 90 decimals.1) _ _ refl (λ zone. within_end (eqb (length zone) 0) time decimals.0 (ltb 9 decimals.0.0) refl)

-- the answer to a text, by what was read of it
pub answer_read : (text : List ℕ) (read : Option ((WrittenDate × WrittenClock) × Option (ℕ × ℕ))) → read ≡ iso_within text → word_within read ≡ iso_of text
unfolding iso_of iso_at iso_within decimals_within answer_of
answer_read text read e = ap word_within e ∙ each_word word_within (answer_of judge_iso Spelling) (time_at text) _ _ refl (λ time. within_decimals time.0 (decimals_at time.1))

-- ---- the reader

record TakesClock (text : List ℕ) (x : WrittenClock × List ℕ) : Type 0 where
  pub spelling : text ≡ clock_text x.0 x.1
  pub digits : ClockHasDigits x.0

abbrev time_text : WrittenDate × WrittenClock → List ℕ → List ℕ
time_text time rest = date_text 45 time.0 (84 ∷ clock_text time.1 rest)

record TakesTime (text : List ℕ) (x : (WrittenDate × WrittenClock) × List ℕ) : Type 0 where
  pub spelling : text ≡ time_text x.0 x.1
  pub date : HasDigits x.0.0
  pub clock : ClockHasDigits x.0.1

no_point : ◌≡◌ {A = ℕ} 90 46 → ⊥
no_point e = cc

module _ (texts : TextLaws) where
  open texts use {digits_again, digits_takes, behind-cons, behind_takes, decimals_again, decimals_takes, digit_run-other}

  clock_again : (clock : WrittenClock) (rest : List ℕ) → ClockHasDigits clock → clock_at (clock_text clock rest) ≡ Some (clock, rest)
  unfolding clock_at
  clock_again clock rest digits =
      rw (digits_again Ten 2 clock.hour _ digits.hour, behind-cons 58 _, digits_again Ten 2 clock.minute _ digits.minute, behind-cons 58 _, digits_again Ten 2 clock.second rest digits.second) refl

  clock_takes : (text : List ℕ) (x : WrittenClock × List ℕ) → clock_at text ≡ Some x → TakesClock text x
  unfolding clock_at
  clock_takes text =
      each (digits_at Ten 2 text) _ _ (λ hour a. each (behind 58 hour.1) _ _ (λ minutes b. each (digits_at Ten 2 minutes) _ _ (λ minute c.
      each (behind 58 minute.1) _ _ (λ seconds d. each (digits_at Ten 2 seconds) _ _ (λ second e.
      let hour_is = digits_takes Ten 2 text hour.0 hour.1 a in
      let minute_is = digits_takes Ten 2 minutes minute.0 minute.1 c in
      let second_is = digits_takes Ten 2 seconds second.0 second.1 e in
      made _ _ (record {
        spelling = cc (hour_is.0, behind_takes 58 hour.1 minutes b, minute_is.0, behind_takes 58 minute.1 seconds d, second_is.0);
        digits = record { hour = hour_is.1; minute = minute_is.1; second = second_is.1 };
      }))))))

  time_takes : (text : List ℕ) (x : (WrittenDate × WrittenClock) × List ℕ) → time_at text ≡ Some x → TakesTime text x
  unfolding time_at
  time_takes text =
      each (date_at 45 text) _ _ (λ date a. each (behind 84 date.1) _ _ (λ clocks b. each (clock_at clocks) _ _ (λ clock c.
      let date_is = date_takes texts 45 text date a in
      let clock_is = clock_takes clocks clock c in
      made _ _ (record {
        spelling = cc (date_is.spelling, behind_takes 84 date.1 clocks b, clock_is.spelling);
        date = date_is.digits;
        clock = clock_is.digits;
      }))))

  -- the reader of `YYYY-MM-DDThh:mm:ss.dZ`
  pub reads_isos : IsReader SpellsIso iso_at
  unfolding iso_at time_at
  reads_isos = record {
    again = λ iso text spelled.
        rw (spelled.spelling, date_again texts 45 iso.date _ spelled.date, behind-cons 84 _, clock_again iso.clock _ spelled.clock, decimals_again iso.count iso.decimals (90 ∷ []) spelled.decimals (digit_run-other 90 [] refl) no_point, behind-cons 90 []) refl;
    takes = λ text. each (time_at text) _ _ (λ time a. each (decimals_at time.1) _ _ (λ decimals b. each (behind 90 decimals.1) _ _ (λ zone c. tested (eqb (length zone) 0) _ _ (λ d.
        let time_is = time_takes text time a in
        let decimals_is = decimals_takes time.1 decimals b in
        let ended = nil_from_length zone (eqb-true _ _ d) in
        record {
          date = time_is.date;
          clock = time_is.clock;
          decimals = decimals_is.below;
          spelling = cc (time_is.spelling, decimals_is.text_is, behind_takes 90 decimals.1 zone c, ended);
        }))));
  }

  -- the computed answer to a text is an answer to it, and the only one
  pub iso_answered : (text : List ℕ) → IsIsoAnswer text (iso_of text)
  unfolding iso_of
  iso_answered text = it_answers SpellsIso iso_at reads_isos judge_iso Spelling text

  pub iso_answer_only : (text : List ℕ) (other : Result ℤ TimeFault) → IsIsoAnswer text other → other ≡ iso_of text
  iso_answer_only text other h = one_answer SpellsIso iso_at reads_isos judge_iso Spelling text other (iso_of text) h (iso_answered text)

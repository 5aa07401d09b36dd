-- One text for a moment and a number of decimals: it is read as the rounded moment, and a text that was read is
-- written.
use Rattle.std.proofs.Common.{◌≡◌, ℕ, suc, ◌+◌, ◌*◌, ◌/◌, ◌^◌, ◌<◌, ◌≤◌, inl, List, length, sym, ap, subst, ◌∙◌, arith, ℤ, pos, negsuc, neg_ℤ, mul_comm, add-mul, length-append, ◌-◌, ◌++◌, refl}
use Rattle.std.specs.Prelude.{Result, Ok}
use Rattle.std.proofs.Math.Nat.{eq_of_mul-eq-mul_right}
use Rattle.std.proofs.lemmas.Nat.{div-mul-add, div_below}
use Rattle.jiff_core.specs.declared.civil.date.Date.{Date}
use Rattle.jiff_core.proofs.SignedLemmas.{signed_arith}
use Rattle.jiff_core.proofs.DateLemmas.{epoch_day_injective}
use Rattle.ascii_text.specs.Digits.{decimals_width, decimals_text}
use Rattle.obs_time.specs.declared.fault.TimeFault.{TimeFault}
use Rattle.obs_time.specs.Instants.{nanos_of_a_day, IsInstantNs}
use Rattle.obs_time.specs.Dates.{DateExists, day_number, moment, IsCivilOf, day_of, ns_of_day}
use Rattle.obs_time.specs.DateText.{WrittenDate, HasDigits, date_text}
use Rattle.obs_time.specs.DayText.{WrittenDay, SpellsDay, IsMomentOf, IsDayAnswer, day_text, decimal_unit, day_fraction_of}
use Rattle.obs_time.specs.Rounding.{rounded, nearest_multiple}
use Rattle.obs_time.specs.WrittenText.{IsTextOf, day_text_of}
use Rattle.obs_time.proofs.YearLaws.{civil_date, same_parts, year_of_instant}
use Rattle.obs_time.proofs.DayLemmas.{unit_whole, unit_positive, decimals_below, decimals_are, decimals_exact}
use Rattle.obs_time.proofs.DayLaws.{day_judged, day_said, day_answered, day_answer_only}
use Rattle.obs_time.proofs.RoundingLemmas.{days_in_units, between_multiples, rounded_part}
use Rattle.ascii_text.specs.Laws.{TextLaws}
use Rattle.jiff_core.proofs.CalendarLemmas.{days_in_month_bounds}
use Rattle.ascii_text.specs.Blanks.{blanks}
use Rattle.obs_time.specs.declared.civil.Civil.{Civil}
use Rattle.obs_time.specs.Calendar.{date_of_day}
use Rattle.obs_time.specs.Written.{date_part}
use Rattle.obs_time.proofs.CalendarLaws.{ns_of_moment}

-- the nanoseconds that decimals stand for are fewer than a day's
ns_below : (day : WrittenDay) (t : ℤ) (is : IsMomentOf day t) → day.count ≤ 6 → day.decimals < 10 ^ day.count → is.ns < nanos_of_a_day
ns_below day t is few below =
    let units = unit_whole day.count few in
    rw (decimals_are day.decimals day.count _ _ is.ns units is.part) (decimals_below day.decimals day.count _ _ units (omega arith) below)

-- ---- the text of a rounded moment

-- a date that the calendar has needs no more digits than are written
pub digits_of_date : (year month day : ℕ) → year < 10 ^ 4 → DateExists year month day → HasDigits (record { year = year; month = month; day = day })
digits_of_date year month day few exists = record {
  year = few;
  month = omega (arith, signed_arith, exists.1.1);
  day = omega (arith, signed_arith, exists.2.1, days_in_month_bounds (pos year) month);
}

pub text_of : (t : ℤ) (count : ℕ) (civil : Civil) (value : ℕ) (text : List ℕ) → 1 ≤ count → count ≤ 6 → IsCivilOf (rounded t (decimal_unit count)) civil → civil.year ≤ 2200 → value ≡ civil.ns_of_day / decimal_unit count
    → text ≡ date_text 32 (record { year = civil.year; month = civil.month; day = civil.day }) (decimals_text count value ++ blanks (6 - count)) → IsTextOf t count text
text_of t count civil value text some few is year value_is spelling =
    let unit = decimal_unit count in
    let positive = unit_positive count few in
    let parts : 10 ^ count * unit ≡ nanos_of_a_day = mul_comm (10 ^ count) unit ∙ unit_whole count few in
    let whole : civil.ns_of_day / unit * unit ≡ civil.ns_of_day = rounded_part t (day_number civil.year civil.month civil.day) unit (10 ^ count) civil.ns_of_day positive parts is.exact in
    let exact : civil.ns_of_day ≡ value * unit = sym whole ∙ ap (λ (k : ℕ). k * unit) (sym value_is) in
    let below : civil.ns_of_day < 10 ^ count * unit = omega (arith, parts, is.time) in
    record {
      day = record { date = record { year = civil.year; month = civil.month; day = civil.day }; count = count; decimals = value };
      spelled = record {
        digits = digits_of_date civil.year civil.month civil.day (omega arith) is.date;
        some = some;
        decimals = omega (arith, value_is, div_below civil.ns_of_day unit (10 ^ count) positive below);
        space = 6 - count;
        spelling = spelling;
      };
      count_is = refl;
      exists = is.date;
      moment = record {
        ns = civil.ns_of_day;
        part = ap (λ (k : ℕ). k * 10 ^ count) exact ∙ decimals_exact value count _ _ (unit_whole count few);
        exact = is.exact;
      };
    }

-- that text, worked out
pub text_is : (t : ℤ) (count : ℕ) (civil : Civil) (value : ℕ) (text : List ℕ) → IsCivilOf (rounded t (decimal_unit count)) civil → date_part civil ≡ date_of_day (day_of (rounded t (decimal_unit count)))
    → value ≡ civil.ns_of_day / decimal_unit count → text ≡ date_text 32 (date_part civil) (decimals_text count value ++ blanks (6 - count)) → text ≡ day_text_of t count
unfolding day_text_of
text_is t count civil value text is date value_is spelling =
    let ns : ns_of_day (rounded t (decimal_unit count)) ≡ civil.ns_of_day = ap ns_of_day is.exact ∙ ns_of_moment (day_number civil.year civil.month civil.day) civil.ns_of_day is.time in
    let same : value ≡ ns_of_day (rounded t (decimal_unit count)) / decimal_unit count = value_is ∙ ap (λ (n : ℕ). n / decimal_unit count) (sym ns) in
    spelling ∙ ap (λ (d : WrittenDate). date_text 32 d (decimals_text count value ++ blanks (6 - count))) date
    ∙ ap (λ (v : ℕ). date_text 32 (date_of_day (day_of (rounded t (decimal_unit count)))) (decimals_text count v ++ blanks (6 - count))) same

-- ---- one text

same_moment : (m n : ℤ) (a b : ℕ) → a < nanos_of_a_day → b < nanos_of_a_day → moment m a ≡ moment n b → (m ≡ n) × (a ≡ b)
same_moment m n a b below_a below_b e = (omega (arith, signed_arith), omega (arith, signed_arith))

made_date : (year month day : ℕ) → DateExists year month day → Date
made_date year month day exists =
    let civil = civil_date year month day exists in
    record { year = pos year; month = month; day = day; year_in = civil.0; month_in = civil.1; day_in = civil.2 }

-- two dates with one day number are one
same_date : (a b : WrittenDate) → DateExists a.year a.month a.day → DateExists b.year b.month b.day → day_number a.year a.month a.day ≡ day_number b.year b.month b.day → a ≡ b
unfolding made_date
same_date a b exists_a exists_b e =
    let same = epoch_day_injective (made_date a.year a.month a.day exists_a) (made_date b.year b.month b.day exists_b) e in
    let year : a.year ≡ b.year = omega (arith, signed_arith, same.0) in
    same_parts a b year same.1 same.2

same_fields : (a b : WrittenDay) → a.date ≡ b.date → a.count ≡ b.count → a.decimals ≡ b.decimals → a ≡ b
same_fields a b date count decimals =
    ap (λ (d : WrittenDate). record { date = d; count = a.count; decimals = a.decimals }) date ∙ ap (λ (k : ℕ). record { date = b.date; count = k; decimals = a.decimals }) count ∙ ap (λ (k : ℕ). record { date = b.date; count = b.count; decimals = k }) decimals

-- two days with decimals that stand for one moment, with as many decimals, are one
same_day : (a b : WrittenDay) (t : ℤ) (is_a : IsMomentOf a t) (is_b : IsMomentOf b t) → is_a.ns < nanos_of_a_day → is_b.ns < nanos_of_a_day → a.count ≡ b.count → DateExists a.date.year a.date.month a.date.day → DateExists b.date.year b.date.month b.date.day → a ≡ b
same_day a b t is_a is_b below_a below_b count exists_a exists_b =
    let parts = same_moment (day_number a.date.year a.date.month a.date.day) (day_number b.date.year b.date.month b.date.day) is_a.ns is_b.ns below_a below_b (sym is_a.exact ∙ is_b.exact) in
    let date = same_date a.date b.date exists_a exists_b parts.0 in
    let power : 10 ^ a.count ≡ 10 ^ b.count = ap (λ (k : ℕ). 10 ^ k) count in
    let ns : is_a.ns * 10 ^ a.count ≡ is_b.ns * 10 ^ b.count = ap (λ (k : ℕ). k * 10 ^ a.count) parts.1 ∙ ap (λ (k : ℕ). is_b.ns * k) power in
    let decimals : a.decimals ≡ b.decimals = eq_of_mul-eq-mul_right nanos_of_a_day (omega arith) a.decimals b.decimals (sym is_a.part ∙ ns ∙ is_b.part) in
    same_fields a b date count decimals

-- ---- a text that was read

multiple_kept : (n unit : ℕ) → 0 < unit → n / unit * unit ≡ n → nearest_multiple n unit ≡ n
multiple_kept n unit positive multiple =
    let half : (n / unit * unit + unit / 2) / unit ≡ n / unit = div-mul-add (n / unit) unit (unit / 2) (omega arith) in
    ap (λ (k : ℕ). (k + unit / 2) / unit * unit) (sym multiple) ∙ ap (λ (k : ℕ). k * unit) half ∙ multiple

-- a moment that is a whole number of units stays where it is
rounded_kept : (t day : ℤ) (unit parts times : ℕ) → 0 < unit → parts * unit ≡ nanos_of_a_day → t ≡ moment day (times * unit) → rounded t unit ≡ t
rounded_kept (pos x) (pos d) unit parts times positive whole e =
    ap pos (multiple_kept x unit positive (between_multiples 0 (d * parts + times) x unit positive (omega (arith, signed_arith, days_in_units d parts unit nanos_of_a_day whole, add-mul (d * parts) times unit))))
rounded_kept (pos x) (negsuc d) unit parts times positive whole e =
    ap pos (multiple_kept x unit positive (between_multiples (suc d * parts) times x unit positive (omega (arith, signed_arith, days_in_units (suc d) parts unit nanos_of_a_day whole))))
rounded_kept (negsuc x) (pos d) unit parts times positive whole e =
    ap (λ (k : ℕ). neg_ℤ (pos k)) (multiple_kept (suc x) unit positive (between_multiples (d * parts + times) 0 (suc x) unit positive (omega (arith, signed_arith, days_in_units d parts unit nanos_of_a_day whole, add-mul (d * parts) times unit))))
rounded_kept (negsuc x) (negsuc d) unit parts times positive whole e =
    ap (λ (k : ℕ). neg_ℤ (pos k)) (multiple_kept (suc x) unit positive (between_multiples times (suc d * parts) (suc x) unit positive (omega (arith, signed_arith, days_in_units (suc d) parts unit nanos_of_a_day whole))))

-- what a text was read as, it is the text of
read_text : (text : List ℕ) (t : ℤ) (count : ℕ) → IsDayAnswer text (Ok (t, count)) → IsTextOf t count text
read_text text t count h =
    let said = day_said text t count h in
    let day = said.0 in
    let verdict = said.2 in
    let moment_is = verdict.3.0 in
    let few : count ≤ 6 = omega (arith, verdict.0, verdict.3.1) in
    let part : moment_is.ns ≡ day.decimals * decimal_unit count = decimals_are day.decimals day.count _ _ moment_is.ns (unit_whole day.count verdict.0) moment_is.part ∙ ap (λ (k : ℕ). day.decimals * decimal_unit k) (sym verdict.3.1) in
    let parts : 10 ^ count * decimal_unit count ≡ nanos_of_a_day = mul_comm (10 ^ count) (decimal_unit count) ∙ unit_whole count few in
    let number = day_number day.date.year day.date.month day.date.day in
    let exact : t ≡ moment number (day.decimals * decimal_unit count) = moment_is.exact ∙ ap (moment number) part in
    let kept = rounded_kept t number (decimal_unit count) (10 ^ count) day.decimals (unit_positive count few) parts exact in
    record { day = day; spelled = said.1; count_is = sym verdict.3.1; exists = verdict.2; moment = subst (IsMomentOf day) (sym kept) moment_is }

module _ (texts : TextLaws) where
  open texts use {length-digits_text, length-decimals_text, length-blanks}

  -- a written text is read as the rounded moment, where that is in range
  pub text_is_read : (t : ℤ) (count : ℕ) (text : List ℕ) → count ≤ 6 → IsTextOf t count text → IsInstantNs (rounded t (decimal_unit count)) → day_fraction_of text ≡ Ok (rounded t (decimal_unit count), count)
  text_is_read t count text few is range =
      let day = is.day in
      let some_few : day.count ≤ 6 = omega (arith, is.count_is) in
      let below = ns_below day (rounded t (decimal_unit count)) is.moment some_few is.spelled.decimals in
      let year = year_of_instant day.date.year day.date.month day.date.day is.moment.ns (rounded t (decimal_unit count)) is.exists below is.moment.exact range in
      sym (day_answer_only texts text (Ok (rounded t (decimal_unit count), count)) (inl (day, is.spelled, (day_judged day _).0 (some_few, year, is.exists, (is.moment, sym is.count_is)))))

  -- how long the text of a day with decimals is
  length-day_text : (day : WrittenDay) (space : ℕ) → 1 ≤ day.count → length (day_text day space) ≡ 11 + day.count + space
  length-day_text day space some =
      let width : decimals_width day.count ≡ day.count + 1 = grind arith in
      simp (length-append, length-digits_text, length-decimals_text, length-blanks) (omega (arith, width))

  -- two texts of one length that spell a day are one
  same_text : (day : WrittenDay) (a b : List ℕ) → SpellsDay day a → SpellsDay day b → length a ≡ length b → a ≡ b
  same_text day a b spelled_a spelled_b len =
      let space : spelled_a.space ≡ spelled_b.space = omega (arith, len, ap length spelled_a.spelling, ap length spelled_b.spelling, length-day_text day spelled_a.space spelled_a.some, length-day_text day spelled_b.space spelled_b.some) in
      spelled_a.spelling ∙ ap (day_text day) space ∙ sym spelled_b.spelling

  pub one_text : (t : ℤ) (count : ℕ) (a b : List ℕ) → count ≤ 6 → IsTextOf t count a → IsTextOf t count b → length a ≡ length b → a ≡ b
  one_text t count a b few is_a is_b len =
      let below_a = ns_below is_a.day (rounded t (decimal_unit count)) is_a.moment (omega (arith, is_a.count_is)) is_a.spelled.decimals in
      let below_b = ns_below is_b.day (rounded t (decimal_unit count)) is_b.moment (omega (arith, is_b.count_is)) is_b.spelled.decimals in
      let day = same_day is_a.day is_b.day (rounded t (decimal_unit count)) is_a.moment is_b.moment below_a below_b (is_a.count_is ∙ sym is_b.count_is) is_a.exists is_b.exists in
      same_text is_b.day a b (subst (λ (d : WrittenDay). SpellsDay d a) day is_a.spelled) is_b.spelled len

  -- a text that was read is the text that is written with its decimals
  pub text_is_kept : (t : ℤ) (count : ℕ) (written text : List ℕ) → count ≤ 6 → IsTextOf t count written → length text ≡ length written → day_fraction_of text ≡ Ok (t, count) → text ≡ written
  text_is_kept t count written text few is len read =
      let answered : IsDayAnswer text (Ok (t, count)) = subst (λ (r : Result (ℤ × ℕ) TimeFault). IsDayAnswer text r) read (day_answered texts text) in
      one_text t count text written few (read_text text t count answered) is len

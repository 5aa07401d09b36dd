-- The text of a moment: its numbers are the only ones with nine decimals that stand for it.
use Rattle.std.proofs.Common.{arith, ◌≡◌, ℕ, ◌+◌, ◌*◌, ◌-◌, ◌/◌, ◌%◌, ◌^◌, ◌<◌, inl, List, length, refl, sym, ap, subst, ◌∙◌, ℤ, length-append}
use Rattle.std.specs.Prelude.{Ok}
use Rattle.std.proofs.lemmas.Nat.{div-mul-add, mod-mul-add, div-add-mod'}
use Rattle.ascii_text.specs.Digits.{decimals_width}
use Rattle.obs_time.specs.declared.civil.Civil.{Civil}
use Rattle.obs_time.specs.Instants.{nanos_of_a_day}
use Rattle.obs_time.specs.Dates.{IsObservedYear, IsCivilOf, day_number, day_of, ns_of_day, moment}
use Rattle.obs_time.specs.DateText.{WrittenDate}
use Rattle.obs_time.specs.Calendar.{date_of_day}
use Rattle.obs_time.specs.Written.{date_part}
use Rattle.obs_time.specs.IsoText.{WrittenClock, WrittenIso, SpellsIso, IsIsoVerdict, spelled_iso, seconds_of, nanos_of_a_second, clock_of, iso_numbers, iso_text, iso_of}
use Rattle.obs_time.proofs.CalendarLaws.{date_of_day_number, day_of_moment, ns_of_moment}
use Rattle.obs_time.proofs.TextLaws.{digits_of_date}
use Rattle.obs_time.proofs.DayLemmas.{decimals_are}
use Rattle.obs_time.proofs.IsoLaws.{second_in_units, seconds_below, seconds_of_clock, clock_in_day, clock_of_seconds}
use Rattle.obs_time.proofs.IsoLaws.{iso_judged, iso_said, iso_answered, iso_answer_only}
use Rattle.ascii_text.specs.Laws.{TextLaws}

same_numbers : (a b : WrittenIso) → a.date ≡ b.date → a.clock ≡ b.clock → a.count ≡ b.count → a.decimals ≡ b.decimals → a ≡ b
same_numbers a b date clock count decimals =
    ap (λ (d : WrittenDate). record { date = d; clock = a.clock; count = a.count; decimals = a.decimals }) date
    ∙ ap (λ (c : WrittenClock). record { date = b.date; clock = c; count = a.count; decimals = a.decimals }) clock
    ∙ ap (λ (k : ℕ). record { date = b.date; clock = b.clock; count = k; decimals = a.decimals }) count
    ∙ ap (λ (k : ℕ). record { date = b.date; clock = b.clock; count = b.count; decimals = k }) decimals

-- nine decimals that stand for a moment of an observed year are its numbers
numbers_are : (iso : WrittenIso) (t : ℤ) → IsIsoVerdict iso (Ok t) → iso.count ≡ 9 → iso.decimals < 10 ^ iso.count → iso ≡ iso_numbers t
unfolding iso_numbers
numbers_are iso t is count below =
    let at = is.3 in
    let number = day_number iso.date.year iso.date.month iso.date.day in
    let seconds = seconds_of iso.clock in
    let decimals : iso.decimals < nanos_of_a_second = subst (λ (k : ℕ). iso.decimals < 10 ^ k) count below in
    let part : at.ns ≡ iso.decimals = decimals_are iso.decimals iso.count _ _ at.ns (second_in_units iso.count is.0) at.part ∙ ap (λ (k : ℕ). iso.decimals * 10 ^ (9 - k)) count ∙ omega arith in
    let exact : t ≡ moment number (seconds * nanos_of_a_second + iso.decimals) = at.exact ∙ ap (λ (n : ℕ). moment number (seconds * nanos_of_a_second + n)) part in
    let within : seconds * nanos_of_a_second + iso.decimals < nanos_of_a_day = omega (arith, seconds_below iso.clock is.1.0) in
    let day : day_of t ≡ number = ap day_of exact ∙ day_of_moment number (seconds * nanos_of_a_second + iso.decimals) within in
    let ns : ns_of_day t ≡ seconds * nanos_of_a_second + iso.decimals = ap ns_of_day exact ∙ ns_of_moment number (seconds * nanos_of_a_second + iso.decimals) within in
    let whole : ns_of_day t / nanos_of_a_second ≡ seconds = ap (λ (n : ℕ). n / nanos_of_a_second) ns ∙ div-mul-add seconds nanos_of_a_second iso.decimals decimals in
    let rest : ns_of_day t % nanos_of_a_second ≡ iso.decimals = ap (λ (n : ℕ). n % nanos_of_a_second) ns ∙ mod-mul-add seconds nanos_of_a_second iso.decimals decimals in
    same_numbers iso (record { date = date_of_day (day_of t); clock = clock_of (ns_of_day t / nanos_of_a_second); count = 9; decimals = ns_of_day t % nanos_of_a_second })
    (date_of_day_number iso.date is.2 (omega (arith, is.1.1.0)) (omega (arith, is.1.1.1)) ∙ ap date_of_day (sym day))
    (clock_of_seconds iso.clock is.1.0 ∙ ap clock_of (sym whole))
    count
    (sym rest)

-- ---- the numbers that are written

abbrev pub civil_numbers : Civil → WrittenIso
civil_numbers civil = record { date = date_part civil; clock = clock_of (civil.ns_of_day / nanos_of_a_second); count = 9; decimals = civil.ns_of_day % nanos_of_a_second }

civil_stands : (t : ℤ) (civil : Civil) → IsCivilOf t civil → IsObservedYear civil.year → IsIsoVerdict (civil_numbers civil) (Ok t)
civil_stands t civil is year =
    let seconds = civil.ns_of_day / nanos_of_a_second in
    let below : seconds < 86_400 = omega (arith, is.time) in
    let ns : seconds_of (clock_of seconds) * nanos_of_a_second + civil.ns_of_day % nanos_of_a_second ≡ civil.ns_of_day =
    ap (λ (s : ℕ). s * nanos_of_a_second + civil.ns_of_day % nanos_of_a_second) (seconds_of_clock seconds) ∙ div-add-mod' civil.ns_of_day nanos_of_a_second in
    let exact = is.exact ∙ ap (moment (day_number civil.year civil.month civil.day)) (sym ns) in
    (omega arith, (clock_in_day seconds below, year), is.date, record { ns = civil.ns_of_day % nanos_of_a_second; part = refl; exact = exact })

pub civil_text : (t : ℤ) (civil : Civil) → IsCivilOf t civil → IsObservedYear civil.year → spelled_iso (civil_numbers civil) ≡ iso_text t
unfolding iso_text
civil_text t civil is year = ap spelled_iso (numbers_are (civil_numbers civil) t (civil_stands t civil is year) refl (omega arith))

nine_wide : (count : ℕ) → decimals_width count ≡ 10 → count ≡ 9
nine_wide count wide = grind arith

module _ (texts : TextLaws) where
  open texts use {length-digits_text, length-decimals_text}

  -- the text is read as the moment
  pub civil_is_read : (t : ℤ) (civil : Civil) → IsCivilOf t civil → IsObservedYear civil.year → iso_of (spelled_iso (civil_numbers civil)) ≡ Ok t
  civil_is_read t civil is year =
      let iso = civil_numbers civil in
      let stands = civil_stands t civil is year in
      let spelled : SpellsIso iso (spelled_iso iso) = record {
        date = digits_of_date civil.year civil.month civil.day (omega (arith, year.1)) is.date;
        clock = record { hour = omega (arith, stands.1.0.hour); minute = omega (arith, stands.1.0.minute); second = omega (arith, stands.1.0.second) };
        decimals = omega arith;
        spelling = refl;
      } in
      sym (iso_answer_only texts (spelled_iso iso) (Ok t) (inl (iso, spelled, (iso_judged iso (Ok t)).0 stands)))

  -- ---- a text that was read

  -- how long the text of an ISO time is
  length-spelled_iso : (iso : WrittenIso) → length (spelled_iso iso) ≡ 20 + decimals_width iso.count
  length-spelled_iso iso = simp (length-append, length-digits_text, length-decimals_text) (omega arith)

  -- a text with nine decimals that is read as a moment is the moment's text
  pub text_is_its : (t : ℤ) (text : List ℕ) → length text ≡ 30 → iso_of text ≡ Ok t → text ≡ iso_text t
  unfolding iso_text
  text_is_its t text len read =
      let said = iso_said text t (rw read at (iso_answered texts text)) in
      let iso = said.0 in
      let spelled = said.1 in
      let count : iso.count ≡ 9 = nine_wide iso.count (omega (arith, len, ap length spelled.spelling, length-spelled_iso iso)) in
      spelled.spelling ∙ ap spelled_iso (numbers_are iso t said.2 count spelled.decimals)

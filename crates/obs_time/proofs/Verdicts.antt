-- The tests of the judges tell what is to be said, and nothing else is.
use Rattle.std.proofs.Common.{◌≡◌, ℕ, ◌≤◌, Bool, true, false, cond, ◌&&◌, refl, sym, ap, ◌∙◌, arith, ℤ, pos, ◌↔◌}
use Rattle.std.specs.Prelude.{Result, Ok, Err}
use Rattle.std.specs.Bool.{Decides}
use Rattle.std.specs.Result.{result_map_both}
use Rattle.std.proofs.lemmas.Bool.{false_from_ne_true}
use Rattle.std.proofs.lemmas.Bool.Decides.{nat_tests, not_from_Decides}
use Rattle.jiff_core.specs.Calendar.{days_in_month}
use Rattle.jiff_core.proofs.SignedLemmas.{signed_arith}
use Rattle.obs_time.specs.declared.fault.TimeFault.{TimeFault}
use Rattle.obs_time.specs.declared.fault.TimeFault.TheVariants.{Spelling, NoSuchDate, Range, Decimals}
use Rattle.obs_time.specs.Dates.{DateExists, IsObservedYear, day_number}
use Rattle.obs_time.specs.DateText.{WrittenDate, is_observed_year, date_exists, judge_date, IsDateVerdict}
use Rattle.obs_time.specs.Verdicts.{IsVerdict}

-- the value where the tests pass, else the first that is wrong
abbrev pub word_of : {V : Type 0} → Bool → Bool → Bool → V → Result V TimeFault
word_of few range exists value = cond few (cond range (cond exists (Ok value) (Err NoSuchDate)) (Err Range)) (Err Decimals)

-- the word on what is made of a date, from the word on the date
pub word_of-date : {V : Type 0} (f : ℤ → V) (few clock year exists : Bool) (number : ℤ)
    → cond few (cond clock (result_map_both f (λ fault. fault) (word_of true year exists number)) (Err Range)) (Err Decimals) ≡ word_of few (clock && year) exists (f number)
word_of-date f false clock year exists number = refl
word_of-date f true false year exists number = refl
word_of-date f true true false exists number = refl
word_of-date f true true true false number = refl
word_of-date f true true true true number = refl

module _ {V : Type 0} (Few InRange Exists : Type 0) (IsRight : V → Type 0) where
  -- the tests tell the facts, and one value is right
  pub record Tells (few range exists : Bool) (value : V) : Type 0 where
    pub few_tells : Decides few Few
    pub range_tells : Decides range InRange
    pub exists_tells : InRange → Decides exists Exists
    pub right : Few → IsRight value
    pub only : Few → (other : V) → IsRight other → other ≡ value

  said : (few range exists : Bool) (value : V) → Tells few range exists value → IsVerdict Few InRange Exists IsRight (word_of few range exists value)
  said false range exists value is = not_from_Decides false is.few_tells refl
  said true false exists value is = (is.few_tells.0 refl, not_from_Decides false is.range_tells refl)
  said true true false value is = let range = is.range_tells.0 refl in (is.few_tells.0 refl, range, not_from_Decides false (is.exists_tells range) refl)
  said true true true value is =
      let few = is.few_tells.0 refl in
      let range = is.range_tells.0 refl in
      (few, range, (is.exists_tells range).0 refl, is.right few)

  only_said : (few range exists : Bool) (value : V) → Tells few range exists value → (answer : Result V TimeFault) → IsVerdict Few InRange Exists IsRight answer → answer ≡ word_of few range exists value
  only_said few range exists value is (Ok other) h = rw (is.few_tells.1 h.0, is.range_tells.1 h.1, (is.exists_tells h.1).1 h.2) (ap (λ (v : V). Ok v) (is.only h.0 other h.3))
  only_said few range exists value is (Err Spelling) h = absurd h
  only_said few range exists value is (Err Decimals) h = rw (false_from_ne_true few (λ e. h (is.few_tells.0 e))) refl
  only_said few range exists value is (Err Range) h = rw (is.few_tells.1 h.0, false_from_ne_true range (λ e. h.1 (is.range_tells.0 e))) refl
  only_said few range exists value is (Err NoSuchDate) h =
      rw (is.few_tells.1 h.0, is.range_tells.1 h.1, false_from_ne_true exists (λ e. h.2 ((is.exists_tells h.1).0 e))) refl

  -- the judge's word is the one verdict
  pub one_verdict : (few range exists : Bool) (value : V) → Tells few range exists value → (word answer : Result V TimeFault) → word ≡ word_of few range exists value
      → IsVerdict Few InRange Exists IsRight answer ↔ (answer ≡ word)
  one_verdict few range exists value is word answer e =
      (λ h. only_said few range exists value is answer h ∙ sym e, λ same. rw (same ∙ e) (said few range exists value is))

-- the test of a year
pub observed_year : (year : ℕ) → Decides (is_observed_year year) (IsObservedYear year)
observed_year year = (λ e. (grind (arith, nat_tests), grind (arith, nat_tests)), λ h. grind (arith, nat_tests, h.0, h.1))

-- the test of a date, in a year that the calendar's library has
pub existing_date : (year month day : ℕ) → IsObservedYear year → Decides (date_exists year month day) (DateExists year month day)
existing_date year month day observed = (
  λ e.
      let within : (1 ≤ month) × (month ≤ 12) × (1 ≤ day) × (day ≤ days_in_month (pos year) month) = (grind (arith, nat_tests), grind (arith, nat_tests), grind (arith, nat_tests), grind (arith, nat_tests)) in
      ((omega (arith, signed_arith), omega (arith, signed_arith)), (omega (arith, signed_arith), omega (arith, signed_arith)), (omega (arith, signed_arith), omega (arith, signed_arith))),
  λ h.
      let within : (1 ≤ month) × (month ≤ 12) × (1 ≤ day) × (day ≤ days_in_month (pos year) month)
      = (omega (arith, signed_arith, h.1.0), omega (arith, signed_arith, h.1.1), omega (arith, signed_arith, h.2.0), omega (arith, signed_arith, h.2.1)) in
      grind (arith, nat_tests, within.0, within.1, within.2, within.3),
)

pub date_judged : (date : WrittenDate) (answer : Result ℤ TimeFault) → IsDateVerdict date answer ↔ (answer ≡ judge_date date)
unfolding judge_date
date_judged date answer =
    one_verdict _ _ _ _ true (is_observed_year date.year) (date_exists date.year date.month date.day) (day_number date.year date.month date.day)
    (record { few_tells = (λ _. tt, λ _. refl); range_tells = observed_year date.year; exists_tells = existing_date date.year date.month date.day; right = λ _. refl; only = λ _ other is. is })
    (judge_date date) answer refl

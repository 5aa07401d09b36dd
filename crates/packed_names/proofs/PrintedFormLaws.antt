-- Printed numbers, half-months and designations: what is written is read, and what is read was written.
use Rattle.std.proofs.Common.{◌≡◌, ℕ, zero, suc, ◌^◌, ◌<◌, ◌≤◌, Bool, true, false, cond, eqb, List, [], ◌∷◌, ◌++◌, length, drop, Option, Some, None, refl, sym, ap, ◌∙◌, arith}
use Rattle.std.specs.Fmt.{decimal}
use Rattle.std.specs.Str.Parse.{AllDigits}
use Rattle.std.proofs.lemmas.Bool.{ne_eqb}
use Rattle.std.proofs.lemmas.Bool.Decides.{nat_tests}
use Rattle.std.proofs.lemmas.Fmt.{decimal_is_IsNumeral, decimal_nonempty}
use Rattle.std.proofs.lemmas.List.{append-nil, length-append, drop_at}
use Rattle.ascii_text.specs.declared.digits.Radix.TheVariants.{Ten}
use Rattle.ascii_text.specs.Digits.{digits_text}
use Rattle.ascii_text.specs.Reading.{bind_some, ◌>>=◌, behind, digit_run, number_at, digits_at}
use Rattle.packed_names.specs.declared.survey.Survey.{Survey}
use Rattle.packed_names.specs.declared.survey.Survey.TheVariants.{PalomarLeiden}
use Rattle.packed_names.specs.Ends.{whole}
use Rattle.packed_names.specs.Printed.{cycle_text, suffix, survey_text, half_text, provisional_text, FitsPrintedHalf, FitsPrinted}
use Rattle.packed_names.specs.PrintedReading.{number_in, cycle_in, suffix_of, suffix_in, survey_in, half_at, half_in, provisional_in}
use Rattle.packed_names.proofs.Chains.{each, made, ended, none_from}
use Rattle.ascii_text.specs.Judged.{IsReader}
use Rattle.packed_names.specs.declared.half_month.HalfMonth.{HalfMonth}
use Rattle.packed_names.specs.declared.provisional.Provisional.{Provisional}
use Rattle.packed_names.specs.declared.name.Designation.TheVariants as designations
use Rattle.packed_names.specs.declared.name.Name.TheVariants as names
use Rattle.packed_names.specs.Spellings.{Spells}
use Rattle.packed_names.specs.Letters.{letter_of, letter_at}
use Rattle.packed_names.specs.Orders.{letter_index, cycle_of, order_of}
use Rattle.packed_names.proofs.PartLaws.{letter_at-letter_of, letter_at_takes, letter_index-order_of, cycle_of-order_of, order_of-cycle_of, letter_index-lt}
use Rattle.ascii_text.specs.Laws.{TextLaws}

-- a number at the end of a text is read to the end
nothing_ends : digit_run [] ≡ 0
unfolding digit_run
nothing_ends = refl

-- ---- digits before a blank

all_digits-decimal : (number : ℕ) → number < 10 ^ 10 → AllDigits 10 (decimal number)
all_digits-decimal number below = (decimal_is_IsNumeral number (omega arith)).0.1

blank_ends : (rest : List ℕ) → digit_run (32 ∷ rest) ≡ 0
unfolding digit_run
blank_ends rest = refl

-- what stands after the first blank
pub behind_blank : (one other rest after : List ℕ) → digit_run (one ++ (32 ∷ rest)) ≡ length one → digit_run (other ++ (32 ∷ after)) ≡ length other → one ++ (32 ∷ rest) ≡ other ++ (32 ∷ after) → 32 ∷ rest ≡ 32 ∷ after
behind_blank one other rest after ends_one ends_other same =
    let lengths : length one ≡ length other = sym ends_one ∙ ap digit_run same ∙ ends_other in
    sym (drop_at one (32 ∷ rest) (length other) lengths) ∙ ap (drop (length other)) same ∙ drop_at other (32 ∷ after) (length other) refl

-- ---- cycles

cycle_in-some : (text : List ℕ) → 0 < length text → cycle_in text ≡ (number_at 7 text >>= λ cycle. cond (eqb cycle.0 0) None (whole cycle.0 cycle.1))
unfolding cycle_in
cycle_in-some [] some = absurd (omega arith)
cycle_in-some (first ∷ text) some = refl

cycle_text-some : (cycle : ℕ) → (cycle ≡ 0 → ⊥) → cycle_text cycle ≡ decimal cycle
unfolding cycle_text
cycle_text-some zero some = absurd (some refl)
cycle_text-some (suc before) some = refl

not_none : {A : Type 0} (b : Bool) (other : Option A) (y : A) → cond b None other ≡ Some y → (b ≡ false) × (other ≡ Some y)
not_none true other y e = absurd cc
not_none false other y e = (refl, e)

-- ---- survey designations

suffix_in-suffix : (survey : Survey) → suffix_in (suffix survey) ≡ Some survey
unfolding suffix_in suffix_of suffix
suffix_in-suffix PalomarLeiden = refl
suffix_in-suffix survey = refl

suffix-suffix_of : (first second third : ℕ) (survey : Survey) → suffix_of first second third ≡ Some survey → first ∷ second ∷ third ∷ [] ≡ suffix survey
unfolding suffix_of suffix
suffix-suffix_of first second third survey read = grind (arith, nat_tests)

suffix_takes : (text : List ℕ) (survey : Survey) → suffix_in text ≡ Some survey → text ≡ suffix survey
unfolding suffix_in
suffix_takes (first ∷ second ∷ third ∷ []) survey read = suffix-suffix_of first second third survey read
suffix_takes text survey read = absurd cc

module _ (texts : TextLaws) where
  open texts use {digit_run-all, length-digits_text, behind-cons, behind_takes, digit_run-digits_text, number_again, number_takes}

  pub digit_run-decimal : (number : ℕ) (rest : List ℕ) → number < 10 ^ 10 → digit_run (decimal number ++ (32 ∷ rest)) ≡ length (decimal number)
  digit_run-decimal number rest below = omega (arith, digit_run-all (decimal number) (32 ∷ rest) (all_digits-decimal number below), blank_ends rest)

  number_again_whole : (most number : ℕ) → 0 < most → most ≤ 18 → number < 10 ^ most → number_at most (decimal number) ≡ Some (number, [])
  number_again_whole most number some few below =
      ap (number_at most) (sym (append-nil (decimal number))) ∙ number_again most number [] some few below nothing_ends

  -- ---- numbers

  pub decimal_in : (number : ℕ) → number < 10 ^ 10 → number_in (decimal number) ≡ Some number
  unfolding number_in
  decimal_in number below =
      rw (number_again_whole 10 number (omega arith) (omega arith) below) refl

  pub number_in_takes : (text : List ℕ) (number : ℕ) → number_in text ≡ Some number → (text ≡ decimal number) × (number < 10 ^ 10)
  unfolding number_in
  number_in_takes text =
      each (number_at 10 text) _ _ (λ number a. ended _ number.1 _ (λ end.
      let took = number_takes 10 text number (omega arith) a in
      (cc (took.text_is, end, append-nil (decimal number.0)), took.below)))

  pub digit_run-year : (year : ℕ) (rest : List ℕ) → year < 10 ^ 4 → digit_run (digits_text Ten 4 year ++ (32 ∷ rest)) ≡ length (digits_text Ten 4 year)
  digit_run-year year rest below = omega (arith, digit_run-digits_text 4 year (32 ∷ rest) below, length-digits_text Ten 4 year, blank_ends rest)

  -- a text with a blank after its digits is no printed number
  pub no_number : (digits rest : List ℕ) → digit_run (digits ++ (32 ∷ rest)) ≡ length digits → number_in (digits ++ (32 ∷ rest)) ≡ None
  no_number digits rest ends = none_from (number_in (digits ++ (32 ∷ rest))) (λ number read.
      let took = number_in_takes (digits ++ (32 ∷ rest)) number read in
      let run : digit_run (decimal number) ≡ length (decimal number) =
      ap digit_run (sym (append-nil (decimal number))) ∙ digit_run-all (decimal number) [] (all_digits-decimal number took.1) ∙ omega (arith, nothing_ends) in
      omega (arith, ends, ap digit_run took.0, ap length took.0, run, length-append digits (32 ∷ rest)))

  pub cycle_again : (cycle : ℕ) → cycle < 10 ^ 7 → cycle_in (cycle_text cycle) ≡ Some cycle
  unfolding cycle_text cycle_in
  cycle_again zero below = refl
  cycle_again (suc before) below =
      let read = number_again_whole 7 (suc before) (omega arith) (omega arith) below in
      let some : eqb (suc before) 0 ≡ false = ne_eqb (suc before) 0 (λ e. omega arith) in
      cycle_in-some (decimal (suc before)) (decimal_nonempty (suc before) (omega arith)) ∙ rw (read, some) refl

  pub cycle_takes : (text : List ℕ) (cycle : ℕ) → cycle_in text ≡ Some cycle → (text ≡ cycle_text cycle) × (cycle < 10 ^ 7)
  unfolding cycle_in cycle_text
  cycle_takes [] cycle read = made 0 (λ (c : ℕ). ([] ≡ cycle_text c) × (c < 10 ^ 7)) (refl, omega arith) cycle read
  cycle_takes (first ∷ text) cycle read =
      let a = bind_some (number_at 7 (first ∷ text)) (λ cycle. cond (eqb cycle.0 0) None (whole cycle.0 cycle.1)) cycle read in
      let kept = not_none (eqb a.0.0 0) (whole a.0.0 a.0.1) cycle a.2 in
      ended a.0.0 a.0.1 (λ (c : ℕ). (first ∷ text ≡ cycle_text c) × (c < 10 ^ 7)) (λ end.
      let took = number_takes 7 (first ∷ text) a.0 (omega arith) a.1 in
      let some : a.0.0 ≡ 0 → ⊥ = λ zero_is. (let test = kept.0 in grind (arith, nat_tests)) in
      (cc (took.text_is, end, append-nil (decimal a.0.0), cycle_text-some a.0.0 some), took.below)) cycle kept.1

  pub survey_again : (survey : Survey) (number : ℕ) → number < 10 ^ 5 → survey_in (survey_text survey number) ≡ Some (survey, number)
  unfolding survey_in survey_text
  survey_again survey number below =
      rw (number_again 5 number (32 ∷ suffix survey) (omega arith) (omega arith) below (blank_ends (suffix survey)), behind-cons 32 (suffix survey), suffix_in-suffix survey) refl

  pub survey_takes : (text : List ℕ) (x : Survey × ℕ) → survey_in text ≡ Some x → (text ≡ survey_text x.0 x.1) × (x.1 < 10 ^ 5)
  unfolding survey_in survey_text
  survey_takes text =
      each (number_at 5 text) _ _ (λ number a. each (behind 32 number.1) _ _ (λ letters b. each (suffix_in letters) _ _ (λ survey c.
      let number_is = number_takes 5 text number (omega arith) a in
      made _ _ (cc (number_is.text_is, behind_takes 32 number.1 letters b, suffix_takes letters survey c), number_is.below))))

-- ---- half-months

-- a half-month before a text
half_front : HalfMonth → List ℕ → List ℕ
half_front half rest = digits_text Ten 4 half.year ++ (32 ∷ letter_of half.index ∷ rest)

-- the second character of a suffix is no letter
not_suffix : (survey : Survey) (half order : ℕ) (rest : List ℕ) → 65 ≤ order → 32 ∷ half ∷ order ∷ rest ≡ 32 ∷ suffix survey → ⊥
unfolding suffix
not_suffix PalomarLeiden half order rest letter same = (let dash : order ≡ 45 = cc in omega arith)
not_suffix survey half order rest letter same = (let dash : order ≡ 45 = cc in omega arith)

letter_of-ge : (index : ℕ) → 65 ≤ letter_of index
letter_of-ge index = grind (arith, nat_tests)

module _ (texts : TextLaws) where
  open texts use {digits_again, digits_takes, behind-cons, behind_takes}

  half_again : (half : HalfMonth) (rest : List ℕ) → FitsPrintedHalf half → half_at (half_front half rest) ≡ Some (half, rest)
  unfolding half_at half_front
  half_again half rest fits =
      rw (digits_again Ten 4 half.year _ fits.0, behind-cons 32 _, letter_at-letter_of 24 half.index rest fits.1 (omega arith)) refl

  half_takes : (text : List ℕ) (x : HalfMonth × List ℕ) → half_at text ≡ Some x → (text ≡ half_front x.0 x.1) × FitsPrintedHalf x.0
  unfolding half_at half_front
  half_takes text =
      each (digits_at Ten 4 text) _ _ (λ year a. each (behind 32 year.1) _ _ (λ blank b. each (letter_at 24 blank) _ _ (λ half c.
      let year_is = digits_takes Ten 4 text year.0 year.1 a in
      let letter_is = letter_at_takes 24 blank half c in
      made _ _ (cc (year_is.0, behind_takes 32 year.1 blank b, letter_is.0), (year_is.1, letter_is.1)))))

  half_in_again : (half : HalfMonth) → FitsPrintedHalf half → half_in (half_text half) ≡ Some half
  unfolding half_in half_text half_front
  half_in_again half fits = rw (half_again half [] fits) refl

  half_in_takes : (text : List ℕ) (half : HalfMonth) → half_in text ≡ Some half → Spells FitsPrintedHalf half_text half text
  unfolding half_in half_text half_front
  half_in_takes text =
      each (half_at text) _ _ (λ half a. ended half.0 half.1 _ (λ end.
      let took = half_takes text half a in
      record { within = took.1; text_is = took.0 ∙ ap (half_front half.0) end }))

  pub half_reader : IsReader (Spells FitsPrintedHalf half_text) half_in
  half_reader = record {
    again = λ half text shows. ap half_in shows.text_is ∙ half_in_again half shows.within;
    takes = half_in_takes;
  }

  -- ---- provisional designations

  pub provisional_again : (provisional : Provisional) → FitsPrinted (names.Designation (designations.Provisional provisional)) → provisional_in (provisional_text provisional) ≡ Some provisional
  unfolding provisional_in provisional_text half_front
  provisional_again provisional fits =
      let half = half_again provisional.half (letter_of (letter_index provisional.order) ∷ cycle_text (cycle_of provisional.order)) fits.0 in
      let letter = letter_at-letter_of 25 (letter_index provisional.order) (cycle_text (cycle_of provisional.order)) (letter_index-lt provisional.order) (omega arith) in
      let cycle = cycle_again texts (cycle_of provisional.order) fits.2 in
      let order : order_of (cycle_of provisional.order) (letter_index provisional.order) ≡ provisional.order = order_of-cycle_of provisional.order fits.1 in
      rw (half, letter, cycle, order) refl

  pub provisional_takes : (text : List ℕ) (provisional : Provisional) → provisional_in text ≡ Some provisional → (text ≡ provisional_text provisional) × FitsPrinted (names.Designation (designations.Provisional provisional))
  unfolding provisional_in provisional_text half_front
  provisional_takes text =
      each (half_at text) _ _ (λ half a. each (letter_at 25 half.1) _ _ (λ letter b. each (cycle_in letter.1) _ _ (λ cycle c.
      let half_is = half_takes text half a in
      let letter_is = letter_at_takes 25 half.1 letter b in
      let cycle_is = cycle_takes texts letter.1 cycle c in
      let order = order_of cycle letter.0 in
      let cycle_back : cycle_of order ≡ cycle = cycle_of-order_of cycle letter.0 letter_is.1 in
      let letter_back : letter_index order ≡ letter.0 = letter_index-order_of cycle letter.0 letter_is.1 in
      let parts : half.1 ≡ letter_of letter.0 ∷ cycle_text cycle = cc (letter_is.0, cycle_is.0) in
      made _ _ (rw (cycle_back, letter_back) (half_is.0 ∙ ap (half_front half.0) parts), (half_is.1, omega arith, omega (arith, cycle_back, cycle_is.1))))))

  -- ---- no text has two shapes

  pub provisional_no_number : (provisional : Provisional) → FitsPrinted (names.Designation (designations.Provisional provisional)) → number_in (provisional_text provisional) ≡ None
  unfolding provisional_text
  provisional_no_number provisional fits =
      no_number texts (digits_text Ten 4 provisional.half.year) (letter_of provisional.half.index ∷ letter_of (letter_index provisional.order) ∷ cycle_text (cycle_of provisional.order)) (digit_run-year texts provisional.half.year _ fits.0.0)

  pub survey_no_number : (survey : Survey) (number : ℕ) → number < 10 ^ 5 → number_in (survey_text survey number) ≡ None
  unfolding survey_text
  survey_no_number survey number below = no_number texts (decimal number) (suffix survey) (digit_run-decimal texts number (suffix survey) (omega arith))

  pub survey_no_provisional : (survey : Survey) (number : ℕ) → number < 10 ^ 5 → provisional_in (survey_text survey number) ≡ None
  unfolding survey_text provisional_text
  survey_no_provisional survey number below = none_from (provisional_in (survey_text survey number)) (λ provisional read.
      let took = provisional_takes (survey_text survey number) provisional read in
      let rest : List ℕ = letter_of provisional.half.index ∷ letter_of (letter_index provisional.order) ∷ cycle_text (cycle_of provisional.order) in
      let same = behind_blank (digits_text Ten 4 provisional.half.year) (decimal number) rest (suffix survey) (digit_run-year texts provisional.half.year rest took.1.0.0) (digit_run-decimal texts number (suffix survey) (omega arith)) (sym took.0) in
      not_suffix survey (letter_of provisional.half.index) (letter_of (letter_index provisional.order)) (cycle_text (cycle_of provisional.order)) (letter_of-ge (letter_index provisional.order)) same)

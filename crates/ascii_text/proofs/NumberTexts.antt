-- Numbers of all the digits that stand at the front, with and without leading zeros, and decimals.
use Rattle.std.proofs.Common.{◌≡◌, ℕ, zero, suc, ◌+◌, ◌-◌, ◌*◌, ◌/◌, ◌%◌, ◌^◌, ◌<◌, ◌≤◌, Bool, true, false, cond, eqb, ltb, ◌&&◌, ◌||◌, List, [], ◌∷◌, ◌++◌, length, get_or, drop, decimal, Option, Some, None, refl, sym, ap, subst, ◌∙◌, arith}
use Rattle.std.proofs.Math.Nat.{pow-zero, pow-suc, div-lt_iff_lt-mul}
use Rattle.std.proofs.lemmas.Bool.{eqb-true, eqb-false, le-ltb, lt-ltb, ltb-false, ne_eqb}
use Rattle.std.proofs.lemmas.Bool.Decides.{nat_tests}
use Rattle.std.proofs.lemmas.Fmt.{digits_decimal, digits_value-decimal, decimal-digits_value, decimal_nonempty, first_decimal, length-decimal-le, decimal_digit}
use Rattle.std.proofs.lemmas.List.{append-nil, drop-drop, get_or_append_left, nil_from_length}
use Rattle.std.proofs.lemmas.List.Sums.{prefix_len-le-length}
use Rattle.std.proofs.lemmas.Nat.{mod_below}
use Rattle.std.proofs.lemmas.Option.{cond_some, same_Some}
use Rattle.std.proofs.lemmas.Str.Parse.{IsNumeralModel, numerals_by_fold, tells_digits}
use Rattle.std.specs.Char.{is_ascii_digit}
use Rattle.std.specs.Int.{IsInRange}
use Rattle.std.specs.Option.{option_map}
use Rattle.std.specs.Str.Parse.{AllDigits}
use Rattle.ascii_text.specs.declared.digits.Radix.TheVariants.{Ten}
use Rattle.ascii_text.specs.Digits.{digits_text, decimals_text}
use Rattle.ascii_text.specs.Reading.{◌>>=◌, bind_some, digit_value, digit_at, more_digits, digits_at, behind, digit_run, run_at, run_within, at_most, decimals_at, decimals_within, number_at}
use Rattle.ascii_text.specs.Judged.{IsReader}
use Rattle.ascii_text.specs.DecimalNumbers.{NumberParts, IsSpelledNumber, number_spelling, made_number, whole_at, number_parts_at, within}
use Rattle.ascii_text.specs.Written.{number_within}
use Rattle.ascii_text.specs.Laws.{TakesRun, TakesDecimals, TakesDecimalsWithin, TakesNumber}
use Rattle.ascii_text.proofs.BlankTexts.{digit_run-nil, digit_run-other, behind-cons, behind_takes}
use Rattle.ascii_text.proofs.DigitTexts.{power_positive, power_within, digit_at-cons, digits_again, digits_takes, length-digits_text}

-- ---- a run of digits

all_digits-digits_text : (count n : ℕ) → n < 10 ^ count → AllDigits 10 (digits_text Ten count n)
unfolding digits_text
all_digits-digits_text zero n below = tells_digits.empty
all_digits-digits_text (suc count) n below =
    let unit : zero < 10 ^ count = power_positive Ten count in
    let first : n / 10 ^ count < 10 = (div-lt_iff_lt-mul unit).1 (omega (arith, below, pow-suc 10 count)) in
    tells_digits.more (48 + n / 10 ^ count) (digits_text Ten count (n % 10 ^ count)) (omega arith, omega arith) (all_digits-digits_text count (n % 10 ^ count) (mod_below n (10 ^ count) unit))

pub digit_run-cons : (byte : ℕ) (text : List ℕ) → IsInRange 48 57 byte → digit_run (byte ∷ text) ≡ suc (digit_run text)
unfolding digit_run
digit_run-cons byte text digit =
    let test : is_ascii_digit byte ≡ true = grind (arith, nat_tests) in rw test (omega arith)

pub digit_run-all : (digits rest : List ℕ) → AllDigits 10 digits → digit_run (digits ++ rest) ≡ length digits + digit_run rest
digit_run-all [] rest all = sym (omega arith)
digit_run-all (byte ∷ digits) rest all =
    let parts = tells_digits.parts byte digits all in
    digit_run-cons byte (digits ++ rest) parts.0 ∙ ap suc (digit_run-all digits rest parts.1) ∙ omega arith

-- how a run of digits is read: each digit after the others
abbrev pub run_value : ℕ → List ℕ → ℕ
run_value n [] = n
run_value n (byte ∷ text) = run_value (n * 10 + (byte - 48)) text

numerals : IsNumeralModel (AllDigits 10) (run_value 0)
numerals = numerals_by_fold (AllDigits 10) tells_digits run_value (record { empty = λ n. refl; more = λ n c cs digit. refl })

digit_at-digit : (byte : ℕ) (text : List ℕ) → IsInRange 48 57 byte → digit_at Ten (byte ∷ text) ≡ Some (byte - 48, text)
digit_at-digit byte text digit =
    let is : 48 + (byte - 48) ≡ byte = omega (arith, digit.0) in
    ap (λ (b : ℕ). digit_at Ten (b ∷ text)) (sym is) ∙ digit_at-cons Ten (byte - 48) text (omega (arith, digit.0, digit.1))

more_digits-run : (digits rest : List ℕ) (value : ℕ) → AllDigits 10 digits → more_digits Ten value (length digits) (digits ++ rest) ≡ Some (run_value value digits, rest)
unfolding more_digits
more_digits-run [] rest value all = refl
more_digits-run (byte ∷ digits) rest value all =
    let parts = tells_digits.parts byte digits all in
    rw (digit_at-digit byte (digits ++ rest) parts.0) (more_digits-run digits rest (value * 10 + (byte - 48)) parts.1)

digits_at-run : (digits rest : List ℕ) → AllDigits 10 digits → digits_at Ten (length digits) (digits ++ rest) ≡ Some (run_value 0 digits, rest)
unfolding digits_at
digits_at-run digits rest all = more_digits-run digits rest 0 all

-- what digits were read from a run is their value
run_value-digits_text : (count n : ℕ) → n < 10 ^ count → run_value 0 (digits_text Ten count n) ≡ n
run_value-digits_text count n below =
    let read : digits_at Ten count (digits_text Ten count n ++ []) ≡ Some (run_value 0 (digits_text Ten count n), []) =
    ap (λ (k : ℕ). digits_at Ten k (digits_text Ten count n ++ [])) (sym (length-digits_text Ten count n)) ∙ digits_at-run (digits_text Ten count n) [] (all_digits-digits_text count n below) in
    ap (λ (p : ℕ × List ℕ). p.0) (same_Some (run_value 0 (digits_text Ten count n), []) (n, []) (sym read ∙ digits_again Ten count n [] below))

pub digit_run-digits_text : (count n : ℕ) (rest : List ℕ) → n < 10 ^ count → digit_run (digits_text Ten count n ++ rest) ≡ count + digit_run rest
digit_run-digits_text count n rest below =
    digit_run-all (digits_text Ten count n) rest (all_digits-digits_text count n below) ∙ ap (λ (k : ℕ). k + digit_run rest) (length-digits_text Ten count n)

-- ---- decimals

-- the run that was read, all of it
pub run_is : (text rest : List ℕ) (count value : ℕ) → digit_run text ≡ count → 0 < count → Some (value, rest) ≡ digits_at Ten count text → Some ((count, value), rest) ≡ run_at text
unfolding run_at
run_is text rest count value run some is = rw (run, ne_eqb count 0 (λ e. omega (arith, e)), ← is) refl

pub run_again : (count n : ℕ) (rest : List ℕ) → 0 < count → n < 10 ^ count → digit_run rest ≡ 0 → run_at (digits_text Ten count n ++ rest) ≡ Some ((count, n), rest)
run_again count n rest some below ends =
    sym (run_is (digits_text Ten count n ++ rest) rest count n (omega (arith, digit_run-digits_text count n rest below, ends)) some (sym (digits_again Ten count n rest below)))

-- a test that let its text through
pub let_through : {A : Type 0} (b : Bool) (o : Option A) (x : A) → cond b None o ≡ Some x → (b ≡ false) × (o ≡ Some x)
let_through true o x e = absurd cc
let_through false o x e = (refl, e)

pub run_takes : (text : List ℕ) (x : (ℕ × ℕ) × List ℕ) → run_at text ≡ Some x → TakesRun text x
unfolding run_at
run_takes text x e =
    let g = let_through (eqb (digit_run text) 0) (digits_at Ten (digit_run text) text >>= λ digits. Some ((digit_run text, digits.0), digits.1)) x e in
    let d = bind_some (digits_at Ten (digit_run text) text) (λ digits. Some ((digit_run text, digits.0), digits.1)) x g.1 in
    let taken = digits_takes Ten (digit_run text) text d.0.0 d.0.1 d.1 in
    subst (λ (y : (ℕ × ℕ) × List ℕ). TakesRun text y) (same_Some ((digit_run text, d.0.0), d.0.1) x d.2) (record {
      some = omega (arith, eqb-false (digit_run text) 0 g.0);
      below = taken.1;
      text_is = taken.0;
      ends = omega (arith, digit_run-digits_text (digit_run text) d.0.0 d.0.1 taken.1, ap digit_run taken.0);
    })

-- Decimals that are written are read where neither a digit nor a point follows.
pub decimals_again : (count value : ℕ) (rest : List ℕ) → value < 10 ^ count → digit_run rest ≡ 0 → (get_or rest 0 0 ≡ 46 → ⊥)
    → decimals_at (decimals_text count value ++ rest) ≡ Some ((count, value), rest)
unfolding decimals_at decimals_text
decimals_again zero value rest below ends pointless =
    let none : value ≡ 0 = omega (arith, below, pow-zero 10) in
    rw (ne_eqb (get_or rest 0 0) 46 pointless, none) refl
decimals_again (suc count) value rest below ends pointless =
    rw (behind-cons 46 (digits_text Ten (suc count) value ++ rest)) (run_again (suc count) value rest (omega arith) below ends)

decimals_text-some : (count value : ℕ) → 0 < count → decimals_text count value ≡ 46 ∷ digits_text Ten count value
unfolding decimals_text
decimals_text-some zero value some = absurd (omega arith)
decimals_text-some (suc count) value some = refl

decimals_found : (b : Bool) (text : List ℕ) (x : (ℕ × ℕ) × List ℕ) → cond b (behind 46 text >>= run_at) (Some ((0, 0), text)) ≡ Some x → TakesDecimals text x
unfolding decimals_text
decimals_found true text x e =
    let after = bind_some (behind 46 text) run_at x e in
    let run = run_takes after.0 x after.2 in
    let is = behind_takes 46 text after.0 after.1 ∙ ap (λ (t : List ℕ). 46 ∷ t) run.text_is in
    record { below = run.below; text_is = rw (decimals_text-some x.0.0 x.0.1 run.some) is }
decimals_found false text x e =
    subst (λ (y : (ℕ × ℕ) × List ℕ). TakesDecimals text y) (same_Some ((0, 0), text) x e) (record { below = rw pow-zero (omega arith); text_is = refl })

-- Decimals that are read are written so.
pub decimals_takes : (text : List ℕ) (x : (ℕ × ℕ) × List ℕ) → decimals_at text ≡ Some x → TakesDecimals text x
unfolding decimals_at
decimals_takes text x e = decimals_found (eqb (get_or text 0 0) 46) text x e

-- the digits of a run are read up to its end
run_read_by : (b : Bool) (byte : ℕ) (text : List ℕ) (value : ℕ) → is_ascii_digit byte ≡ b
    → ((v : ℕ) × (more_digits Ten (value * 10 + (byte - 48)) (digit_run text) text ≡ Some (v, drop (digit_run text) text)))
    → (v : ℕ) × (more_digits Ten value (digit_run (byte ∷ text)) (byte ∷ text) ≡ Some (v, drop (digit_run (byte ∷ text)) (byte ∷ text)))
unfolding more_digits
run_read_by true byte text value test others =
    let digit : IsInRange 48 57 byte = (grind (arith, nat_tests), grind (arith, nat_tests)) in
    (others.0, rw (digit_run-cons byte text digit, digit_at-digit byte text digit) others.1)
run_read_by false byte text value test others = (value, rw (digit_run-other byte text test) refl)

run_read : (text : List ℕ) (value : ℕ) → (v : ℕ) × (more_digits Ten value (digit_run text) text ≡ Some (v, drop (digit_run text) text))
unfolding more_digits
run_read [] value = (value, rw digit_run-nil refl)
run_read (byte ∷ text) value = run_read_by (is_ascii_digit byte) byte text value refl (run_read text (value * 10 + (byte - 48)))

-- more digits than are wanted are passed over
pub run_past : (most : ℕ) (text : List ℕ) → most < digit_run text → run_within most text ≡ Some (None, drop (digit_run text) text)
unfolding digits_at
run_past most text more =
    let read = run_read text 0 in
    rw (← run_is text _ (digit_run text) read.0 refl (omega arith) (sym read.1), lt-ltb most (digit_run text) more) refl

-- Decimals that are written are read where they are at most this many, and neither a digit nor a point follows.
pub decimals_within_again : (most count value : ℕ) (rest : List ℕ) → value < 10 ^ count → digit_run rest ≡ 0 → (get_or rest 0 0 ≡ 46 → ⊥)
    → decimals_within most (decimals_text count value ++ rest) ≡ at_most most ((count, value), rest)
unfolding decimals_within
decimals_within_again most count value rest below ends pointless = rw (decimals_again count value rest below ends pointless) refl

-- Decimals that are read are written so.
pub decimals_within_takes : (most : ℕ) (text : List ℕ) (x : Option (ℕ × ℕ) × List ℕ) → decimals_within most text ≡ Some x → TakesDecimalsWithin most text x
unfolding decimals_within
decimals_within_takes most text x e =
    let d = bind_some (decimals_at text) (at_most most) x e in
    let taken = decimals_takes text d.0 d.1 in
    subst (λ (y : Option (ℕ × ℕ) × List ℕ). TakesDecimalsWithin most text y) (same_Some _ x d.2)
    (record { count = d.0.0.0; value = d.0.0.1; below = taken.below; text_is = taken.text_is; found = refl })

-- ---- digits one after another

pub no_more : (text : List ℕ) → None ≡ digit_at Ten text → digit_run text ≡ 0
unfolding digit_at digit_value digit_run
no_more [] is = refl
no_more (byte ∷ text) is = grind (arith, nat_tests)

-- where at most eighteen bytes are read, as many as there are, no digit follows
pub run_end : (rest : List ℕ) (count : ℕ) → count ≤ 18 → (count < 18 → digit_run rest ≡ 0) → length rest + count ≤ 18 → digit_run rest ≡ 0
unfolding digit_run
run_end rest count most all short = grind (arith, prefix_len-le-length is_ascii_digit rest)

-- the digits after those that were read are passed over
pub past_all : (most count more : ℕ) (text rest back : List ℕ) → count ≤ most → (count < most → digit_run rest ≡ 0) → digit_run text ≡ count + digit_run rest → rest ≡ drop count text
    → more ≡ digit_run rest → back ≡ drop more rest → 0 < more → Some (None, back) ≡ run_within most text
past_all most count more text rest back few all run rest_is more_is back_is some =
    let past : most < digit_run text = grind arith in
    let whole : count + more ≡ digit_run text = omega arith in
    rw (back_is, rest_is, drop-drop more count text, whole) (sym (run_past most text past))

-- ---- numbers without leading zeros

abbrev is_refused : ℕ → ℕ → ℕ → Bool
is_refused most count first = eqb count 0 || (ltb most count || (ltb 1 count && eqb first 48))

not_refused : (most count first : ℕ) → 0 < count → count ≤ most → (1 < count → first ≡ 48 → ⊥) → is_refused most count first ≡ false
not_refused most count first some fits other = grind (arith, nat_tests)

-- what a number that isn't refused keeps
record Kept (most count first : ℕ) : Type 0 where
  pub some : 0 < count
  pub within : count ≤ most
  pub other : first ≡ 48 → count ≡ 1

kept_if : (most count first : ℕ) → is_refused most count first ≡ false → Kept most count first
kept_if most count first e = record { some = grind (arith, nat_tests); within = grind (arith, nat_tests); other = λ zero_first. grind (arith, nat_tests) }

no_leading_zero : (n : ℕ) (rest : List ℕ) → n < 2 ^ 64 → 1 < length (decimal n) → get_or (decimal n ++ rest) 0 0 ≡ 48 → ⊥
no_leading_zero zero rest fits more first = omega (arith, ap length (decimal_digit 0 (omega arith)))
no_leading_zero (suc n) rest fits more first =
    omega (arith, first_decimal (suc n) (omega arith) fits, get_or_append_left (decimal (suc n)) rest 0 0 (decimal_nonempty (suc n) fits))

eighteen : (most n : ℕ) → most ≤ 18 → n < 10 ^ most → n < 2 ^ 63
eighteen most n le below = omega (arith, power_within Ten most 18 le)

-- A number that is written without leading zeros is read where no digit follows.
pub number_again : (most n : ℕ) (rest : List ℕ) → 0 < most → most ≤ 18 → n < 10 ^ most → digit_run rest ≡ 0 → number_at most (decimal n ++ rest) ≡ Some (n, rest)
unfolding number_at
number_again most n rest some le below ends =
    let fits : n < 2 ^ 64 = omega (arith, eighteen most n le below) in
    let all : AllDigits 10 (decimal n) = digits_decimal numerals n fits in
    let value : run_value 0 (decimal n) ≡ n = digits_value-decimal numerals n fits in
    let run : digit_run (decimal n ++ rest) ≡ length (decimal n) = omega (arith, digit_run-all (decimal n) rest all, ends) in
    let kept : is_refused most (length (decimal n)) (get_or (decimal n ++ rest) 0 0) ≡ false =
    not_refused most (length (decimal n)) (get_or (decimal n ++ rest) 0 0) (decimal_nonempty n fits) (length-decimal-le most n some below fits) (no_leading_zero n rest fits) in
    rw (run, kept, digits_at-run (decimal n) rest all, value) refl

-- A number that is read is written so, and no digit follows.
pub number_takes : (most : ℕ) (text : List ℕ) (x : ℕ × List ℕ) → most ≤ 18 → number_at most text ≡ Some x → TakesNumber most text x
unfolding number_at
number_takes most text x le e =
    let g = let_through (is_refused most (digit_run text) (get_or text 0 0)) (digits_at Ten (digit_run text) text) x e in
    let kept = kept_if most (digit_run text) (get_or text 0 0) g.0 in
    let taken = digits_takes Ten (digit_run text) text x.0 x.1 g.1 in
    let all : AllDigits 10 (digits_text Ten (digit_run text) x.0) = all_digits-digits_text (digit_run text) x.0 taken.1 in
    let wide : length (digits_text Ten (digit_run text) x.0) ≡ digit_run text = length-digits_text Ten (digit_run text) x.0 in
    let value : run_value 0 (digits_text Ten (digit_run text) x.0) ≡ x.0 = run_value-digits_text (digit_run text) x.0 taken.1 in
    let first : get_or text 0 0 ≡ get_or (digits_text Ten (digit_run text) x.0) 0 0 = ap (λ (t : List ℕ). get_or t 0 0) taken.0 ∙ get_or_append_left (digits_text Ten (digit_run text) x.0) x.1 0 0 (omega (arith, wide, kept.some)) in
    let spelled : decimal (run_value 0 (digits_text Ten (digit_run text) x.0)) ≡ digits_text Ten (digit_run text) x.0 =
    decimal-digits_value numerals (digits_text Ten (digit_run text) x.0) all (omega (arith, wide, kept.some)) (λ z. wide ∙ kept.other (first ∙ z)) (omega (arith, value, eighteen (digit_run text) x.0 (omega (arith, kept.within)) taken.1)) in
    record {
      below = omega (arith, taken.1, power_within Ten (digit_run text) most kept.within);
      text_is = taken.0 ∙ ap (λ (t : List ℕ). t ++ x.1) (sym spelled ∙ ap decimal value);
      ends = omega (arith, digit_run-digits_text (digit_run text) x.0 x.1 taken.1, ap digit_run taken.0);
    }

-- ---- decimal numbers that are the whole text: those that are spelled are read, and those that are read are spelled

-- no digit stands where the digits before a point end
ends_run : (count value : ℕ) → digit_run (decimals_text count value) ≡ 0
unfolding decimals_text
ends_run zero value = digit_run-nil
ends_run (suc count) value = digit_run-other 46 _ refl

whole_again : (most : ℕ) (p : NumberParts) (text : List ℕ) → IsSpelledNumber most p text → whole_at most text ≡ Some ((p.digits, p.whole), decimals_text p.count p.value)
unfolding whole_at number_spelling
whole_again most p text is =
    let run : digit_run (digits_text Ten p.digits p.whole ++ decimals_text p.count p.value) ≡ p.digits = omega (arith, digit_run-digits_text p.digits p.whole (decimals_text p.count p.value) is.whole, ends_run p.count p.value) in
    ap (whole_at most) is.text_is ∙ rw (run, le-ltb most p.digits is.within) (run_again p.digits p.whole (decimals_text p.count p.value) is.some is.whole (ends_run p.count p.value))

abbrev behind_decimals : ℕ × ℕ → (ℕ × ℕ) × List ℕ → Option NumberParts
behind_decimals whole decimals = cond (eqb (length decimals.1) 0) (Some (made_number whole decimals.0)) None

pub number_parts_take : (most : ℕ) (text : List ℕ) (p : NumberParts) → number_parts_at most text ≡ Some p → IsSpelledNumber most p text
unfolding number_parts_at whole_at number_spelling
number_parts_take most text p e =
    let whole = bind_some (whole_at most text) (λ whole. decimals_at whole.1 >>= behind_decimals whole.0) p e in
    let decimals = bind_some (decimals_at whole.0.1) (behind_decimals whole.0.0) p whole.2 in
    let ended = cond_some (eqb (length decimals.0.1) 0) (made_number whole.0.0 decimals.0.0) p decimals.2 in
    let few = let_through (ltb most (digit_run text)) (run_at text) whole.0 whole.1 in
    let run = run_takes text whole.0 few.1 in
    let taken = decimals_takes whole.0.1 decimals.0 decimals.1 in
    let counted : digit_run text ≡ whole.0.0.0 = omega (arith, ap digit_run run.text_is, digit_run-digits_text whole.0.0.0 whole.0.0.1 whole.0.1 run.below, run.ends) in
    subst (λ (q : NumberParts). IsSpelledNumber most q text) ended.1 (record {
      some = run.some;
      within = omega (arith, counted, ltb-false most (digit_run text) few.0);
      whole = run.below;
      value = taken.below;
      text_is = run.text_is ∙ ap (λ (t : List ℕ). digits_text Ten whole.0.0.0 whole.0.0.1 ++ t) (taken.text_is ∙ rw (nil_from_length decimals.0.1 (eqb-true (length decimals.0.1) 0 ended.0), append-nil (decimals_text decimals.0.0.0 decimals.0.0.1)) refl);
    })

pub reads_number : (most : ℕ) → IsReader (IsSpelledNumber most) (number_parts_at most)
unfolding number_parts_at
reads_number most = record {
  again = λ p text is.
      let decimals = rw append-nil at (decimals_again p.count p.value [] is.value digit_run-nil (λ e. omega (arith, e))) in
      rw (whole_again most p text is, decimals) refl;
  takes = number_parts_take most;
}

-- ---- decimals that are passed over where they are too many

abbrev short : ℕ × ℕ → Option (ℕ × ℕ) × List ℕ → Option (Option NumberParts)
short whole decimals = cond (eqb (length decimals.1) 0) (Some (option_map (made_number whole) decimals.0)) None

found_decimals : (few : ℕ) (whole : ℕ × ℕ) (found : Option ((ℕ × ℕ) × List ℕ))
    → ((found >>= at_most few) >>= short whole) ≡ option_map (λ p. within few p) (found >>= behind_decimals whole)
found_decimals few whole None = refl
found_decimals few whole (Some d) = grind (arith, nat_tests)

whole_found : (few : ℕ) (found : Option ((ℕ × ℕ) × List ℕ))
    → (found >>= λ whole. (decimals_at whole.1 >>= at_most few) >>= short whole.0)
    ≡ option_map (λ p. within few p) (found >>= λ whole. decimals_at whole.1 >>= behind_decimals whole.0)
whole_found few None = refl
whole_found few (Some whole) = found_decimals few whole.0 (decimals_at whole.1)

-- What the code finds is what the text spells, with too many decimals passed over.
pub number_within_is : (most few : ℕ) (text : List ℕ) → number_within most few text ≡ option_map (λ p. within few p) (number_parts_at most text)
unfolding number_within number_parts_at decimals_within
number_within_is most few text = whole_found few (whole_at most text)

pub ruleset number_laws = (digit_run-all, digit_run-digits_text, run_again, run_takes, decimals_again, decimals_takes, decimals_within_again, decimals_within_takes, number_again, number_takes, reads_number)

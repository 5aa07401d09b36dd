-- A number's text: decimal digits without a leading zero, up to the byte that ends it.
use Rattle.std.proofs.Common.{◌≡◌, ◌≢◌, ℕ, ◌<◌, ◌≤◌, ◌^◌, inl, inr, List, [], ◌∷◌, ◌++◌, length, get_or, refl, sym, ap, subst, ◌∙◌, arith, decimal, rules, lit<}
use Rattle.std.specs.List.{AllByRecursion}
use Rattle.std.proofs.Math.Nat.{pow-le-pow_right, one-le-pow}
use Rattle.std.proofs.lemmas.Fmt.{decimal_digit, decimal_nonempty, length-decimal-le, first_decimal, digits_decimal, decimal-digits_value}
use Rattle.std.proofs.lemmas.Str.Parse.{IsNumeralModel, numerals_by_fold, digits_value_short}
use Rattle.frame_grammar.specs.declared.parts.Class.TheVariants as classes
use Rattle.std.proofs.lemmas.Bool.{cases_lt}
use Rattle.frame_grammar.specs.declared.parts.Unread.{Unread}
use Rattle.frame_grammar.specs.declared.parts.Unread.TheVariants as unread
use Rattle.frame_grammar.specs.Frames.{IsDigit, IsToken}
use Rattle.frame_grammar.specs.Reading.{Lacks, Begins, Fails, FailsToken, IsBegun, stopped, numbered, number_from, HasZeroInFront}
use Rattle.frame_grammar.proofs.Tokens.{apart, none_yet}

-- `number_from 0` is the value of the texts of decimal digits
own : IsNumeralModel (AllByRecursion IsDigit) (number_from 0)
own = numerals_by_fold (AllByRecursion IsDigit) (search rules) number_from (search rules)

pub digit_apart : (stop : ℕ) → stop < 33 → (byte : ℕ) → IsDigit byte → byte ≢ stop
digit_apart stop low = apart classes.Digit stop low

pub fits_64 : (digits n : ℕ) → digits ≤ 19 → n < 10 ^ digits → n < 2 ^ 64
fits_64 digits n few lt =
    let wide : 10 ^ digits ≤ 10 ^ 19 = pow-le-pow_right {n = 10} (omega arith) few in
    omega arith

-- the text of a number is a field of digits
pub decimal_token : (digits n : ℕ) → 0 < digits → digits ≤ 19 → n < 10 ^ digits → IsToken IsDigit digits (decimal n)
decimal_token digits n some few lt =
    let small : n < 2 ^ 64 = fits_64 digits n few lt in
    record { some = decimal_nonempty n small; few = length-decimal-le digits n some lt small; each = digits_decimal own n small }

-- digits without a leading zero are the text of their value
text_is_decimal : (digits : ℕ) (text : List ℕ) → digits ≤ 19 → IsToken IsDigit digits text → (get_or text 0 0 ≡ 48 → length text ≡ 1)
    → (number_from 0 text < 10 ^ digits) × (decimal (number_from 0 text) ≡ text)
text_is_decimal digits text few token plain =
    let lt : number_from 0 text < 10 ^ digits = digits_value_short own text digits token.each token.few in
    (lt, decimal-digits_value own text token.each token.some plain (fits_64 digits (number_from 0 text) few lt))

first_of : (text tail : List ℕ) (first : ℕ) (others : List ℕ) → 0 < length text → first ∷ others ≡ text ++ tail → get_or text 0 0 ≡ first
first_of [] tail first others some e = absurd (omega arith)
first_of (x ∷ text) tail first others some e = cc

second_is : (second stop : ℕ) (tail rest : List ℕ) → 48 ∷ second ∷ tail ≡ 48 ∷ stop ∷ rest → second ≡ stop
second_is second stop tail rest e = cc

zero_is : (n : ℕ) → n ≤ 0 → 0 ≡ n
zero_is n none = omega arith

-- a zero in front is all of a number
zero_alone : (stop n second : ℕ) (rest tail : List ℕ) → n < 2 ^ 64 → 48 ∷ second ∷ tail ≡ decimal n ++ stop ∷ rest → second ≡ stop
zero_alone stop n second rest tail small e =
    elim (cases_lt 0 n) [
      | inl above ↦ absurd (omega (arith, first_decimal n above small, first_of (decimal n) (stop ∷ rest) 48 (second ∷ tail) (decimal_nonempty n small) e))
      | inr none ↦ second_is second stop tail rest (e ∙ ap (λ (t : List ℕ). t ++ stop ∷ rest) (subst (λ (k : ℕ). decimal k ≡ 48 ∷ []) (zero_is n none) (decimal_digit 0 (lit< tt))))
    ]

pub never_zero : (digits stop : ℕ) → digits ≤ 19 → (bytes : List ℕ) → HasZeroInFront stop bytes → (more : List ℕ) → Lacks (λ n. n < 10 ^ digits) (numbered stop) (bytes ++ more)
never_zero digits stop few [] has more n rest lt e = has
never_zero digits stop few (first ∷ []) has more n rest lt e = has
never_zero digits stop few (first ∷ second ∷ bytes) has more n rest lt e =
    has.1 (zero_alone stop n second rest (bytes ++ more) (fits_64 digits n few lt) (ap (λ (b : ℕ). b ∷ second ∷ (bytes ++ more)) (sym has.0) ∙ e))

-- where no field of digits can come, no number can
never_number : (digits stop : ℕ) → 0 < digits → digits ≤ 19 → (bytes : List ℕ) → ((more : List ℕ) → Lacks (IsToken IsDigit digits) (stopped stop) (bytes ++ more))
    → (more : List ℕ) → Lacks (λ n. n < 10 ^ digits) (numbered stop) (bytes ++ more)
never_number digits stop some few bytes never more n rest lt e = never more (decimal n) rest (decimal_token digits n some few lt) e

-- digits, few enough, without a zero in front of another: the byte that ends the number completes it
number_begins : (digits stop : ℕ) → 0 < digits → digits ≤ 19 → stop < 33 → (bytes : List ℕ) → IsBegun IsDigit digits bytes → (HasZeroInFront stop bytes → ⊥)
    → Begins (λ n. n < 10 ^ digits) (numbered stop) bytes
number_begins digits stop some few low [] begun plain =
    (48 ∷ stop ∷ [], 0, one-le-pow digits 10 (lit< tt), ap (λ (t : List ℕ). t ++ stop ∷ []) (sym (decimal_digit 0 (lit< tt))))
number_begins digits stop some few low (first ∷ []) begun plain =
    let is = text_is_decimal digits (first ∷ []) few (record { some = lit< tt; few = begun.few; each = begun.each }) (λ zero. refl) in
    (stop ∷ [], number_from 0 (first ∷ []), is.0, ap (λ (t : List ℕ). t ++ stop ∷ []) (sym is.1))
number_begins digits stop some few low (first ∷ second ∷ bytes) begun plain =
    let is = text_is_decimal digits (first ∷ second ∷ bytes) few (record { some = omega arith; few = begun.few; each = begun.each })
    (λ zero. absurd (plain (zero, digit_apart stop low second begun.each.1.0))) in
    (stop ∷ [], number_from 0 (first ∷ second ∷ bytes), is.0, ap (λ (t : List ℕ). t ++ stop ∷ []) (sym is.1))

number_fails : (digits stop : ℕ) → 0 < digits → digits ≤ 19 → stop < 33 → (bytes : List ℕ) → IsBegun IsDigit digits bytes → (HasZeroInFront stop bytes → ⊥)
    → Fails (λ n. n < 10 ^ digits) (numbered stop) bytes unread.Part
number_fails digits stop some few low bytes begun plain =
    (λ n rest lt e. none_yet IsDigit stop (digit_apart stop low) bytes (decimal n) rest begun.each e, number_begins digits stop some few low bytes begun plain)

no_zero : (stop : ℕ) → stop < 33 → (text rest : List ℕ) → AllByRecursion IsDigit text → (HasZeroInFront stop (text ++ stop ∷ rest) → ⊥) → 0 < length text → get_or text 0 0 ≡ 48 → length text ≡ 1
no_zero stop low [] rest each plain some zero = omega arith
no_zero stop low (first ∷ []) rest each plain some zero = refl
no_zero stop low (first ∷ second ∷ text) rest each plain some zero = absurd (plain (zero, digit_apart stop low second each.1.0))

-- digits up to the byte that ends them, without a zero in front of another, are a number that is read
pub number_found : (digits stop : ℕ) → digits ≤ 19 → stop < 33 → (bytes text rest : List ℕ) → (HasZeroInFront stop bytes → ⊥) → IsToken IsDigit digits text → bytes ≡ stopped stop text rest
    → (number_from 0 text < 10 ^ digits) × (bytes ≡ numbered stop (number_from 0 text) rest)
number_found digits stop few low bytes text rest plain token e =
    let is = text_is_decimal digits text few token (no_zero stop low text rest token.each (subst (λ (b : List ℕ). HasZeroInFront stop b → ⊥) e plain) token.some) in
    (is.0, e ∙ ap (λ (t : List ℕ). t ++ stop ∷ rest) (sym is.1))

-- why no number is read where no field of digits is
pub number_unread : (digits stop : ℕ) → 0 < digits → digits ≤ 19 → stop < 33 → (bytes : List ℕ) → (HasZeroInFront stop bytes → ⊥) → (e : Unread)
    → FailsToken IsDigit digits stop bytes e → Fails (λ n. n < 10 ^ digits) (numbered stop) bytes e
number_unread digits stop some few low bytes plain unread.Part begun = number_fails digits stop some few low bytes begun plain
number_unread digits stop some few low bytes plain unread.Bad never = never_number digits stop some few bytes never

-- one more digit below 10 ^ 18 fits
pub digit_fits : (i value : ℕ) → i < 19 → value < 10 ^ i → value < 10 ^ 18
digit_fits i value few lt =
    let wide : 10 ^ i ≤ 10 ^ 18 = let less : i ≤ 18 = omega arith in pow-le-pow_right {n = 10} (lit< tt) less in
    omega arith

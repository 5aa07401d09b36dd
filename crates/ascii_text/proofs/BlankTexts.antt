-- Texts of blanks, and blanks at the ends of a text.
use Rattle.std.proofs.Common.{◌≡◌, ◌≢◌, ℕ, zero, suc, ◌-◌, ◌<◌, Bool, true, false, cond, eqb, List, [], ◌∷◌, ◌++◌, length, get_or, reverse, replicate, Some, None, refl, sym, ap, ◌∙◌, add-one, arith}
use Rattle.std.proofs.lemmas.Bool.{eqb-true, ne_eqb, and_parts}
use Rattle.std.proofs.lemmas.Bool.Decides.{nat_tests}
use Rattle.std.proofs.lemmas.List.{nil_from_length, length-replicate, replicate_more, get_or_push, length_push, append-nil, reverse-append, reverse-reverse}
use Rattle.std.specs.Char.{is_ascii_digit}
use Rattle.ascii_text.specs.Blanks.{blanks, are_blanks, trimmed_front, trimmed_end, trimmed, IsTrimmed}
use Rattle.ascii_text.specs.Reading.{behind, digit_run}

pub length-blanks : (n : ℕ) → length (blanks n) ≡ n
unfolding blanks
length-blanks n = length-replicate n 32

pub are_blanks-blanks : (n : ℕ) → are_blanks (blanks n) ≡ true
unfolding blanks are_blanks
are_blanks-blanks zero = refl
are_blanks-blanks (suc n) = are_blanks-blanks n

-- A text of blanks is as many as it has bytes.
pub are_blanks_takes : (text : List ℕ) → are_blanks text ≡ true → text ≡ blanks (length text)
unfolding blanks are_blanks
are_blanks_takes [] all = refl
are_blanks_takes (byte ∷ text) all =
    let parts = and_parts (eqb byte 32) (are_blanks text) all in cc (eqb-true byte 32 parts.0, are_blanks_takes text parts.1)

pub digit_run-nil : digit_run [] ≡ 0
unfolding digit_run
digit_run-nil = refl

-- No digit stands at the front where another byte does.
pub digit_run-other : (byte : ℕ) (rest : List ℕ) → is_ascii_digit byte ≡ false → digit_run (byte ∷ rest) ≡ 0
unfolding digit_run
digit_run-other byte rest other = rw other refl

pub digit_run-blanks : (n : ℕ) → digit_run (blanks n) ≡ 0
unfolding blanks
digit_run-blanks zero = digit_run-nil
digit_run-blanks (suc n) = digit_run-other 32 (replicate n 32) refl

pub no_point-blanks : (n : ℕ) → get_or (blanks n) 0 0 ≡ 46 → ⊥
unfolding blanks
no_point-blanks zero e = omega (arith, e)
no_point-blanks (suc n) e = omega (arith, e)

-- ---- a byte

pub behind-cons : (byte : ℕ) (rest : List ℕ) → behind byte (byte ∷ rest) ≡ Some rest
unfolding behind
behind-cons byte rest = grind (arith, nat_tests)

pub behind_takes : (byte : ℕ) (text rest : List ℕ) → behind byte text ≡ Some rest → text ≡ byte ∷ rest
unfolding behind
behind_takes byte [] rest e = absurd cc
behind_takes byte (first ∷ text) rest e = grind (arith, nat_tests)

-- ---- blanks at the front

pub trimmed_front_goes_on : (text after : List ℕ) → Some after ≡ behind 32 text → trimmed_front text ≡ trimmed_front after
unfolding trimmed_front
trimmed_front_goes_on text after found = ap trimmed_front (behind_takes 32 text after (sym found))

pub trimmed_front_ends : (text : List ℕ) → None ≡ behind 32 text → trimmed_front text ≡ text
unfolding trimmed_front behind
trimmed_front_ends [] found = refl
trimmed_front_ends (byte ∷ text) found = grind (arith, nat_tests)

front_parts : (b : Bool) (byte : ℕ) (text rest : List ℕ) (n : ℕ) → eqb byte 32 ≡ b → text ≡ blanks n ++ rest → (k : ℕ) × (byte ∷ text ≡ blanks k ++ cond b rest (byte ∷ text))
unfolding blanks
front_parts true byte text rest n test is = (suc n, cc (eqb-true byte 32 test))
front_parts false byte text rest n test is = (0, refl)

trimmed_front_parts : (text : List ℕ) → (n : ℕ) × (text ≡ blanks n ++ trimmed_front text)
unfolding trimmed_front blanks
trimmed_front_parts [] = (0, refl)
trimmed_front_parts (byte ∷ text) = front_parts (eqb byte 32) byte text _ _ refl (trimmed_front_parts text).1

trimmed_front_first : (text : List ℕ) → get_or (trimmed_front text) 0 0 ≢ 32
unfolding trimmed_front
trimmed_front_first [] = λ e. omega (arith, e)
trimmed_front_first (byte ∷ text) = λ e. grind (arith, nat_tests, trimmed_front_first text)

trimmed_front-blanks : (n : ℕ) (rest : List ℕ) → trimmed_front (blanks n ++ rest) ≡ trimmed_front rest
unfolding blanks trimmed_front
trimmed_front-blanks zero rest = refl
trimmed_front-blanks (suc n) rest = trimmed_front-blanks n rest

trimmed_front-other : (text : List ℕ) → get_or text 0 0 ≢ 32 → trimmed_front text ≡ text
unfolding trimmed_front
trimmed_front-other [] other = refl
trimmed_front-other (byte ∷ text) other = rw (ne_eqb byte 32 other) refl

-- ---- blanks at the end

reverse-blanks : (n : ℕ) → reverse (blanks n) ≡ blanks n
unfolding blanks
reverse-blanks zero = refl
reverse-blanks (suc n) =
    reverse-append (32 ∷ []) (replicate n 32) ∙ ap (λ (t : List ℕ). t ++ 32 ∷ []) (reverse-blanks n) ∙ replicate_more n 32 ∙ rw add-one refl

trimmed_end_parts : (text : List ℕ) → (n : ℕ) × (text ≡ trimmed_end text ++ blanks n)
unfolding trimmed_end
trimmed_end_parts text =
    let backwards = trimmed_front_parts (reverse text) in
    (backwards.0, sym (reverse-reverse text) ∙ ap reverse backwards.1 ∙ reverse-append (blanks backwards.0) _ ∙ ap (λ (t : List ℕ). reverse (trimmed_front (reverse text)) ++ t) (reverse-blanks backwards.0))

last_of_reverse : (text : List ℕ) → get_or (reverse text) (length (reverse text) - 1) 0 ≡ get_or text 0 0
last_of_reverse [] = refl
last_of_reverse (byte ∷ text) =
    rw (reverse-append (byte ∷ []) text) (get_or_push (reverse text) byte 0 _ (omega (arith, length_push (reverse text) byte)))

pub trimmed_end-blanks : (text : List ℕ) (n : ℕ) → trimmed_end (text ++ blanks n) ≡ trimmed_end text
unfolding trimmed_end
trimmed_end-blanks text n = rw (reverse-append text (blanks n), reverse-blanks n, trimmed_front-blanks n (reverse text)) refl

-- a text that ends with another byte, or that is empty
pub trimmed_end_kept : (text : List ℕ) → get_or text (length text - 1) 0 ≢ 32 → trimmed_end text ≡ text
unfolding trimmed_end
trimmed_end_kept text other =
    let last = rw reverse-reverse at (last_of_reverse (reverse text)) in
    ap reverse (trimmed_front-other (reverse text) (λ e. other (last ∙ e))) ∙ reverse-reverse text

pub trimmed_end_empty : (text : List ℕ) → length text < 1 → trimmed_end text ≡ text
trimmed_end_empty text none = rw (nil_from_length text (omega arith)) (trimmed_end_kept [] (λ e. omega (arith, e)))

pub trimmed_end-other : (text : List ℕ) (byte : ℕ) → (byte ≡ 32 → ⊥) → trimmed_end (text ++ byte ∷ []) ≡ text ++ byte ∷ []
trimmed_end-other text byte other =
    trimmed_end_kept (text ++ byte ∷ []) (λ e. other (sym (get_or_push text byte 0 _ (omega (arith, length_push text byte))) ∙ e))

-- ---- the middle between blanks

first_of_front : (front : List ℕ) (rest : List ℕ) → get_or (front ++ rest) 0 0 ≢ 32 → get_or front 0 0 ≢ 32
first_of_front [] rest other = λ e. omega (arith, e)
first_of_front (byte ∷ front) rest other = other

-- What is left after trimming stands between blanks.
pub trimmed_is : (text : List ℕ) → IsTrimmed text (trimmed text)
unfolding trimmed trimmed_end
trimmed_is text =
    let front = trimmed_front_parts text in
    let back = trimmed_end_parts (trimmed_front text) in
    record {
      before = front.0;
      after = back.0;
      parts = front.1 ∙ ap (λ (t : List ℕ). blanks front.0 ++ t) back.1;
      first = first_of_front (trimmed_end (trimmed_front text)) (blanks back.0) (rw back.1 at (trimmed_front_first text));
      last = λ e. trimmed_front_first (reverse (trimmed_front text)) (sym (last_of_reverse (trimmed_front (reverse (trimmed_front text)))) ∙ e);
    }

middle_kept : (middle : List ℕ) (after : ℕ) → get_or middle 0 0 ≢ 32 → get_or middle (length middle - 1) 0 ≢ 32 → trimmed (middle ++ blanks after) ≡ middle
unfolding trimmed
middle_kept [] after first last =
    ap trimmed_end (ap trimmed_front (sym (append-nil (blanks after))) ∙ trimmed_front-blanks after [] ∙ trimmed_front-other [] first) ∙ trimmed_end_kept [] last
middle_kept (byte ∷ middle) after first last =
    ap trimmed_end (trimmed_front-other (byte ∷ (middle ++ blanks after)) first) ∙ trimmed_end-blanks (byte ∷ middle) after ∙ trimmed_end_kept (byte ∷ middle) last

-- Nothing else stands so between blanks.
pub trimmed_only : (text middle : List ℕ) → IsTrimmed text middle → trimmed text ≡ middle
unfolding trimmed
trimmed_only text middle is =
    ap trimmed is.parts ∙ ap trimmed_end (trimmed_front-blanks is.before (middle ++ blanks is.after)) ∙ middle_kept middle is.after is.first is.last

pub ruleset blank_laws = (digit_run-nil, digit_run-other, digit_run-blanks, behind-cons, behind_takes, length-blanks, are_blanks-blanks, are_blanks_takes, no_point-blanks, trimmed_is, trimmed_only, trimmed_end-blanks, trimmed_end-other)

-- What is spelled is read, and what is read is spelled.
use Rattle.std.proofs.Common.{◌≡◌, ℕ, zero, suc, ◌+◌, ◌/◌, ◌%◌, ◌^◌, ◌≤◌, Bool, true, false, cond, eqb, ◌⊎◌, inl, inr, List, [], ◌∷◌, ◌++◌, length, Some, None, refl, sym, ap, subst, ◌∙◌, arith}
use Rattle.std.proofs.lemmas.Bool.{eqb-true}
use Rattle.std.proofs.lemmas.Bool.Decides.{nat_tests}
use Rattle.std.proofs.lemmas.Option.{cond_some, same_Some}
use Rattle.ascii_text.specs.declared.digits.Radix.TheVariants.{Ten}
use Rattle.ascii_text.specs.Digits.{digits_text, decimals_text}
use Rattle.ascii_text.specs.Blanks.{blanks, are_blanks}
use Rattle.ascii_text.specs.Judged.{IsReader}
use Rattle.ascii_text.specs.Reading.{bind_some, digits_at, behind, decimals_at}
use Rattle.ascii_text.specs.DecimalNumbers.{NumberParts, IsSpelledNumber, number_spelling, number_parts_at}
use Rattle.ascii_text.specs.Laws.{TextLaws}
use Rattle.angle_fixed.specs.Angles.{Parts, IsSpelled, IsSpelledSigned, sign_byte, spelling}
use Rattle.angle_fixed.specs.Degrees.{IsSpelledSignedDegrees, past_sign, signed_degrees_at}
use Rattle.angle_fixed.specs.Reading.{parts_at, sign_at, signed_parts_at}

pub sign_again : (minus : Bool) (text : List ℕ) → sign_at (sign_byte minus ∷ text) ≡ Some (minus, text)
unfolding sign_at
sign_again false text = refl
sign_again true text = refl

sign_found : (b c : Bool) (byte : ℕ) (text : List ℕ) (x : Bool × List ℕ) → eqb byte 43 ≡ b → eqb byte 45 ≡ c
    → cond b (Some (false, text)) (cond c (Some (true, text)) None) ≡ Some x → byte ∷ text ≡ sign_byte x.0 ∷ x.1
sign_found true c byte text x plus minus e = ap (λ (k : ℕ). k ∷ text) (eqb-true byte 43 plus) ∙ ap (λ (y : Bool × List ℕ). sign_byte y.0 ∷ y.1) (same_Some (false, text) x e)
sign_found false true byte text x plus minus e = ap (λ (k : ℕ). k ∷ text) (eqb-true byte 45 minus) ∙ ap (λ (y : Bool × List ℕ). sign_byte y.0 ∷ y.1) (same_Some (true, text) x e)
sign_found false false byte text x plus minus e = absurd cc

pub sign_takes : (text : List ℕ) (x : Bool × List ℕ) → sign_at text ≡ Some x → text ≡ sign_byte x.0 ∷ x.1
unfolding sign_at
sign_takes [] x e = absurd cc
sign_takes (byte ∷ text) x e = sign_found (eqb byte 43) (eqb byte 45) byte text x refl refl e

-- ---- the sign before degrees

past_sign-sign : (minus : Bool) (text : List ℕ) → past_sign (sign_byte minus ∷ text) ≡ (minus, text)
unfolding past_sign
past_sign-sign false text = refl
past_sign-sign true text = refl

past_sign-digit : (d : ℕ) (text : List ℕ) → past_sign ((48 + d) ∷ text) ≡ (false, (48 + d) ∷ text)
unfolding past_sign
past_sign-digit d text = grind (arith, nat_tests)

-- digits begin with no sign
past_sign-digits : (digits whole : ℕ) (rest : List ℕ) → 1 ≤ digits → past_sign (digits_text Ten digits whole ++ rest) ≡ (false, digits_text Ten digits whole ++ rest)
unfolding digits_text
past_sign-digits zero whole rest some = absurd (omega arith)
past_sign-digits (suc digits) whole rest some = past_sign-digit (whole / 10 ^ digits) (digits_text Ten digits (whole % 10 ^ digits) ++ rest)

past_sign-spelled : (most : ℕ) (p : NumberParts) (text : List ℕ) → IsSpelledNumber most p text → past_sign text ≡ (false, text)
unfolding number_spelling
past_sign-spelled most p text is =
    ap past_sign is.text_is ∙ past_sign-digits p.digits p.whole (decimals_text p.count p.value) is.some ∙ ap (λ (t : List ℕ). (false, t)) (sym is.text_is)

read_past : (most : ℕ) (minus : Bool) (p : NumberParts) (text rest : List ℕ) → past_sign text ≡ (minus, rest) → number_parts_at most rest ≡ Some p → signed_degrees_at most text ≡ Some (minus, p)
unfolding signed_degrees_at
read_past most minus p text rest sign read = rw (sign, read) refl

-- what stands in front of the degrees: a sign, or nothing
past_sign_found : (b c : Bool) (byte : ℕ) (text : List ℕ) → eqb byte 43 ≡ b → eqb byte 45 ≡ c
    → let x = cond {A = Bool × List ℕ} b (false, text) (cond c (true, text) (false, byte ∷ text)) in (byte ∷ text ≡ sign_byte x.0 ∷ x.1) ⊎ (x ≡ (false, byte ∷ text))
past_sign_found true c byte text plus minus = inl (ap (λ (k : ℕ). k ∷ text) (eqb-true byte 43 plus))
past_sign_found false true byte text plus minus = inl (ap (λ (k : ℕ). k ∷ text) (eqb-true byte 45 minus))
past_sign_found false false byte text plus minus = inr refl

sign_front : (text : List ℕ) → (text ≡ sign_byte (past_sign text).0 ∷ (past_sign text).1) ⊎ (past_sign text ≡ (false, text))
unfolding past_sign
sign_front [] = inr refl
sign_front (byte ∷ text) = past_sign_found (eqb byte 43) (eqb byte 45) byte text refl refl

signed_by : (most : ℕ) (text : List ℕ) (sign : Bool × List ℕ) (p : NumberParts) → (text ≡ sign_byte sign.0 ∷ sign.1) ⊎ (sign ≡ (false, text)) → IsSpelledNumber most p sign.1 → IsSpelledSignedDegrees most (sign.0, p) text
signed_by most text sign p (inl is) spelled = inl (sign.1, is, spelled)
signed_by most text sign p (inr is) spelled =
    inr (ap (λ (x : Bool × List ℕ). x.0) is, subst (λ (t : List ℕ). IsSpelledNumber most p t) (ap (λ (x : Bool × List ℕ). x.1) is) spelled)

module _ (texts : TextLaws) where
  open texts use {are_blanks-blanks, are_blanks_takes, digit_run-blanks, no_point-blanks, digits_again, digits_takes, behind-cons, behind_takes, decimals_again, decimals_takes, reads_number}

  pub parts_again : (p : Parts) (text : List ℕ) → IsSpelled p text → parts_at text ≡ Some p
  unfolding parts_at spelling
  parts_again p text is =
      let seconds : List ℕ = decimals_text p.count p.value ++ blanks is.space in
      let minutes : List ℕ = digits_text Ten 2 p.second ++ seconds in
      ap parts_at is.text_is ∙ rw (digits_again Ten 2 p.whole (32 ∷ (digits_text Ten 2 p.minute ++ (32 ∷ minutes))) is.whole, behind-cons 32 (digits_text Ten 2 p.minute ++ (32 ∷ minutes)), digits_again Ten 2 p.minute (32 ∷ minutes) is.minute, behind-cons 32 minutes, digits_again Ten 2 p.second seconds is.second, decimals_again p.count p.value (blanks is.space) is.value (digit_run-blanks is.space) (no_point-blanks is.space), are_blanks-blanks is.space) refl

  pub parts_take : (text : List ℕ) (p : Parts) → parts_at text ≡ Some p → IsSpelled p text
  unfolding parts_at spelling
  parts_take text p e =
      let whole = bind_some (digits_at Ten 2 text) _ p e in
      let first_blank = bind_some (behind 32 whole.0.1) _ p whole.2 in
      let minute = bind_some (digits_at Ten 2 first_blank.0) _ p first_blank.2 in
      let second_blank = bind_some (behind 32 minute.0.1) _ p minute.2 in
      let second = bind_some (digits_at Ten 2 second_blank.0) _ p second_blank.2 in
      let decimals = bind_some (decimals_at second.0.1) _ p second.2 in
      let ended = cond_some (are_blanks decimals.0.1) _ p decimals.2 in
      let whole_is = digits_takes Ten 2 text whole.0.0 whole.0.1 whole.1 in
      let minute_is = digits_takes Ten 2 first_blank.0 minute.0.0 minute.0.1 minute.1 in
      let second_is = digits_takes Ten 2 second_blank.0 second.0.0 second.0.1 second.1 in
      let decimals_is = decimals_takes second.0.1 decimals.0 decimals.1 in
      let seconds = second_is.0 ∙ ap (λ (t : List ℕ). digits_text Ten 2 second.0.0 ++ t) (decimals_is.text_is ∙ ap (λ (t : List ℕ). decimals_text decimals.0.0.0 decimals.0.0.1 ++ t) (are_blanks_takes decimals.0.1 ended.0)) in
      let minutes = minute_is.0 ∙ ap (λ (t : List ℕ). digits_text Ten 2 minute.0.0 ++ t) (behind_takes 32 minute.0.1 second_blank.0 second_blank.1 ∙ ap (λ (t : List ℕ). 32 ∷ t) seconds) in
      subst (λ (q : Parts). IsSpelled q text) ended.1 (record {
        whole = whole_is.1;
        minute = minute_is.1;
        second = second_is.1;
        value = decimals_is.below;
        space = length decimals.0.1;
        text_is = whole_is.0 ∙ ap (λ (t : List ℕ). digits_text Ten 2 whole.0.0 ++ t) (behind_takes 32 whole.0.1 first_blank.0 first_blank.1 ∙ ap (λ (t : List ℕ). 32 ∷ t) minutes);
      })

  signed_again : (p : Bool × Parts) (text : List ℕ) → IsSpelledSigned p text → signed_parts_at text ≡ Some p
  unfolding signed_parts_at
  signed_again p text is = ap signed_parts_at is.1 ∙ rw (sign_again p.0 is.0, parts_again p.1 is.0 is.2) refl

  signed_take : (text : List ℕ) (p : Bool × Parts) → signed_parts_at text ≡ Some p → IsSpelledSigned p text
  unfolding signed_parts_at
  signed_take text p e =
      let sign = bind_some _ _ p e in
      let parts = bind_some _ _ p sign.2 in
      subst (λ (q : Bool × Parts). IsSpelledSigned q text) (same_Some _ p parts.2) (sign.0.1, sign_takes text sign.0 sign.1, parts_take sign.0.1 parts.0 parts.1)

  pub reads_parts : IsReader IsSpelled parts_at
  reads_parts = record { again = parts_again; takes = parts_take }

  pub reads_signed_parts : IsReader IsSpelledSigned signed_parts_at
  reads_signed_parts = record { again = signed_again; takes = signed_take }

  degrees_again : (most : ℕ) (p : Bool × NumberParts) (text : List ℕ) → IsSpelledSignedDegrees most p text → signed_degrees_at most text ≡ Some p
  degrees_again most p text (inl signed) =
      read_past most p.0 p.1 text signed.0 (ap past_sign signed.1 ∙ past_sign-sign p.0 signed.0) ((reads_number most).again p.1 signed.0 signed.2)
  degrees_again most p text (inr plain) =
      read_past most p.0 p.1 text text (past_sign-spelled most p.1 text plain.1 ∙ ap (λ (b : Bool). (b, text)) (sym plain.0)) ((reads_number most).again p.1 text plain.1)

  degrees_take : (most : ℕ) (text : List ℕ) (p : Bool × NumberParts) → signed_degrees_at most text ≡ Some p → IsSpelledSignedDegrees most p text
  unfolding signed_degrees_at
  degrees_take most text p e =
      let parts = bind_some _ _ p e in
      subst (λ (q : Bool × NumberParts). IsSpelledSignedDegrees most q text) (same_Some _ p parts.2) (signed_by most text (past_sign text) parts.0 (sign_front text) ((reads_number most).takes (past_sign text).1 parts.0 parts.1))

  pub reads_signed_degrees : (most : ℕ) → IsReader (IsSpelledSignedDegrees most) (signed_degrees_at most)
  reads_signed_degrees most = record { again = degrees_again most; takes = degrees_take most }

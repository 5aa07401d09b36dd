-- Readings of a clock, one after the other.
use Rattle.std.proofs.Common.{◌≡◌, ℕ, ◌+◌, ℤ, List, [], ◌∷◌, ◌++◌, length, Option, refl, sym, ap, subst, ◌∙◌, add-zero, arith}
use Rattle.std.specs.Prelude.{IfSome}
use Rattle.std.proofs.lemmas.List.{length-append}
use Rattle.act_model.specs.Turns.{AreReadings}
use Rattle.act_model.specs.Clocks.{ClockState, last_of, Gives}

AreReadings-append : (told : ℕ → Option ℤ) (from : ℕ) (xs ys : List ℤ) → AreReadings told from xs → AreReadings told (from + length xs) ys → AreReadings told from (xs ++ ys)
AreReadings-append told from [] ys first then = subst (λ (k : ℕ). AreReadings told k ys) (add-zero from) then
AreReadings-append told from (x ∷ xs) ys first then =
    let k : from + length (x ∷ xs) ≡ (from + 1) + length xs = omega arith in
    (first.0, AreReadings-append told (from + 1) xs ys first.1 (subst (λ (n : ℕ). AreReadings told n ys) k then))

-- the next readings of a clock that gave this many
AreReadings-later : (told next : ℕ → Option ℤ) (n : ℕ) → ((k : ℕ) → next k ≡ told (k + n)) → (from : ℕ) (ys : List ℤ) → AreReadings next from ys → AreReadings told (from + n) ys
AreReadings-later told next n later from [] are = tt
AreReadings-later told next n later from (y ∷ ys) are =
    let k : (from + 1) + n ≡ (from + n) + 1 = omega arith in (
      subst (λ (o : Option ℤ). IfSome o (λ t. y ≡ t)) (later from) are.0,
      subst (λ (m : ℕ). AreReadings told m ys) k (AreReadings-later told next n later (from + 1) ys are.1),
    )

last_of-append : (before : ℤ) (xs ys : List ℤ) → last_of before (xs ++ ys) ≡ last_of (last_of before xs) ys
last_of-append before [] ys = refl
last_of-append before (x ∷ xs) ys = last_of-append x xs ys

-- readings, and more of them
pub gives_more : (a b c : ClockState) (xs ys : List ℤ) → Gives a b xs → Gives b c ys → Gives a c (xs ++ ys)
gives_more a b c xs ys first second =
    record {
      known = AreReadings-append a.to_come 0 xs ys first.known (AreReadings-later a.to_come b.to_come (length xs) first.later 0 ys second.known);
      later = λ k.
          let sum : (k + length ys) + length xs ≡ k + length (xs ++ ys) = omega (arith, length-append xs ys) in
          second.later k ∙ first.later (k + length ys) ∙ ap a.to_come sum;
      last = second.last ∙ ap (λ (t : ℤ). last_of t ys) first.last ∙ sym (last_of-append a.last xs ys);
    }

-- What follows where a chain of readings gave a value.
use Rattle.std.proofs.Common.{◌≡◌, ℕ, Bool, true, false, cond, eqb, List, [], length, Option, Some, None, refl, subst}
use Rattle.std.specs.Prelude.{option_map}
use Rattle.std.proofs.lemmas.Bool.{eqb-true}
use Rattle.std.proofs.lemmas.List.{nil_from_length}
use Rattle.std.proofs.lemmas.Option.{same_Some}
use Rattle.ascii_text.specs.Reading.{◌>>=◌}
use Rattle.packed_names.specs.Ends.{whole}

-- the next step is taken on what the one before gave
pub each : {A B : Type 0} (o : Option A) (f : A → Option B) (Q : B → Type 0) → ((x : A) → o ≡ Some x → (y : B) → f x ≡ Some y → Q y) → (y : B) → (o >>= f) ≡ Some y → Q y
each (Some x) f Q h y e = h x refl y e
each None f Q h y e = absurd cc

-- what is given at the end
pub made : {A : Type 0} (x : A) (Q : A → Type 0) → Q x → (y : A) → Some x ≡ Some y → Q y
made x Q h y e = subst Q (same_Some x y e) h

-- what is given where a test passes
pub tested : {A : Type 0} (b : Bool) (x : A) (Q : A → Type 0) → (b ≡ true → Q x) → (y : A) → cond b (Some x) None ≡ Some y → Q y
tested true x Q h y e = made x Q (h refl) y e
tested false x Q h y e = absurd cc

-- what was read to the end
pub ended : {A : Type 0} (x : A) (rest : List ℕ) (Q : A → Type 0) → (rest ≡ [] → Q x) → (y : A) → whole x rest ≡ Some y → Q y
ended x rest Q h = tested (eqb (length rest) 0) x Q (λ end. h (nil_from_length rest (eqb-true _ _ end)))

-- what was made of a value
pub mapped : {A B : Type 0} (f : A → B) (o : Option A) (Q : B → Type 0) → ((x : A) → o ≡ Some x → Q (f x)) → (y : B) → option_map f o ≡ Some y → Q y
mapped f (Some x) Q h y e = made (f x) Q (h x refl) y e
mapped f None Q h y e = absurd cc

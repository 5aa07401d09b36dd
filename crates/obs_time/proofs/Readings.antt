-- What a chain of readings gives.
use Rattle.std.proofs.Common.{◌≡◌, Bool, true, false, cond, Option, Some, None, refl, subst}
use Rattle.std.proofs.lemmas.Option.{same_Some}
use Rattle.ascii_text.specs.Reading.{◌>>=◌}

-- the next step is taken on what the one before gave
pub each : {A B : Type 0} (o : Option A) (f : A → Option B) (Q : B → Type 0) → ((x : A) → o ≡ Some x → (y : B) → f x ≡ Some y → Q y) → (y : B) → (o >>= f) ≡ Some y → Q y
each (Some x) f Q h y e = h x refl y e
each None f Q h y e = absurd cc

-- what is given at the end
pub made : {A : Type 0} (x : A) (Q : A → Type 0) → Q x → (y : A) → Some x ≡ Some y → Q y
made x Q h y e = subst Q (same_Some x y e) h

-- what is given where a test passes
pub tested : {A : Type 0} (b : Bool) (x : A) (Q : A → Type 0) → (b ≡ true → Q x) → (y : A) → cond b (Some x) None ≡ Some y → Q y
tested true x Q h y e = made x Q (h refl) y e
tested false x Q h y e = absurd cc

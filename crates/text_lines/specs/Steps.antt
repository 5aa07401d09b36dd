-- Reading step by step: the next step is made where no step before it found a fault.
use Rattle.std.specs.Prelude.{◌≡◌, refl, Result, Ok, Err}

infixl 10 ◌>>=◌
abbrev pub ◌>>=◌ : {A B E : Type 0} → Result A E → (A → Result B E) → Result B E
(Ok x) >>= f = f x
(Err fault) >>= f = Err fault

-- Where the steps read something, the first read something too, and the next steps read this of it. A clause can't
-- range over all types, so this law stands beside its word.
pub bind_ok : {A B E : Type 0} (r : Result A E) (f : A → Result B E) (y : B) → (r >>= f) ≡ Ok y → (x : A) × (r ≡ Ok x)
    × (f x ≡ Ok y)
bind_ok (Ok x) f y e = (x, refl, e)
bind_ok (Err fault) f y e = absurd cc

-- what was read, or this fault where nothing was
abbrev pub or_breaks : {A E F : Type 0} → F → Result A E → Result A F
or_breaks fault (Ok x) = Ok x
or_breaks fault (Err other) = Err fault

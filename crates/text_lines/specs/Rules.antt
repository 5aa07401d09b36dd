-- Rules in their order. `Keeps rule` says that what is judged, a line as a rule, keeps the rule.
use Rattle.std.specs.Prelude.{◌≡◌, ◌⊎◌, List, [], ◌∷◌, Result, Ok, Err}

-- each of the rules is kept
abbrev pub KeepsEach : {R : Type 0} → (R → Type 0) → List R → Type 0
KeepsEach Keeps [] = Unit {0}
KeepsEach Keeps (rule ∷ more) = Keeps rule × KeepsEach Keeps more

-- This is the first of the rules that is broken: the first of them is broken and is this one, or it is kept and this is
-- the first broken one of the others. So every rule of lower rank is kept.
abbrev pub IsFirstBroken : {R : Type 0} → (R → Type 0) → List R → R → Type 0
IsFirstBroken Keeps [] broken = ⊥
IsFirstBroken Keeps (rule ∷ more) broken =
    ((¬ Keeps rule) × (broken ≡ rule)) ⊎ (Keeps rule × IsFirstBroken Keeps more broken)

-- What a reader says under the rules: each of them is kept and what is read is right; or this one is the first that is
-- broken.
abbrev pub Judges : {R A : Type 0} → (R → Type 0) → List R → (A → Type 0) → Result A R → Type 0
Judges Keeps rules IsRight (Ok x) = KeepsEach Keeps rules × IsRight x
Judges Keeps rules IsRight (Err broken) = IsFirstBroken Keeps rules broken

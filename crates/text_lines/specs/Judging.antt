-- What holds of rules in their order, whatever the rules are of. A clause can't range over all predicates, so these
-- laws stand beside the words that they are of.
use Rattle.std.specs.Prelude.{◌≡◌, Bool, true, false, if◌then◌else◌, List, [], ◌∷◌, ◌++◌, Result, Ok, Err, refl}
use Rattle.std.proofs.Common.{inl, inr, sym, ap, ◌∙◌}
use Rattle.text_lines.specs.Steps.{◌>>=◌}
use Rattle.text_lines.specs.Rules.{KeepsEach, IsFirstBroken, Judges}

-- one of the rules at most is the first broken one
one_broken : {R : Type 0} (Keeps : R → Type 0) (rules : List R) (one other : R)
    → IsFirstBroken Keeps rules one → IsFirstBroken Keeps rules other → one ≡ other
one_broken Keeps [] one other first second = absurd first
one_broken Keeps (rule ∷ more) one other (inl first) (inl second) = first.1 ∙ sym second.1
one_broken Keeps (rule ∷ more) one other (inl first) (inr second) = absurd (first.0 second.0)
one_broken Keeps (rule ∷ more) one other (inr first) (inl second) = absurd (second.0 first.0)
one_broken Keeps (rule ∷ more) one other (inr first) (inr second) = one_broken Keeps more one other first.1 second.1

-- where each rule is kept, none is broken
none_broken : {R : Type 0} (Keeps : R → Type 0) (rules : List R) (rule : R) → KeepsEach Keeps rules
    → IsFirstBroken Keeps rules rule → ⊥
none_broken Keeps [] rule kept broken = broken
none_broken Keeps (next ∷ more) rule kept (inl broken) = broken.0 kept.0
none_broken Keeps (next ∷ more) rule kept (inr later) = none_broken Keeps more rule kept.1 later.1

broken_join : {R : Type 0} (Keeps : R → Type 0) (rules more : List R) (rule : R) → IsFirstBroken Keeps rules rule
    → IsFirstBroken Keeps (rules ++ more) rule
broken_join Keeps [] more rule broken = absurd broken
broken_join Keeps (next ∷ rules) more rule (inl broken) = inl broken
broken_join Keeps (next ∷ rules) more rule (inr later) = inr (later.0, broken_join Keeps rules more rule later.1)

-- a rule that is kept, and then rules that are, before those that are judged
behind_one : {R A : Type 0} (Keeps : R → Type 0) (rule : R) (more : List R) (IsRight : A → Type 0) (r : Result A R)
    → Keeps rule → Judges Keeps more IsRight r → Judges Keeps (rule ∷ more) IsRight r
behind_one Keeps rule more IsRight (Ok x) kept judged = ((kept, judged.0), judged.1)
behind_one Keeps rule more IsRight (Err broken) kept judged = inr (kept, judged)

judged_behind : {R A : Type 0} (Keeps : R → Type 0) (rules more : List R) (IsRight : A → Type 0) (r : Result A R)
    → KeepsEach Keeps rules → Judges Keeps more IsRight r → Judges Keeps (rules ++ more) IsRight r
judged_behind Keeps [] more IsRight r kept judged = judged
judged_behind Keeps (rule ∷ rules) more IsRight r kept judged =
    behind_one Keeps rule (rules ++ more) IsRight r kept.0 (judged_behind Keeps rules more IsRight r kept.1 judged)

-- one step after another
pub judged_on : {R A B : Type 0} (Keeps : R → Type 0) (rules more : List R) (IsRight : A → Type 0)
    (IsRightThen : B → Type 0) (r : Result A R) (f : A → Result B R)
    → Judges Keeps rules IsRight r → ((x : A) → IsRight x → Judges Keeps more IsRightThen (f x))
    → Judges Keeps (rules ++ more) IsRightThen (r >>= f)
judged_on Keeps rules more IsRight IsRightThen (Ok x) f judged step =
    judged_behind Keeps rules more IsRightThen (f x) judged.0 (step x judged.1)
judged_on Keeps rules more IsRight IsRightThen (Err rule) f judged step = broken_join Keeps rules more rule judged

-- a test of one rule
pub judged_test : {R A : Type 0} (Keeps : R → Type 0) (rule : R) (more : List R) (IsRight : A → Type 0) (broken : Bool)
    (r : Result A R)
    → (broken ≡ true → Keeps rule → ⊥) → (broken ≡ false → Keeps rule) → (broken ≡ false → Judges Keeps more IsRight r)
    → Judges Keeps (rule ∷ more) IsRight (if broken then Err rule else r)
judged_test Keeps rule more IsRight true r breaks keeps rest = inl (breaks refl, refl)
judged_test Keeps rule more IsRight false r breaks keeps rest =
    behind_one Keeps rule more IsRight r (keeps refl) (rest refl)

-- What is said under the rules is determined, where what is right of a thing that keeps them all is.
pub one_judgement : {R A : Type 0} (Keeps : R → Type 0) (rules : List R) (IsRight : A → Type 0) (one other : Result A R)
    → (KeepsEach Keeps rules → (x y : A) → IsRight x → IsRight y → x ≡ y) → Judges Keeps rules IsRight one
    → Judges Keeps rules IsRight other → one ≡ other
one_judgement {A = A} Keeps rules IsRight (Ok x) (Ok y) same first second =
    ap (λ (v : A). Ok v) (same first.0 x y first.1 second.1)
one_judgement Keeps rules IsRight (Ok x) (Err rule) same first second =
    absurd (none_broken Keeps rules rule first.0 second)
one_judgement Keeps rules IsRight (Err rule) (Ok y) same first second =
    absurd (none_broken Keeps rules rule second.0 first)
one_judgement {R = R} Keeps rules IsRight (Err rule) (Err next) same first second =
    ap (λ (v : R). Err v) (one_broken Keeps rules rule next first second)

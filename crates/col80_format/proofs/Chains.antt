-- Steps of reading under one rule.
use Rattle.std.proofs.Common.{◌≡◌, Bool, true, false, cond, [], ◌∷◌, Result, Ok, Err, refl, inl}
use Rattle.obs_record.specs.declared.rule.RuleCode.{RuleCode}
use Rattle.text_lines.specs.Rules.{Judges}
use Rattle.text_lines.specs.Steps.{◌>>=◌}

-- what is read is right, or this rule is broken and no other
abbrev pub Says : {A : Type 0} → RuleCode → (A → Type 0) → Result A RuleCode → Type 0
Says rule IsRight (Ok x) = IsRight x
Says rule IsRight (Err broken) = broken ≡ rule

-- one step after another
pub says_on : {A B : Type 0} (rule : RuleCode) (IsRight : A → Type 0) (IsRightThen : B → Type 0) (r : Result A RuleCode) (f : A → Result B RuleCode) → Says rule IsRight r
    → ((x : A) → IsRight x → Says rule IsRightThen (f x)) → Says rule IsRightThen (r >>= f)
says_on rule IsRight IsRightThen (Ok x) f said next = next x said
says_on rule IsRight IsRightThen (Err broken) f said next = said

-- a test that the rule asks
pub says_unless : {A : Type 0} (rule : RuleCode) (IsRight : A → Type 0) (b : Bool) (r : Result A RuleCode) → (b ≡ false → Says rule IsRight r) → Says rule IsRight (cond b (Err rule) r)
says_unless rule IsRight true r passed = refl
says_unless rule IsRight false r passed = passed refl

-- a part of a line that keeps the rule exactly where it is read
pub part_judged : {A : Type 0} (Keeps : RuleCode → Type 0) (rule : RuleCode) (IsRight : A → Type 0) (r : Result A RuleCode) → Says rule IsRight r → ((x : A) → IsRight x → Keeps rule)
    → (Keeps rule → (x : A) × (r ≡ Ok x)) → Judges Keeps (rule ∷ []) IsRight r
part_judged Keeps rule IsRight (Ok x) said keeps found = ((keeps x said, tt), said)
part_judged Keeps rule IsRight (Err broken) said keeps found = inl (λ kept. (let read = (found kept).1 in cc), said)

-- Fields that one rule is of.
use Rattle.std.proofs.Common.{◌≡◌, ◌≢◌, ℕ, Bool, true, false, cond, List, [], ◌∷◌, Option, Some, None, Result, Ok, Err, length, get_or, All, refl, ap, subst, inl, arith}
use Rattle.std.specs.Prelude.{◌↔◌, MatchResult}
use Rattle.std.specs.List.{list_all}
use Rattle.std.proofs.lemmas.Bool.{eqb-true}
use Rattle.std.proofs.lemmas.Bool.Decides.{nat_tests}
use Rattle.std.proofs.lemmas.List.{nil_from_length}
use Rattle.std.proofs.lemmas.List.Sums.{AllPass-from_list_all, list_all-from_AllPass}
use Rattle.obs_record.specs.declared.rule.RuleCode.{RuleCode}
use Rattle.text_lines.specs.Rules.{Judges}
use Rattle.text_lines.specs.Judging.{judged_on}
use Rattle.text_lines.specs.Steps.{◌>>=◌}
use Rattle.ades_psv.specs.Fields.{Fields}
use Rattle.ades_psv.specs.Optional.{Says, IsEmptyOr, is_empty, some_of, unless_empty}
use Rattle.ades_psv.specs.Rules.{Keeps}

-- each byte passes the test, where the test is what is asked of one byte
pub all_pass : (test : ℕ → Bool) (Passes : ℕ → Type 0) → ((byte : ℕ) → (test byte ≡ true) ↔ Passes byte) → (text : List ℕ) → (list_all test text ≡ true) ↔ All Passes text
all_pass test Passes same text = (
  λ h k d lt. (same (get_or text k d)).0 (AllPass-from_list_all test text h k d lt),
  λ h. list_all-from_AllPass test text (λ k d lt. (same (get_or text k d)).1 (h k d lt)),
)

-- ---- empty fields

pub empty_from : (text : List ℕ) → is_empty text ≡ true → text ≡ []
empty_from text h = nil_from_length text (eqb-true (length text) 0 h)

pub filled_from : (text : List ℕ) → is_empty text ≡ false → text ≢ []
filled_from [] h = absurd cc
filled_from (byte ∷ text) h = λ none. cc

pub filled_is : (text : List ℕ) → text ≢ [] → is_empty text ≡ false
filled_is [] some = absurd (some refl)
filled_is (byte ∷ text) some = grind (arith, nat_tests)

-- ---- one field

-- A reading of texts under one rule: what is read from a text that isn't empty is right, or this rule is the matter;
-- what is right is read; and an empty text says nothing.
pub record IsReadingOf {A : Type 0} (rule : RuleCode) (Reads : List ℕ → A → Type 0) (read : List ℕ → Result A RuleCode) : Type 0 where
  pub told : (text : List ℕ) → text ≢ [] → MatchResult (read text) (Reads text) (λ other. other ≡ rule)
  pub found : (text : List ℕ) (x : A) → Reads text x → read text ≡ Ok x
  pub none : (x : A) → Reads [] x → ⊥

-- what is read from a field that may be empty is what it says; or the field breaks the rule
abbrev pub IsTold : {A : Type 0} → RuleCode → (List ℕ → A → Type 0) → List ℕ → Result (Option A) RuleCode → Type 0
IsTold rule Reads text read = MatchResult read (Says Reads text) (λ other. (IsEmptyOr Reads text → ⊥) × (other ≡ rule))

module _ {A : Type 0} {rule : RuleCode} {Reads : List ℕ → A → Type 0} {read : List ℕ → Result A RuleCode} (is : IsReadingOf rule Reads read) where
  unread : (text : List ℕ) (other : RuleCode) → is_empty text ≡ false → read text ≡ Err other → IsEmptyOr Reads text → ⊥
  unread text other e f (None, none) = filled_from text e none
  unread text other e f (Some x, says) = let right = is.found text x says in cc

  told_by : (text : List ℕ) (empty : Bool) (r : Result A RuleCode) → is_empty text ≡ empty → read text ≡ r → (text ≢ [] → MatchResult r (Reads text) (λ other. other ≡ rule))
      → IsTold rule Reads text (cond empty (Ok None) (some_of r))
  told_by text true r e f told = empty_from text e
  told_by text false (Ok x) e f told = told (filled_from text e)
  told_by text false (Err other) e f told = (unread text other e f, told (filled_from text e))

  pub field_told : (text : List ℕ) → IsTold rule Reads text (unless_empty text (read text))
  field_told text = told_by text (is_empty text) (read text) refl refl (is.told text)

  judged_by : (fields : Fields) (text : List ℕ) (r : Result (Option A) RuleCode) → (IsEmptyOr Reads text → Keeps fields rule) → (Keeps fields rule → IsEmptyOr Reads text)
      → IsTold rule Reads text r → Judges (Keeps fields) (rule ∷ []) (Says Reads text) r
  judged_by fields text (Ok said) keeps kept says = ((keeps (said, says), tt), says)
  judged_by fields text (Err other) keeps kept broken = inl (λ k. broken.0 (kept k), broken.1)

  -- a field that the rule is of is judged, and then the rules after it
  pub field_then : {B : Type 0} (fields : Fields) (text : List ℕ) → (IsEmptyOr Reads text → Keeps fields rule) → (Keeps fields rule → IsEmptyOr Reads text)
      → (more : List RuleCode) (IsRight : B → Type 0) (f : Option A → Result B RuleCode)
      → ((said : Option A) → Says Reads text said → Judges (Keeps fields) more IsRight (f said)) → Judges (Keeps fields) (rule ∷ more) IsRight (unless_empty text (read text) >>= f)
  field_then fields text keeps kept more IsRight f next =
      judged_on (Keeps fields) (rule ∷ []) more (Says Reads text) IsRight (unless_empty text (read text)) f (judged_by fields text (unless_empty text (read text)) keeps kept (field_told text)) next

  -- what says something isn't empty
  pub some : (text : List ℕ) (x : A) → Reads text x → text ≢ []
  some text x says none = is.none x (subst (λ (t : List ℕ). Reads t x) none says)

  -- a text says one thing
  pub reads_one : (text : List ℕ) (one other : A) → Reads text one → Reads text other → one ≡ other
  reads_one text one other first second = (let a = is.found text one first in let b = is.found text other second in cc)

  pub says_one : (text : List ℕ) (one other : Option A) → Says Reads text one → Says Reads text other → one ≡ other
  says_one text None None first second = refl
  says_one text None (Some y) first second = absurd (some text y second first)
  says_one text (Some x) None first second = absurd (some text x first second)
  says_one text (Some x) (Some y) first second = ap (λ (z : A). Some z) (reads_one text x y first second)

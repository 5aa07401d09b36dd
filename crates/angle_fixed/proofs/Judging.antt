-- What holds of a reader of angles, whatever it reads: of what a text spells, too many decimals are a fault before a
-- value out of range is.
use Rattle.std.proofs.Common.{◌≡◌, ℕ, ◌<◌, ◌≤◌, Bool, true, false, cond, ltb, List, Option, Result, Ok, Err, refl, sym, ap, subst, inl, inr}
use Rattle.std.proofs.lemmas.Bool.{ltb-true, ltb-false, lt-ltb, le-ltb, false_from_ne_true, true_from_ne_false}
use Rattle.ascii_text.specs.Judged.{answer_of, Answers, IsReader}
use Rattle.ascii_text.specs.Answering.{it_answers, one_answer}
use Rattle.angle_fixed.specs.declared.fault.AngleFault.{AngleFault}
use Rattle.angle_fixed.specs.declared.fault.AngleFault.TheVariants.{Spelling, Range, Decimals}

-- the test is whether a value is out of range
pub record IsTest {P : Type 0} (off : P → Bool) (Within Beyond : P → Type 0) : Type 0 where
  pub within : (p : P) → off p ≡ false → Within p
  pub beyond : (p : P) → off p ≡ true → Beyond p
  pub apart : (p : P) → Within p → Beyond p → ⊥

-- What is worked out is right, and what is right is worked out.
pub record IsOneAnswer {V : Type 0} (Reads : List ℕ → Result V AngleFault → Type 0) (answer : List ℕ → Result V AngleFault) : Type 0 where
  pub reads : (text : List ℕ) → Reads text (answer text)
  pub only : (text : List ℕ) (other : Result V AngleFault) → Reads text other → answer text ≡ other

module _ {P V : Type 0} (spells : P → List ℕ → Type 0) (most : ℕ) (count : P → ℕ) (off : P → Bool) (Within Beyond : P → Type 0) (value : P → V) where
  -- the answer to what is spelled
  abbrev pub judge : P → Result V AngleFault
  judge p = cond (ltb most (count p)) (Err Decimals) (cond (off p) (Err Range) (Ok (value p)))

  -- which answer is right, case by case
  abbrev pub Reads : List ℕ → Result V AngleFault → Type 0
  Reads text (Ok x) = (p : P) × spells p text × (count p ≤ most) × Within p × (x ≡ value p)
  Reads text (Err Spelling) = (p : P) → spells p text → ⊥
  Reads text (Err Decimals) = (p : P) × spells p text × (most < count p)
  Reads text (Err Range) = (p : P) × spells p text × (count p ≤ most) × Beyond p

  judged : (many is_off : Bool) (test : IsTest off Within Beyond) (text : List ℕ) (p : P) → spells p text → ltb most (count p) ≡ many → off p ≡ is_off
      → Reads text (cond many (Err Decimals) (cond is_off (Err Range) (Ok (value p))))
  judged true is_off test text p spelled decimals range = (p, spelled, ltb-true most (count p) decimals)
  judged false true test text p spelled decimals range = (p, spelled, ltb-false most (count p) decimals, test.beyond p range)
  judged false false test text p spelled decimals range = (p, spelled, ltb-false most (count p) decimals, test.within p range, refl)

  right_of : (test : IsTest off Within Beyond) (text : List ℕ) (answer : Result V AngleFault) → Answers spells judge Spelling text answer → Reads text answer
  right_of test text answer (inl spelled) =
      subst (Reads text) (sym spelled.2) (judged (ltb most (count spelled.0)) (off spelled.0) test text spelled.0 spelled.1 refl refl)
  right_of test text answer (inr nothing) = subst (Reads text) (sym nothing.1) nothing.0

  answers_of : (test : IsTest off Within Beyond) (text : List ℕ) (answer : Result V AngleFault) → Reads text answer → Answers spells judge Spelling text answer
  answers_of test text (Ok x) right =
      inl (right.0, right.1, rw (le-ltb most (count right.0) right.2, false_from_ne_true (off right.0) (λ e. test.apart right.0 right.3 (test.beyond right.0 e))) (ap (λ (y : V). Ok y) right.4))
  answers_of test text (Err Spelling) right = inr (right, refl)
  answers_of test text (Err Decimals) right = inl (right.0, right.1, rw (lt-ltb most (count right.0) right.2) refl)
  answers_of test text (Err Range) right =
      inl (right.0, right.1, rw (le-ltb most (count right.0) right.2, true_from_ne_false (off right.0) (λ e. test.apart right.0 (test.within right.0 e) right.3)) refl)

  pub reads_right : (test : IsTest off Within Beyond) (read : List ℕ → Option P) → IsReader spells read → IsOneAnswer Reads (λ text. answer_of judge Spelling (read text))
  reads_right test read reader = record {
    reads = λ text. right_of test text _ (it_answers spells read reader judge Spelling text);
    only = λ text other right. one_answer spells read reader judge Spelling text _ other (it_answers spells read reader judge Spelling text) (answers_of test text other right);
  }

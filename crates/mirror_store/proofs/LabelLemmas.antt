-- Labels stand for texts.
use Rattle.std.proofs.Common.{◌≡◌, ℕ, zero, suc, ◌-◌, ◌<◌, ◌≤◌, List, ◌∷◌, ◌++◌, length, take, refl, sym, ap, ◌∙◌, arith}
use Rattle.std.specs.Prelude.{replicate, decimal}
use Rattle.std.proofs.Math.Seq.{take-append_seam, drop-append_seam}
use Rattle.std.proofs.lemmas.Fmt.{length-decimal-le}
use Rattle.std.proofs.lemmas.List.{take-append-drop, length-append}
use Rattle.ascii_text.specs.Laws.{TextLaws}
use Rattle.packed_names.specs.declared.label.Label.{Label}
use Rattle.packed_names.specs.declared.name.Designation.{Designation}
use Rattle.packed_names.specs.declared.name.Designation.TheVariants as designations
use Rattle.packed_names.specs.declared.name.Name.TheVariants as names
use Rattle.packed_names.specs.declared.provisional.Provisional.{Provisional}
use Rattle.packed_names.specs.declared.survey.Survey.{Survey}
use Rattle.packed_names.specs.declared.survey.Survey.TheVariants.{PalomarLeiden, T1, T2, T3}
use Rattle.packed_names.specs.Labels.{IsLabelOf}
use Rattle.packed_names.specs.Orders.{cycle_of}
use Rattle.packed_names.specs.Printed.{printed_text, cycle_text, provisional_text, suffix, survey_text}
use Rattle.packed_names.specs.Ranges.{IsDesignation, IsProvisional, IsSurveyNumber, limit_of}
use Rattle.mirror_store.specs.Mirrored.{label_of, printed_label}

-- a text has one label
pub label_is : (text : List ℕ) (label : Label) → IsLabelOf text label → label ≡ label_of text
label_is text label is =
    let bytes : label.bytes ≡ text ++ replicate (13 - length text) 0 = cc (take-append-drop label.len label.bytes, is.text_is, is.zeros, is.len) in
    λ j. record { len = is.len j; bytes = bytes j }

-- the label of a text that isn't too long
pub of_label : (text : List ℕ) → length text ≤ 13 → IsLabelOf text (label_of text)
of_label text few =
    record {
      len = refl;
      fits = few;
      text_is = take-append_seam text (replicate (13 - length text) 0);
      zeros = drop-append_seam text (replicate (13 - length text) 0);
    }

-- different texts have different labels
pub one_text : (one other : List ℕ) → label_of one ≡ label_of other → one ≡ other
one_text one other same =
    let zeros_after : List ℕ → List ℕ = λ text. replicate (13 - length text) 0 in
    let lengths : length one ≡ length other = ap (λ l. l.len) same in
    let bytes : one ++ zeros_after one ≡ other ++ zeros_after other = ap (λ l. l.bytes) same in
    sym (take-append_seam one (zeros_after one)) ∙ ap (take (length one)) bytes ∙ ap (λ n. take n (other ++ zeros_after other)) lengths
    ∙ take-append_seam other (zeros_after other)

-- ---- how long printed designations are

limit : (p : Provisional) → limit_of p.half ≤ 14791836
limit p = grind arith

length-cycle : (cycle : ℕ) → cycle < 1000000 → length (cycle_text cycle) ≤ 6
unfolding cycle_text
length-cycle zero below = omega arith
length-cycle (suc before) below = length-decimal-le 6 (suc before) (omega arith) below (omega arith)

length-suffix : (survey : Survey) → length (suffix survey) ≡ 3
unfolding suffix
length-suffix PalomarLeiden = refl
length-suffix T1 = refl
length-suffix T2 = refl
length-suffix T3 = refl

length-survey : (survey : Survey) (number : ℕ) → IsSurveyNumber number → length (survey_text survey number) ≤ 13
unfolding survey_text
length-survey survey number is =
    omega (arith, length-append (decimal number) (32 ∷ suffix survey), length-decimal-le 4 number (omega arith) (omega (arith, is.1)) (omega (arith, is.1)), length-suffix survey)

module _ (texts : TextLaws) where
  open texts use {length-digits_text}

  length-provisional : (p : Provisional) → IsProvisional p → length (provisional_text p) ≤ 13
  unfolding provisional_text
  length-provisional p is =
      simp (length-append, length-digits_text) (omega (arith, length-cycle (cycle_of p.order) (omega (arith, limit p, is.order_to))))

  length-printed : (d : Designation) → IsDesignation d → length (printed_text (names.Designation d)) ≤ 13
  length-printed (designations.Provisional p) is = length-provisional p is
  length-printed (designations.Survey survey number) is = length-survey survey number is

  -- a designation's label is its printed form
  pub is_printed : (d : Designation) → IsDesignation d → IsLabelOf (printed_text (names.Designation d)) (printed_label d)
  is_printed d is = of_label (printed_text (names.Designation d)) (length-printed d is)

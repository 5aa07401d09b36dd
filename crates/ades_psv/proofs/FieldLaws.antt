-- The fields of a data line: what is read from one is what it says, and what it says is read.
use Rattle.std.proofs.Common.{◌≡◌, ◌≢◌, ℕ, ◌≤◌, Bool, true, false, cond, leb, ltb, ◌&&◌, List, [], ◌∷◌, length, All, Option, Some, None, Result, Ok, Err, refl, sym, ap, subst, ◌∙◌, arith}
use Rattle.std.specs.Prelude.{◌↔◌, option_map, MatchResult}
use Rattle.std.specs.List.{list_all}
use Rattle.std.proofs.lemmas.Bool.{and_parts, leb-true, le-leb}
use Rattle.std.proofs.lemmas.Bool.Decides.{nat_tests}
use Rattle.std.proofs.lemmas.Result.{MatchResult-weaker}
use Rattle.ascii_text.specs.DecimalNumbers.{NumberParts, IsSpelledNumber, number_parts_at, within, whole_at}
use Rattle.ascii_text.specs.Reading.{digits_at, digit_run, run_at, number_at, behind, more_digits, digit_at}
use Rattle.ascii_text.specs.Judged.{answer_of}
use Rattle.angle_fixed.specs.declared.fault.AngleFault.TheVariants as angles
use Rattle.obs_time.specs.declared.fault.TimeFault.TheVariants as times
use Rattle.obs_time.specs.DateText.{date_at}
use Rattle.angle_fixed.specs.Degrees.{ra_degrees_of, dec_degrees_of, signed_degrees_at, past_sign, ReadsRaDegrees, ReadsDecDegrees}
use Rattle.obs_time.specs.IsoText.{iso_of, iso_at, time_at, IsIsoAnswer}
use Rattle.packed_names.specs.declared.name.Name.{Name}
use Rattle.packed_names.specs.declared.name.Name.TheVariants as names
use Rattle.packed_names.specs.declared.name.NameFault.{NameFault}
use Rattle.packed_names.specs.declared.name.NameFault.TheVariants.{Spelling}
use Rattle.packed_names.specs.Printed.{IsPrintedAs}
use Rattle.packed_names.specs.PrintedReading.{printed_in, number_in as printed_number_in, designation_in as printed_designation_in, provisional_in, half_at, survey_in}
use Rattle.obs_record.specs.declared.short.Short.{Short}
use Rattle.obs_record.specs.declared.rule.RuleCode.{RuleCode}
use Rattle.obs_record.specs.declared.rule.RuleCode.TheVariants.{S3, S5, S6, S7, S9, S12}
use Rattle.obs_record.specs.Magnitudes.{magnitude_of, greatest_magnitude}
use Rattle.obs_record.specs.Short.{kept_short}
use Rattle.text_lines.specs.Steps.{or_breaks}
use Rattle.ades_psv.specs.Magnitudes.{IsMagnitude, magnitude_from}
use Rattle.ades_psv.specs.Names.{IsNumberText, IsDesignationText, IsTemporary, name_of, number_from, designation_from, temporary_from}
use Rattle.ascii_text.specs.Bytes.{is_visible}
use Rattle.ades_psv.specs.Rules.{IsTime, IsRa, IsDec}
use Rattle.ades_psv.specs.LawsBelow.{Laws}
use Rattle.ades_psv.proofs.Judging.{IsReadingOf, all_pass}

-- ---- temporary designations

-- a visible byte, and the text of such bytes
visible : (text : List ℕ) → (list_all is_visible text ≡ true) ↔ All (λ byte. (33 ≤ byte) × (byte ≤ 126)) text
visible = all_pass is_visible (λ byte. (33 ≤ byte) × (byte ≤ 126)) (λ byte. (
  λ h. (grind (arith, nat_tests), grind (arith, nat_tests)),
  λ h. (let a = h.0 in let b = h.1 in grind (arith, nat_tests)),
))

temporary_told : (text : List ℕ) (fits : Bool) → text ≢ [] → leb (length text) 8 && list_all is_visible text ≡ fits
    → MatchResult (cond fits (Ok (kept_short text)) (Err S12)) (IsTemporary text) (λ other. other ≡ S12)
temporary_told [] fits some f = absurd (some refl)
temporary_told (byte ∷ more) false some f = refl
temporary_told (byte ∷ more) true some f =
    let tests = and_parts (leb (length (byte ∷ more)) 8) (list_all is_visible (byte ∷ more)) f in
    record { some = omega arith; few = leb-true (length (byte ∷ more)) 8 tests.0; visible = (visible (byte ∷ more)).0 tests.1; kept = refl }

temporary_found : (text : List ℕ) (short : Short) → IsTemporary text short → temporary_from text ≡ Ok short
temporary_found text short is =
    rw (le-leb (length text) 8 is.few, (visible text).1 is.visible) (ap (λ (s : Short). Ok s) (sym is.kept))

pub temporary_field : IsReadingOf S12 IsTemporary temporary_from
temporary_field = record { told = λ text some. temporary_told text (leb (length text) 8 && list_all is_visible text) some refl; found = temporary_found; none = λ short is. omega (arith, is.some) }

-- nothing is read from an empty text
empty : (number_parts_at 2 [] ≡ None) × (iso_of [] ≡ Err times.Spelling) × (ra_degrees_of [] ≡ Err angles.Spelling) × (dec_degrees_of [] ≡ Err angles.Spelling)
unfolding number_parts_at whole_at run_at digit_run answer_of iso_of iso_at time_at date_at digits_at more_digits digit_at ra_degrees_of dec_degrees_of signed_degrees_at past_sign
empty = (refl, refl, refl, refl)

-- ---- numbers and designations

no_name : name_of [] ≡ Err Spelling
unfolding name_of printed_in printed_number_in printed_designation_in provisional_in half_at survey_in number_at digit_run digits_at more_digits digit_at behind answer_of
no_name = refl

number_told : (r : Result Name NameFault) → MatchResult (number_from r) (λ number. r ≡ Ok (names.Number number)) (λ other. other ≡ S3)
number_told (Ok (names.Number number)) = refl
number_told (Ok (names.Designation designation)) = refl
number_told (Err fault) = refl

designation_told : (r : Result Name NameFault) → MatchResult (designation_from r) (λ designation. r ≡ Ok (names.Designation designation)) (λ other. other ≡ S3)
designation_told (Ok (names.Designation designation)) = refl
designation_told (Ok (names.Number number)) = refl
designation_told (Err fault) = refl

-- ---- magnitudes

-- a decimal number with at most six decimals
magnitude_told : (text : List ℕ) (p : NumberParts) (many below : Bool) → IsSpelledNumber 2 p text → ltb 6 p.count ≡ many → leb (magnitude_of p.whole p.count p.value) greatest_magnitude ≡ below
    → MatchResult (magnitude_from (Some (cond many None (Some p)))) (IsMagnitude text) (λ other. other ≡ S9)
magnitude_told text p true below spelled m b = refl
magnitude_told text p false false spelled m b = rw b refl
magnitude_told text p false true spelled m b =
    let low = leb-true (magnitude_of p.whole p.count p.value) greatest_magnitude b in
    rw b (record { parts = p; spelled = spelled; few = grind (arith, nat_tests); value = refl; below = low; places = refl })

some_told : (text : List ℕ) (o : Option NumberParts) → ((p : NumberParts) → o ≡ Some p → IsSpelledNumber 2 p text)
    → MatchResult (magnitude_from (option_map (λ p. within 6 p) o)) (IsMagnitude text) (λ other. other ≡ S9)
some_told text None spelled = refl
some_told text (Some p) spelled =
    magnitude_told text p (ltb 6 p.count) (leb (magnitude_of p.whole p.count p.value) greatest_magnitude) (spelled p refl) refl refl

magnitude_found : (text : List ℕ) (read : ℕ × ℕ) (is : IsMagnitude text read) → number_parts_at 2 text ≡ Some is.parts
    → magnitude_from (option_map (λ p. within 6 p) (number_parts_at 2 text)) ≡ Ok read
magnitude_found text read is spelled =
    let p = is.parts in
    let few_parts = is.few in
    let few : ltb 6 p.count ≡ false = grind (arith, nat_tests) in
    let low : magnitude_of p.whole p.count p.value ≤ greatest_magnitude = subst (λ (n : ℕ). n ≤ greatest_magnitude) is.value is.below in
    rw (spelled, few, le-leb (magnitude_of p.whole p.count p.value) greatest_magnitude low)
    (ap (λ (v : ℕ). Ok (v, p.count)) (sym is.value) ∙ ap (λ (n : ℕ). Ok (read.0, n)) (sym is.places))

-- ---- readings whose own faults all break one rule

breaks_told : {A E : Type 0} (rule : RuleCode) (Reads : A → Type 0) (r : Result A E) → ((x : A) → r ≡ Ok x → Reads x) → MatchResult (or_breaks rule r) Reads (λ other. other ≡ rule)
breaks_told rule Reads (Ok x) given = given x refl
breaks_told rule Reads (Err fault) given = refl

-- what is read is right, what is right is read, and nothing is read from an empty text
breaks_field : {A E : Type 0} (rule : RuleCode) (Reads : List ℕ → A → Type 0) (read : List ℕ → Result A E) (fault : E) → ((text : List ℕ) (x : A) → read text ≡ Ok x → Reads text x)
    → ((text : List ℕ) (x : A) → Reads text x → read text ≡ Ok x) → read [] ≡ Err fault → IsReadingOf rule Reads (λ text. or_breaks rule (read text))
breaks_field rule Reads read fault given found none_read = record {
  told = λ text some. breaks_told rule (Reads text) (read text) (given text);
  found = λ text x is. ap (or_breaks rule) (found text x is);
  none = λ x is. (let right = found [] x is in cc);
}

module _ (laws : Laws) where
  open laws use {texts.{reads_number}, angles.{ra_degrees_reads, ra_degrees_only, dec_degrees_reads, dec_degrees_only}, times.{iso_answered, iso_answer_only}, names.{printed_exactly}}

  -- reading gives exactly the name whose printed form the text is
  named_exactly : (text : List ℕ) (name : Name) → (name_of text ≡ Ok name) ↔ IsPrintedAs name text
  unfolding name_of
  named_exactly text name = printed_exactly text name

  -- names of one kind: what is said about each name gives those that are read
  name_field : {A : Type 0} (name : A → Name) (from : Result Name NameFault → Result A RuleCode) → ((r : Result Name NameFault) → MatchResult (from r) (λ x. r ≡ Ok (name x)) (λ other. other ≡ S3))
      → ((x : A) → from (Ok (name x)) ≡ Ok x) → IsReadingOf S3 (λ text x. IsPrintedAs (name x) text) (λ text. from (name_of text))
  name_field name from told kept = record {
    told = λ text some.
        MatchResult-weaker (from (name_of text)) {P = λ x. name_of text ≡ Ok (name x)} {P' = λ x. IsPrintedAs (name x) text} {Q = λ other. other ≡ S3} {Q' = λ other. other ≡ S3}
        (told (name_of text)) (λ x. (named_exactly text (name x)).0) (λ other same. same);
    found = λ text x is. ap from ((named_exactly text (name x)).1 is) ∙ kept x;
    none = λ x is. (let right = (named_exactly [] (name x)).1 is in cc no_name);
  }

  pub number_field : IsReadingOf S3 IsNumberText (λ text. number_from (name_of text))
  number_field = name_field (λ number. names.Number number) number_from number_told (λ number. refl)

  pub designation_field : IsReadingOf S3 IsDesignationText (λ text. designation_from (name_of text))
  designation_field = name_field (λ designation. names.Designation designation) designation_from designation_told (λ designation. refl)

  pub magnitude_field : IsReadingOf S9 IsMagnitude (λ text. magnitude_from (option_map (λ p. within 6 p) (number_parts_at 2 text)))
  magnitude_field = record {
    told = λ text some. some_told text (number_parts_at 2 text) (λ p e. (reads_number 2).takes text p e);
    found = λ text read is. magnitude_found text read is ((reads_number 2).again is.parts text is.spelled);
    none = λ read is. (let right = (reads_number 2).again is.parts [] is.spelled in cc empty.0);
  }

  pub time_field : IsReadingOf S5 IsTime (λ text. or_breaks S5 (iso_of text))
  time_field =
      breaks_field S5 IsTime iso_of times.Spelling (λ text t h. subst (IsIsoAnswer text) h (iso_answered text)) (λ text t is. sym (iso_answer_only text (Ok t) is)) empty.1

  pub ra_field : IsReadingOf S6 IsRa (λ text. or_breaks S6 (ra_degrees_of text))
  ra_field = breaks_field S6 IsRa ra_degrees_of angles.Spelling (λ text ra h. subst (ReadsRaDegrees text) h (ra_degrees_reads text)) (λ text ra is. ra_degrees_only text (Ok ra) is) empty.2

  pub dec_field : IsReadingOf S7 IsDec (λ text. or_breaks S7 (dec_degrees_of text))
  dec_field = breaks_field S7 IsDec dec_degrees_of angles.Spelling (λ text dec h. subst (ReadsDecDegrees text) h (dec_degrees_reads text)) (λ text dec is. dec_degrees_only text (Ok dec) is) empty.3

-- The names of columns 1 to 12 are read, and those that are read are those of the columns.
use Rattle.std.proofs.Common.{◌≡◌, ◌≢◌, ℕ, zero, suc, ◌-◌, ◌≤◌, Bool, true, false, cond, List, [], ◌++◌, length, get_or, drop, All, Option, Some, None, Result, Ok, Err, refl, sym, ap, subst, ◌∙◌, inl, inr, arith, lit≤}
use Rattle.std.specs.List.{list_all}
use Rattle.std.proofs.lemmas.Bool.{cases_lt, false_from_ne_true}
use Rattle.std.proofs.lemmas.Bool.Decides.{nat_tests}
use Rattle.std.proofs.lemmas.List.{append-nil, nil_from_length, length-take, length-drop}
use Rattle.std.proofs.lemmas.List.Sums.{AllPass-from_list_all, list_all-from_AllPass}
use Rattle.ascii_text.specs.Blanks.{blanks, are_blanks, trimmed, IsTrimmed}
use Rattle.ascii_text.specs.Reading.{digits_at, more_digits, digit_at, digit_value, sixty_two_value, behind}
use Rattle.ascii_text.specs.Judged.{answer_of}
use Rattle.packed_names.specs.declared.number.Number.{Number}
use Rattle.packed_names.specs.declared.name.Designation.{Designation}
use Rattle.packed_names.specs.declared.name.Name.{Name}
use Rattle.packed_names.specs.declared.name.Name.TheVariants as names
use Rattle.packed_names.specs.declared.name.NameFault.{NameFault}
use Rattle.packed_names.specs.declared.name.NameFault.TheVariants.{Spelling}
use Rattle.packed_names.specs.Judging.{is_in_range, answered}
use Rattle.packed_names.specs.Packed.{IsPackedAs}
use Rattle.packed_names.specs.PackedReading.{packed_in, number_in as packed_number_in, small_number_in, large_number_in, designation_in, provisional_in, century_form_in, century_half_at, century_at, extended_form_in, survey_in, survey_at, survey_of}
use Rattle.obs_record.specs.declared.short.Short.{Short}
use Rattle.obs_record.specs.declared.rule.RuleCode.TheVariants.{S3}
use Rattle.obs_record.specs.Short.{kept_short}
use Rattle.col80_format.specs.declared.names.Names.{Names}
use Rattle.col80_format.specs.Columns.{columns}
use Rattle.col80_format.specs.LawsBelow.{Laws}
use Rattle.col80_format.specs.Names.{IsNumberText, SpellsTemporary, IsNameText, AreNamesOf, number_from, number_in, is_plain, temporary_in, name_from, name_in, names_in}
use Rattle.text_lines.specs.Steps.{◌>>=◌}
use Rattle.col80_format.proofs.Chains.{Says, says_on, says_unless}

-- the name whose packed form the text is, or why it is none
abbrev unpacked : List ℕ → Result Name NameFault
unpacked text = answered is_in_range (packed_in text)

five_blanks : unpacked (blanks 5) ≡ Err Spelling
unfolding packed_in packed_number_in small_number_in large_number_in digits_at more_digits digit_at digit_value sixty_two_value behind blanks answer_of
five_blanks = refl

seven_blanks : unpacked (blanks 7) ≡ Err Spelling
unfolding packed_in designation_in provisional_in century_form_in century_half_at century_at extended_form_in survey_in survey_at survey_of behind blanks answer_of
seven_blanks = refl

-- the columns from a to b are as many as they say
pub columns_long : (a b : ℕ) (line : List ℕ) → length line ≡ 80 → b ≤ 80 → length (columns a b line) ≡ b - (a - 1)
columns_long a b line long high = omega (arith, length-take (b - (a - 1)) (drop (a - 1) line), length-drop (a - 1) line)

-- what is left of blanks without blanks at both ends is nothing
empty_trimmed : (n : ℕ) → IsTrimmed (blanks n) []
unfolding blanks
empty_trimmed n = record { before = n; after = 0; parts = sym (append-nil (blanks n)); first = λ h. omega arith; last = λ h. omega arith }

plain_from : (name : List ℕ) → list_all is_plain name ≡ true → All (λ byte. (byte ≢ 32) × (byte ≢ 124)) name
plain_from name h = λ k d lt. (let plain : is_plain (get_or name k d) ≡ true = AllPass-from_list_all is_plain name h k d lt in (λ e. grind (arith, nat_tests), λ e. grind (arith, nat_tests)))

plain_all : (name : List ℕ) → All (λ byte. (byte ≢ 32) × (byte ≢ 124)) name → list_all is_plain name ≡ true
plain_all name h = list_all-from_AllPass is_plain name (λ k d lt. (let a = (h k d lt).0 in let b = (h k d lt).1 in grind (arith, nat_tests)))

module _ (laws : Laws) where
  open laws use {texts.{are_blanks-blanks, are_blanks_takes, trimmed_is, trimmed_only}, names.{packed_exactly}}

  -- no name is packed as blanks
  no_blanks : (n : ℕ) (text : List ℕ) (name : Name) → unpacked (blanks n) ≡ Err Spelling → length text ≡ n → IsPackedAs name text → are_blanks text ≡ false
  no_blanks n text name none long packed =
      false_from_ne_true (are_blanks text) (λ blank.
      let is : text ≡ blanks n = are_blanks_takes text blank ∙ ap blanks long in
      let read : unpacked text ≡ Ok name = (packed_exactly text name).1 packed in
      let unread : unpacked text ≡ Err Spelling = ap unpacked is ∙ none in
      cc)

  -- ---- columns 1 to 5

  number_says : (text : List ℕ) (blank : Bool) (r : Result Name NameFault) → length text ≡ 5 → are_blanks text ≡ blank → unpacked text ≡ r
      → Says S3 (IsNumberText text) (cond blank (Ok None) (number_from r))
  number_says text true r long blank read = are_blanks_takes text blank ∙ ap blanks long
  number_says text false (Ok (names.Number number)) long filled read = (packed_exactly text (names.Number number)).0 read
  number_says text false (Ok (names.Designation designation)) long filled read = refl
  number_says text false (Err fault) long filled read = refl

  number_found : (text : List ℕ) (perm : Option Number) → length text ≡ 5 → IsNumberText text perm → number_in text ≡ Ok perm
  unfolding number_in
  number_found text None long is = rw (is, are_blanks-blanks 5) refl
  number_found text (Some number) long is =
      rw (no_blanks 5 text (names.Number number) five_blanks long is, (packed_exactly text (names.Number number)).1 is) refl

  -- ---- columns 6 to 12

  blanks_join : (a b : ℕ) → are_blanks (blanks a ++ ([] ++ blanks b)) ≡ true
  unfolding blanks are_blanks
  blanks_join zero b = are_blanks-blanks b
  blanks_join (suc a) b = blanks_join a b

  -- a text with something else than blanks has something between them
  some_trimmed : (text : List ℕ) → are_blanks text ≡ false → 1 ≤ length (trimmed text)
  some_trimmed text filled =
      elim (cases_lt (length (trimmed text)) 1) [
        | inl empty ↦
            let t : IsTrimmed text [] = subst (IsTrimmed text) (nil_from_length (trimmed text) (omega arith)) (trimmed_is text) in
            let blank : are_blanks text ≡ true = ap are_blanks t.parts ∙ blanks_join t.before t.after in
            absurd cc
        | inr some ↦ some
      ]

  -- where the text is no packed designation
  temporary_says : (text : List ℕ) (plain : Bool) → are_blanks text ≡ false → ((designation : Designation) → IsPackedAs (names.Designation designation) text → ⊥)
      → list_all is_plain (trimmed text) ≡ plain → Says S3 (λ (x : Option Designation × Option Short). IsNameText text x.0 x.1) (cond plain (Ok (kept_short (trimmed text))) (Err S3) >>= λ short. Ok (None, Some short))
  temporary_says text true filled none plain =
      (none, trimmed text, record { some = some_trimmed text filled; plain = plain_from (trimmed text) plain; alone = trimmed_is text }, refl)
  temporary_says text false filled none plain = refl

  name_says : (text : List ℕ) (blank : Bool) (r : Result Name NameFault) → length text ≡ 7 → are_blanks text ≡ blank → unpacked text ≡ r
      → Says S3 (λ (x : Option Designation × Option Short). IsNameText text x.0 x.1) (cond blank (Ok (None, None)) (name_from text r))
  unfolding temporary_in
  name_says text true r long blank read = are_blanks_takes text blank ∙ ap blanks long
  name_says text false (Ok (names.Designation designation)) long filled read = (packed_exactly text (names.Designation designation)).0 read
  name_says text false (Ok (names.Number number)) long filled read =
      temporary_says text (list_all is_plain (trimmed text)) filled (λ designation packed. (let other = (packed_exactly text (names.Designation designation)).1 packed in cc)) refl
  name_says text false (Err fault) long filled read =
      temporary_says text (list_all is_plain (trimmed text)) filled (λ designation packed. (let other = (packed_exactly text (names.Designation designation)).1 packed in cc)) refl

  temporary_filled : (text name : List ℕ) → SpellsTemporary name text → are_blanks text ≡ false
  temporary_filled text name spelled =
      false_from_ne_true (are_blanks text) (λ blank.
      let is : text ≡ blanks (length text) = are_blanks_takes text blank in
      let none : trimmed text ≡ [] = ap trimmed is ∙ trimmed_only (blanks (length text)) [] (empty_trimmed (length text)) in
      let same : name ≡ [] = sym (trimmed_only text name spelled.alone) ∙ none in
      omega (arith, spelled.some, ap length same))

  -- no packed designation stands there, so the temporary one is read
  other_name : (text : List ℕ) (short : Short) (r : Result Name NameFault) → ((designation : Designation) → IsPackedAs (names.Designation designation) text → ⊥)
      → unpacked text ≡ r → temporary_in text ≡ Ok short → name_from text r ≡ Ok (None, Some short)
  other_name text short (Ok (names.Designation designation)) none read is = absurd (none designation ((packed_exactly text (names.Designation designation)).0 read))
  other_name text short (Ok (names.Number number)) none read is = rw is refl
  other_name text short (Err fault) none read is = rw is refl

  name_found : (text : List ℕ) (prov : Option Designation) (sub : Option Short) → length text ≡ 7 → IsNameText text prov sub → name_in text ≡ Ok (prov, sub)
  unfolding name_in temporary_in
  name_found text None None long is = rw (is, are_blanks-blanks 7) refl
  name_found text (Some designation) None long is =
      rw (no_blanks 7 text (names.Designation designation) seven_blanks long is, (packed_exactly text (names.Designation designation)).1 is) refl
  name_found text None (Some short) long is =
      let read : temporary_in text ≡ Ok short = rw (trimmed_only text is.1 is.2.alone, plain_all is.1 is.2.plain, is.3) refl in
      rw (temporary_filled text is.1 is.2) (other_name text short (unpacked text) is.0 refl read)
  name_found text (Some designation) (Some short) long is = absurd is

  -- ---- columns 1 to 12

  -- the names that are read are those of the columns
  pub names_say : (line : List ℕ) → length line ≡ 80 → Says S3 (AreNamesOf line) (names_in line)
  unfolding names_in number_in name_in
  names_say line long =
      says_unless S3 (AreNamesOf line) (are_blanks (columns 1 12 line)) _ (λ filled.
      says_on S3 (IsNumberText (columns 1 5 line)) (AreNamesOf line) (number_in (columns 1 5 line)) _
      (number_says (columns 1 5 line) (are_blanks (columns 1 5 line)) (unpacked (columns 1 5 line)) (columns_long 1 5 line long (lit≤ tt)) refl refl)
      (λ number is_number. says_on S3 (λ name. IsNameText (columns 6 12 line) name.0 name.1) (AreNamesOf line) (name_in (columns 6 12 line)) _
      (name_says (columns 6 12 line) (are_blanks (columns 6 12 line)) (unpacked (columns 6 12 line)) (columns_long 6 12 line long (lit≤ tt)) refl refl)
      (λ name is_name. record { number = is_number; name = is_name; some = λ blank. (let other : are_blanks (columns 1 12 line) ≡ true = ap are_blanks blank ∙ are_blanks-blanks 12 in cc) })))

  -- the names of the columns are read
  pub names_found : (line : List ℕ) (named : Names) → length line ≡ 80 → AreNamesOf line named → names_in line ≡ Ok named
  unfolding names_in
  names_found line named long are =
      let filled : are_blanks (columns 1 12 line) ≡ false =
      false_from_ne_true (are_blanks (columns 1 12 line)) (λ blank. are.some (are_blanks_takes (columns 1 12 line) blank ∙ ap blanks (columns_long 1 12 line long (lit≤ tt)))) in
      let number = number_found (columns 1 5 line) named.perm (columns_long 1 5 line long (lit≤ tt)) are.number in
      let name = name_found (columns 6 12 line) named.prov named.sub (columns_long 6 12 line long (lit≤ tt)) are.name in
      rw (filled, number, name) refl

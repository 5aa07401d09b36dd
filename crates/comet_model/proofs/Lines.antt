-- Lines that name comets, and texts of them.
use Rattle.std.proofs.Common.{◌≡◌, ℕ, ◌≤◌, Bool, true, false, cond, List, [], ◌∷◌, ◌++◌, append_assoc, length, Some, None, All, refl, sym, ap, subst, ◌∙◌, arith}
use Rattle.std.specs.Prelude.{◌==◌, ◌&&◌, ◌||◌, bytes_eq}
use Rattle.std.proofs.lemmas.Bool.{and_parts}
use Rattle.std.proofs.lemmas.Bool.Decides.{nat_tests}
use Rattle.std.proofs.lemmas.List.Splits.{slice_split_none, slice_split_at, length-slice_split}
use Rattle.std.proofs.lemmas.Slice.Eq.{bytes_eq-Decides}
use Rattle.ascii_text.specs.Blanks.{are_blanks}
use Rattle.text_lines.specs.Pieces.{parts}
use Rattle.packed_names.specs.declared.name.Designation.{Designation}
use Rattle.comet_names.specs.declared.comet.Comet.{Comet}
use Rattle.comet_names.specs.declared.comet.CometKind.{CometKind}
use Rattle.comet_names.specs.declared.comet.CometKind.TheVariants.{C, P}
use Rattle.comet_names.specs.Judging.{is_comet}
use Rattle.comet_names.specs.Kinds.{kind_letter}
use Rattle.comet_names.specs.Packed.{packed_comet}
use Rattle.col80_format.specs.Batch.{is_header_line, is_front_line}
use Rattle.col80_format.specs.Columns.{columns}
use Rattle.comet_model.specs.declared.named.NamedComet.{NamedComet}
use Rattle.comet_model.specs.Texts.{packed_comet_text}
use Rattle.comet_model.specs.Translation.{object_named, object_in, translated_line, translated_part, translated_parts, translation}

-- ---- a line that names a comet

-- a packed name begins with the letter of its kind, which is no blank
letter_first : (comet : Comet) (x : ℕ) (more : List ℕ) → packed_comet comet ≡ x ∷ more → (x == 32) ≡ false
unfolding packed_comet
letter_first comet x more is = by comet.kind (cc)
  where
    by : (kind : CometKind) → kind_letter kind ≡ x → (x == 32) ≡ false
    by C letter = subst (λ (n : ℕ). (n == 32) ≡ false) letter refl
    by P letter = subst (λ (n : ℕ). (n == 32) ≡ false) letter refl

name_first : (named : List NamedComet) (x : ℕ) (more : List ℕ) (d : Designation) → object_named named (x ∷ more) ≡ Some d → (x == 32) ≡ false
name_first [] x more d is = absurd cc
name_first (newest ∷ past) x more d is = by (bytes_eq (packed_comet_text newest.comet) (x ∷ more)) refl (name_first past x more d) is
  where
    of_comet : (b : Bool) → cond b (packed_comet newest.comet) [] ≡ x ∷ more → (x == 32) ≡ false
    of_comet true same = letter_first newest.comet x more same
    of_comet false same = absurd cc

    by : (b : Bool) → bytes_eq (packed_comet_text newest.comet) (x ∷ more) ≡ b → (object_named past (x ∷ more) ≡ Some d → (x == 32) ≡ false) → cond b (Some newest.object) (object_named past (x ∷ more)) ≡ Some d → (x == 32) ≡ false
    by true same rest found = of_comet (is_comet newest.comet) ((bytes_eq-Decides (packed_comet_text newest.comet) (x ∷ more)).0 same)
    by false other rest found = rest found

-- a line that begins with a blank is no header line
no_header : (first : ℕ) (rest : List ℕ) → (first == 32) ≡ true → is_header_line (first ∷ rest) ≡ false
unfolding is_header_line
no_header first rest blank =
    let is : first ≡ 32 = grind (arith, nat_tests) in
    subst (λ (n : ℕ). is_header_line (n ∷ rest) ≡ false) (sym is) refl

-- a line with another byte in column 5 isn't blank
not_blank : (a b c e x : ℕ) (rest : List ℕ) → (x == 32) ≡ false → are_blanks (a ∷ b ∷ c ∷ e ∷ x ∷ rest) ≡ false
unfolding are_blanks
not_blank a b c e x rest other = by (a == 32) (b == 32) (c == 32) (e == 32) other
  where
    by : (p q r s : Bool) → (x == 32) ≡ false → p && (q && (r && (s && ((x == 32) && are_blanks rest)))) ≡ false
    by true true true true none = ap (λ (t : Bool). t && are_blanks rest) none
    by true true true false none = refl
    by true true false s none = refl
    by true false r s none = refl
    by false q r s none = refl

of_line : (named : List NamedComet) (line : List ℕ) (d : Designation) → (length line == 80) ≡ true → are_blanks (columns 1 4 line) ≡ true → object_named named (columns 5 12 line) ≡ Some d → is_front_line line ≡ false
unfolding are_blanks
of_line named [] d long blank found = absurd cc
of_line named (a ∷ []) d long blank found = absurd cc
of_line named (a ∷ b ∷ []) d long blank found = absurd cc
of_line named (a ∷ b ∷ c ∷ []) d long blank found = absurd cc
of_line named (a ∷ b ∷ c ∷ e ∷ []) d long blank found = absurd cc
of_line named (a ∷ b ∷ c ∷ e ∷ x ∷ rest) d long blank found =
    let first = (and_parts _ _ blank).0 in
    ap (λ (t : Bool). t || is_header_line (a ∷ b ∷ c ∷ e ∷ x ∷ rest)) (not_blank a b c e x rest (name_first named x _ d found))
    ∙ no_header a (b ∷ c ∷ e ∷ x ∷ rest) first

pub observation_line : (named : List NamedComet) (line : List ℕ) (d : Designation) → object_in named line ≡ Some d → is_front_line line ≡ false
unfolding object_in
observation_line named line d is = by ((length line == 80) && are_blanks (columns 1 4 line)) refl is
  where
    by : (b : Bool) → (length line == 80) && are_blanks (columns 1 4 line) ≡ b → cond b (object_named named (columns 5 12 line)) None ≡ Some d → is_front_line line ≡ false
    by true test found = let both = and_parts _ _ test in of_line named line d both.0 both.1 found
    by false test found = absurd cc

-- ---- a text, line by line

-- no line feed stands in the text
abbrev IsOneLine : List ℕ → Type 0
IsOneLine text = All (λ byte. (byte == 10) ≡ false) text

parts_before : (comets : List NamedComet) (part : List ℕ) (more : List (List ℕ)) → 1 ≤ length more → translated_parts comets (part ∷ more) ≡ translated_part comets part ++ 10 ∷ translated_parts comets more
parts_before comets part [] some = absurd (omega arith)
parts_before comets part (next ∷ more) some = refl

-- the first line of a text, and what follows its line feed
pub translation_cut : (comets : List NamedComet) (part after : List ℕ) → IsOneLine part → translation comets (part ++ 10 ∷ after) ≡ translated_part comets part ++ 10 ∷ translation comets after
unfolding translation
translation_cut comets part after none =
    ap (translated_parts comets) (slice_split_at (λ b. b == 10) part 10 after none refl)
    ∙ parts_before comets part (parts after) (omega (arith, length-slice_split (λ b. b == 10) after))

-- a text without a line feed
pub translation_whole : (comets : List NamedComet) (text : List ℕ) → IsOneLine text → translation comets text ≡ translated_line comets text
unfolding translation
translation_whole comets text none = ap (translated_parts comets) (slice_split_none (λ b. b == 10) text none)

-- one line more was written
pub written_on : (comets : List NamedComet) (out pushed part left after whole : List ℕ) → translation comets left ≡ translated_part comets part ++ 10 ∷ translation comets after → out ++ translation comets left ≡ whole
    → pushed ≡ (out ++ translated_part comets part) ++ 10 ∷ [] → pushed ++ translation comets after ≡ whole
written_on comets out pushed part left after whole cut before is =
    ap (λ (text : List ℕ). text ++ translation comets after) is
    ∙ append_assoc (out ++ translated_part comets part) (10 ∷ []) (translation comets after)
    ∙ append_assoc out (translated_part comets part) (10 ∷ translation comets after)
    ∙ ap (λ (text : List ℕ). out ++ text) (sym cut)
    ∙ before

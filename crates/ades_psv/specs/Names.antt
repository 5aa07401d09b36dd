-- The names of a data line: number, designation, temporary designation.
use Rattle.std.specs.Prelude.{◌≡◌, ℕ, ◌≤◌, ◌&&◌, nat_le, if◌then◌else◌, List, length, All, Option, Result, Ok, Err}
use Rattle.std.specs.List.{list_all}
use Rattle.ascii_text.specs.Bytes.{is_visible}
use Rattle.packed_names.specs.declared.number.Number.{Number}
use Rattle.packed_names.specs.declared.name.Designation.{Designation}
use Rattle.packed_names.specs.declared.name.Name.{Name}
use Rattle.packed_names.specs.declared.name.Name.TheVariants as names
use Rattle.packed_names.specs.declared.name.NameFault.{NameFault}
use Rattle.packed_names.specs.Printed.{IsPrintedAs}
use Rattle.packed_names.specs.PrintedReading.{printed_in}
use Rattle.packed_names.specs.Judging.{is_in_range, answered}
use Rattle.obs_record.specs.declared.short.Short.{Short}
use Rattle.obs_record.specs.declared.rule.RuleCode.{RuleCode}
use Rattle.obs_record.specs.declared.rule.RuleCode.TheVariants.{S3, S12}
use Rattle.obs_record.specs.Short.{kept_short}
use Rattle.ades_psv.specs.Optional.{unless_empty}

-- the text is this number, as it is printed
abbrev pub IsNumberText : List ℕ → Number → Type 0
IsNumberText text number = IsPrintedAs (names.Number number) text

-- the text is this designation, as it is printed
abbrev pub IsDesignationText : List ℕ → Designation → Type 0
IsDesignationText text designation = IsPrintedAs (names.Designation designation) text

-- the text is this temporary designation: 1 to 8 printed characters, none of them a blank
pub record IsTemporary (text : List ℕ) (short : Short) : Type 0 where
  pub some : 1 ≤ length text
  pub few : length text ≤ 8
  pub visible : All (λ byte. (33 ≤ byte) × (byte ≤ 126)) text
  pub kept : short ≡ kept_short text

-- ---- reading them

-- the name whose printed form the text is, or why it is none
unfoldable pub name_of : List ℕ → Result Name NameFault
name_of text = answered is_in_range (printed_in text)

abbrev pub number_from : Result Name NameFault → Result Number RuleCode
number_from (Ok (names.Number number)) = Ok number
number_from (Ok (names.Designation designation)) = Err S3
number_from (Err fault) = Err S3

-- the number in a field
unfoldable pub number_in : List ℕ → Result (Option Number) RuleCode
number_in text = unless_empty text (number_from (name_of text))

abbrev pub designation_from : Result Name NameFault → Result Designation RuleCode
designation_from (Ok (names.Designation designation)) = Ok designation
designation_from (Ok (names.Number number)) = Err S3
designation_from (Err fault) = Err S3

-- the designation in a field
unfoldable pub designation_in : List ℕ → Result (Option Designation) RuleCode
designation_in text = unless_empty text (designation_from (name_of text))

abbrev pub temporary_from : List ℕ → Result Short RuleCode
temporary_from text = if nat_le (length text) 8 && list_all is_visible text then Ok (kept_short text) else Err S12

-- the temporary designation in a field
unfoldable pub temporary_in : List ℕ → Result (Option Short) RuleCode
temporary_in text = unless_empty text (temporary_from text)

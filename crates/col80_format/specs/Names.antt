-- The names in columns 1 to 12.
use Rattle.std.specs.Prelude.{◌≡◌, ◌≢◌, ℕ, ◌≤◌, Bool, not, ◌&&◌, ◌==◌, if◌then◌else◌, List, length, All, Option, Some}
use Rattle.std.specs.Prelude.{None, Result, Ok, Err}
use Rattle.std.specs.List.{list_all}
use Rattle.ascii_text.specs.Bytes.{blank, vertical_bar}
use Rattle.ascii_text.specs.Blanks.{blanks, are_blanks, trimmed, IsTrimmed}
use Rattle.packed_names.specs.declared.number.Number.{Number}
use Rattle.packed_names.specs.declared.name.Designation.{Designation}
use Rattle.packed_names.specs.declared.name.Name.{Name}
use Rattle.packed_names.specs.declared.name.Name.TheVariants as names
use Rattle.packed_names.specs.declared.name.NameFault.{NameFault}
use Rattle.packed_names.specs.Packed.{IsPackedAs}
use Rattle.packed_names.specs.PackedReading.{packed_in}
use Rattle.packed_names.specs.Judging.{is_in_range, answered}
use Rattle.obs_record.specs.declared.short.Short.{Short}
use Rattle.obs_record.specs.declared.rule.RuleCode.{RuleCode}
use Rattle.obs_record.specs.declared.rule.RuleCode.TheVariants.{S3}
use Rattle.obs_record.specs.Short.{kept_short}
use Rattle.col80_format.specs.declared.names.Names.{Names}
use Rattle.col80_format.specs.Columns.{columns}
use Rattle.text_lines.specs.Steps.{◌>>=◌}

-- columns 1 to 5: five blanks, or a number as it is packed
abbrev pub IsNumberText : List ℕ → Option Number → Type 0
IsNumberText text None = text ≡ blanks 5
IsNumberText text (Some number) = IsPackedAs (names.Number number) text

-- a temporary designation in its columns: it has no blank and no `|`, and only blanks stand before and after it
pub record SpellsTemporary (name text : List ℕ) : Type 0 where
  pub some : 1 ≤ length name
  pub plain : All (λ byte. (byte ≢ blank) × (byte ≢ vertical_bar)) name
  pub alone : IsTrimmed text name

-- columns 6 to 12: seven blanks; or a designation as it is packed; or, where they are none, a temporary designation
abbrev pub IsNameText : List ℕ → Option Designation → Option Short → Type 0
IsNameText text None None = text ≡ blanks 7
IsNameText text (Some designation) None = IsPackedAs (names.Designation designation) text
IsNameText text None (Some short) =
    ((designation : Designation) → IsPackedAs (names.Designation designation) text → ⊥)
    × (name : List ℕ) × SpellsTemporary name text × (short ≡ kept_short name)
IsNameText text (Some designation) (Some short) = ⊥

-- the names are those of columns 1 to 12, which aren't all blank
pub record AreNamesOf (line : List ℕ) (named : Names) : Type 0 where
  pub number : IsNumberText (columns 1 5 line) named.perm
  pub name : IsNameText (columns 6 12 line) named.prov named.sub
  pub some : columns 1 12 line ≢ blanks 12

-- ---- reading them

abbrev pub number_from : Result Name NameFault → Result (Option Number) RuleCode
number_from (Ok (names.Number number)) = Ok (Some number)
number_from (Ok (names.Designation designation)) = Err S3
number_from (Err fault) = Err S3

-- the number in columns 1 to 5
unfoldable pub number_in : List ℕ → Result (Option Number) RuleCode
number_in text = if are_blanks text then Ok None else number_from (answered is_in_range (packed_in text))

-- a byte that a temporary designation may have
abbrev pub is_plain : ℕ → Bool
is_plain byte = not (byte == blank) && not (byte == vertical_bar)

-- the temporary designation in columns 6 to 12
unfoldable pub temporary_in : List ℕ → Result Short RuleCode
temporary_in text = if list_all is_plain (trimmed text) then Ok (kept_short (trimmed text)) else Err S3

abbrev pub temporary : List ℕ → Result (Option Designation × Option Short) RuleCode
temporary text = do
  short ← temporary_in text
  Ok (None, Some short)

abbrev pub name_from : List ℕ → Result Name NameFault → Result (Option Designation × Option Short) RuleCode
name_from text (Ok (names.Designation designation)) = Ok (Some designation, None)
name_from text (Ok (names.Number number)) = temporary text
name_from text (Err fault) = temporary text

-- the designation or the temporary designation in columns 6 to 12
unfoldable pub name_in : List ℕ → Result (Option Designation × Option Short) RuleCode
name_in text = if are_blanks text then Ok (None, None) else name_from text (answered is_in_range (packed_in text))

-- the names in columns 1 to 12
unfoldable pub names_in : List ℕ → Result Names RuleCode
names_in line =
    if are_blanks (columns 1 12 line) then Err S3
    else (number_in (columns 1 5 line) >>= λ number.
    name_in (columns 6 12 line) >>= λ name.
    Ok (record { perm = number; prov = name.0; sub = name.1 }))

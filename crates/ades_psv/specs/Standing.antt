-- Where the data lines of a batch stand.
use Rattle.std.specs.Prelude.{◌≡◌, ℕ, Bool, true, false, ◌||◌, List, ◌∷◌, ◌++◌, All, Ok}
use Rattle.ascii_text.specs.Blanks.{are_blanks}
use Rattle.ades_psv.specs.Columns.{columns_of}
use Rattle.ades_psv.specs.Headers.{is_group, is_element}
use Rattle.ades_psv.specs.Batch.{DataLine}

-- the line is blank, or belongs to a header group
abbrev pub is_passed : List ℕ → Bool
is_passed line = are_blanks line || (is_group line || is_element line)

-- Among these lines the data line stands below a column header, the nearest one above it, which breaks no rule: its
-- columns are those of the data line. A column header is the first line that isn't passed over after one that opens a
-- group.
pub record StandsBelow (numbered : List (ℕ × List ℕ)) (data_line : DataLine) : Type 0 where
  pub above : List (ℕ × List ℕ)
  pub opening : ℕ × List ℕ
  pub group : List (ℕ × List ℕ)
  pub header : ℕ × List ℕ
  pub between : List (ℕ × List ℕ)
  pub below : List (ℕ × List ℕ)
  pub are : numbered ≡ above ++ opening ∷ (group ++ header ∷ (between ++ (data_line.number, data_line.text) ∷ below))
  -- a line opens a group, lines follow that are passed over, and then the column header
  pub opens : is_group opening.1 ≡ true
  pub passed : All (λ line. is_passed line.1 ≡ true) group
  pub names : is_passed header.1 ≡ false
  pub columns : columns_of header.1 ≡ Ok data_line.columns
  -- no other header begins between it and the data line
  pub nearest : All (λ line. is_group line.1 ≡ false) between
  pub listed : is_passed data_line.text ≡ false

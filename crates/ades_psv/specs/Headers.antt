-- What a line of a batch is, by the place in which it stands.
use Rattle.std.specs.Prelude.{ℕ, Bool, ◌&&◌, ◌||◌, if◌then◌else◌, List, drop, codes, Result, Ok, Err}
use Rattle.ascii_text.specs.Blanks.{are_blanks, trimmed}
use Rattle.obs_record.specs.declared.rule.HeaderFault.{HeaderFault}
use Rattle.obs_record.specs.declared.rule.HeaderFault.TheVariants.{H1}
use Rattle.ades_psv.specs.declared.columns.Columns.{Columns}
use Rattle.ades_psv.specs.declared.header.Place.{Place}
use Rattle.ades_psv.specs.declared.header.Place.TheVariants.{Opening, Header, Listing}
use Rattle.ades_psv.specs.declared.header.Step.{Step}
use Rattle.ades_psv.specs.declared.header.Step.TheVariants.{On, Data, Fault}
use Rattle.ades_psv.specs.Cells.{is_word, begins_with}
use Rattle.ades_psv.specs.Columns.{columns_of}

-- the sign that opens a header group, and the one before an element of it
abbrev pub number_sign : ℕ
number_sign = 35

abbrev pub exclamation_mark : ℕ
exclamation_mark = 33

-- the line of the format's version: `#` and `version=2017`, with any number of blanks before and after the latter
unfoldable pub is_version : List ℕ → Bool
is_version line = begins_with number_sign line && is_word (codes "version=2017") (trimmed (drop 1 line))

-- the line opens a header group: it begins with `#`
abbrev pub is_group : List ℕ → Bool
is_group line = begins_with number_sign line

-- the line is an element of a header group: it begins with `!`
abbrev pub is_element : List ℕ → Bool
is_element line = begins_with exclamation_mark line

-- data lines stand below a column header that breaks no rule
abbrev pub below_header : Result Columns HeaderFault → Step
below_header (Ok columns) = On (Listing columns)
below_header (Err fault) = Fault fault

-- What a line is that isn't blank: it leads on to the place in which the next line stands, or is a data line below the
-- columns of its header, or has a fault. The first line is that of the version. In a header the first line that belongs
-- to no group is the column header. Below it each line is a data line, but for the elements of groups, and for a line
-- that opens a group, with which the next header begins.
unfoldable pub filled_step : Place → List ℕ → Step
filled_step Opening line = if is_version line then On Header else Fault H1
filled_step Header line = if is_group line || is_element line then On Header else below_header (columns_of line)
filled_step (Listing columns) line =
    if is_group line then On Header
    else (if is_element line then On (Listing columns) else Data columns)

-- what a line is; a blank line leads nowhere else
unfoldable pub step : Place → List ℕ → Step
step place line = if are_blanks line then On place else filled_step place line

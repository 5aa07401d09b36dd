-- The kinds of comets, and their letters.
use Rattle.std.specs.Prelude.{ℕ, ◌==◌, if◌then◌else◌, Option, Some, None}
use Rattle.comet_names.specs.declared.comet.CometKind.{CometKind}
use Rattle.comet_names.specs.declared.comet.CometKind.TheVariants.{C, P}

-- the letter of a kind
abbrev pub kind_letter : CometKind → ℕ
kind_letter C = 67
kind_letter P = 80

-- the kind that a letter stands for
unfoldable pub kind_of : ℕ → Option CometKind
kind_of letter = if letter == 67 then Some C else (if letter == 80 then Some P else None)

-- The line that says how many rows a mirror holds.
use Rattle.std.specs.Prelude.{ℕ, List, ◌++◌, length, codes, decimal}
use Rattle.act_model.specs.declared.entry.Entry.{Entry}
use Rattle.act_model.specs.Texts.{line_of}
use Rattle.mirror_store.specs.Mirrored.{mirrored}

-- `mirror N objects O sights S`
abbrev pub line_text : (entries objects sights : ℕ) → List ℕ
line_text entries objects sights =
    line_of
    (codes "mirror " ++ decimal entries ++ codes " objects " ++ decimal objects ++ codes " sights " ++ decimal sights)

-- the line of an office with this history
abbrev pub line_of_history : List Entry → List ℕ
line_of_history history =
    line_text (length history) (length (mirrored history).objects) (length (mirrored history).sights)

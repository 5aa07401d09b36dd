-- The body of the act by which an object gets the name of a comet.
use Rattle.std.specs.Prelude.{ℕ, List, [], ◌∷◌, codes, Option, Some, None}
use Rattle.serde_json.specs.Data.{Data}
use Rattle.ascii_text.specs.Reading.{◌>>=◌}
use Rattle.comet_names.specs.declared.comet.CometKind.{CometKind}
use Rattle.comet_names.specs.Kinds.{kind_of}
use Rattle.act_bodies.specs.Members.{object_of, text_in, designation_in}
use Rattle.comet_model.specs.declared.naming.Naming.{Naming}

-- the kind whose letter is the text
abbrev pub kind_by : List ℕ → Option CometKind
kind_by [] = None
kind_by (letter ∷ []) = kind_of letter
kind_by (letter ∷ next ∷ more) = None

-- the kind that a body names
unfoldable pub kind_in : Data → Option CometKind
kind_in value = do
  text ← text_in (codes "kind") value
  kind_by text

-- what the members `kind` and `object` of an object say
unfoldable pub naming_in : Data → Option Naming
naming_in value = do
  kind ← kind_in value
  object ← designation_in (codes "object") value
  Some (record { kind = kind; object = object })

-- the body of `comet`: an object of these 2 members and no others
unfoldable pub naming_of : List ℕ → Option Naming
naming_of bytes = object_of 2 bytes >>= naming_in

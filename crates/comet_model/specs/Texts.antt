-- The lines of which answers are made. Each ends in a line feed.
use Rattle.std.specs.Prelude.{ℕ, if◌then◌else◌, List, [], ◌∷◌, ◌++◌, codes}
use Rattle.packed_names.specs.declared.name.Designation.{Designation}
use Rattle.identify_core.specs.Acts.{LinkAct}
use Rattle.comet_names.specs.declared.comet.Comet.{Comet}
use Rattle.comet_names.specs.Judging.{is_comet}
use Rattle.comet_names.specs.Packed.{packed_comet}
use Rattle.comet_names.specs.Printed.{printed_comet}
use Rattle.act_model.specs.Texts.{line_of, designation_text}
use Rattle.act_model.specs.Shelves.{principal_by}
use Rattle.comet_model.specs.declared.named.NamedComet.{NamedComet}

-- the printed and the packed form of a comet; none of a value that is no comet
abbrev pub comet_text : Comet → List ℕ
comet_text comet = if is_comet comet then printed_comet comet else []

abbrev pub packed_comet_text : Comet → List ℕ
packed_comet_text comet = if is_comet comet then packed_comet comet else []

-- `comet X Q`: a name, printed and packed
unfoldable pub comet_words : Comet → List ℕ
comet_words comet = codes "comet " ++ comet_text comet ++ codes " " ++ packed_comet_text comet

abbrev pub comet_line : Comet → List ℕ
comet_line comet = line_of (comet_words comet)

-- ` object D principal P`: the designation beside which a name was given, and the principal one of its object
unfoldable pub object_words : Designation → Designation → List ℕ
object_words object principal =
    codes " object " ++ designation_text object ++ codes " principal " ++ designation_text principal

abbrev pub register_line : NamedComet → Designation → List ℕ
register_line named principal = line_of (comet_words named.comet ++ object_words named.object principal)

-- the comets in the order in which they were named, each with its principal designation now
abbrev pub register_text : List LinkAct → List NamedComet → List ℕ
register_text links [] = []
register_text links (named ∷ past) =
    register_text links past ++ register_line named (principal_by links named.object)

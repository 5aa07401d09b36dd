-- The register: its entries, the newest first, and the comets that they name, worked out over what the office has. What
-- an entry says is read from its body once.
use Rattle.std.specs.Prelude.{ℕ, ℤ, List, [], ◌∷◌, Option, Some, None, Result, Ok, Err}
use Rattle.act_model.specs.declared.deed.Deed.{Deed}
use Rattle.act_model.specs.declared.entry.Entry.{Entry}
use Rattle.act_model.specs.declared.request.Verb.TheVariants.{Enrol}
use Rattle.comet_model.specs.declared.named.NamedComet.{NamedComet}
use Rattle.comet_model.specs.declared.naming.Naming.{Naming}
use Rattle.comet_model.specs.declared.reply.CometRefusal.{CometRefusal}
use Rattle.comet_model.specs.Namings.{naming_of}
use Rattle.comet_model.specs.Refusals.{names}

-- a naming that is refused names nothing, and stands in no legal register
abbrev pub named_unless : Result NamedComet CometRefusal → Option NamedComet
named_unless (Ok named) = Some named
named_unless (Err refusal) = None

-- what was read names its object; what can't be read names nothing, and stands in no legal register
abbrev pub named_if_read : List Deed → List NamedComet → Option Naming → Option NamedComet
named_if_read desk past (Some naming) = named_unless (names desk past naming)
named_if_read desk past None = None

-- what an entry names that comes after these comets
unfoldable pub named_by : List Deed → List NamedComet → Entry → Option NamedComet
named_by desk past entry = named_if_read desk past (naming_of entry.body)

-- an entry that names something adds it
abbrev pub with_named : Option NamedComet → List NamedComet → List NamedComet
with_named (Some named) past = named ∷ past
with_named None past = past

-- the comets of a register, the newest first
abbrev pub comets : List Deed → List Entry → List NamedComet
comets desk [] = []
comets desk (entry ∷ past) = with_named (named_by desk (comets desk past) entry) (comets desk past)

-- The entry that an act becomes under this number at this moment, with this body: the founding officer's, with the code
-- 1, which the office's own entries have for an enrolment.
abbrev pub new_entry : ℕ → List ℕ → ℤ → Entry
new_entry number body moment =
    record { caller = 0; number = number; moment = moment; verb = Enrol; body = body }

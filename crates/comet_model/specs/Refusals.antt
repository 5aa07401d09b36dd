-- The later refusals of an act whose number was not used, and the name that it gives where none holds.
use Rattle.std.specs.Prelude.{ℕ, ◌+◌, Bool, true, nat_le, nat_lt, List, [], ◌∷◌, ◌++◌, Option, Some, None, Result}
use Rattle.std.specs.Prelude.{Ok, Err}
use Rattle.packed_names.specs.declared.half_month.HalfMonth.{HalfMonth}
use Rattle.packed_names.specs.declared.name.Designation.{Designation}
use Rattle.comet_names.specs.declared.comet.Comet.{Comet}
use Rattle.act_model.specs.declared.deed.Deed.{Deed}
use Rattle.act_model.specs.declared.entry.Entry.{Entry}
use Rattle.act_model.specs.Rows.{first_row}
use Rattle.act_model.specs.Refusals.{bytes_used, entry_size}
use Rattle.comet_model.specs.declared.named.Found.{Found}
use Rattle.comet_model.specs.declared.named.Found.TheVariants as found
use Rattle.comet_model.specs.declared.named.NamedComet.{NamedComet}
use Rattle.comet_model.specs.declared.naming.Naming.{Naming}
use Rattle.comet_model.specs.declared.reply.CometRefusal.{CometRefusal}
use Rattle.comet_model.specs.declared.reply.CometRefusal.TheVariants.{UnknownThing, NoDiscovery, AlreadyComet}
use Rattle.comet_model.specs.declared.reply.CometRefusal.TheVariants.{HalfMonthFull, JournalFull}
use Rattle.comet_model.specs.Rows.{unless, ◌>>=◌}
use Rattle.comet_model.specs.Comets.{count_in, comet_of, next_named}
use Rattle.comet_model.specs.Finding.{found_of}

-- the half-month in which the object of a designation was discovered, of which the office has this
abbrev pub half_in : Designation → Found → Result HalfMonth CometRefusal
half_in d found.NotGiven = Err (UnknownThing d)
half_in d found.NoDiscovery = Err (NoDiscovery d)
half_in d (found.Discovered half) = Ok half

-- a designation that has this name already
abbrev pub already_rows : Option Comet → List (Bool × CometRefusal)
already_rows None = []
already_rows (Some comet) = (true, AlreadyComet comet) ∷ []

-- how many comets a half-month may have
abbrev pub most_comets : ℕ
most_comets = 99

-- a half-month that has all of them
abbrev pub full_rows : HalfMonth → List NamedComet → List (Bool × CometRefusal)
full_rows half past = (nat_le most_comets (count_in half past), HalfMonthFull half most_comets) ∷ []

-- an object that was discovered in this half-month is to get a name, where these are the comets
abbrev pub naming_rows : Designation → HalfMonth → List NamedComet → List (Bool × CometRefusal)
naming_rows d half past = already_rows (comet_of d past) ++ full_rows half past

-- the name that a naming gives to an object that was discovered in this half-month
abbrev pub named_in : Naming → HalfMonth → List NamedComet → Result NamedComet CometRefusal
named_in naming half past =
    unless (first_row (naming_rows naming.object half past)) (Ok (next_named naming half past))

-- the name that a naming gives after these, where these are the office's deeds
unfoldable pub names : List Deed → List NamedComet → Naming → Result NamedComet CometRefusal
names desk past naming = do
  half ← half_in naming.object (found_of desk naming.object)
  named_in naming half past

-- the journal has no room for another entry with this body; without a limit there always is
abbrev pub room_rows : Option ℕ → List Entry → List ℕ → List (Bool × CometRefusal)
room_rows None past body = []
room_rows (Some limit) past body =
    (nat_lt limit (bytes_used past + entry_size body), JournalFull (bytes_used past) (entry_size body) limit) ∷ []

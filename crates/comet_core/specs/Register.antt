-- The register as contracts see it, and an act that is ready to become its next entry.
use Rattle.std.specs.Prelude.{◌≡◌, ℕ, ◌<◌, List, Some}
use Rattle.act_bodies.specs.declared.key.Key.{Key}
use Rattle.act_model.specs.declared.deed.Deed.{Deed}
use Rattle.act_model.specs.declared.entry.Entry.{Entry}
use Rattle.comet_names.specs.Ranges.{IsComet}
use Rattle.comet_model.specs.declared.named.NamedComet.{NamedComet}
use Rattle.comet_model.specs.Comets.{count_in}
use Rattle.comet_model.specs.Legal.{IsLegal}
use Rattle.comet_model.specs.Register.{named_by, comets}
use Rattle.comet_model.specs.Replies.{entry_answer}

-- the founding officer's key, the entries with the newest first, the comets that were worked out of them, the newest
-- first, and for how many more entries there is room
pub record RegisterValue : Type 0 where
  pub founder : Key
  pub entries : List Entry
  pub comets : List NamedComet
  pub room : ℕ

-- The register is one of an office with these deeds: its entries are legal, and its comets are theirs.
pub record IsOver (desk : List Deed) (register : RegisterValue) : Type 0 where
  pub legal : IsLegal register.founder desk register.entries
  pub comets : register.comets ≡ comets desk register.entries

-- an act that is ready to become an entry: the entry, what it names, and its answer
pub record Ready : Type 0 where
  pub entry : Entry
  pub named : NamedComet
  pub answer : List ℕ

-- The act was worked out at these entries, which name these comets: what it names and is answered are its entry's.
pub record IsReadyAt (desk : List Deed) (entries : List Entry) (past : List NamedComet) (ready : Ready) : Type 0 where
  pub named : named_by desk past ready.entry ≡ Some ready.named
  pub answer : ready.answer ≡ entry_answer desk entries ready.entry

-- a comet in range, of a half-month that has fewer than 99 among these
pub record IsNext (past : List NamedComet) (named : NamedComet) : Type 0 where
  pub comet : IsComet named.comet
  pub free : count_in named.comet.half past < 99

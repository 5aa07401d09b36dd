-- What a file stands for: a history, each of its entries as a parcel.
use Rattle.std.specs.Prelude.{◌≡◌, true, List, [], ◌∷◌, ◌++◌, ℕ}
use Rattle.std.specs.List.{AllByRecursion}
use Rattle.obs_journal.specs.Parcels.{RawParcel}
use Rattle.obs_journal.specs.Chains.{IsChain}
use Rattle.obs_journal.specs.Files.{Spells}
use Rattle.act_model.specs.declared.entry.Entry.{Entry}
use Rattle.act_model.specs.Requests.{is_act, verb_code}

-- the parcel of an entry: its fields as they are, with the number of its verb
abbrev pub parcel_of : Entry → RawParcel
parcel_of entry = record {
  caller = entry.caller;
  number = entry.number;
  moment = entry.moment;
  verb = verb_code entry.verb;
  body = entry.body;
}

-- the parcels of a history, those of the oldest entries first
abbrev pub parcels_in : List Entry → List RawParcel
parcels_in [] = []
parcels_in (entry ∷ past) = parcels_in past ++ parcel_of entry ∷ []

-- each entry is that of an act
abbrev pub AreActs : List Entry → Type 0
AreActs history = AllByRecursion (λ (entry : Entry). is_act entry.verb ≡ true) history

-- a second file stands for the history: it is in force, and is the chain of the parcels of its entries, which are acts
pub record Stands (file : List ℕ) (history : List Entry) : Type 0 where
  pub chained : IsChain file (parcels_in history)
  pub acts : AreActs history

-- a first file stands for the history: it spells the parcels of its entries, which are acts
pub record StandsFirst (file : List ℕ) (history : List Entry) : Type 0 where
  pub spelled : Spells file (parcels_in history)
  pub acts : AreActs history

-- On what terms a register is kept, and turns and conducts on these terms.
use Rattle.std.specs.Prelude.{ℕ, ℤ, List, Option, Some}
use Rattle.act_bodies.specs.declared.key.Key.{Key}
use Rattle.act_model.specs.declared.deed.Deed.{Deed}
use Rattle.act_model.specs.declared.entry.Entry.{Entry}
use Rattle.act_model.specs.declared.keeper.OfficeState.{OfficeState}
use Rattle.act_model.specs.Deeds.{deeds}
use Rattle.comet_model.specs.declared.request.CometRequest.{CometRequest}
use Rattle.comet_model.specs.Legal.{IsLegal}
use Rattle.comet_model.specs.Step.{Outcome, outcome}
use Rattle.comet_model.specs.Turns.{CometTurn, Takes, IsTurn, Conduct}

-- how many bytes the file of the register may have
abbrev pub register_bytes : ℕ
register_bytes = 16777216

-- the founding officer's key, how many bytes the file may have, and the deeds of the office beside it
pub record Terms : Type 0 where
  pub founder : Key
  pub limit : ℕ
  pub desk : List Deed

-- those of the register beside an office with this history
abbrev pub terms_at : Key → List Entry → Terms
terms_at founder history = record { founder = founder; limit = register_bytes; desk = deeds history }

-- what becomes of a request at these entries
abbrev pub outcome_in : Terms → List Entry → CometRequest → ℤ → Outcome
outcome_in terms past request reading = outcome terms.founder (Some terms.limit) terms.desk past request reading

-- the entries are legal
abbrev pub IsLegalIn : Terms → List Entry → Type 0
IsLegalIn terms entries = IsLegal terms.founder terms.desk entries

-- a turn, where it took this reading of the clock
abbrev pub TakesIn : Terms → OfficeState → CometTurn → Option ℤ → OfficeState → Type 0
TakesIn terms before turn reading after =
    Takes terms.founder (Some terms.limit) terms.desk before turn reading after

abbrev pub IsTurnIn : Terms → OfficeState → CometTurn → OfficeState → Type 0
IsTurnIn terms before turn after = IsTurn terms.founder (Some terms.limit) terms.desk before turn after

-- turns one after another
abbrev pub ConductIn : Terms → OfficeState → List CometTurn → OfficeState → Type 0
ConductIn terms before turns after = Conduct terms.founder (Some terms.limit) terms.desk before turns after

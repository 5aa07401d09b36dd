-- What a query is told.
use Rattle.std.specs.Prelude.{◌≡◌, ℕ, List, Result, Ok, Err}
use Rattle.comet_model.specs.declared.reply.CometRefusal.{CometRefusal}
use Rattle.comet_model.specs.Step.{Outcome, Tells}
use Rattle.comet_core.specs.Preparing.{IsRefused}

-- the text that tells what the query asks, or the refusal that it meets
abbrev pub IsTold : Outcome → Result (List ℕ) CometRefusal → Type 0
IsTold due (Ok text) = due ≡ Tells text
IsTold due (Err refusal) = IsRefused due refusal

-- What preparing a request answers, by cases on the answer, where this is what becomes of the request.
use Rattle.std.specs.Prelude.{◌≡◌, ◌⊎◌, ℕ, ◌+◌, ◌<◌, ◌≤◌, List, Option, IfSome, Result, Ok, Err}
use Rattle.act_model.specs.declared.deed.Deed.{Deed}
use Rattle.act_model.specs.declared.entry.Entry.{Entry}
use Rattle.act_model.specs.Refusals.{entry_size, bytes_used}
use Rattle.comet_model.specs.declared.named.NamedComet.{NamedComet}
use Rattle.comet_model.specs.declared.reply.CometRefusal.{CometRefusal}
use Rattle.comet_model.specs.declared.reply.CometRefusal.TheVariants.{NoMemory}
use Rattle.comet_model.specs.declared.request.CometRequest.{CometRequest}
use Rattle.comet_model.specs.Hearing.{bytes_in, number_claimed}
use Rattle.comet_model.specs.Rows.{◌>>=◌}
use Rattle.comet_model.specs.Step.{Outcome, Refuses, Keeps, Adds}
use Rattle.comet_core.specs.declared.prepared.Prep.{Prep}
use Rattle.comet_core.specs.declared.prepared.Prep.TheVariants as prep
use Rattle.comet_core.specs.Register.{IsReadyAt, IsNext}

-- what a request says of itself before memory is asked for: its number, where its body is small enough and its verb
-- names something
abbrev pub announcement : CometRequest → Result ℕ CometRefusal
announcement request = do
  bytes ← bytes_in request.body
  number_claimed request.verb request.number

-- the request is refused so; or memory was refused, whatever would become of it
abbrev pub IsRefused : Outcome → CometRefusal → Type 0
IsRefused due refusal = (due ≡ Refuses refusal) ⊎ (refusal ≡ NoMemory)

-- a journal with this limit has room for one more entry with this body; without a limit it always has
abbrev pub IsWithin : Option ℕ → List Entry → List ℕ → Type 0
IsWithin limit past body = IfSome limit (λ most. bytes_used past + entry_size body ≤ most)

-- A reply is kept where the number was used. A refusal is the one that the request meets. An act is ready where it
-- becomes an entry, at the register at which it was worked out, and there is room for it, in the journal too.
abbrev pub Prepares : Option ℕ → List Deed → List Entry → List NamedComet → ℕ → Outcome → Prep → Type 0
Prepares limit desk entries past room due (prep.Kept reply) = due ≡ Keeps reply
Prepares limit desk entries past room due (prep.Refused refusal) = IsRefused due refusal
Prepares limit desk entries past room due (prep.Ready ready) =
    (due ≡ Adds ready.entry) × IsReadyAt desk entries past ready × IsNext past ready.named × (0 < room)
    × IsWithin limit entries ready.entry.body

-- the same, where a refusal is an error
abbrev pub IsPrepared : Option ℕ → List Deed → List Entry → List NamedComet → ℕ → Outcome → Result Prep CometRefusal
    → Type 0
IsPrepared limit desk entries past room due (Ok prep) = Prepares limit desk entries past room due prep
IsPrepared limit desk entries past room due (Err refusal) = IsRefused due refusal

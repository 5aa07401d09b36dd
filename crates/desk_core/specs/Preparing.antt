-- What preparing a request answers, by cases on the answer, where this is what becomes of the request.
use Rattle.std.specs.Prelude.{◌≡◌, ◌⊎◌, ℕ, ◌+◌, ◌≤◌, List, Option, IfSome, Result, Ok, Err}
use Rattle.act_model.specs.declared.entry.Entry.{Entry}
use Rattle.act_model.specs.declared.reply.Refusal.{Refusal}
use Rattle.act_model.specs.declared.reply.Refusal.TheVariants.{NoMemory}
use Rattle.act_model.specs.declared.reply.Reply.{Reply}
use Rattle.act_model.specs.Refusals.{entry_size, bytes_used}
use Rattle.act_model.specs.Step.{Outcome, Refuses, Keeps, Tells, Adds}
use Rattle.desk_core.specs.declared.prepared.Prep.{Prep}
use Rattle.desk_core.specs.declared.prepared.Prep.TheVariants as prep
use Rattle.desk_core.specs.Office.{Room, IsReadyAt, IsRoomFor}

-- the request is refused so; or memory was refused, whatever would become of it
abbrev pub IsRefused : Outcome → Refusal → Type 0
IsRefused due refusal = (due ≡ Refuses refusal) ⊎ (refusal ≡ NoMemory)

-- a journal with this limit has room for one more entry with this body; without a limit it always has
abbrev pub IsWithin : Option ℕ → List Entry → List ℕ → Type 0
IsWithin limit past body = IfSome limit (λ most. bytes_used past + entry_size body ≤ most)

-- A reply is kept where the number was used. A refusal is the one that the request meets. An act is ready where it
-- becomes an entry, at the history at which it was worked out, and there is room for it, in the journal too.
abbrev pub Prepares : Option ℕ → List Entry → Outcome → Room → Prep → Type 0
Prepares limit past due spare (prep.Kept reply) = due ≡ Keeps reply
Prepares limit past due spare (prep.Refused refusal) = IsRefused due refusal
Prepares limit past due spare (prep.Ready ready) =
    (due ≡ Adds ready.entry) × IsReadyAt past ready × IsRoomFor ready.deed spare × IsWithin limit past ready.entry.body

-- the same, where a refusal is an error
abbrev pub IsPrepared : Option ℕ → List Entry → Outcome → Room → Result Prep Refusal → Type 0
IsPrepared limit past due spare (Ok prep) = Prepares limit past due spare prep
IsPrepared limit past due spare (Err refusal) = IsRefused due refusal

-- the reply that is kept for a number that was used, or the refusal that the request meets
abbrev pub IsReplied : Outcome → Result Reply Refusal → Type 0
IsReplied due (Ok reply) = due ≡ Keeps reply
IsReplied due (Err refusal) = IsRefused due refusal

-- what a query is told, or the refusal that it meets
abbrev pub IsTold : Outcome → Result (List ℕ) Refusal → Type 0
IsTold due (Ok text) = due ≡ Tells text
IsTold due (Err refusal) = IsRefused due refusal

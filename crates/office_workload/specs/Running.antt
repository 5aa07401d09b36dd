-- How far the requests were taken.
use Rattle.std.specs.Prelude.{◌≡◌, ◌⊎◌, Bool, true, false, List, ◌++◌, Result, Ok, Err}
use Rattle.act_model.specs.declared.entry.Entry.{Entry}
use Rattle.act_model.specs.declared.reply.Refusal.{Refusal}
use Rattle.act_model.specs.declared.reply.Refusal.TheVariants.{NoMemory}
use Rattle.act_model.specs.declared.reply.Reply.{Reply}
use Rattle.act_model.specs.declared.reply.Reply.TheVariants.{Done, Refused}
use Rattle.act_model.specs.declared.request.Request.{Request}
use Rattle.office_workload.specs.Workloads.{history_after}

-- these requests were taken, from this history to that one: whatever requests come after them come to the same from
-- there
abbrev pub AreTaken : List Entry → List Request → List Entry → Type 0
AreTaken past requests after =
    (rest : List Request) → history_after past (requests ++ rest) ≡ history_after after rest

-- one of these requests was refused so, whatever requests come after them; or memory was refused
abbrev pub IsRefusedOne : List Entry → List Request → Refusal → Type 0
IsRefusedOne past requests refusal =
    (refusal ≡ NoMemory) ⊎ ((rest : List Request) → history_after past (requests ++ rest) ≡ Err refusal)

-- the request was done, or it was refused so
abbrev pub reply_result : Reply → Result (Unit {0}) Refusal
reply_result (Done text) = Ok tt
reply_result (Refused refusal) = Err refusal

-- memory was refused
abbrev pub is_no_memory : Refusal → Bool
is_no_memory NoMemory = true
is_no_memory _ = false

-- How far an answer was written.
use Rattle.std.specs.Prelude.{◌≡◌, ⊤, List, ℕ, Result, Ok, Err}
use Rattle.std.specs.declared.option.Option.{Option}
use Rattle.std.specs.Io.KnownBytes.{Appends}
use Rattle.call_log.specs.Counts.{Rises}
use Rattle.desk_io.specs.Outside.{AppendsPart}
use Rattle.act_model.specs.declared.reply.Fault.{Fault}
use Rattle.act_model.specs.declared.reply.Reply.{Reply}
use Rattle.act_model.specs.declared.reply.Reply.TheVariants.{Refused}
use Rattle.act_model.specs.declared.reply.Refusal.TheVariants.{NoLine}
use Rattle.desk_http.specs.declared.replies.SendFault.{SendFault}
use Rattle.desk_http.specs.declared.replies.SendFault.TheVariants as faults

-- the bytes that a sink took in a call: all of the text; a front of it and not all of it, where the sink failed; none,
-- where memory was refused
abbrev pub IsSent : Option (List ℕ) → Option (List ℕ) → List ℕ → Result ⊤ SendFault → Type 0
IsSent old new text (Ok done) = Appends old new text
IsSent old new text (Err faults.WriteFault) = AppendsPart old new text
IsSent old new text (Err faults.NoMemory) = new ≡ old

-- the sink's count of faults rose where it is said that it failed, and stayed in any other call
abbrev pub CountsSent : ℕ → ℕ → Result ⊤ SendFault → Type 0
CountsSent before now (Ok done) = now ≡ before
CountsSent before now (Err faults.WriteFault) = Rises before now
CountsSent before now (Err faults.NoMemory) = now ≡ before

-- memory is wanted only for the lines of a batch without a line that is accepted
abbrev pub IfWanting : Reply → Result ⊤ SendFault → Type 0
IfWanting reply (Ok done) = ⊤
IfWanting reply (Err faults.WriteFault) = ⊤
IfWanting reply (Err faults.NoMemory) = (bad : List Fault) × (reply ≡ Refused (NoLine bad))

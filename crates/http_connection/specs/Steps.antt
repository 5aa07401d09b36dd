-- One step of a connection: what was heard is answered.
use Rattle.std.specs.Prelude.{◌≡◌, ℕ, Bool, true, false, List, Option, Some, None}
use Rattle.std.specs.Io.KnownBytes.{Appends}
use Rattle.desk_io.specs.Outside.{AppendsPart}
use Rattle.act_model.specs.declared.reply.Fault.{Fault}
use Rattle.act_model.specs.declared.reply.Reply.{Reply}
use Rattle.act_model.specs.declared.reply.Reply.TheVariants.{Refused}
use Rattle.act_model.specs.declared.reply.Refusal.TheVariants.{NoLine}
use Rattle.intake_lock.specs.declared.view.Item.{Item}
use Rattle.intake_lock.specs.declared.view.View.{View}
use Rattle.desk_http.specs.declared.heard.Heard.{Heard}
use Rattle.desk_http.specs.declared.heard.Heard.TheVariants as heard
use Rattle.desk_http.specs.ReplyTexts.{answer_of, unread_answer}
use Rattle.http_connection.specs.declared.left.Left.{Left}
use Rattle.http_connection.specs.declared.left.Left.TheVariants.{Ended, Unread, Enough, ReadFault, WriteFault, NoMemory}
use Rattle.act_model.specs.Clocks.{ClockState}
use Rattle.http_connection.specs.Calls.{TakesCall}
use Rattle.http_connection.specs.Attending.{is_last}

-- what an answer may change: what the pass knows, the clock, and what the sink took
pub record Answering : Type 0 where
  pub view : View
  pub clock : ClockState
  pub taken : Option (List ℕ)

-- the answer to a message was written whole, and the connection goes on unless the message asks to close; or a front of
-- it was written and not all; or nothing, since there was no memory for its text
abbrev pub IsAnswered : Option (List ℕ) → Option (List ℕ) → List ℕ → Bool → Reply → Option Left → Type 0
IsAnswered old new text closes reply None = (closes ≡ false) × Appends old new text
IsAnswered old new text closes reply (Some Ended) = (closes ≡ true) × Appends old new text
IsAnswered old new text closes reply (Some WriteFault) = AppendsPart old new text
IsAnswered old new text closes reply (Some NoMemory) = (new ≡ old) × (bad : List Fault) × (reply ≡ Refused (NoLine bad))
IsAnswered old new text closes reply (Some Unread) = ⊥
IsAnswered old new text closes reply (Some Enough) = ⊥
IsAnswered old new text closes reply (Some ReadFault) = ⊥

-- the answer to a head fault was written whole, or a front of it and not all
abbrev pub IsRefused : Option (List ℕ) → Option (List ℕ) → Option Left → Type 0
IsRefused old new (Some Unread) = Appends old new unread_answer
IsRefused old new (Some WriteFault) = AppendsPart old new unread_answer
IsRefused old new None = ⊥
IsRefused old new (Some Ended) = ⊥
IsRefused old new (Some Enough) = ⊥
IsRefused old new (Some ReadFault) = ⊥
IsRefused old new (Some NoMemory) = ⊥

-- the pass and the clock are as they were
abbrev pub IsUntouched : Answering → Answering → Type 0
IsUntouched before after = (after.view ≡ before.view) × (after.clock ≡ before.clock)

-- the request was asked by a call of the pass, and answered where this many were answered before
pub record AnswersRequest (before after : Answering) (answered : ℕ) (closes : Bool) (result : Option Left) (item : Item)
    : Type 0 where
  pub call : TakesCall before.view after.view before.clock after.clock item
  pub written : IsAnswered before.taken after.taken (answer_of item.reply (is_last answered closes)) closes item.reply
      result

-- what became of what was heard, and why the connection is left, or none where it goes on
abbrev pub Becomes : Answering → Answering → ℕ → Heard → Option Left → Type 0
Becomes before after answered (heard.Request request last) result =
    (item : Item) × (item.request ≡ request) × AnswersRequest before after answered last result item
Becomes before after answered heard.End result =
    IsUntouched before after × (after.taken ≡ before.taken) × (result ≡ Some Ended)
Becomes before after answered heard.Unread result =
    IsUntouched before after × IsRefused before.taken after.taken result
Becomes before after answered heard.ReadFault result =
    IsUntouched before after × (after.taken ≡ before.taken) × (result ≡ Some ReadFault)

-- a count where the connection goes on, as in a call without a fault
abbrev pub GoesOn : (Left → ℕ → ℕ → Type 0) → Option Left → ℕ → ℕ → Type 0
GoesOn counts None before now = now ≡ before
GoesOn counts (Some ended) before now = counts ended before now

-- What holds of every conduct.
use Rattle.std.specs.Prelude.{◌≡◌, ◌≢◌, ◌⊎◌, Bool, true, ℕ, pos, List, [], ◌∷◌, ◌++◌, Option, Some, IfSome, unwrap_or}
use Rattle.std.specs.List.{AllByRecursion}
use Rattle.act_bodies.specs.declared.key.Key.{Key}
use Rattle.act_model.specs.declared.entry.Entry.{Entry}
use Rattle.act_model.specs.declared.keeper.OfficeState.{OfficeState}
use Rattle.act_model.specs.declared.reply.Refusal.TheVariants.{DiskFault, NoMemory}
use Rattle.act_model.specs.declared.reply.Reply.{Reply}
use Rattle.act_model.specs.declared.reply.Reply.TheVariants.{Done, Refused}
use Rattle.act_model.specs.Replies.{entry_answer}
use Rattle.read_ahead.specs.declared.body.Body.TheVariants.{Whole}
use Rattle.act_model.specs.declared.request.Request.{Request}
use Rattle.act_model.specs.declared.roster.Caller.{Caller}
use Rattle.act_model.specs.Roster.{members, caller_of}
use Rattle.act_model.specs.Deeds.{deeds}
use Rattle.act_model.specs.History.{Kept, numbered_entry}
use Rattle.act_model.specs.Step.{Outcome, Adds, is_resend, step}
use Rattle.act_model.specs.Turns.{Turn, Answers}

-- the later history is the earlier one with newer entries before it
abbrev pub Extends : List Entry → List Entry → Type 0
Extends earlier later = (newer : List Entry) × (later ≡ newer ++ earlier)

-- no turn ran out of memory
abbrev pub HadMemory : List Turn → Type 0
HadMemory turns = AllByRecursion (λ turn. turn.reply ≢ Refused NoMemory) turns

-- the disk's count of faults rose in no turn
abbrev pub HadNoFault : List Turn → Type 0
HadNoFault turns = AllByRecursion (λ turn. turn.rise ≡ 0) turns

-- no reply is that the disk failed
abbrev pub NoDiskFaults : List Turn → Type 0
NoDiskFaults turns = AllByRecursion (λ turn. (doubt : Bool) → turn.reply ≢ Refused (DiskFault doubt)) turns

-- the replies are those of the step, one after another
abbrev pub IsStepped : Key → Option ℕ → List Entry → List Turn → List Entry → Type 0
IsStepped founder limit past [] after = after ≡ past
IsStepped founder limit past (turn ∷ turns) after =
    let stepped = step founder limit past turn.request (unwrap_or turn.reading (pos 0)) in
    (turn.reply ≡ stepped.0) × IsStepped founder limit stepped.1 turns after

-- the replies are those of the step, or that memory was refused, one after another
abbrev pub IsAnswered : Key → Option ℕ → List Entry → List Turn → List Entry → Type 0
IsAnswered founder limit past [] after = after ≡ past
IsAnswered founder limit past (turn ∷ turns) after =
    (between : List Entry) × Answers founder limit past turn.request (unwrap_or turn.reading (pos 0)) turn.reply between
    × IsAnswered founder limit between turns after

-- The act is in a later history: whoever asked for it had the key at the earlier one, and the entry that stands for the
-- asker's number in the later one is that of the same verb and body. The text is the answer of the entry's own time.
pub record IsAcknowledged (founder : Key) (earlier : List Entry) (request : Request) (text : List ℕ)
    (later : List Entry) : Type 0 where
  pub bytes : List ℕ
  pub caller : Caller
  pub number : ℕ
  pub entry : Kept
  pub body : request.body ≡ Whole bytes
  pub asks : caller_of founder (members (deeds earlier)) request.key ≡ Some caller
  pub numbered : request.number ≡ Some number
  pub found : numbered_entry later caller.number number ≡ Some entry
  pub same : is_resend request.verb bytes entry.entry ≡ true
  pub answer : text ≡ entry_answer entry.before entry.entry

-- this holds of the settled history, and also with the act in doubt
abbrev pub EitherWay : (List Entry → Type 0) → OfficeState → Type 0
EitherWay P state = P state.settled × IfSome state.doubt (λ entry. P (entry ∷ state.settled))

-- the step leaves the history, or the request becomes this entry, which is answered
abbrev pub Makes : List Entry → Outcome → Reply → List Entry → Type 0
Makes past outcome reply after =
    (after ≡ past) ⊎ ((entry : Entry) × (outcome ≡ Adds entry) × (reply ≡ Done (entry_answer past entry))
    × (after ≡ entry ∷ past))

-- What holds of every conduct of the register.
use Rattle.std.specs.Prelude.{◌≡◌, ◌≢◌, ◌⊎◌, true, Bool, ℕ, pos, bytes_eq, List, [], ◌∷◌, Option, Some, unwrap_or}
use Rattle.std.specs.List.{AllByRecursion}
use Rattle.read_ahead.specs.declared.body.Body.TheVariants.{Whole}
use Rattle.act_bodies.specs.declared.key.Key.{Key}
use Rattle.act_model.specs.declared.deed.Deed.{Deed}
use Rattle.act_model.specs.declared.entry.Entry.{Entry}
use Rattle.act_model.specs.History.{Kept, numbered_entry}
use Rattle.comet_model.specs.declared.reply.CometRefusal.TheVariants.{DiskFault, NoMemory}
use Rattle.comet_model.specs.declared.reply.CometReply.{CometReply}
use Rattle.comet_model.specs.declared.reply.CometReply.TheVariants.{Done, Refused}
use Rattle.comet_model.specs.declared.request.CometRequest.{CometRequest}
use Rattle.comet_model.specs.Replies.{entry_answer}
use Rattle.comet_model.specs.Step.{Outcome, Adds, step}
use Rattle.comet_model.specs.Turns.{CometTurn, Answers}

-- no turn ran out of memory
abbrev pub HadMemory : List CometTurn → Type 0
HadMemory turns = AllByRecursion (λ turn. turn.reply ≢ Refused NoMemory) turns

-- the disk's count of faults rose in no turn
abbrev pub HadNoFault : List CometTurn → Type 0
HadNoFault turns = AllByRecursion (λ turn. turn.rise ≡ 0) turns

-- no reply is that the disk failed
abbrev pub NoDiskFaults : List CometTurn → Type 0
NoDiskFaults turns = AllByRecursion (λ turn. (doubt : Bool) → turn.reply ≢ Refused (DiskFault doubt)) turns

-- the replies are those of the step, one after another
abbrev pub IsStepped : Key → Option ℕ → List Deed → List Entry → List CometTurn → List Entry → Type 0
IsStepped founder limit desk past [] after = after ≡ past
IsStepped founder limit desk past (turn ∷ turns) after =
    let stepped = step founder limit desk past turn.request (unwrap_or turn.reading (pos 0)) in
    (turn.reply ≡ stepped.0) × IsStepped founder limit desk stepped.1 turns after

-- the replies are those of the step, or that memory was refused, one after another
abbrev pub IsAnswered : Key → Option ℕ → List Deed → List Entry → List CometTurn → List Entry → Type 0
IsAnswered founder limit desk past [] after = after ≡ past
IsAnswered founder limit desk past (turn ∷ turns) after =
    (between : List Entry)
    × Answers founder limit desk past turn.request (unwrap_or turn.reading (pos 0)) turn.reply between
    × IsAnswered founder limit desk between turns after

-- The act is in the register: the entry that stands for the number is that of the same body. The text is the answer of
-- the entry's own time.
pub record IsAcknowledged (desk : List Deed) (request : CometRequest) (text : List ℕ) (later : List Entry)
    : Type 0 where
  pub bytes : List ℕ
  pub number : ℕ
  pub entry : Kept
  pub body : request.body ≡ Whole bytes
  pub numbered : request.number ≡ Some number
  pub found : numbered_entry later 0 number ≡ Some entry
  pub same : bytes_eq bytes entry.entry.body ≡ true
  pub answer : text ≡ entry_answer desk entry.before entry.entry

-- the step leaves the register, or the request becomes this entry, which is answered
abbrev pub Makes : List Deed → List Entry → Outcome → CometReply → List Entry → Type 0
Makes desk past outcome reply after =
    (after ≡ past) ⊎ ((entry : Entry) × (outcome ≡ Adds entry) × (reply ≡ Done (entry_answer desk past entry))
    × (after ≡ entry ∷ past))

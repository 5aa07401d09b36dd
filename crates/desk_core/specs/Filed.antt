-- What the office keeps of each entry: the entry, and the reply to its act as it was given.
use Rattle.std.specs.Prelude.{◌≡◌, ℕ, true, List, [], ◌∷◌, map, reverse, take, slice_get, Some, Ok}
use Rattle.act_model.specs.declared.entry.Entry.{Entry}
use Rattle.act_model.specs.declared.heard.Asked.{Asked}
use Rattle.act_model.specs.declared.reply.Reply.{Reply}
use Rattle.act_model.specs.declared.reply.Reply.TheVariants.{Done, Refused}
use Rattle.act_model.specs.Hearing.{asked_of}
use Rattle.act_model.specs.History.{Kept}
use Rattle.act_model.specs.Replies.{entry_answer}
use Rattle.act_model.specs.Requests.{is_act}
use Rattle.desk_core.specs.declared.filed.Filed.{Filed}

abbrev pub entries_of : List Filed → List Entry
entries_of filed = map (λ f. f.entry) filed

-- the history of what was filed, in the order in which it was filed: the newest entry first
abbrev pub history_of : List Filed → List Entry
history_of filed = entries_of (reverse filed)

-- each reply is that to its entry's act at the history before it; the newest first
abbrev pub AreAnswered : List Filed → Type 0
AreAnswered [] = Unit {0}
AreAnswered (newest ∷ older) = (newest.reply ≡ Done (entry_answer (entries_of older) newest.entry)) × AreAnswered older

-- the entry is of an act, and its body was read
abbrev pub WasRead : Entry → Type 0
WasRead entry = (is_act entry.verb ≡ true) × (asked : Asked) × (asked_of entry.verb entry.body ≡ Ok asked)

-- each body was read before its entry was filed
abbrev pub WereRead : List Filed → Type 0
WereRead [] = Unit {0}
WereRead (newest ∷ older) = WasRead newest.entry × WereRead older

-- the reply to the act that became an entry
abbrev pub done_reply : Kept → Reply
done_reply k = Done (entry_answer k.before k.entry)

-- the request was done
abbrev pub IsDone : Reply → Type 0
IsDone (Done text) = Unit {0}
IsDone (Refused refusal) = ⊥

-- the entry at this place, and the history of what was filed before it
pub record IsFiledAt (filed : List Filed) (place : ℕ) (k : Kept) : Type 0 where
  pub at : Filed
  pub there : slice_get filed place ≡ Some at
  pub entry : k.entry ≡ at.entry
  pub before : k.before ≡ history_of (take place filed)

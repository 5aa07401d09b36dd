-- The later refusals of an act whose number was not used, and what it does where none holds.
use Rattle.std.specs.Prelude.{ℕ, ◌+◌, ℤ, Bool, false, not, nat_lt, ◌==◌, ◌&&◌, List, [], ◌∷◌, length, Option, Some}
use Rattle.std.specs.Prelude.{None, option_map, Result, Ok, Err}
use Rattle.std.specs.Option.{option_and_then}
use Rattle.tracklet_file.specs.Numbering.{numbered}
use Rattle.tracklet_file.specs.Observations.{entry_of}
use Rattle.act_model.specs.declared.act.Act.{Act}
use Rattle.act_model.specs.declared.act.Act.TheVariants as act
use Rattle.act_model.specs.declared.deed.Deed.{Deed}
use Rattle.act_model.specs.declared.entry.Entry.{Entry}
use Rattle.act_model.specs.declared.heard.Asked.{Asked}
use Rattle.act_model.specs.declared.heard.Asked.TheVariants as asked
use Rattle.act_model.specs.declared.heard.Heard.{Heard}
use Rattle.act_model.specs.declared.reply.Part.TheVariants as part
use Rattle.act_model.specs.declared.reply.Refusal.{Refusal}
use Rattle.act_model.specs.declared.reply.Refusal.TheVariants.{Unread, Role, Header, JournalFull}
use Rattle.act_model.specs.Rows.{first_row, unless, ◌>>=◌}
use Rattle.act_model.specs.Requests.{is_officers}
use Rattle.act_model.specs.Roster.{is_observer}
use Rattle.act_model.specs.Holdings.{holdings}
use Rattle.act_model.specs.Doing.{does}
use Rattle.act_model.specs.Deeds.{deeds}

-- who sent an observation: the caller of the entry that brought it
abbrev pub sender : List Entry → ℕ → Option ℕ
sender past k =
    option_map (λ entry. entry.caller) (option_and_then (numbered past)
    (entry_of (holdings (deeds past)).observations k))

-- somebody else sent it
abbrev pub is_another : ℕ → Option ℕ → Bool
is_another caller None = false
is_another caller (Some sent) = not (sent == caller)

-- the act retracts an observation that somebody else sent
abbrev pub retracts_anothers : List Entry → ℕ → Asked → Bool
retracts_anothers past caller (asked.Act (act.Retract k)) = is_another caller (sender past k)
retracts_anothers past caller _ = false

-- what an observer may not: an act of officers, and a retraction of another caller's observation
abbrev pub role_rows : List Entry → Heard → List (Bool × Refusal)
role_rows past heard =
    (is_officers heard.verb && is_observer heard.caller.rank, Role)
    ∷ (is_observer heard.caller.rank && retracts_anothers past heard.caller.number heard.asked, Role)
    ∷ []

-- the act that is asked; a query is none
abbrev pub act_in : Asked → Result Act Refusal
act_in (asked.Act act) = Ok act
act_in (asked.Header what line) = Err (Header what line)
act_in (asked.Query query) = Err (Unread part.Verb)

-- what a request that was heard does at this history and moment
unfoldable pub work_out : List Entry → ℤ → Heard → Result Deed Refusal
work_out past moment heard =
    unless (first_row (role_rows past heard)) do
      act ← act_in heard.asked
      does (deeds past) moment act

-- ---- the journal's limit

-- how many bytes of a journal an entry with this body takes
abbrev pub entry_size : List ℕ → ℕ
entry_size body = 58 + length body

-- how many bytes of a journal these entries take
abbrev pub bytes_used : List Entry → ℕ
bytes_used [] = 2
bytes_used (entry ∷ past) = bytes_used past + entry_size entry.body

-- the journal has no room for another entry with this body; without a limit there always is
abbrev pub full_rows : Option ℕ → List Entry → List ℕ → List (Bool × Refusal)
full_rows None past body = []
full_rows (Some limit) past body =
    (nat_lt limit (bytes_used past + entry_size body), JournalFull (bytes_used past) (entry_size body) limit) ∷ []

-- what a request that was heard does, where the journal has room for its entry
abbrev pub work_within : Option ℕ → List Entry → List ℕ → ℤ → Heard → Result Deed Refusal
work_within limit past body moment heard = do
  deed ← work_out past moment heard
  unless (first_row (full_rows limit past body)) (Ok deed)

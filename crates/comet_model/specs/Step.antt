-- The step of the register: what becomes of one request, what it is answered, and the entries that it leaves.
use Rattle.std.specs.Prelude.{ℕ, ℤ, bytes_eq, if◌then◌else◌, List, ◌∷◌, Option, Some, None, Result, Ok, Err}
use Rattle.act_bodies.specs.declared.key.Key.{Key}
use Rattle.act_model.specs.declared.deed.Deed.{Deed}
use Rattle.act_model.specs.declared.entry.Entry.{Entry}
use Rattle.act_model.specs.Designations.{links_of}
use Rattle.act_model.specs.History.{Kept, next_moment, next_receipt, numbered_entry}
use Rattle.act_model.specs.Rows.{first_row}
use Rattle.comet_model.specs.declared.heard.CometAsked.{CometAsked}
use Rattle.comet_model.specs.declared.heard.CometAsked.TheVariants as asked
use Rattle.comet_model.specs.declared.named.NamedComet.{NamedComet}
use Rattle.comet_model.specs.declared.naming.Naming.{Naming}
use Rattle.comet_model.specs.declared.reply.CometRefusal.{CometRefusal}
use Rattle.comet_model.specs.declared.reply.CometRefusal.TheVariants.{OtherRequest}
use Rattle.comet_model.specs.declared.reply.CometReply.{CometReply}
use Rattle.comet_model.specs.declared.reply.CometReply.TheVariants.{Done, Refused}
use Rattle.comet_model.specs.declared.request.CometRequest.{CometRequest}
use Rattle.comet_model.specs.Rows.{unless, ◌>>=◌}
use Rattle.comet_model.specs.Hearing.{bytes_in, hear}
use Rattle.comet_model.specs.Refusals.{names, room_rows}
use Rattle.comet_model.specs.Register.{comets, new_entry}
use Rattle.comet_model.specs.Replies.{entry_answer}
use Rattle.comet_model.specs.Texts.{register_text}
use Rattle.comet_model.specs.Translation.{translation}

-- what becomes of a request: it is refused; its number was used, and this is the reply that is kept for it; it is a
-- query, and this text tells what it asks; or it becomes an entry
pub data Outcome : Type 0 where
  Refuses : CometRefusal → Outcome
  Keeps : CometReply → Outcome
  Tells : List ℕ → Outcome
  Adds : Entry → Outcome

-- ---- an act whose number was used

-- the reply that is kept for the entry's number: the entry's own answer to the same request, and else a refusal
abbrev pub kept_reply : List Deed → List ℕ → Kept → CometReply
kept_reply desk bytes k =
    if bytes_eq bytes k.entry.body then Done (entry_answer desk k.before k.entry)
    else Refused (OtherRequest (next_receipt k.before))

abbrev pub unless_kept : List Deed → Option Kept → List ℕ → Outcome → Outcome
unless_kept desk (Some k) bytes goes_on = Keeps (kept_reply desk bytes k)
unless_kept desk None bytes goes_on = goes_on

-- ---- an act whose number was not used

-- the name that an act gives, where the journal has room for its entry
abbrev pub names_within : Option ℕ → List Deed → List Entry → List ℕ → Naming → Result NamedComet CometRefusal
names_within limit desk past bytes naming = do
  named ← names desk (comets desk past) naming
  unless (first_row (room_rows limit past bytes)) (Ok named)

-- an act becomes its entry, unless what it names is refused
abbrev pub unless_refused : Result NamedComet CometRefusal → Entry → Outcome
unless_refused (Ok named) entry = Adds entry
unless_refused (Err refusal) entry = Refuses refusal

-- ---- the step

-- an act: the reply that is kept for its number; else the later refusals; else it becomes an entry
abbrev pub act_step : Option ℕ → List Deed → List Entry → ℕ → Naming → List ℕ → ℤ → Outcome
act_step limit desk past number naming bytes moment =
    unless_kept desk (numbered_entry past 0 number) bytes
    (unless_refused (names_within limit desk past bytes naming) (new_entry number bytes moment))

-- a request that was heard, which comes at this moment; a query reads the register and leaves it
abbrev pub asked_step : Option ℕ → List Deed → List Entry → ℕ → CometAsked → List ℕ → ℤ → Outcome
asked_step limit desk past number (asked.Names naming) bytes moment =
    act_step limit desk past number naming bytes moment
asked_step limit desk past number asked.Register bytes moment =
    Tells (register_text (links_of desk) (comets desk past))
asked_step limit desk past number asked.Translate bytes moment = Tells (translation (comets desk past) bytes)

abbrev pub unless_unheard : Result Outcome CometRefusal → Outcome
unless_unheard (Ok outcome) = outcome
unless_unheard (Err refusal) = Refuses refusal

-- What becomes of a request at a register, with this reading of the clock, where these are the office's deeds and the
-- journal may have this many bytes: its bytes are taken, it is heard, and it makes its step.
unfoldable pub outcome : Key → Option ℕ → List Deed → List Entry → CometRequest → ℤ → Outcome
outcome founder limit desk past request reading = unless_unheard do
  bytes ← bytes_in request.body
  heard ← hear founder request bytes
  Ok (asked_step limit desk past heard.number heard.asked bytes (next_moment past reading))

-- the reply to a request of which this becomes, and the entries that it leaves
abbrev pub reply_and_entries : List Deed → List Entry → Outcome → CometReply × List Entry
reply_and_entries desk past (Refuses refusal) = (Refused refusal, past)
reply_and_entries desk past (Keeps reply) = (reply, past)
reply_and_entries desk past (Tells text) = (Done text, past)
reply_and_entries desk past (Adds entry) = (Done (entry_answer desk past entry), entry ∷ past)

unfoldable pub step : Key → Option ℕ → List Deed → List Entry → CometRequest → ℤ → CometReply × List Entry
step founder limit desk past request reading =
    reply_and_entries desk past (outcome founder limit desk past request reading)

-- What the register answers to an act that it accepted, and the text and status of every reply.
use Rattle.std.specs.Prelude.{ℕ, List, ◌++◌, codes, Option, Some, None}
use Rattle.act_model.specs.declared.deed.Deed.{Deed}
use Rattle.act_model.specs.declared.entry.Entry.{Entry}
use Rattle.act_model.specs.declared.reply.Refusal.TheVariants as desk
use Rattle.act_model.specs.declared.reply.Thing.TheVariants as thing
use Rattle.act_model.specs.History.{next_receipt}
use Rattle.act_model.specs.Replies.{refusal_text as desk_text}
use Rattle.act_model.specs.Texts.{line_of, receipt_line, designation_text}
use Rattle.comet_model.specs.declared.named.NamedComet.{NamedComet}
use Rattle.comet_model.specs.declared.reply.CometRefusal.{CometRefusal}
use Rattle.comet_model.specs.declared.reply.CometRefusal.TheVariants.{TooLarge, Unread, UnknownKey, OtherRequest}
use Rattle.comet_model.specs.declared.reply.CometRefusal.TheVariants.{UnknownThing, NoDiscovery, AlreadyComet}
use Rattle.comet_model.specs.declared.reply.CometRefusal.TheVariants.{HalfMonthFull, JournalFull, DiskFault, NoMemory}
use Rattle.comet_model.specs.declared.reply.CometReply.{CometReply}
use Rattle.comet_model.specs.declared.reply.CometReply.TheVariants.{Done, Refused}
use Rattle.comet_model.specs.Register.{named_by, comets}
use Rattle.comet_model.specs.Texts.{comet_text, comet_line}

-- the answer to a naming whose entry has this receipt: the receipt, and the name; an entry that names nothing, which
-- stands in no legal register, has the receipt alone
abbrev pub named_answer : ℕ → Option NamedComet → List ℕ
named_answer receipt (Some named) = receipt_line receipt ++ comet_line named.comet
named_answer receipt None = receipt_line receipt

-- the answer to an entry, worked out at the register before it
unfoldable pub entry_answer : List Deed → List Entry → Entry → List ℕ
entry_answer deeds past entry = named_answer (next_receipt past) (named_by deeds (comets deeds past) entry)

-- the line of a refusal: its number, its name, and what it carries; those that the office has too have the office's
-- lines
abbrev pub refusal_text : CometRefusal → List ℕ
refusal_text (TooLarge excess) = desk_text (desk.TooLarge excess)
refusal_text (Unread part) = desk_text (desk.Unread part)
refusal_text UnknownKey = desk_text desk.UnknownKey
refusal_text (OtherRequest receipt) = desk_text (desk.OtherRequest receipt)
refusal_text (UnknownThing d) = desk_text (desk.UnknownThing (thing.Designation d))
refusal_text (NoDiscovery d) = line_of (codes "refused 19 NoDiscovery " ++ designation_text d)
refusal_text (AlreadyComet comet) = line_of (codes "refused 20 AlreadyComet " ++ comet_text comet)
refusal_text (HalfMonthFull half limit) = desk_text (desk.HalfMonthFull half limit)
refusal_text (JournalFull used more limit) = desk_text (desk.JournalFull used more limit)
refusal_text (DiskFault doubt) = desk_text (desk.DiskFault doubt)
refusal_text NoMemory = desk_text desk.NoMemory

abbrev pub text_of : CometReply → List ℕ
text_of (Done text) = text
text_of (Refused refusal) = refusal_text refusal

abbrev pub refusal_status : CometRefusal → ℕ
refusal_status (TooLarge excess) = 413
refusal_status (Unread part) = 400
refusal_status UnknownKey = 401
refusal_status (OtherRequest receipt) = 409
refusal_status (UnknownThing d) = 404
refusal_status (NoDiscovery d) = 409
refusal_status (AlreadyComet comet) = 409
refusal_status (HalfMonthFull half limit) = 409
refusal_status (JournalFull used more limit) = 409
refusal_status (DiskFault doubt) = 503
refusal_status NoMemory = 507

abbrev pub status_of : CometReply → ℕ
status_of (Done text) = 200
status_of (Refused refusal) = refusal_status refusal

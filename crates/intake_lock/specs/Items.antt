-- Calls on the office, as a pass keeps them.
use Rattle.std.specs.Prelude.{◌≡◌, ◌⊎◌, ℕ, ◌+◌, ◌-◌, ◌^◌, min, ◌≤◌, ◌<◌, ℤ, pos, Bool, true, List, [], ◌∷◌, length}
use Rattle.std.specs.Prelude.{sum_by, Option, Some, None, IfSome, IsSomeAnd, unwrap_or, ◌++◌, Contains}
use Rattle.std.specs.List.{AllByRecursion}
use Rattle.act_bodies.specs.declared.key.Key.{Key}
use Rattle.act_model.specs.declared.entry.Entry.{Entry}
use Rattle.act_model.specs.declared.keeper.Office.{Office}
use Rattle.act_model.specs.declared.keeper.OfficeState.{OfficeState}
use Rattle.act_model.specs.declared.reply.Refusal.TheVariants.{DiskFault}
use Rattle.act_model.specs.declared.reply.Reply.{Reply}
use Rattle.act_model.specs.declared.reply.Reply.TheVariants.{Done, Refused}
use Rattle.act_model.specs.declared.request.Request.{Request}
use Rattle.act_model.specs.Requests.{is_act}
use Rattle.act_model.specs.Conducts.{Extends}
use Rattle.act_model.specs.Keepers.{RoseBy}
use Rattle.act_model.specs.Replies.{entry_answer}
use Rattle.act_model.specs.Step.{Adds, outcome}
use Rattle.act_model.specs.Turns.{Turn, TakesReading, Answers, FailsToMend, ActsMended, Asks}
use Rattle.act_model.specs.declared.keeper.Stamp.{Stamp}
use Rattle.act_model.specs.declared.keeper.Stamps.{Stamps}
use Rattle.intake_lock.specs.declared.view.Item.{Item}
use Rattle.intake_lock.specs.Stamps.{Gave}

-- the reading of a call, or 0 where it took none
abbrev pub reading_of : Item → ℤ
reading_of item = unwrap_or item.reading (pos 0)

-- the call adds this entry where it is asked at this history
abbrev pub AddsAt : Key → Option ℕ → List Entry → Item → Entry → Type 0
AddsAt founder limit past item entry = outcome founder limit past item.request (reading_of item) ≡ Adds entry

-- The call added this entry at this history, or left it in doubt there: the step adds it, and the call was answered by
-- the entry's answer, or that the disk failed with its own act in doubt. No call that was answered otherwise adds any.
pub record AddsEntry (founder : Key) (limit : Option ℕ) (past : List Entry) (item : Item) (entry : Entry)
    : Type 0 where
  pub place : item.position ≡ length past
  pub adds : AddsAt founder limit past item entry
  pub answered : (item.reply ≡ Done (entry_answer past entry)) ⊎ (item.reply ≡ Refused (DiskFault true))

-- An act could not be mended or kept at this history, and the reply is that the disk failed, which counted it. The act
-- is in doubt only where the step adds an entry for it. Its stamp, where it got one, has as many entries as the
-- history, which the act left as it was.
pub record Failed (founder : Key) (limit : Option ℕ) (past : List Entry) (item : Item) : Type 0 where
  pub doubt : Bool
  pub act : is_act item.request.verb ≡ true
  pub reply : item.reply ≡ Refused (DiskFault doubt)
  pub rose : 0 < item.rise
  pub adds : doubt ≡ true → (entry : Entry) × AddsAt founder limit past item entry
  pub tells : IfSome item.stamp (λ given. given.entries ≡ length past)

-- a query leaves the history, and the stamp of an act, where it got one, has as many entries as the act left
abbrev pub StampTells : List Entry → Option ℤ → Option Stamp → List Entry → Type 0
StampTells past None stamp after = after ≡ past
StampTells past (Some reading) stamp after = IfSome stamp (λ given. given.entries ≡ length after)

-- The call is true of this history. It was answered at some first entries of it, by the step, or as out of memory, or
-- because the disk failed; and where the step adds an entry and it was done, that entry is the next one. An act took a
-- reading of the clock, and any other request none.
pub record IsTrue (founder : Key) (limit : Option ℕ) (history : List Entry) (item : Item) : Type 0 where
  pub reads : TakesReading item.request.verb item.reading
  pub past : List Entry
  pub place : item.position ≡ length past
  pub first : Extends past history
  pub answered : ((after : List Entry) × Answers founder limit past item.request (reading_of item) item.reply after
      × Extends after history × StampTells past item.reading item.stamp after) ⊎ Failed founder limit past item

abbrev pub AreTrue : Key → Option ℕ → List Entry → List Item → Type 0
AreTrue founder limit history items = AllByRecursion (IsTrue founder limit history) items

-- the stamp of a call with this reading, an act, is among these stamps, where acts are stamped
abbrev pub HasStamp : Option Stamps → Option ℤ → Option Stamp → Type 0
HasStamp None reading stamp = Unit {0}
HasStamp (Some stamps) None stamp = Unit {0}
HasStamp (Some stamps) (Some reading) stamp = IsSomeAnd stamp (Gave (Some stamps))

abbrev pub AreStamped : Option Stamps → List Item → Type 0
AreStamped stamps items = AllByRecursion (λ item. HasStamp stamps item.reading item.stamp) items

-- by how much the count of faults rose in the calls together
abbrev pub rises : List Item → ℕ
rises items = sum_by (λ item. item.rise) items

-- ---- calls on a keeper

-- the call as a turn of the office
abbrev pub turn_of : Item → Turn
turn_of item = record { request = item.request; reading = item.reading; reply = item.reply; rise = item.rise }

-- the call was answered at this many entries of the settled history, after mending
abbrev pub TakesAt : Key → Option ℕ → OfficeState → Item → Option ℤ → OfficeState → Type 0
TakesAt founder limit before item (Some reading) after =
    (FailsToMend before (turn_of item) after × (item.position ≡ length before.settled))
    ⊎ ((acts : ActsMended founder limit before (turn_of item) reading after) × (item.position ≡ length acts.mended))
TakesAt founder limit before item None after = Asks founder limit before (turn_of item) after
    × (item.position ≡ length before.settled)

-- the stamp is this call's, and says what was asked, with which reading of the clock
pub record IsStampOf (item : Item) (given : Stamp) : Type 0 where
  pub stamp : item.stamp ≡ Some given
  pub request : item.request ≡ given.request
  pub reading : item.reading ≡ Some given.reading

-- An act got a stamp, with this many settled entries: the newest, which stands last. Its moment is the office's after
-- the act, which is no earlier than the one before.
pub record StampsAct (stamps : Stamps) (item : Item) (count : ℕ) (after : Option Stamps) : Type 0 where
  pub given : Stamp
  pub of_call : IsStampOf item given
  pub entries : given.entries ≡ count
  pub later : stamps.moment ≤ given.moment
  pub now : after ≡ Some (record { moment = given.moment; given = stamps.given ++ given ∷ [] })

-- An act with this reading got a stamp, with this many settled entries. A query got none, and nor did an act where no
-- act is stamped.
abbrev pub Stamped : Item → Option Stamps → Option ℤ → ℕ → Option Stamps → Type 0
Stamped item None reading count after = (item.stamp ≡ None) × (after ≡ None)
Stamped item (Some stamps) None count after = (item.stamp ≡ None) × (after ≡ Some stamps)
Stamped item (Some stamps) (Some reading) count after = StampsAct stamps item count after

-- The keeper took this call. Its count of faults rose by as much as the call says, and the founding officer's key and
-- the limit are as they were. It stamped the call, where it was an act and acts are stamped.
pub record Calls (before : Office) (item : Item) (after : Office) : Type 0 where
  pub reads : TakesReading item.request.verb item.reading
  pub takes : TakesAt before.founder before.limit before.state item item.reading after.state
  pub counts : RoseBy item.rise before.faults after.faults
  pub founder : after.founder ≡ before.founder
  pub limit : after.limit ≡ before.limit
  pub stamps : Stamped item before.stamps item.reading (length after.state.settled) after.stamps

-- the keeper took these calls, the newest first
abbrev pub Called : Office → List Item → Office → Type 0
Called before [] after = after ≡ before
Called before (item ∷ items) after = (between : Office) × Called before items between × Calls between item after

-- the call asked this, with this reading, and was answered so
pub record IsItemOf (before : Office) (request : Request) (reading : Option ℤ) (reply : Reply) (after : Office)
    (item : Item) : Type 0 where
  pub asked : item.request ≡ request
  pub read : item.reading ≡ reading
  pub answered : item.reply ≡ reply
  pub calls : Calls before item after

-- the keeper took one turn: a call of this request, with this reading of the clock for an act, which was answered so
abbrev pub TakesTurn : Office → Request → Option ℤ → Reply → Office → Type 0
TakesTurn before request reading reply after = (item : Item) × IsItemOf before request reading reply after item

-- one call more
abbrev pub Noted : Office → Request → Option ℤ → Reply → Office → List Item → List Item → Type 0
Noted before request reading reply after items noted =
    (item : Item) × (noted ≡ item ∷ items) × IsItemOf before request reading reply after item

-- the count rose by at least so much; it stands still at the greatest number that its type has
abbrev pub RisesBy : ℕ → ℕ → ℕ → Type 0
RisesBy rise before after = min (before + rise) (2 ^ 64 - 1) ≤ after

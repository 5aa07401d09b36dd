-- What a keeper of the office does in one call.
use Rattle.std.specs.Prelude.{◌≡◌, ℕ, ◌+◌, ◌-◌, ◌^◌, ◌≤◌, min, ℤ, [], ◌∷◌, ◌++◌, length, Option, Some, None}
use Rattle.act_model.specs.declared.keeper.Office.{Office}
use Rattle.act_model.specs.declared.keeper.Stamp.{Stamp}
use Rattle.act_model.specs.declared.keeper.Stamps.{Stamps}
use Rattle.act_model.specs.declared.reply.Reply.{Reply}
use Rattle.act_model.specs.declared.request.Request.{Request}
use Rattle.act_model.specs.Turns.{IsTurn}

-- the count rose by so much; it stands still at the greatest number that its type has
abbrev pub RoseBy : ℕ → ℕ → ℕ → Type 0
RoseBy rise before after = after ≡ min (before + rise) (2 ^ 64 - 1)

-- An act got a stamp, with what was asked, the clock's reading, and this many settled entries: the newest, which stands
-- last. Its moment is the keeper's after the act, which is no earlier than the one before.
pub record StampsAct (before : Stamps) (request : Request) (reading : ℤ) (count : ℕ) (after : Option Stamps)
    : Type 0 where
  pub given : Stamp
  pub asked : request ≡ given.request
  pub read : reading ≡ given.reading
  pub entries : given.entries ≡ count
  pub later : before.moment ≤ given.moment
  pub now : after ≡ Some (record { moment = given.moment; given = before.given ++ given ∷ [] })

-- An act with this reading got a stamp, with this many settled entries. A query got none, and nor did an act where no
-- act is stamped.
abbrev pub IsStamped : Option Stamps → Request → Option ℤ → ℕ → Option Stamps → Type 0
IsStamped None request reading count after = after ≡ None
IsStamped (Some before) request None count after = after ≡ Some before
IsStamped (Some before) request (Some reading) count after = StampsAct before request reading count after

-- The keeper took one turn, with a reading of the clock for an act. The count of faults rose by what the turn says, and
-- the founding officer's key and the limit are as they were. It stamped an act, where acts are stamped.
pub record TakesTurn (before : Office) (request : Request) (reading : Option ℤ) (reply : Reply)
    (after : Office) : Type 0 where
  pub rise : ℕ
  pub turn : IsTurn before.founder before.limit before.state
      (record { request = request; reading = reading; reply = reply; rise = rise }) after.state
  pub counts : RoseBy rise before.faults after.faults
  pub founder : after.founder ≡ before.founder
  pub limit : after.limit ≡ before.limit
  pub stamps : IsStamped before.stamps request reading (length after.state.settled) after.stamps

-- The calls of a turn.
use Rattle.std.proofs.Common.{◌≡◌, ℕ, ℤ, List, length, Option, Some, None, refl, sym, ap, subst, inl, inr}
use Rattle.act_bodies.specs.declared.key.Key.{Key}
use Rattle.act_model.specs.declared.keeper.Office.{Office}
use Rattle.act_model.specs.declared.keeper.OfficeState.{OfficeState}
use Rattle.act_model.specs.declared.keeper.Stamp.{Stamp}
use Rattle.act_model.specs.declared.keeper.Stamps.{Stamps}
use Rattle.act_model.specs.declared.reply.Reply.{Reply}
use Rattle.act_model.specs.declared.request.Request.{Request}
use Rattle.act_model.specs.Keepers.{IsStamped, TakesTurn as KeeperTakesTurn}
use Rattle.act_model.specs.Turns.{Takes}
use Rattle.intake_lock.specs.declared.view.Item.{Item}
use Rattle.intake_lock.specs.Items.{TakesAt, Called, Stamped, TakesTurn, Noted}

-- the turn that a keeper took, as a call with its position
module _ (founder : Key) (limit : Option ℕ) (before : OfficeState) (q : Request) (at : Option ℤ) (reply : Reply) (rise : ℕ) (stamp : Option Stamp) (after : OfficeState) where
  abbrev call_at : ℕ → Item
  call_at position = record { position = position; request = q; reading = at; reply = reply; rise = rise; stamp = stamp }

  placed : (reading : Option ℤ) → Takes founder limit before (record { request = q; reading = at; reply = reply; rise = rise }) reading after → (position : ℕ) × TakesAt founder limit before (call_at position) reading after
  placed (Some reading) (inl f) = (length before.settled, inl (f, refl))
  placed (Some reading) (inr a) = (length a.mended, inr (a, refl))
  placed None a = (length before.settled, (a, refl))

-- the stamp that a call got in such a turn
module _ (q : Request) (count : ℕ) (after : Option Stamps) where
  stamp_got : (before : Option Stamps) (reading : Option ℤ) → IsStamped before q reading count after
      → (stamp : Option Stamp) × ((position : ℕ) (reply : Reply) (rise : ℕ) → Stamped (record { position = position; request = q; reading = reading; reply = reply; rise = rise; stamp = stamp }) before reading count after)
  stamp_got None reading is = (None, λ position reply rise. (refl, is))
  stamp_got (Some before) None is = (None, λ position reply rise. (refl, is))
  stamp_got (Some before) (Some reading) is = (
    Some is.given,
    λ position reply rise. record {
      given = is.given;
      of_call = record { stamp = refl; request = is.asked; reading = ap (λ (t : ℤ). Some t) is.read };
      entries = is.entries;
      later = is.later;
      now = is.now;
    },
  )

-- the turn of a keeper is a call
pub taken : (before : Office) (q : Request) (reading : Option ℤ) (reply : Reply) (after : Office) → KeeperTakesTurn before q reading reply after → TakesTurn before q reading reply after
taken before q reading reply after t =
    let s = stamp_got q (length after.state.settled) after.stamps before.stamps reading t.stamps in
    let p = placed before.founder before.limit before.state q reading reply t.rise s.0 after.state reading t.turn.takes in (
      record { position = p.0; request = q; reading = reading; reply = reply; rise = t.rise; stamp = s.0 },
      record {
        asked = refl;
        read = refl;
        answered = refl;
        calls = record { reads = t.turn.reads; takes = p.1; counts = t.counts; founder = t.founder; limit = t.limit; stamps = s.1 p.0 reply t.rise };
      },
    )

-- a call more
pub called_noted : (first before : Office) (q : Request) (reading : Option ℤ) (reply : Reply) (after : Office) (items noted : List Item) → Called first items before → Noted before q reading reply after items noted → Called first noted after
called_noted first before q reading reply after items noted called (item, is, call) = subst (λ (all : List Item). Called first all after) (sym is) (before, called, call.calls)

-- the same call, where the office before is the same
pub noted_from : (before before' : Office) (q : Request) (reading : Option ℤ) (reply : Reply) (after : Office) (items noted : List Item) → before ≡ before' → Noted before q reading reply after items noted → Noted before' q reading reply after items noted
noted_from before before' q reading reply after items noted same is = subst (λ (o : Office). Noted o q reading reply after items noted) same is

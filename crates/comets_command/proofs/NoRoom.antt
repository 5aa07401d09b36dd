-- What is known of a request for whose body there was no room.
use Rattle.std.proofs.Common.{◌≡◌, ℕ, ℤ, List, Option}
use Rattle.read_ahead.specs.declared.body.Body.TheVariants.{NoRoom}
use Rattle.act_bodies.specs.declared.key.Key.{Key}
use Rattle.act_model.specs.declared.deed.Deed.{Deed}
use Rattle.act_model.specs.declared.entry.Entry.{Entry}
use Rattle.comet_model.specs.declared.reply.CometRefusal.TheVariants.{NoMemory}
use Rattle.comet_model.specs.declared.reply.CometReply.{CometReply}
use Rattle.comet_model.specs.declared.reply.CometReply.TheVariants.{Refused}
use Rattle.comet_model.specs.declared.request.CometRequest.{CometRequest}
use Rattle.comet_model.specs.Step.{step}
use Rattle.comet_model.specs.Turns.{Answers}

-- a body without room is answered with out of memory, and changes nothing
pub record NoRoomLaws : Type 0 where
  pub step : (founder : Key) (limit : Option ℕ) (desk : List Deed) (past : List Entry) (request : CometRequest) (reading : ℤ) → request.body ≡ NoRoom → step founder limit desk past request reading ≡ (Refused NoMemory, past)
  pub turn : (founder : Key) (limit : Option ℕ) (desk : List Deed) (past after : List Entry) (request : CometRequest) (reading : ℤ) (reply : CometReply) → request.body ≡ NoRoom → Answers founder limit desk past request reading reply after → (reply ≡ Refused NoMemory) × (after ≡ past)

-- The reply to a query.
use Rattle.std.specs.Prelude.{◌≡◌, ◌⊎◌, ℕ, List, Result, Ok, Err}
use Rattle.act_model.specs.declared.reply.Refusal.{Refusal}
use Rattle.act_model.specs.declared.reply.Refusal.TheVariants.{NoMemory}
use Rattle.act_model.specs.declared.reply.Reply.{Reply}
use Rattle.act_model.specs.declared.reply.Reply.TheVariants.{Done, Refused}

-- the reply is the text or the refusal that is due, or 'out of memory' in its place
abbrev pub Tells : Result (List ℕ) Refusal → Reply → Type 0
Tells due (Done text) = due ≡ Ok text
Tells due (Refused refusal) = (due ≡ Err refusal) ⊎ (refusal ≡ NoMemory)

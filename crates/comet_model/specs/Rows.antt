-- Questions, each answered by what it finds or by a refusal of the register.
use Rattle.std.specs.Prelude.{◌≡◌, ◌⊎◌, Option, Some, None, Result, Ok, Err}
use Rattle.comet_model.specs.declared.reply.CometRefusal.{CometRefusal}
use Rattle.comet_model.specs.declared.reply.CometRefusal.TheVariants.{NoMemory}

-- a refusal is the answer; without one it goes on
abbrev pub unless : {A : Type 0} → Option CometRefusal → Result A CometRefusal → Result A CometRefusal
unless (Some refusal) goes_on = Err refusal
unless None goes_on = goes_on

infixl 10 ◌>>=◌
-- one question after the other: the next one takes what was found
abbrev pub ◌>>=◌ : {A B : Type 0} → Result A CometRefusal → (A → Result B CometRefusal) → Result B CometRefusal
(Ok found) >>= next = next found
(Err refusal) >>= next = Err refusal

-- the answer is the one that is due, or 'out of memory' in its place
abbrev pub IsDue : {A : Type 0} → Result A CometRefusal → Result A CometRefusal → Type 0
IsDue due (Ok found) = due ≡ Ok found
IsDue due (Err refusal) = (due ≡ Err refusal) ⊎ (refusal ≡ NoMemory)

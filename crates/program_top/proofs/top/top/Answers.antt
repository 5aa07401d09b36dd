use Rattle.std.proofs.Common.{◌≡◌, ℕ, List, Option, Some, refl, ◌∙◌, rules}
use Rattle.act_bodies.specs.declared.key.Key.{Key}
use Rattle.command_line.specs.declared.command.Command.{Command}
use Rattle.command_line.specs.declared.command.Command.TheVariants.{Serve}
use Rattle.command_line.specs.Commands.{command_of}
use Rattle.program_top.proofs.Promised.{by_serve, by_alone}
use Rattle.program_top.proofs.top.top.Goals as goal
use Rattle.program_top.proofs.top.top.Goals.{in-Some+in-Run-1, in-None-1}

-- the words name this command
named : (words : List (List ℕ)) (result : Option Command) (command one : Command) → result ≡ command_of words → result ≡ Some command → command ≡ one → Some one ≡ command_of words
named words result command one reads some is = cc

pub returns-in-Some-Serve : goal.returns-in-Some-Serve
returns-in-Some-Serve g c = record {
  promises =
      rw c.ended_beside.ensures (by_serve _ _ _ _ _ _ _ _ _ c.in-Some-Serve.key c.in-Some-Serve.connections (command_of c.args.words.now)
      (named c.args.words.now c.command_of.result c.in-Some-Serve.field-0 _ c.command_of.ensures.command c.in-Some-Serve.is c.in-Some-Serve.field-0-is) refl refl refl
      (rw (← c.from.ensures) (rw c.new.ensures c.serve-ended.ensures.promises)));
}

pub returns-in-Some-Run : goal.returns-in-Some-Run
returns-in-Some-Run g c =
    let other : (key : Key) (connections : ℕ) → command_of c.args.words.now ≡ Some (Serve key connections) → ⊥ = λ key connections is. elim c.in-Some-Run-1.branch [ in-Some+in-Run-1 w ↦ search rules | in-None-1 w ↦ search rules ] in
    record { promises = by_alone _ _ _ _ _ _ _ _ _ (command_of c.args.words.now) other c.single.ensures.promises (refl, c.new-in-Some-Run-2.ensures ∙ c.new-in-Some-Run.ensures.items) }

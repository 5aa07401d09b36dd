use Rattle.std.proofs.Common.{subst, sym}
use Rattle.act_bodies.specs.declared.key.Key.{Key}
use Rattle.act_model.specs.Roster.{IsFounder}
use Rattle.command_line.proofs.Founders.{names_founder}
use Rattle.command_line.proofs.keys.founder_key.Goals as goal

pub returns-then-is_founder_key-clause-founder : goal.returns-then-is_founder_key-clause-founder
returns-then-is_founder_key-clause-founder c =
    subst (λ (k : Key). IsFounder k) (sym c.new.ensures) (names_founder c.args.text.now (sym c.if-is_founder_key.ensures))

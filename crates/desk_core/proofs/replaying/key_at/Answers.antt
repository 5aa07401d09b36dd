use Rattle.std.proofs.Common.{ℕ, Some, None, ap, ◌∙◌}
use Rattle.std.specs.Prelude.{reverse}
use Rattle.act_model.specs.Roster.{key_at}
use Rattle.desk_core.proofs.ReplayLemmas.{key_or, key_found}
use Rattle.desk_core.proofs.replaying.key_at.Goals as goal

pub returns-in-Some : goal.returns-in-Some
unfolding key_or
returns-in-Some c =
    key_found c.args.founder.now (reverse c.args.members.now) c.from.result (Some c.in-Some.member.now) c.in-Some.ensures
    ∙ ap (λ (n : ℕ). key_at c.args.founder.now (reverse c.args.members.now) n) c.from.ensures

pub returns-in-None : goal.returns-in-None
unfolding key_or
returns-in-None c =
    key_found c.args.founder.now (reverse c.args.members.now) c.from.result None c.in-None.ensures
    ∙ ap (λ (n : ℕ). key_at c.args.founder.now (reverse c.args.members.now) n) c.from.ensures

use Rattle.std.proofs.Common.{◌≤◌, sym, subst, ◌∙◌}
use Rattle.std.specs.Prelude.{ℕ, map, reverse}
use Rattle.packed_names.specs.Ranges.{limit_of}
use Rattle.designate_core.specs.RowEntries.{act_of}
use Rattle.designate_core.proofs.RowLemmas.{within}
use Rattle.designate_core.proofs.rows.Rows.given.Goals as goal

pub returns-clause-within : goal.returns-clause-within
returns-clause-within c =
    let count = c.given_in.ensures ∙ c.self.invariant.counted c.args.half in
    subst (λ (n : ℕ). n ≤ limit_of c.args.half) (sym count) (within c.orders.ensures c.args.half (map act_of (reverse c.self.inside.came.items)) c.self.invariant.fitting)

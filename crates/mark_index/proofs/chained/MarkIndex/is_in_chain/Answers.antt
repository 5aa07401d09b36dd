use Rattle.std.proofs.Common.{◌∙◌, rules}
use Rattle.mark_index.proofs.ChainLemmas.{told}
use Rattle.mark_index.proofs.chained.MarkIndex.is_in_chain.Goals as goal

pub returns : goal.returns
returns c =
    let found = c.find_in_chain.ensures in
    c.is_some.ensures ∙ told c.find_in_chain.result c.args.mark c.args.self.now.marks _ found.within found.marked found.none (λ none i within marked. let fails = none i within marked in search rules)

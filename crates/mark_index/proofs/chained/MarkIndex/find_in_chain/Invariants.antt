use Rattle.std.proofs.Common.{length, false}
use Rattle.mark_index.proofs.ChainLemmas.{IsSought}
use Rattle.mark_index.proofs.chained.MarkIndex.find_in_chain.Given as goal

abbrev pub invariant-loop-number : goal.invariant-loop-number
invariant-loop-number g l = IsSought (length l.self-inside.slots.items) l.self.marks l.mark l.number (λ place. goal.F-post g l.is_it place false)

abbrev pub decreases-loop-number : goal.decreases-loop-number
decreases-loop-number g l = l.number

use Rattle.mark_index.proofs.ChainLemmas.{IsWalked}
use Rattle.mark_index.proofs.chained.MarkIndex.unmark.Given as goal

abbrev pub invariant-loop-number : goal.invariant-loop-number
invariant-loop-number l = IsWalked l.self-inside.marks.items l.self-inside.befores.items l.self-inside.slots.items l.place l.number l.after

abbrev pub decreases-loop-number : goal.decreases-loop-number
decreases-loop-number l = l.number

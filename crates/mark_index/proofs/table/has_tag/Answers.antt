use Rattle.std.proofs.Common.{rules}
use Rattle.std.proofs.lemmas.Nat.Bits.{shr_and_one}
use Rattle.mark_index.specs.Slots.{HasTag}
use Rattle.mark_index.proofs.table.has_tag.Goals as goal

pub returns : goal.returns
unfolding HasTag
returns c = rw shr_and_one (search rules)

use Rattle.std.proofs.Common.{rules}
use Rattle.desk_core.proofs.RosterLemmas.{one_more}
use Rattle.desk_core.proofs.roster.Roster.add.Goals as goal

pub invariant_of-self : goal.invariant_of-self
invariant_of-self c =
    rw c.push_reserved.ensures.items (one_more c.self.inside.members.items c.args.member c.len.result c.self.inside.keys.items c.insert.new.self.items (search rules) c.self.invariant c.insert.ensures.finds)

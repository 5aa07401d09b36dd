use Rattle.std.proofs.Common.{◌≡◌, count_by, vec_len, vec_capacity}
use Rattle.identify_core.specs.Keeping.{has_principal, AreKept}
use Rattle.identify_core.specs.contracts.entry.PrincipalEntryOrd.TheImpl as derived
use Rattle.identify_core.proofs.ChangeLemmas.{StillGives}
use Rattle.identify_core.proofs.changes.give_all.Given as goal

-- the links are kept in the room that they had, and what the act gives them is what it gave at first
abbrev pub invariant-members : goal.invariant-members
invariant-members l = record {
  kept : AreKept (derived.ghosts).cmp l.links.items l.entries.items;
  still : StillGives l.p l.s l.initial.links.items l.links.items;
  length : vec_len l.links ≡ vec_len l.initial.links;
  capacity : vec_capacity l.links ≡ vec_capacity l.initial.links;
  room : l.entries.room ≡ l.initial.entries.room;
}

abbrev pub decreases-members : goal.decreases-members
decreases-members l = count_by (has_principal l.s) l.links.items

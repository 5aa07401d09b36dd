use Rattle.std.proofs.Common.{⊎_elim}
use Rattle.mpc_desk.specs.Files.{parcels_in}
use Rattle.mpc_desk.specs.Opening.{gate_in_first, gate_in_second}
use Rattle.mpc_desk.proofs.OneHistory.{never_stops}
use Rattle.mpc_desk.proofs.laws.damage.Goals as goal

pub returns-clause-first : goal.returns-clause-first
returns-clause-first c = λ founder file offset history damaged legal stands.
    ⊎_elim
    (λ shape. c.damage.ensures.no_list file offset (parcels_in history) shape stands.spelled)
    (λ entry. never_stops gate_in_first founder entry.0 offset history entry.2 legal stands.acts (c.one_list.ensures file (parcels_in history) entry.0 stands.spelled entry.1))
    damaged

pub returns-clause-second : goal.returns-clause-second
returns-clause-second c = λ founder file offset history damaged legal stands.
    ⊎_elim
    (λ shape. c.broken_chain.ensures.no_list file offset (parcels_in history) shape stands.chained)
    (λ entry. never_stops gate_in_second founder entry.0 offset history entry.2 legal stands.acts (c.one_chain.ensures.one file (parcels_in history) entry.0 stands.chained entry.1))
    damaged

pub returns-clause-in_force : goal.returns-clause-in_force
returns-clause-in_force c = λ founder file offset damaged.
    ⊎_elim
    (λ broken. c.broken_chain.ensures.in_force file offset broken)
    (λ entry. c.one_chain.ensures.in_force file entry.0 entry.1)
    damaged

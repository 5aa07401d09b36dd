use Rattle.comet_desk.proofs.OneRegister.{never_damaged, damaged_force}
use Rattle.comet_desk.proofs.laws.damage.Goals as goal

pub returns-clause-none : goal.returns-clause-none
returns-clause-none c = λ founder desk file offset entries damaged legal holds.
    never_damaged founder desk c.one_chain.ensures.one c.broken_chain.ensures.no_list file offset entries (damaged_force founder desk c.one_chain.ensures.in_force c.broken_chain.ensures.in_force file offset damaged) damaged legal holds

pub returns-clause-in_force : goal.returns-clause-in_force
returns-clause-in_force c = λ founder desk file offset damaged. damaged_force founder desk c.one_chain.ensures.in_force c.broken_chain.ensures.in_force file offset damaged

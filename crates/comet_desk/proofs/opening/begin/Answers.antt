use Rattle.std.proofs.Common.{List, [], ap, subst, refl, arith}
use Rattle.std.specs.Prelude.{None}
use Rattle.disk_model.specs.Crashes.{During}
use Rattle.obs_journal.specs.Chains.{chained}
use Rattle.obs_journal.specs.Formats.{row_length_in}
use Rattle.obs_journal.specs.Journals.{StandsFor}
use Rattle.obs_journal.specs.Moves.{IsCarriedInto}
use Rattle.obs_journal.specs.Opening.{parcels_of}
use Rattle.obs_journal.specs.declared.opening.Placed.{Placed}
use Rattle.comet_desk.proofs.Mended.{at_entries, beside_at}
use Rattle.comet_desk.proofs.Replayed.{rests_opened}
use Rattle.comet_desk.proofs.opening.begin.Goals as goal

pub carried-requires-clause-space : goal.carried-requires-clause-space
carried-requires-clause-space g c =
    let same = ap (λ (places : List Placed). row_length_in chained (parcels_of places)) c.new.ensures in
    omega (arith, same)

pub invariant_of-result : goal.invariant_of-result
invariant_of-result g c =
    at_entries g.D.Disk.leaves c.args.register c.in-Ok.journal [] c.requires.empty
    (subst (λ (places : List Placed). StandsFor g.D.Disk.leaves c.in-Ok.journal (parcels_of places) None) c.new.ensures c.in-Ok.ensures.stands) (omega arith) tt

pub returns-in-Ok-clause-at_rest : goal.returns-in-Ok-clause-at_rest
returns-in-Ok-clause-at_rest g c =
    rests_opened g.D.Disk.leaves c.args.register c.in-Ok.journal
    (at_entries g.D.Disk.leaves c.args.register c.in-Ok.journal [] c.requires.empty
    (subst (λ (places : List Placed). StandsFor g.D.Disk.leaves c.in-Ok.journal (parcels_of places) None) c.new.ensures c.in-Ok.ensures.stands) (omega arith) tt)

pub returns-in-Ok-clause-beside : goal.returns-in-Ok-clause-beside
returns-in-Ok-clause-beside g c = λ desk over.
    let register = c.args.register in
    beside_at desk c.args.limit register c.in-Ok.journal.disk register.founder register.entries register.comets refl refl refl over.legal over.comets

pub returns-in-Ok-clause-any_moment : goal.returns-in-Ok-clause-any_moment
returns-in-Ok-clause-any_moment g c =
    subst (λ (places : List Placed). During g.D.Disk.moment g.D.Disk.since c.args.disk c.in-Ok.journal.disk (IsCarriedInto (g.D.Disk.reads c.args.disk) (parcels_of places))) c.new.ensures c.in-Ok.ensures.any_moment

pub returns-clause-any_moment : goal.returns-clause-any_moment
returns-clause-any_moment g c =
    subst (λ (places : List Placed). During g.D.Disk.moment g.D.Disk.since c.args.disk c.in-Err.disk (IsCarriedInto (g.D.Disk.reads c.args.disk) (parcels_of places))) c.new.ensures c.in-Err.ensures.any_moment

use Rattle.std.proofs.Common.{◌≡◌, ◌≢◌, ℕ, ◌-◌, Option, sym, ap, subst, ◌∙◌, rules}
use Rattle.std.specs.Prelude.{IfSome, slice_index}
use Rattle.act_model.specs.Refusals.{bytes_used}
use Rattle.comet_core.specs.Register.{Ready}
use Rattle.comet_desk.specs.Desks.{CometDeskState, IsBeside, IsDesk, settled_by, named_after}
use Rattle.comet_desk.proofs.Mended.{gate_is, seen, rests, position_is, failed_desk, settled_desk, beside_settled, beside_disk}
use Rattle.comet_desk.proofs.desk.CometDesk.mend.Goals as goal

pub returns-in-Err-clause-at_rest : goal.returns-in-Err-clause-at_rest
returns-in-Err-clause-at_rest g c =
    rests g.D.Disk.leaves c.doubtful_chain.ensures c.self.inside.register c.mend.new.self c.self.inside.doubt
    (failed_desk g.D.Disk.leaves c.self.inside.register c.self.inside.journal c.mend.new.self c.self.inside.doubt c.self.invariant (λ none. let never = c.in-Err.ensures.nothing.1 none in absurd cc) c.in-Err.ensures.still_in_doubt)

pub returns-in-Err-clause-beside : goal.returns-in-Err-clause-beside
returns-in-Err-clause-beside g c = λ desk was.
    beside_disk desk c.self.inside.limit c.self.inside.register c.self.inside.doubt c.self.inside.journal.disk c.mend.new.self.disk
    (subst (λ (d : CometDeskState g.row.D.Denot). IsBeside desk d) (sym c.self.view_is) was)

pub invariant_of-self-2 : goal.invariant_of-self-2
invariant_of-self-2 g c =
    let old = c.self.inside.register in
    let doubt = c.self.inside.doubt in
    subst (λ (d : Option Ready). IsDesk {D = g.row.D.Denot} g.D.Disk.leaves c.settle.new.register c.mend.new.self d) (sym c.take-doubt.ensures.after)
    (settled_desk g.D.Disk.leaves old c.settle.new.register c.self.inside.journal c.mend.new.self c.in-Ok.ensures.no_call c.in-Ok.settled doubt c.self.invariant
    (c.settle.ensures.entries ∙ ap (λ (d : Option Ready). settled_by c.in-Ok.settled d old.entries) c.take-doubt.ensures.value)
    (λ is. c.in-Ok.ensures.nothing.0 (cc))
    (λ none. let is = c.in-Ok.ensures.nothing.1 none in cc)
    (λ is. c.in-Ok.ensures.added (cc))
    (λ is. c.in-Ok.ensures.dropped (cc)))

pub returns-clause-added_where_open : goal.returns-clause-added_where_open
returns-clause-added_where_open g c = λ added.
    gate_is (g.D.Disk.reads c.args.self.now.disk) (λ (byte : ℕ). byte ≡ 1) c.self.inside.journal.reached.position (bytes_used c.args.self.now.state.settled)
    (position_is g.D.Disk.leaves c.self.inside.register c.self.inside.journal c.self.inside.doubt c.self.invariant ∙ ap (λ (d : CometDeskState g.row.D.Denot). bytes_used d.state.settled) c.self.view_is)
    (subst (λ (d : CometDeskState g.row.D.Denot). IfSome (g.D.Disk.reads d.disk) (λ file. slice_index file (c.self.inside.journal.reached.position - 1) ≡ 1)) c.self.view_is (c.in-Ok.ensures.added_where_open added))

pub returns-clause-dropped_where_closed : goal.returns-clause-dropped_where_closed
returns-clause-dropped_where_closed g c = λ dropped.
    gate_is (g.D.Disk.reads c.args.self.now.disk) (λ (byte : ℕ). byte ≢ 1) c.self.inside.journal.reached.position (bytes_used c.args.self.now.state.settled)
    (position_is g.D.Disk.leaves c.self.inside.register c.self.inside.journal c.self.inside.doubt c.self.invariant ∙ ap (λ (d : CometDeskState g.row.D.Denot). bytes_used d.state.settled) c.self.view_is)
    (subst (λ (d : CometDeskState g.row.D.Denot). IfSome (g.D.Disk.reads d.disk) (λ file. slice_index file (c.self.inside.journal.reached.position - 1) ≢ 1)) c.self.view_is (c.in-Ok.ensures.dropped_where_closed dropped))

pub returns-clause-at_rest : goal.returns-clause-at_rest
returns-clause-at_rest g c = rests g.D.Disk.leaves c.doubtful_chain.ensures c.settle.new.register c.mend.new.self c.take-doubt.new.self (invariant_of-self-2 g c)

pub returns-clause-beside : goal.returns-clause-beside
returns-clause-beside g c = λ desk was.
    let old = c.self.inside.register in
    subst (λ (d : Option Ready). IsBeside desk (seen c.self.inside.limit c.settle.new.register d c.mend.new.self.disk)) (sym c.take-doubt.ensures.after)
    (beside_settled desk c.self.inside.limit old c.settle.new.register c.self.inside.journal.disk c.mend.new.self.disk c.in-Ok.settled c.self.inside.doubt c.settle.ensures.founder
    (c.settle.ensures.entries ∙ ap (λ (d : Option Ready). settled_by c.in-Ok.settled d old.entries) c.take-doubt.ensures.value)
    (c.settle.ensures.comets ∙ ap (λ (d : Option Ready). named_after c.in-Ok.settled d old.comets) c.take-doubt.ensures.value)
    (subst (λ (d : CometDeskState g.row.D.Denot). IsBeside desk d) (sym c.self.view_is) was))

pub returns-clause-event : goal.returns-clause-event
returns-clause-event g c = record {
  nothing = search rules;
  settled = search rules;
  mends = search rules;
  still_in_doubt = search rules;
  at_rest = returns-clause-at_rest g c;
  founder = search rules;
  limit = search rules;
}

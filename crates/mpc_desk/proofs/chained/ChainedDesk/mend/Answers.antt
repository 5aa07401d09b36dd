use Rattle.std.proofs.Common.{◌≡◌, ◌≢◌, ℕ, ◌-◌, Option, sym, ap, subst, ◌∙◌, rules}
use Rattle.std.specs.Prelude.{IfSome, slice_index}
use Rattle.act_model.specs.Refusals.{bytes_used}
use Rattle.desk_core.specs.Office.{Ready}
use Rattle.mpc_desk.specs.Desks.{DeskState, IsDesk, settled_by}
use Rattle.mpc_desk.proofs.FileLemmas.{rests}
use Rattle.mpc_desk.proofs.Mended.{gate_is, position_is, failed_desk, settled_desk}
use Rattle.mpc_desk.proofs.chained.ChainedDesk.mend.Goals as goal

pub returns-in-Err-clause-at_rest : goal.returns-in-Err-clause-at_rest
returns-in-Err-clause-at_rest g c =
    rests g.D.Disk.leaves c.doubtful_chain.ensures c.self.inside.core c.mend.new.self c.self.inside.doubt
    (failed_desk g.D.Disk.leaves c.self.inside.core c.self.inside.journal c.mend.new.self c.self.inside.doubt c.self.invariant (λ none. let never = c.in-Err.ensures.nothing.1 none in absurd cc) c.in-Err.ensures.still_in_doubt)

pub invariant_of-self-2 : goal.invariant_of-self-2
invariant_of-self-2 g c =
    let old = c.self.inside.core in
    let doubt = c.self.inside.doubt in
    subst (λ (d : Option Ready). IsDesk {D = g.row.D.Denot} g.D.Disk.leaves c.settle.new.core c.mend.new.self d) (sym c.take-doubt.ensures.after)
    (settled_desk g.D.Disk.leaves old c.settle.new.core c.self.inside.journal c.mend.new.self c.settle.ensures.founder c.in-Ok.ensures.no_call c.in-Ok.settled doubt c.self.invariant
    (c.settle.ensures.history ∙ ap (λ (d : Option Ready). settled_by c.in-Ok.settled d old.history) c.take-doubt.ensures.value)
    (λ is. c.in-Ok.ensures.nothing.0 (cc))
    (λ none. let is = c.in-Ok.ensures.nothing.1 none in cc)
    (λ is. c.in-Ok.ensures.added (cc))
    (λ is. c.in-Ok.ensures.dropped (cc)))

pub returns-clause-added_where_open : goal.returns-clause-added_where_open
returns-clause-added_where_open g c = λ added.
    gate_is (g.D.Disk.reads c.args.self.now.disk) (λ (byte : ℕ). byte ≡ 1) c.self.inside.journal.reached.position (bytes_used c.args.self.now.state.settled)
    (position_is g.D.Disk.leaves c.self.inside.core c.self.inside.journal c.self.inside.doubt c.self.invariant ∙ ap (λ (d : DeskState g.row.D.Denot). bytes_used d.state.settled) c.self.view_is)
    (subst (λ (d : DeskState g.row.D.Denot). IfSome (g.D.Disk.reads d.disk) (λ file. slice_index file (c.self.inside.journal.reached.position - 1) ≡ 1)) c.self.view_is (c.in-Ok.ensures.added_where_open added))

pub returns-clause-dropped_where_closed : goal.returns-clause-dropped_where_closed
returns-clause-dropped_where_closed g c = λ dropped.
    gate_is (g.D.Disk.reads c.args.self.now.disk) (λ (byte : ℕ). byte ≢ 1) c.self.inside.journal.reached.position (bytes_used c.args.self.now.state.settled)
    (position_is g.D.Disk.leaves c.self.inside.core c.self.inside.journal c.self.inside.doubt c.self.invariant ∙ ap (λ (d : DeskState g.row.D.Denot). bytes_used d.state.settled) c.self.view_is)
    (subst (λ (d : DeskState g.row.D.Denot). IfSome (g.D.Disk.reads d.disk) (λ file. slice_index file (c.self.inside.journal.reached.position - 1) ≢ 1)) c.self.view_is (c.in-Ok.ensures.dropped_where_closed dropped))

pub returns-clause-at_rest : goal.returns-clause-at_rest
returns-clause-at_rest g c = rests g.D.Disk.leaves c.doubtful_chain.ensures c.settle.new.core c.mend.new.self c.take-doubt.new.self (invariant_of-self-2 g c)

pub returns-clause-event : goal.returns-clause-event
returns-clause-event g c = record {
  nothing = search rules;
  settled = search rules;
  mends = search rules;
  still_in_doubt = search rules;
  at_rest = returns-clause-at_rest g c;
  founder = search rules;
  limit = search rules;
}

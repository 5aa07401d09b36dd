use Rattle.std.proofs.Common.{◌≡◌, ◌<◌, List, Option, true, false, refl, Some, Err, sym, ap, subst, ◌∙◌, inr, arith}
use Rattle.std.specs.Prelude.{◌^◌, IsErrOf}
use Rattle.obs_journal.specs.declared.journal.AppendFault.{AppendFault}
use Rattle.obs_journal.specs.declared.journal.AppendFault.TheVariants.{Untouched, InDoubt}
use Rattle.obs_journal.specs.Formats.{room_in}
use Rattle.obs_journal.specs.Chains.{chained}
use Rattle.obs_journal.specs.Parcels.{RawParcel}
use Rattle.act_model.specs.declared.entry.Entry.{Entry}
use Rattle.act_model.specs.declared.reply.Refusal.TheVariants.{NoMemory, DiskFault}
use Rattle.act_model.specs.declared.reply.Reply.TheVariants.{Refused}
use Rattle.act_model.specs.Refusals.{bytes_used, entry_size}
use Rattle.desk_core.specs.declared.prepared.Prepared.{Prepared}
use Rattle.desk_core.specs.Office.{IsOfAct, IsReadyAt}
use Rattle.mpc_desk.specs.Files.{parcel_of}
use Rattle.mpc_desk.specs.Desks.{DeskState, IsDesk, TakesAct, state_of}
use Rattle.mpc_desk.proofs.FileLemmas.{rests}
use Rattle.mpc_desk.proofs.Mended.{position_is}
use Rattle.mpc_desk.proofs.Acted.{answers_kept, answers_refused, prepared_desk, room_is, kept_desk, doubted_desk, untouched_desk, stays, keeps_it, fails_it, untouched_state, doubted_state}
use Rattle.mpc_desk.proofs.chained.ChainedDesk.act_settled.Goals as goal

pub returns-in-Kept-clause-takes : goal.returns-in-Kept-clause-takes
returns-in-Kept-clause-takes g c =
    subst (λ (d : DeskState g.row.D.Denot). TakesAct {D = g.row.D.Denot} g.D.Disk.moment g.D.Disk.since g.D.Disk.faults (record { old = d; request = c.args.request.now; reading = c.args.reading; reply = c.in-Kept.reply; new = record { founder = c.prepare.new.self.founder; limit = c.self.inside.limit; state = state_of c.prepare.new.self c.self.inside.doubt; disk = c.self.inside.journal.disk } })) c.self.view_is
    (stays g.D.Disk.leaves c.self.inside.core c.prepare.new.self c.self.inside.journal c.self.inside.doubt c.self.invariant (ap (λ (d : DeskState g.row.D.Denot). d.state.doubt) c.self.view_is ∙ c.requires.settled) c.in-Kept.ensures.history c.in-Kept.ensures.founder g.D.Disk.moment g.D.Disk.since g.D.Disk.faults c.self.inside.limit c.args.request.now c.args.reading c.in-Kept.reply (answers_kept c.self.inside.core.founder (Some c.self.inside.limit) c.self.inside.core.history c.args.request.now c.args.reading c.in-Kept.reply c.in-Kept.ensures.answer))

pub returns-in-Refused-clause-takes : goal.returns-in-Refused-clause-takes
returns-in-Refused-clause-takes g c =
    subst (λ (d : DeskState g.row.D.Denot). TakesAct {D = g.row.D.Denot} g.D.Disk.moment g.D.Disk.since g.D.Disk.faults (record { old = d; request = c.args.request.now; reading = c.args.reading; reply = (Refused c.in-Refused.refusal); new = record { founder = c.prepare.new.self.founder; limit = c.self.inside.limit; state = state_of c.prepare.new.self c.self.inside.doubt; disk = c.self.inside.journal.disk } })) c.self.view_is
    (stays g.D.Disk.leaves c.self.inside.core c.prepare.new.self c.self.inside.journal c.self.inside.doubt c.self.invariant (ap (λ (d : DeskState g.row.D.Denot). d.state.doubt) c.self.view_is ∙ c.requires.settled) c.in-Refused.ensures.history c.in-Refused.ensures.founder g.D.Disk.moment g.D.Disk.since g.D.Disk.faults c.self.inside.limit c.args.request.now c.args.reading (Refused c.in-Refused.refusal) (answers_refused c.self.inside.core.founder (Some c.self.inside.limit) c.self.inside.core.history c.args.request.now c.args.reading c.in-Refused.refusal c.in-Refused.ensures.answer))

pub returns-in_default-clause-takes : goal.returns-in_default-clause-takes
returns-in_default-clause-takes g c =
    subst (λ (d : DeskState g.row.D.Denot). TakesAct {D = g.row.D.Denot} g.D.Disk.moment g.D.Disk.since g.D.Disk.faults (record { old = d; request = c.args.request.now; reading = c.args.reading; reply = (Refused NoMemory); new = record { founder = c.prepare.new.self.founder; limit = c.self.inside.limit; state = state_of c.prepare.new.self c.self.inside.doubt; disk = c.self.inside.journal.disk } })) c.self.view_is
    (stays g.D.Disk.leaves c.self.inside.core c.prepare.new.self c.self.inside.journal c.self.inside.doubt c.self.invariant (ap (λ (d : DeskState g.row.D.Denot). d.state.doubt) c.self.view_is ∙ c.requires.settled) c.in-Ready.ensures.history c.in-Ready.ensures.founder g.D.Disk.moment g.D.Disk.since g.D.Disk.faults c.self.inside.limit c.args.request.now c.args.reading (Refused NoMemory) (inr (refl, refl)))

pub append-requires-clause-space : goal.append-requires-clause-space
append-requires-clause-space g c =
    let at : c.self.inside.journal.reached.position ≡ bytes_used c.self.inside.core.history = position_is g.D.Disk.leaves c.self.inside.core c.self.inside.journal c.self.inside.doubt c.self.invariant in
    let within = c.in-Ready.ensures.answer.3 in
    let sized : room_in chained c.in-Ok.parcel ≡ entry_size c.in-Ready.prepared.entry.body = ap (λ (p : RawParcel). room_in chained p) (c.in-Ok.ensures ∙ ap parcel_of c.entry.ensures.entry) in
    omega (arith, at, within, sized, c.self.ranges)

pub invariant_of-self-in-Ok-append : goal.invariant_of-self-in-Ok-append
invariant_of-self-in-Ok-append g c =
    kept_desk g.D.Disk.leaves c.self.inside.core c.prepare.new.self c.self.inside.journal c.self.inside.doubt c.self.invariant (ap (λ (d : DeskState g.row.D.Denot). d.state.doubt) c.self.view_is ∙ c.requires.settled) c.in-Ready.ensures.history c.in-Ready.ensures.founder c.self.inside.limit c.args.request.now c.args.reading c.histories_are_legal.ensures.step c.requires.reading c.in-Ready.prepared.entry c.in-Ready.ensures.answer.0
    c.commit.new.self c.append.new.self c.in-Ok.parcel (c.in-Ok.ensures ∙ ap parcel_of c.entry.ensures.entry) c.commit.ensures.history c.commit.ensures.founder (subst IsOfAct c.entry.ensures.entry (c.entry.ensures.act, c.entry.ensures.short))
    (room_is g.D.Disk.leaves c.self.inside.core c.prepare.new.self c.self.inside.journal c.self.inside.doubt c.self.invariant (ap (λ (d : DeskState g.row.D.Denot). d.state.doubt) c.self.view_is ∙ c.requires.settled) c.in-Ready.ensures.history c.in-Ready.ensures.founder c.self.inside.limit c.in-Ready.prepared.entry.body (let fits : c.self.inside.limit < 2 ^ 64 = omega (arith, c.self.ranges) in fits) c.in-Ready.ensures.answer.3) c.in-Ok-append.ensures.added

pub invariant_of-self-in-Err-Untouched : goal.invariant_of-self-in-Err-Untouched
invariant_of-self-in-Err-Untouched g c =
    untouched_desk g.D.Disk.leaves c.self.inside.core c.prepare.new.self c.self.inside.journal c.self.inside.doubt c.self.invariant (ap (λ (d : DeskState g.row.D.Denot). d.state.doubt) c.self.view_is ∙ c.requires.settled) c.in-Ready.ensures.history c.in-Ready.ensures.founder c.append.new.self (c.in-Err-Untouched.ensures.untouched (subst (λ (f : AppendFault). IsErrOf {T = Unit {0}} (Err f) Untouched) (sym c.in-Err-Untouched.field-0-is) refl))

pub invariant_of-self-in-Err-InDoubt : goal.invariant_of-self-in-Err-InDoubt
invariant_of-self-in-Err-InDoubt g c =
    subst (λ (d : Option Prepared). IsDesk {D = g.row.D.Denot} g.D.Disk.leaves c.prepare.new.self c.append.new.self d) (sym c.replace.ensures.after)
    (doubted_desk g.D.Disk.leaves c.self.inside.core c.prepare.new.self c.self.inside.journal c.self.inside.doubt c.self.invariant (ap (λ (d : DeskState g.row.D.Denot). d.state.doubt) c.self.view_is ∙ c.requires.settled) c.in-Ready.ensures.history c.in-Ready.ensures.founder c.self.inside.limit c.args.request.now c.args.reading c.histories_are_legal.ensures.step c.requires.reading c.in-Ready.prepared.entry c.in-Ready.ensures.answer.0
    c.append.new.self c.in-Ok.parcel c.in-Ready.prepared refl (c.in-Ok.ensures ∙ ap parcel_of c.entry.ensures.entry) (subst IsOfAct c.entry.ensures.entry (c.entry.ensures.act, c.entry.ensures.short)) (subst (λ (h : List Entry). IsReadyAt h c.in-Ready.prepared) (sym c.in-Ready.ensures.history) c.in-Ready.ensures.answer.1) c.in-Ready.ensures.answer.2
    (room_is g.D.Disk.leaves c.self.inside.core c.prepare.new.self c.self.inside.journal c.self.inside.doubt c.self.invariant (ap (λ (d : DeskState g.row.D.Denot). d.state.doubt) c.self.view_is ∙ c.requires.settled) c.in-Ready.ensures.history c.in-Ready.ensures.founder c.self.inside.limit c.in-Ready.prepared.entry.body (let fits : c.self.inside.limit < 2 ^ 64 = omega (arith, c.self.ranges) in fits) c.in-Ready.ensures.answer.3) (c.in-Err-InDoubt.ensures.in_doubt (subst (λ (f : AppendFault). IsErrOf {T = Unit {0}} (Err f) InDoubt) (sym c.in-Err-InDoubt.field-0-is) refl)))

pub returns-in-Ok-append-clause-takes : goal.returns-in-Ok-append-clause-takes
returns-in-Ok-append-clause-takes g c =
    subst (λ (d : DeskState g.row.D.Denot). TakesAct {D = g.row.D.Denot} g.D.Disk.moment g.D.Disk.since g.D.Disk.faults (record { old = d; request = c.args.request.now; reading = c.args.reading; reply = c.commit.result; new = record { founder = c.commit.new.self.founder; limit = c.self.inside.limit; state = state_of c.commit.new.self c.self.inside.doubt; disk = c.append.new.self.disk } })) c.self.view_is
    (keeps_it g.D.Disk.leaves c.self.inside.core c.prepare.new.self c.self.inside.journal c.self.inside.doubt c.self.invariant (ap (λ (d : DeskState g.row.D.Denot). d.state.doubt) c.self.view_is ∙ c.requires.settled) c.in-Ready.ensures.history c.in-Ready.ensures.founder g.D.Disk.moment g.D.Disk.since g.D.Disk.faults c.self.inside.limit c.args.request.now c.args.reading c.in-Ready.prepared.entry c.in-Ready.ensures.answer.0 (subst IsOfAct c.entry.ensures.entry (c.entry.ensures.act, c.entry.ensures.short)) c.in-Ok.parcel (c.in-Ok.ensures ∙ ap parcel_of c.entry.ensures.entry) c.append.new.self c.append.ensures.any_moment c.commit.new.self c.commit.result c.in-Ready.prepared.answer c.commit.ensures.history c.commit.ensures.reply c.in-Ready.ensures.answer.1.answer)

pub returns-in-Err-Untouched-clause-takes : goal.returns-in-Err-Untouched-clause-takes
returns-in-Err-Untouched-clause-takes g c =
    subst (λ (d : DeskState g.row.D.Denot). TakesAct {D = g.row.D.Denot} g.D.Disk.moment g.D.Disk.since g.D.Disk.faults (record { old = d; request = c.args.request.now; reading = c.args.reading; reply = (Refused (DiskFault false)); new = record { founder = c.prepare.new.self.founder; limit = c.self.inside.limit; state = state_of c.prepare.new.self c.self.inside.doubt; disk = c.append.new.self.disk } })) c.self.view_is
    (fails_it g.D.Disk.leaves c.self.inside.core c.prepare.new.self c.self.inside.journal c.self.inside.doubt c.self.invariant (ap (λ (d : DeskState g.row.D.Denot). d.state.doubt) c.self.view_is ∙ c.requires.settled) c.in-Ready.ensures.history c.in-Ready.ensures.founder g.D.Disk.moment g.D.Disk.since g.D.Disk.faults c.self.inside.limit c.args.request.now c.args.reading c.in-Ready.prepared.entry c.in-Ready.ensures.answer.0 (subst IsOfAct c.entry.ensures.entry (c.entry.ensures.act, c.entry.ensures.short)) c.in-Ok.parcel (c.in-Ok.ensures ∙ ap parcel_of c.entry.ensures.entry) c.append.new.self c.append.ensures.any_moment false c.self.inside.doubt (untouched_state g.D.Disk.leaves c.self.inside.core c.prepare.new.self c.self.inside.journal c.self.inside.doubt c.self.invariant (ap (λ (d : DeskState g.row.D.Denot). d.state.doubt) c.self.view_is ∙ c.requires.settled) c.in-Ready.ensures.history c.in-Ready.ensures.founder c.in-Ready.prepared.entry) c.in-Err-Untouched.ensures.cause)

pub returns-in-Err-InDoubt-clause-takes : goal.returns-in-Err-InDoubt-clause-takes
returns-in-Err-InDoubt-clause-takes g c =
    subst (λ (o : Option Prepared). TakesAct {D = g.row.D.Denot} g.D.Disk.moment g.D.Disk.since g.D.Disk.faults (record { old = c.args.self.now; request = c.args.request.now; reading = c.args.reading; reply = (Refused (DiskFault true)); new = record { founder = c.prepare.new.self.founder; limit = c.self.inside.limit; state = state_of c.prepare.new.self o; disk = c.append.new.self.disk } })) (sym c.replace.ensures.after)
    (subst (λ (d : DeskState g.row.D.Denot). TakesAct {D = g.row.D.Denot} g.D.Disk.moment g.D.Disk.since g.D.Disk.faults (record { old = d; request = c.args.request.now; reading = c.args.reading; reply = (Refused (DiskFault true)); new = record { founder = c.prepare.new.self.founder; limit = c.self.inside.limit; state = state_of c.prepare.new.self (Some c.in-Ready.prepared); disk = c.append.new.self.disk } })) c.self.view_is
    (fails_it g.D.Disk.leaves c.self.inside.core c.prepare.new.self c.self.inside.journal c.self.inside.doubt c.self.invariant (ap (λ (d : DeskState g.row.D.Denot). d.state.doubt) c.self.view_is ∙ c.requires.settled) c.in-Ready.ensures.history c.in-Ready.ensures.founder g.D.Disk.moment g.D.Disk.since g.D.Disk.faults c.self.inside.limit c.args.request.now c.args.reading c.in-Ready.prepared.entry c.in-Ready.ensures.answer.0 (subst IsOfAct c.entry.ensures.entry (c.entry.ensures.act, c.entry.ensures.short)) c.in-Ok.parcel (c.in-Ok.ensures ∙ ap parcel_of c.entry.ensures.entry) c.append.new.self c.append.ensures.any_moment true (Some c.in-Ready.prepared) (doubted_state g.D.Disk.leaves c.self.inside.core c.prepare.new.self c.self.inside.journal c.self.inside.doubt c.self.invariant (ap (λ (d : DeskState g.row.D.Denot). d.state.doubt) c.self.view_is ∙ c.requires.settled) c.in-Ready.ensures.history c.in-Ready.ensures.founder c.in-Ready.prepared) c.in-Err-InDoubt.ensures.cause))

pub returns-in_default-clause-at_rest : goal.returns-in_default-clause-at_rest
returns-in_default-clause-at_rest g c = rests g.D.Disk.leaves c.doubtful_chain.ensures c.prepare.new.self c.self.inside.journal c.self.inside.doubt (prepared_desk g.D.Disk.leaves c.self.inside.core c.prepare.new.self c.self.inside.journal c.self.inside.doubt c.self.invariant (ap (λ (d : DeskState g.row.D.Denot). d.state.doubt) c.self.view_is ∙ c.requires.settled) c.in-Ready.ensures.history c.in-Ready.ensures.founder)

pub returns-in-Err-Untouched-clause-at_rest : goal.returns-in-Err-Untouched-clause-at_rest
returns-in-Err-Untouched-clause-at_rest g c = rests g.D.Disk.leaves c.doubtful_chain.ensures c.prepare.new.self c.append.new.self c.self.inside.doubt (invariant_of-self-in-Err-Untouched g c)

pub returns-in-Err-InDoubt-clause-at_rest : goal.returns-in-Err-InDoubt-clause-at_rest
returns-in-Err-InDoubt-clause-at_rest g c = rests g.D.Disk.leaves c.doubtful_chain.ensures c.prepare.new.self c.append.new.self c.replace.new.self (invariant_of-self-in-Err-InDoubt g c)

pub returns-in-Ok-append-clause-at_rest : goal.returns-in-Ok-append-clause-at_rest
returns-in-Ok-append-clause-at_rest g c = rests g.D.Disk.leaves c.doubtful_chain.ensures c.commit.new.self c.append.new.self c.self.inside.doubt (invariant_of-self-in-Ok-append g c)

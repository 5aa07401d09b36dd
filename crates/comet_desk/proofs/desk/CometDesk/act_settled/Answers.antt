use Rattle.std.proofs.Common.{◌≡◌, ◌<◌, ◌≤◌, length, true, false, refl, Some, Err, sym, ap, subst, ◌∙◌, inr, arith}
use Rattle.std.specs.Prelude.{◌^◌, IsErrOf}
use Rattle.obs_journal.specs.declared.journal.AppendFault.{AppendFault}
use Rattle.obs_journal.specs.declared.journal.AppendFault.TheVariants.{Untouched, InDoubt}
use Rattle.obs_journal.specs.Chains.{chained}
use Rattle.obs_journal.specs.Formats.{room_in}
use Rattle.obs_journal.specs.Parcels.{RawParcel}
use Rattle.act_model.specs.declared.entry.Entry.{Entry}
use Rattle.act_model.specs.declared.request.TheConstants.{BODY_BYTES}
use Rattle.act_model.specs.Deeds.{deeds}
use Rattle.act_model.specs.Refusals.{bytes_used, entry_size}
use Rattle.mpc_desk.specs.Files.{parcel_of}
use Rattle.comet_model.specs.declared.reply.CometRefusal.TheVariants.{NoMemory, DiskFault}
use Rattle.comet_model.specs.declared.reply.CometReply.TheVariants.{Refused}
use Rattle.comet_desk.specs.Desks.{CometDeskState, IsBeside, TakesAct}
use Rattle.comet_desk.proofs.Entries.{of_act, enrol_acts}
use Rattle.comet_desk.proofs.Mended.{seen, rests, position_is}
use Rattle.comet_desk.proofs.Acted.{answers_kept, answers_refused, announced_as, kept_never, refused_so, ready_never, prepared_desk, room_is, kept_desk, doubted_desk, untouched_desk, untouched_state, doubted_state, beside_stays, beside_kept, beside_doubted, stays, keeps_it, fails_it}
use Rattle.comet_desk.proofs.desk.CometDesk.act_settled.Goals as goal

pub returns-in-Kept-clause-takes : goal.returns-in-Kept-clause-takes
returns-in-Kept-clause-takes g c =
    subst (λ (d : CometDeskState g.row.D.Denot). TakesAct {D = g.row.D.Denot} g.D.Disk.moment g.D.Disk.since g.D.Disk.faults (deeds (g.V.Shelf.history c.args.shelf.now)) (record { old = d; request = c.args.request.now; reading = c.args.reading; reply = c.in-Kept.reply; new = seen c.self.inside.limit c.prepare.new.self c.self.inside.doubt c.self.inside.journal.disk })) c.self.view_is
    (stays g.D.Disk.leaves c.self.inside.register c.prepare.new.self c.self.inside.journal c.self.inside.doubt c.self.invariant (ap (λ (d : CometDeskState g.row.D.Denot). d.state.doubt) c.self.view_is ∙ c.requires.settled) c.in-Kept.ensures.entries c.in-Kept.ensures.comets c.in-Kept.ensures.founder g.D.Disk.moment g.D.Disk.since g.D.Disk.faults (deeds (g.V.Shelf.history c.args.shelf.now)) c.self.inside.limit c.args.request.now c.args.reading c.in-Kept.reply (answers_kept c.self.inside.register.founder (Some c.self.inside.limit) (deeds (g.V.Shelf.history c.args.shelf.now)) c.self.inside.register.entries c.args.request.now c.args.reading c.in-Kept.reply c.in-Kept.ensures.answer))

pub returns-in-Kept-clause-beside : goal.returns-in-Kept-clause-beside
returns-in-Kept-clause-beside g c = beside_stays g.D.Disk.leaves c.self.inside.register c.prepare.new.self c.self.inside.journal c.self.inside.doubt c.self.invariant (ap (λ (d : CometDeskState g.row.D.Denot). d.state.doubt) c.self.view_is ∙ c.requires.settled) c.in-Kept.ensures.entries c.in-Kept.ensures.comets c.in-Kept.ensures.founder (deeds (g.V.Shelf.history c.args.shelf.now)) c.self.inside.limit (subst (λ (d : CometDeskState g.row.D.Denot). IsBeside (deeds (g.V.Shelf.history c.args.shelf.now)) d) (sym c.self.view_is) c.requires.beside) c.self.inside.journal.disk

pub returns-in-Refused-clause-takes : goal.returns-in-Refused-clause-takes
returns-in-Refused-clause-takes g c =
    subst (λ (d : CometDeskState g.row.D.Denot). TakesAct {D = g.row.D.Denot} g.D.Disk.moment g.D.Disk.since g.D.Disk.faults (deeds (g.V.Shelf.history c.args.shelf.now)) (record { old = d; request = c.args.request.now; reading = c.args.reading; reply = (Refused c.in-Refused.refusal); new = seen c.self.inside.limit c.prepare.new.self c.self.inside.doubt c.self.inside.journal.disk })) c.self.view_is
    (stays g.D.Disk.leaves c.self.inside.register c.prepare.new.self c.self.inside.journal c.self.inside.doubt c.self.invariant (ap (λ (d : CometDeskState g.row.D.Denot). d.state.doubt) c.self.view_is ∙ c.requires.settled) c.in-Refused.ensures.entries c.in-Refused.ensures.comets c.in-Refused.ensures.founder g.D.Disk.moment g.D.Disk.since g.D.Disk.faults (deeds (g.V.Shelf.history c.args.shelf.now)) c.self.inside.limit c.args.request.now c.args.reading (Refused c.in-Refused.refusal) (answers_refused c.self.inside.register.founder (Some c.self.inside.limit) (deeds (g.V.Shelf.history c.args.shelf.now)) c.self.inside.register.entries c.args.request.now c.args.reading c.in-Refused.refusal c.in-Refused.ensures.answer))

pub returns-in-Refused-clause-beside : goal.returns-in-Refused-clause-beside
returns-in-Refused-clause-beside g c = beside_stays g.D.Disk.leaves c.self.inside.register c.prepare.new.self c.self.inside.journal c.self.inside.doubt c.self.invariant (ap (λ (d : CometDeskState g.row.D.Denot). d.state.doubt) c.self.view_is ∙ c.requires.settled) c.in-Refused.ensures.entries c.in-Refused.ensures.comets c.in-Refused.ensures.founder (deeds (g.V.Shelf.history c.args.shelf.now)) c.self.inside.limit (subst (λ (d : CometDeskState g.row.D.Denot). IsBeside (deeds (g.V.Shelf.history c.args.shelf.now)) d) (sym c.self.view_is) c.requires.beside) c.self.inside.journal.disk

pub returns-in_default-clause-takes : goal.returns-in_default-clause-takes
returns-in_default-clause-takes g c =
    subst (λ (d : CometDeskState g.row.D.Denot). TakesAct {D = g.row.D.Denot} g.D.Disk.moment g.D.Disk.since g.D.Disk.faults (deeds (g.V.Shelf.history c.args.shelf.now)) (record { old = d; request = c.args.request.now; reading = c.args.reading; reply = (Refused NoMemory); new = seen c.self.inside.limit c.prepare.new.self c.self.inside.doubt c.self.inside.journal.disk })) c.self.view_is
    (stays g.D.Disk.leaves c.self.inside.register c.prepare.new.self c.self.inside.journal c.self.inside.doubt c.self.invariant (ap (λ (d : CometDeskState g.row.D.Denot). d.state.doubt) c.self.view_is ∙ c.requires.settled) c.in-Ready.ensures.entries c.in-Ready.ensures.comets c.in-Ready.ensures.founder g.D.Disk.moment g.D.Disk.since g.D.Disk.faults (deeds (g.V.Shelf.history c.args.shelf.now)) c.self.inside.limit c.args.request.now c.args.reading (Refused NoMemory) (inr (refl, refl)))

pub returns-in_default-clause-beside : goal.returns-in_default-clause-beside
returns-in_default-clause-beside g c = beside_stays g.D.Disk.leaves c.self.inside.register c.prepare.new.self c.self.inside.journal c.self.inside.doubt c.self.invariant (ap (λ (d : CometDeskState g.row.D.Denot). d.state.doubt) c.self.view_is ∙ c.requires.settled) c.in-Ready.ensures.entries c.in-Ready.ensures.comets c.in-Ready.ensures.founder (deeds (g.V.Shelf.history c.args.shelf.now)) c.self.inside.limit (subst (λ (d : CometDeskState g.row.D.Denot). IsBeside (deeds (g.V.Shelf.history c.args.shelf.now)) d) (sym c.self.view_is) c.requires.beside) c.self.inside.journal.disk

pub returns-in-Kept-clause-announced : goal.returns-in-Kept-clause-announced
returns-in-Kept-clause-announced g c = announced_as _ _ c.in-Kept.reply c.in-Kept.ensures.announced (λ refusal is. kept_never c.in-Kept.reply refusal c.in-Kept.reply is)

pub returns-in-Refused-clause-announced : goal.returns-in-Refused-clause-announced
returns-in-Refused-clause-announced g c = announced_as _ _ (Refused c.in-Refused.refusal) c.in-Refused.ensures.announced (λ refusal is. refused_so c.in-Refused.refusal refusal is)

pub returns-in_default-clause-announced : goal.returns-in_default-clause-announced
returns-in_default-clause-announced g c = announced_as _ _ (Refused NoMemory) c.in-Ready.ensures.announced (λ refusal is. ready_never c.in-Ready.prepared refusal (Refused NoMemory) is)

pub returns-in-Ok-append-clause-announced : goal.returns-in-Ok-append-clause-announced
returns-in-Ok-append-clause-announced g c = announced_as _ _ c.commit.result c.in-Ready.ensures.announced (λ refusal is. ready_never c.in-Ready.prepared refusal c.commit.result is)

pub returns-in-Err-Untouched-clause-announced : goal.returns-in-Err-Untouched-clause-announced
returns-in-Err-Untouched-clause-announced g c = announced_as _ _ (Refused (DiskFault false)) c.in-Ready.ensures.announced (λ refusal is. ready_never c.in-Ready.prepared refusal (Refused (DiskFault false)) is)

pub returns-in-Err-InDoubt-clause-announced : goal.returns-in-Err-InDoubt-clause-announced
returns-in-Err-InDoubt-clause-announced g c = announced_as _ _ (Refused (DiskFault true)) c.in-Ready.ensures.announced (λ refusal is. ready_never c.in-Ready.prepared refusal (Refused (DiskFault true)) is)

pub parcel_of-requires : goal.parcel_of-requires
parcel_of-requires g c = record { short = subst (λ (e : Entry). length e.body ≤ BODY_BYTES) (sym c.entry.ensures) (of_act c.self.inside.register.founder (Some c.self.inside.limit) (deeds (g.V.Shelf.history c.args.shelf.now)) c.self.inside.register.entries c.args.request.now c.args.reading c.in-Ready.prepared.entry c.in-Ready.ensures.answer.0).short }

pub append-requires-clause-space : goal.append-requires-clause-space
append-requires-clause-space g c =
    let at : c.self.inside.journal.reached.position ≡ bytes_used c.self.inside.register.entries = position_is g.D.Disk.leaves c.self.inside.register c.self.inside.journal c.self.inside.doubt c.self.invariant in
    let within = c.in-Ready.ensures.answer.4 in
    let sized : room_in chained c.in-Ok.parcel ≡ entry_size c.in-Ready.prepared.entry.body = ap (λ (p : RawParcel). room_in chained p) (c.in-Ok.ensures ∙ ap parcel_of c.entry.ensures) in
    omega (arith, at, within, sized, c.self.ranges)

pub invariant_of-self-in-Ok-append : goal.invariant_of-self-in-Ok-append
invariant_of-self-in-Ok-append g c =
    kept_desk g.D.Disk.leaves c.self.inside.register c.prepare.new.self c.self.inside.journal c.self.inside.doubt c.self.invariant (ap (λ (d : CometDeskState g.row.D.Denot). d.state.doubt) c.self.view_is ∙ c.requires.settled) c.in-Ready.ensures.entries c.in-Ready.ensures.comets c.in-Ready.ensures.founder
    c.commit.new.self c.append.new.self c.in-Ok.parcel c.in-Ready.prepared.entry (c.in-Ok.ensures ∙ ap parcel_of c.entry.ensures) c.commit.ensures.entries (enrol_acts c.in-Ready.prepared.entry (of_act c.self.inside.register.founder (Some c.self.inside.limit) (deeds (g.V.Shelf.history c.args.shelf.now)) c.self.inside.register.entries c.args.request.now c.args.reading c.in-Ready.prepared.entry c.in-Ready.ensures.answer.0))
    (room_is g.D.Disk.leaves c.self.inside.register c.prepare.new.self c.self.inside.journal c.self.inside.doubt c.self.invariant (ap (λ (d : CometDeskState g.row.D.Denot). d.state.doubt) c.self.view_is ∙ c.requires.settled) c.in-Ready.ensures.entries c.in-Ready.ensures.comets c.in-Ready.ensures.founder c.self.inside.limit c.in-Ready.prepared.entry.body (let fits : c.self.inside.limit < 2 ^ 64 = omega (arith, c.self.ranges) in fits) c.in-Ready.ensures.answer.4) c.in-Ok-append.ensures.added

pub invariant_of-self-in-Err-Untouched : goal.invariant_of-self-in-Err-Untouched
invariant_of-self-in-Err-Untouched g c =
    untouched_desk g.D.Disk.leaves c.self.inside.register c.prepare.new.self c.self.inside.journal c.self.inside.doubt c.self.invariant (ap (λ (d : CometDeskState g.row.D.Denot). d.state.doubt) c.self.view_is ∙ c.requires.settled) c.in-Ready.ensures.entries c.in-Ready.ensures.comets c.in-Ready.ensures.founder c.append.new.self (c.in-Err-Untouched.ensures.untouched (subst (λ (f : AppendFault). IsErrOf {T = Unit {0}} (Err f) Untouched) (sym c.in-Err-Untouched.field-0-is) refl))

pub invariant_of-self-in-Err-InDoubt : goal.invariant_of-self-in-Err-InDoubt
invariant_of-self-in-Err-InDoubt g c =
    doubted_desk g.D.Disk.leaves c.self.inside.register c.prepare.new.self c.self.inside.journal c.self.inside.doubt c.self.invariant (ap (λ (d : CometDeskState g.row.D.Denot). d.state.doubt) c.self.view_is ∙ c.requires.settled) c.in-Ready.ensures.entries c.in-Ready.ensures.comets c.in-Ready.ensures.founder
    c.append.new.self c.in-Ok.parcel c.in-Ready.prepared (c.in-Ok.ensures ∙ ap parcel_of c.entry.ensures) (enrol_acts c.in-Ready.prepared.entry (of_act c.self.inside.register.founder (Some c.self.inside.limit) (deeds (g.V.Shelf.history c.args.shelf.now)) c.self.inside.register.entries c.args.request.now c.args.reading c.in-Ready.prepared.entry c.in-Ready.ensures.answer.0)) c.in-Ready.ensures.answer.2 c.in-Ready.ensures.answer.3
    (room_is g.D.Disk.leaves c.self.inside.register c.prepare.new.self c.self.inside.journal c.self.inside.doubt c.self.invariant (ap (λ (d : CometDeskState g.row.D.Denot). d.state.doubt) c.self.view_is ∙ c.requires.settled) c.in-Ready.ensures.entries c.in-Ready.ensures.comets c.in-Ready.ensures.founder c.self.inside.limit c.in-Ready.prepared.entry.body (let fits : c.self.inside.limit < 2 ^ 64 = omega (arith, c.self.ranges) in fits) c.in-Ready.ensures.answer.4) (c.in-Err-InDoubt.ensures.in_doubt (subst (λ (f : AppendFault). IsErrOf {T = Unit {0}} (Err f) InDoubt) (sym c.in-Err-InDoubt.field-0-is) refl))

pub returns-in-Ok-append-clause-takes : goal.returns-in-Ok-append-clause-takes
returns-in-Ok-append-clause-takes g c =
    subst (λ (d : CometDeskState g.row.D.Denot). TakesAct {D = g.row.D.Denot} g.D.Disk.moment g.D.Disk.since g.D.Disk.faults (deeds (g.V.Shelf.history c.args.shelf.now)) (record { old = d; request = c.args.request.now; reading = c.args.reading; reply = c.commit.result; new = seen c.self.inside.limit c.commit.new.self c.self.inside.doubt c.append.new.self.disk })) c.self.view_is
    (keeps_it g.D.Disk.leaves c.self.inside.register c.prepare.new.self c.self.inside.journal c.self.inside.doubt c.self.invariant (ap (λ (d : CometDeskState g.row.D.Denot). d.state.doubt) c.self.view_is ∙ c.requires.settled) c.in-Ready.ensures.entries c.in-Ready.ensures.comets c.in-Ready.ensures.founder g.D.Disk.moment g.D.Disk.since g.D.Disk.faults (deeds (g.V.Shelf.history c.args.shelf.now)) c.self.inside.limit c.args.request.now c.args.reading c.in-Ready.prepared.entry c.in-Ready.ensures.answer.0 (enrol_acts c.in-Ready.prepared.entry (of_act c.self.inside.register.founder (Some c.self.inside.limit) (deeds (g.V.Shelf.history c.args.shelf.now)) c.self.inside.register.entries c.args.request.now c.args.reading c.in-Ready.prepared.entry c.in-Ready.ensures.answer.0)) c.in-Ok.parcel (c.in-Ok.ensures ∙ ap parcel_of c.entry.ensures) c.append.new.self c.append.ensures.any_moment c.commit.new.self c.commit.result c.in-Ready.prepared.answer c.commit.ensures.entries c.commit.ensures.reply c.in-Ready.ensures.answer.1.answer)

pub returns-in-Err-Untouched-clause-takes : goal.returns-in-Err-Untouched-clause-takes
returns-in-Err-Untouched-clause-takes g c =
    subst (λ (d : CometDeskState g.row.D.Denot). TakesAct {D = g.row.D.Denot} g.D.Disk.moment g.D.Disk.since g.D.Disk.faults (deeds (g.V.Shelf.history c.args.shelf.now)) (record { old = d; request = c.args.request.now; reading = c.args.reading; reply = (Refused (DiskFault false)); new = seen c.self.inside.limit c.prepare.new.self c.self.inside.doubt c.append.new.self.disk })) c.self.view_is
    (fails_it g.D.Disk.leaves c.self.inside.register c.prepare.new.self c.self.inside.journal c.self.inside.doubt c.self.invariant (ap (λ (d : CometDeskState g.row.D.Denot). d.state.doubt) c.self.view_is ∙ c.requires.settled) c.in-Ready.ensures.entries c.in-Ready.ensures.comets c.in-Ready.ensures.founder g.D.Disk.moment g.D.Disk.since g.D.Disk.faults (deeds (g.V.Shelf.history c.args.shelf.now)) c.self.inside.limit c.args.request.now c.args.reading c.in-Ready.prepared.entry c.in-Ready.ensures.answer.0 (enrol_acts c.in-Ready.prepared.entry (of_act c.self.inside.register.founder (Some c.self.inside.limit) (deeds (g.V.Shelf.history c.args.shelf.now)) c.self.inside.register.entries c.args.request.now c.args.reading c.in-Ready.prepared.entry c.in-Ready.ensures.answer.0)) c.in-Ok.parcel (c.in-Ok.ensures ∙ ap parcel_of c.entry.ensures) c.append.new.self c.append.ensures.any_moment false c.self.inside.doubt (untouched_state g.D.Disk.leaves c.self.inside.register c.prepare.new.self c.self.inside.journal c.self.inside.doubt c.self.invariant (ap (λ (d : CometDeskState g.row.D.Denot). d.state.doubt) c.self.view_is ∙ c.requires.settled) c.in-Ready.ensures.entries c.in-Ready.ensures.comets c.in-Ready.ensures.founder c.in-Ready.prepared.entry) c.in-Err-Untouched.ensures.cause)

pub returns-in-Err-InDoubt-clause-takes : goal.returns-in-Err-InDoubt-clause-takes
returns-in-Err-InDoubt-clause-takes g c =
    subst (λ (d : CometDeskState g.row.D.Denot). TakesAct {D = g.row.D.Denot} g.D.Disk.moment g.D.Disk.since g.D.Disk.faults (deeds (g.V.Shelf.history c.args.shelf.now)) (record { old = d; request = c.args.request.now; reading = c.args.reading; reply = (Refused (DiskFault true)); new = seen c.self.inside.limit c.prepare.new.self (Some c.in-Ready.prepared) c.append.new.self.disk })) c.self.view_is
    (fails_it g.D.Disk.leaves c.self.inside.register c.prepare.new.self c.self.inside.journal c.self.inside.doubt c.self.invariant (ap (λ (d : CometDeskState g.row.D.Denot). d.state.doubt) c.self.view_is ∙ c.requires.settled) c.in-Ready.ensures.entries c.in-Ready.ensures.comets c.in-Ready.ensures.founder g.D.Disk.moment g.D.Disk.since g.D.Disk.faults (deeds (g.V.Shelf.history c.args.shelf.now)) c.self.inside.limit c.args.request.now c.args.reading c.in-Ready.prepared.entry c.in-Ready.ensures.answer.0 (enrol_acts c.in-Ready.prepared.entry (of_act c.self.inside.register.founder (Some c.self.inside.limit) (deeds (g.V.Shelf.history c.args.shelf.now)) c.self.inside.register.entries c.args.request.now c.args.reading c.in-Ready.prepared.entry c.in-Ready.ensures.answer.0)) c.in-Ok.parcel (c.in-Ok.ensures ∙ ap parcel_of c.entry.ensures) c.append.new.self c.append.ensures.any_moment true (Some c.in-Ready.prepared) (doubted_state g.D.Disk.leaves c.self.inside.register c.prepare.new.self c.self.inside.journal c.self.inside.doubt c.self.invariant (ap (λ (d : CometDeskState g.row.D.Denot). d.state.doubt) c.self.view_is ∙ c.requires.settled) c.in-Ready.ensures.entries c.in-Ready.ensures.comets c.in-Ready.ensures.founder c.in-Ready.prepared) c.in-Err-InDoubt.ensures.cause)

pub returns-in-Ok-append-clause-beside : goal.returns-in-Ok-append-clause-beside
returns-in-Ok-append-clause-beside g c =
    beside_kept g.D.Disk.leaves c.self.inside.register c.prepare.new.self c.self.inside.journal c.self.inside.doubt c.self.invariant (ap (λ (d : CometDeskState g.row.D.Denot). d.state.doubt) c.self.view_is ∙ c.requires.settled) c.in-Ready.ensures.entries c.in-Ready.ensures.comets c.in-Ready.ensures.founder (deeds (g.V.Shelf.history c.args.shelf.now)) c.self.inside.limit (subst (λ (d : CometDeskState g.row.D.Denot). IsBeside (deeds (g.V.Shelf.history c.args.shelf.now)) d) (sym c.self.view_is) c.requires.beside) c.args.request.now c.args.reading c.registers_are_legal.ensures.step c.requires.reading c.in-Ready.prepared c.in-Ready.ensures.answer.0 c.in-Ready.ensures.answer.1 c.commit.new.self c.append.new.self.disk c.commit.ensures.entries c.commit.ensures.comets c.commit.ensures.founder

pub returns-in-Err-Untouched-clause-beside : goal.returns-in-Err-Untouched-clause-beside
returns-in-Err-Untouched-clause-beside g c = beside_stays g.D.Disk.leaves c.self.inside.register c.prepare.new.self c.self.inside.journal c.self.inside.doubt c.self.invariant (ap (λ (d : CometDeskState g.row.D.Denot). d.state.doubt) c.self.view_is ∙ c.requires.settled) c.in-Ready.ensures.entries c.in-Ready.ensures.comets c.in-Ready.ensures.founder (deeds (g.V.Shelf.history c.args.shelf.now)) c.self.inside.limit (subst (λ (d : CometDeskState g.row.D.Denot). IsBeside (deeds (g.V.Shelf.history c.args.shelf.now)) d) (sym c.self.view_is) c.requires.beside) c.append.new.self.disk

pub returns-in-Err-InDoubt-clause-beside : goal.returns-in-Err-InDoubt-clause-beside
returns-in-Err-InDoubt-clause-beside g c = beside_doubted g.D.Disk.leaves c.self.inside.register c.prepare.new.self c.self.inside.journal c.self.inside.doubt c.self.invariant (ap (λ (d : CometDeskState g.row.D.Denot). d.state.doubt) c.self.view_is ∙ c.requires.settled) c.in-Ready.ensures.entries c.in-Ready.ensures.comets c.in-Ready.ensures.founder (deeds (g.V.Shelf.history c.args.shelf.now)) c.self.inside.limit (subst (λ (d : CometDeskState g.row.D.Denot). IsBeside (deeds (g.V.Shelf.history c.args.shelf.now)) d) (sym c.self.view_is) c.requires.beside) c.args.request.now c.args.reading c.registers_are_legal.ensures.step c.requires.reading c.in-Ready.prepared c.in-Ready.ensures.answer.0 c.in-Ready.ensures.answer.1 c.append.new.self.disk

pub returns-in-Kept-clause-at_rest : goal.returns-in-Kept-clause-at_rest
returns-in-Kept-clause-at_rest g c = rests g.D.Disk.leaves c.doubtful_chain.ensures c.prepare.new.self c.self.inside.journal c.self.inside.doubt (prepared_desk g.D.Disk.leaves c.self.inside.register c.prepare.new.self c.self.inside.journal c.self.inside.doubt c.self.invariant (ap (λ (d : CometDeskState g.row.D.Denot). d.state.doubt) c.self.view_is ∙ c.requires.settled) c.in-Kept.ensures.entries c.in-Kept.ensures.comets c.in-Kept.ensures.founder)

pub returns-in-Refused-clause-at_rest : goal.returns-in-Refused-clause-at_rest
returns-in-Refused-clause-at_rest g c = rests g.D.Disk.leaves c.doubtful_chain.ensures c.prepare.new.self c.self.inside.journal c.self.inside.doubt (prepared_desk g.D.Disk.leaves c.self.inside.register c.prepare.new.self c.self.inside.journal c.self.inside.doubt c.self.invariant (ap (λ (d : CometDeskState g.row.D.Denot). d.state.doubt) c.self.view_is ∙ c.requires.settled) c.in-Refused.ensures.entries c.in-Refused.ensures.comets c.in-Refused.ensures.founder)

pub returns-in_default-clause-at_rest : goal.returns-in_default-clause-at_rest
returns-in_default-clause-at_rest g c = rests g.D.Disk.leaves c.doubtful_chain.ensures c.prepare.new.self c.self.inside.journal c.self.inside.doubt (prepared_desk g.D.Disk.leaves c.self.inside.register c.prepare.new.self c.self.inside.journal c.self.inside.doubt c.self.invariant (ap (λ (d : CometDeskState g.row.D.Denot). d.state.doubt) c.self.view_is ∙ c.requires.settled) c.in-Ready.ensures.entries c.in-Ready.ensures.comets c.in-Ready.ensures.founder)

pub returns-in-Err-Untouched-clause-at_rest : goal.returns-in-Err-Untouched-clause-at_rest
returns-in-Err-Untouched-clause-at_rest g c = rests g.D.Disk.leaves c.doubtful_chain.ensures c.prepare.new.self c.append.new.self c.self.inside.doubt (invariant_of-self-in-Err-Untouched g c)

pub returns-in-Err-InDoubt-clause-at_rest : goal.returns-in-Err-InDoubt-clause-at_rest
returns-in-Err-InDoubt-clause-at_rest g c = rests g.D.Disk.leaves c.doubtful_chain.ensures c.prepare.new.self c.append.new.self (Some c.in-Ready.prepared) (invariant_of-self-in-Err-InDoubt g c)

pub returns-in-Ok-append-clause-at_rest : goal.returns-in-Ok-append-clause-at_rest
returns-in-Ok-append-clause-at_rest g c = rests g.D.Disk.leaves c.doubtful_chain.ensures c.commit.new.self c.append.new.self c.self.inside.doubt (invariant_of-self-in-Ok-append g c)

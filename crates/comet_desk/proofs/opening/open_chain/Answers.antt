use Rattle.std.proofs.Common.{◌<◌, List, ap, subst, ◌∙◌, inl, inr, refl, arith}
use Rattle.std.specs.Prelude.{◌^◌, Err}
use Rattle.obs_journal.specs.declared.opening.Placed.{Placed}
use Rattle.obs_journal.specs.declared.fault.OpenFault.{OpenFault}
use Rattle.obs_journal.specs.Chains.{IsBrokenAt, IsChain}
use Rattle.obs_journal.specs.Opening.{parcels_of}
use Rattle.act_model.specs.Deeds.{deeds}
use Rattle.comet_desk.specs.Opening.{StopsIn, IsDamaged}
use Rattle.comet_desk.proofs.Entries.{legal_acts}
use Rattle.comet_desk.proofs.Mended.{beside_at}
use Rattle.comet_desk.proofs.Replayed.{if_some, stops_at, opened_desk, stands_as, rests_opened}
use Rattle.comet_desk.proofs.opening.open_chain.Goals as goal

pub invariant_of-result : goal.invariant_of-result
invariant_of-result g c =
    opened_desk g.D.Disk.leaves c.replay_all.new.register c.in-Ok.opened.0 (parcels_of c.in-Ok.opened.1) c.in-Ok.ensures.stands
    (let fits : c.in-Ok.opened.0.reached.position < 2 ^ 64 = omega (arith, c.position.ensures, c.position.type_inv) in fits)
    (c.in-Ok-replay_all.ensures.taken ∙ ap parcels_of c.as_slice.ensures) (legal_acts c.replay_all.new.register.founder (deeds (g.V.Shelf.history c.args.shelf.now)) c.replay_all.new.register.entries c.replay_all.ensures.over.legal)

pub returns-in-Ok-replay_all-clause-at_rest : goal.returns-in-Ok-replay_all-clause-at_rest
returns-in-Ok-replay_all-clause-at_rest g c =
    rests_opened g.D.Disk.leaves c.replay_all.new.register c.in-Ok.opened.0
    (opened_desk g.D.Disk.leaves c.replay_all.new.register c.in-Ok.opened.0 (parcels_of c.in-Ok.opened.1) c.in-Ok.ensures.stands
    (let fits : c.in-Ok.opened.0.reached.position < 2 ^ 64 = omega (arith, c.position.ensures, c.position.type_inv) in fits)
    (c.in-Ok-replay_all.ensures.taken ∙ ap parcels_of c.as_slice.ensures) (legal_acts c.replay_all.new.register.founder (deeds (g.V.Shelf.history c.args.shelf.now)) c.replay_all.new.register.entries c.replay_all.ensures.over.legal))

pub returns-in-Ok-replay_all-clause-stands : goal.returns-in-Ok-replay_all-clause-stands
returns-in-Ok-replay_all-clause-stands g c =
    stands_as (g.D.Disk.reads c.args.disk) c.replay_all.new.register.entries (parcels_of c.in-Ok.opened.1) (c.in-Ok-replay_all.ensures.taken ∙ ap parcels_of c.as_slice.ensures)
    (legal_acts c.replay_all.new.register.founder (deeds (g.V.Shelf.history c.args.shelf.now)) c.replay_all.new.register.entries c.replay_all.ensures.over.legal) c.in-Ok.ensures.spelled

pub returns-in-Ok-replay_all-clause-beside : goal.returns-in-Ok-replay_all-clause-beside
returns-in-Ok-replay_all-clause-beside g c =
    let now = c.replay_all.new.register in
    beside_at (deeds (g.V.Shelf.history c.args.shelf.now)) c.args.limit now c.in-Ok.opened.0.disk now.founder now.entries now.comets refl refl refl c.replay_all.ensures.over.legal c.replay_all.ensures.over.comets

pub returns-in-Err-clause-damaged : goal.returns-in-Err-clause-damaged
returns-in-Err-clause-damaged g c = λ file offset same.
    let is = c.of_register.ensures.damaged file offset same in
    let d = c.in-Err.ensures.damaged is.1.0 offset is.1.1 in
    (is.0, if_some (g.D.Disk.reads c.args.disk) (λ bytes. IsBrokenAt bytes offset) (λ bytes. IsDamaged c.args.register.founder (deeds (g.V.Shelf.history c.args.shelf.now)) bytes offset) (λ bytes broken. inl broken) d.1)

pub returns-clause-damaged : goal.returns-clause-damaged
returns-clause-damaged g c = λ file offset same.
    let desk = deeds (g.V.Shelf.history c.args.shelf.now) in
    let d = c.in-Err-replay_all.ensures.damaged file offset (ap (λ (fault : OpenFault). Err fault) same) in
    let places = c.in-Ok.opened.1 in
    let stops = subst (λ (ps : List Placed). StopsIn c.args.register.founder desk ps offset) c.as_slice.ensures d.1 in (
      d.0,
      if_some (g.D.Disk.reads c.args.disk) (λ bytes. IsChain bytes (parcels_of places)) (λ bytes. IsDamaged c.args.register.founder desk bytes offset)
          (λ bytes chain. inr (parcels_of places, chain, stops_at c.args.register.founder desk places offset c.in-Ok.ensures.offsets stops))
          c.in-Ok.ensures.spelled,
    )

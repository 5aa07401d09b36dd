use Rattle.std.proofs.Common.{◌<◌, List, sym, ap, subst, inl, inr, refl, arith}
use Rattle.std.specs.Prelude.{◌^◌, Err}
use Rattle.obs_journal.specs.declared.fault.OpenFault.{OpenFault}
use Rattle.obs_journal.specs.Chains.{IsBrokenAt, IsChain, chained}
use Rattle.obs_journal.specs.Formats.{room_in, row_length_in}
use Rattle.obs_journal.specs.Opening.{parcels_of, placed_in}
use Rattle.mpc_desk.specs.Files.{Stands}
use Rattle.mpc_desk.specs.Opening.{IsDamagedSecond, gate_in_second}
use Rattle.mpc_desk.proofs.Opened.{opened_desk, rests_opened, if_some, stops_at, second_placing}
use Rattle.mpc_desk.proofs.opening.open_second.Goals as goal

pub invariant_of-result : goal.invariant_of-result
invariant_of-result g c =
    opened_desk g.D.Disk.leaves c.replay_each.new.core c.in-Ok.opened.0 (parcels_of c.in-Ok.opened.1) c.in-Ok.ensures.stands
    (let fits : c.in-Ok.opened.0.reached.position < 2 ^ 64 = omega (arith, c.position.ensures, c.position.type_inv) in fits)
    c.in-Ok-replay_each.ensures.taken c.in-Ok-replay_each.ensures.legal c.in-Ok-replay_each.ensures.acts

pub returns-clause-at_rest : goal.returns-clause-at_rest
returns-clause-at_rest g c =
    rests_opened g.D.Disk.leaves c.replay_each.new.core c.in-Ok.opened.0
    (opened_desk g.D.Disk.leaves c.replay_each.new.core c.in-Ok.opened.0 (parcels_of c.in-Ok.opened.1) c.in-Ok.ensures.stands
    (let fits : c.in-Ok.opened.0.reached.position < 2 ^ 64 = omega (arith, c.position.ensures, c.position.type_inv) in fits)
    c.in-Ok-replay_each.ensures.taken c.in-Ok-replay_each.ensures.legal c.in-Ok-replay_each.ensures.acts)

pub returns-clause-stands : goal.returns-clause-stands
returns-clause-stands g c =
    if_some (g.D.Disk.reads c.args.second) (λ file. IsChain file (parcels_of c.in-Ok.opened.1)) (λ file. Stands file c.replay_each.new.core.history)
    (λ file chain. record {
      chained = subst (λ (ps : List _). IsChain file ps) (sym c.in-Ok-replay_each.ensures.taken) chain;
      acts = c.in-Ok-replay_each.ensures.acts;
    })
    c.in-Ok.ensures.spelled

pub returns-in-Err-clause-damaged : goal.returns-in-Err-clause-damaged
returns-in-Err-clause-damaged g c = λ file offset same.
    let d = c.in-Err.ensures.damaged file offset same in
    (d.0, if_some (g.D.Disk.reads c.args.second) (λ bytes. IsBrokenAt bytes offset) (λ bytes. IsDamagedSecond c.args.core.founder bytes offset) (λ bytes broken. inl broken) d.1)

pub returns-in-Err-replay_each-clause-damaged : goal.returns-in-Err-replay_each-clause-damaged
returns-in-Err-replay_each-clause-damaged g c = λ file offset same.
    let d = c.in-Err-replay_each.ensures.damaged file offset (ap (λ (fault : OpenFault). Err fault) same) in
    let places = c.in-Ok.opened.1 in
    let stops = d.1 in (
      d.0,
      if_some (g.D.Disk.reads c.args.second) (λ bytes. IsChain bytes (parcels_of places)) (λ bytes. IsDamagedSecond c.args.core.founder bytes offset)
          (λ bytes chain. inr (parcels_of places, chain, stops_at (placed_in chained) (room_in chained) (row_length_in chained) second_placing 1 gate_in_second (λ ps. refl) c.args.core.founder places offset c.in-Ok.ensures.offsets stops))
          c.in-Ok.ensures.spelled,
    )

use Rattle.std.proofs.Common.{◌≡◌, List, ap, subst, ◌∙◌, inl, inr, refl, arith}
use Rattle.std.specs.Prelude.{Err}
use Rattle.obs_journal.specs.declared.opening.Placed.{Placed}
use Rattle.obs_journal.specs.declared.fault.OpenFault.{OpenFault}
use Rattle.obs_journal.specs.declared.fault.OpenFault.TheVariants.{Damaged}
use Rattle.obs_journal.specs.Parcels.{room}
use Rattle.obs_journal.specs.Chains.{chained}
use Rattle.obs_journal.specs.Formats.{row_length_in}
use Rattle.obs_journal.specs.Files.{IsDamagedAt, Spells, row_length}
use Rattle.obs_journal.specs.Opening.{parcels_of, placed_from}
use Rattle.mpc_desk.specs.Opening.{StopsIn, IsDamagedFirst, gate_in_first}
use Rattle.mpc_desk.proofs.Opened.{if_some, kept_if, stops_at, first_placing}
use Rattle.mpc_desk.proofs.opening.take_first.Goals as goal

pub returns-in-Err-clause-damaged : goal.returns-in-Err-clause-damaged
returns-in-Err-clause-damaged g c = λ file offset same.
    let d = c.open_first.ensures.damaged file offset (c.in-Err.is ∙ same) in
    (d.0, if_some (g.D.Disk.reads c.args.first.now) (λ bytes. IsDamagedAt bytes offset) (λ bytes. IsDamagedFirst c.args.core.now.founder bytes offset) (λ bytes broken. inl broken) d.1)

pub returns-in-Err-replay_all-clause-damaged : goal.returns-in-Err-replay_all-clause-damaged
returns-in-Err-replay_all-clause-damaged g c = λ file offset same.
    let fault_is : c.in-Err-replay_all.fault ≡ Damaged file offset = cc in
    let d = c.in-Err-replay_all.ensures.damaged file offset (ap (λ (f : OpenFault). Err f) fault_is) in
    let places = c.in-Ok.parcels in
    let stops = subst (λ (ps : List Placed). StopsIn c.args.core.now.founder ps offset) c.as_slice.ensures d.1 in (
      d.0,
      if_some (g.D.Disk.reads c.args.first.now) (λ bytes. Spells bytes (parcels_of places)) (λ bytes. IsDamagedFirst c.args.core.now.founder bytes offset)
          (λ bytes spelled. inr (parcels_of places, spelled, stops_at placed_from room row_length first_placing 0 gate_in_first (λ ps. omega arith) c.args.core.now.founder places offset c.in-Ok.ensures.offsets stops))
          c.in-Ok.ensures.spelled,
    )

pub returns-in-Err-replay_all-clause-unwritten : goal.returns-in-Err-replay_all-clause-unwritten
returns-in-Err-replay_all-clause-unwritten g c = λ failed other known.
    kept_if c.one_list.ensures (g.D.Disk.reads c.args.first.now) c.in-Ok.parcels _ (λ none. c.in-Err-replay_all.ensures.some refl (c.as_slice.ensures ∙ none)) known c.in-Ok.ensures.spelled c.in-Ok.ensures.kept

pub returns-in-None-clause-unwritten : goal.returns-in-None-clause-unwritten
returns-in-None-clause-unwritten g c = λ failed other known.
    kept_if c.one_list.ensures (g.D.Disk.reads c.args.first.now) c.in-Ok.parcels _
    (λ none.
    let long = c.in-None.ensures.too_long refl in
    let same = ap (λ (l : List Placed). row_length_in chained (parcels_of l)) none in
    omega (arith, long, same))
    known c.in-Ok.ensures.spelled c.in-Ok.ensures.kept

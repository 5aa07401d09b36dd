-- What the end of a run says of its causes, and that a whole session without a fault is served to its end.
use Rattle.std.proofs.Common.{◌≡◌, ◌⊎◌, ℕ, ◌+◌, List, [], ◌++◌, length, Option, Some, refl, sym, ap, subst, inl, inr, ⊎_elim, arith}
use Rattle.std.specs.Prelude.{IfSome}
use Rattle.call_log.specs.Counts.{Rises}
use Rattle.frame_grammar.specs.Frames.{Frame, IsSession}
use Rattle.frame_service.specs.Exchanges.{Exchange, frames_of}
use Rattle.frame_service.specs.Runs.{StopsAt, IsWhole}
use Rattle.act_model.specs.declared.entry.Entry.{Entry}
use Rattle.act_model.specs.Deeds.{deeds}
use Rattle.mpc_desk.specs.Pairs.{EitherRises}
use Rattle.mpc_desk.specs.PairLaws.{risen_rises, never_damaged, at_read}
use Rattle.command_ends.specs.declared.status.Status.{Status}
use Rattle.command_ends.specs.declared.status.Status.TheVariants.{Done, Usage, BadFrame, DiskFault, Damaged, ReadFault, WriteFault, NoMemory, DoorFault, MirrorFault, TooMany}
use Rattle.command_ends.specs.Disks.{DiskWords}
use Rattle.command_ends.specs.Reading.{reader}
use Rattle.command_ends.specs.Statuses.{IsDoneOrNoMemory}
use Rattle.comet_model.specs.Turns.{rises_of}
use Rattle.comet_desk.specs.Opening.{IsDamaged}
use Rattle.comets_command.specs.Laws.{DamageLaws}
use Rattle.comets_command.specs.Promises.{OfficeStands, RegisterStands}
use Rattle.comets_command.specs.Runs.{Course, IsOfficeShut, IsRegisterShut, IsNotServed, Ends}
use Rattle.comets_command.proofs.Closings.{rises_by}

-- known bytes are those of the run
pub known_bytes : (left : Option (List ℕ)) (bytes all : List ℕ) → left ≡ Some bytes → IfSome left (λ known. known ≡ all) → bytes ≡ all
known_bytes left bytes all told whole = subst (λ (o : Option (List ℕ)). IfSome o (λ known. known ≡ all)) told whole

module _ {D : Type 0} (on : DiskWords D) (course : Course D) (Uncalled : Type 0) where
  -- a run ends with no status of another command
  pub own : (status : Status) → Ends on course Uncalled status
      → (status ≡ Usage → ⊥) × (status ≡ DoorFault → ⊥) × (status ≡ MirrorFault → ⊥) × ((count : ℕ) → status ≡ TooMany count → ⊥)
  own status ends = (
    λ is. subst (λ (s : Status). Ends on course Uncalled s) is ends,
    λ is. subst (λ (s : Status). Ends on course Uncalled s) is ends,
    λ is. subst (λ (s : Status). Ends on course Uncalled s) is ends,
    λ count is. subst (λ (s : Status). Ends on course Uncalled s) is ends,
  )

  -- the count of one of the disks rose where a disk failed
  abbrev ADiskRises : Type 0
  ADiskRises = EitherRises on course.disks.old course.disks.new ⊎ Rises (on.faults course.register.old) (on.faults course.register.new)

  unopened_rises : IsOfficeShut on course DiskFault ⊎ IsRegisterShut on course DiskFault → ADiskRises
  unopened_rises (inl shut) = let (rise, some, not) = shut.unopened in inl (risen_rises rise some not.counts)
  unopened_rises (inr shut) =
      let (rise, some, not) = shut.unbegun in
      inr (rises_by (on.faults course.register.old) (on.faults course.register.new) rise some not.counts)

  fault_rises : Ends on course Uncalled DiskFault → ADiskRises
  fault_rises (inl idle) = unopened_rises idle.1
  fault_rises (inr (turns, all, runs)) =
      let r = runs.register in
      let some = r.run.closes.rose in
      inr (rises_by (on.faults course.register.old) (on.faults course.register.new) (r.opening + rises_of turns + r.run.mending) (omega (arith, some)) r.counts)

  pub disk_rises : (status : Status) → Ends on course Uncalled status → status ≡ DiskFault → ADiskRises
  disk_rises status ends is = fault_rises (subst (λ (s : Status). Ends on course Uncalled s) is ends)

  module _ (laws : DamageLaws) (history : List Entry) (office : OfficeStands on course.disks.old history) where
    -- disks that stand for a legal history aren't damaged
    office_undamaged : (file offset : ℕ) → IsOfficeShut on course (Damaged file offset) → ⊥
    office_undamaged file offset shut =
        never_damaged laws.first laws.second laws.in_force on reader course.disks.old office.files history file offset office.read office.stood
        (laws.any_founder office.key reader history refl office.legal) shut.unopened.0

    pub sound_office : (status : Status) (file offset : ℕ) → Ends on course Uncalled status → status ≡ Damaged file offset → file ≡ 3
    sound_office status file offset ends is =
        let idle = subst (λ (s : Status). Ends on course Uncalled s) is ends in
        ⊎_elim (λ shut. absurd (office_undamaged file offset shut)) (λ shut. shut.unbegun.0) idle.1

    module _ (register : RegisterStands on course.founder (deeds history) course.register.old) where
      -- nor is the register's
      register_undamaged : (file offset : ℕ) → IsRegisterShut on course (Damaged file offset) → ⊥
      register_undamaged file offset shut =
          let same = laws.one_history office.files shut.history history (shut.office.stood office.files office.read) office.stood in
          let damaged = at_read (on.reads course.register.old) (λ bytes. IsDamaged course.founder (deeds shut.history) bytes offset) register.file register.read shut.unbegun.1 in
          laws.register course.founder (deeds history) register.file offset register.entries
          (subst (λ (h : List Entry). IsDamaged course.founder (deeds h) register.file offset) same damaged) register.legal register.held

      undamaged : (file offset : ℕ) → IsNotServed on course Uncalled (Damaged file offset) → ⊥
      undamaged file offset idle = ⊎_elim (office_undamaged file offset) (register_undamaged file offset) idle.1

      pub sound : (status : Status) (file offset : ℕ) → Ends on course Uncalled status → status ≡ Damaged file offset → ⊥
      sound status file offset ends is = undamaged file offset (subst (λ (s : Status). Ends on course Uncalled s) is ends)

      module _ (one_session : (bytes : List ℕ) (fs gs : List Frame) (x y : List ℕ) → IsSession bytes fs x → IsSession bytes gs y → (fs ≡ gs) × (x ≡ y))
          (bytes : List ℕ) (known : bytes ≡ course.run.came ++ course.run.more) where
        no_stop : (offset : ℕ) (served : List Exchange) → StopsAt course.run offset served → IsWhole bytes → ⊥
        no_stop offset served s whole =
            let stopped = subst (λ (b : List ℕ). IsSession b (frames_of served) s.rest) (sym known) s.over.session in
            let rest_is : s.rest ≡ [] = (one_session bytes (frames_of served) whole.0 s.rest [] stopped whole.1).1 in
            let some = s.some in
            absurd (omega (arith, ap length rest_is))

        pub complete : (status : Status) → Ends on course Uncalled status → IsWhole bytes
            → (status ≡ DiskFault → ⊥) → (status ≡ ReadFault → ⊥) → (status ≡ WriteFault → ⊥) → IsDoneOrNoMemory status
        complete Done ends whole disks reads writes = tt
        complete NoMemory ends whole disks reads writes = tt
        complete Usage ends whole disks reads writes = ends
        complete DoorFault ends whole disks reads writes = ends
        complete MirrorFault ends whole disks reads writes = ends
        complete (TooMany count) ends whole disks reads writes = ends
        complete (BadFrame offset) ends whole disks reads writes = no_stop offset ends.1.0 ends.1.1 whole
        complete DiskFault ends whole disks reads writes = disks refl
        complete (Damaged file offset) ends whole disks reads writes = undamaged file offset ends
        complete ReadFault ends whole disks reads writes = reads refl
        complete WriteFault ends whole disks reads writes = writes refl

-- What a run's end says of its causes, and that a whole session without a fault is served to its end.
use Rattle.std.proofs.Common.{◌≡◌, ℕ, ◌+◌, List, [], ◌++◌, length, Option, Some, refl, sym, ap, subst, inl, inr, arith}
use Rattle.std.specs.Prelude.{IfSome}
use Rattle.frame_grammar.specs.Frames.{Frame, IsSession}
use Rattle.act_bodies.specs.declared.key.Key.{Key}
use Rattle.act_model.specs.declared.entry.Entry.{Entry}
use Rattle.act_model.specs.Legal.{IsLegal}
use Rattle.act_model.specs.Turns.{Turn, rises_of}
use Rattle.obs_journal.specs.Chains.{IsInForce}
use Rattle.mpc_desk.specs.Files.{Stands, StandsFirst}
use Rattle.mpc_desk.specs.Opening.{IsDamagedFirst, IsDamagedSecond}
use Rattle.mpc_desk.specs.Pairs.{FilePair, StandBoth, AreRead, EitherRises}
use Rattle.mpc_desk.specs.PairLaws.{risen_rises, never_damaged}
use Rattle.command_ends.specs.declared.status.Status.{Status}
use Rattle.command_ends.specs.declared.status.Status.TheVariants.{Done, Usage, BadFrame, DiskFault, Damaged, ReadFault, WriteFault, NoMemory, DoorFault, MirrorFault, TooMany}
use Rattle.command_ends.specs.Disks.{DiskWords}
use Rattle.command_ends.specs.Statuses.{IsDoneOrNoMemory}
use Rattle.frame_service.specs.Exchanges.{frames_of}
use Rattle.frame_service.specs.Runs.{StopsAt, IsWhole}
use Rattle.run_command.specs.Serving.{Serves}
use Rattle.run_command.specs.Runs.{Course, Ends}

-- known bytes are those of the run
pub known_bytes : (left : Option (List ℕ)) (bytes all : List ℕ) → left ≡ Some bytes → IfSome left (λ known. known ≡ all) → bytes ≡ all
known_bytes left bytes all told whole = subst (λ (o : Option (List ℕ)). IfSome o (λ known. known ≡ all)) told whole

module _ {D : Type 0} (on : DiskWords D) (course : Course D) (Uncalled : Type 0) where
  -- a run ends with no status of another command
  pub own : (status : Status) → Ends on course Uncalled status
      → (status ≡ Usage → ⊥) × (status ≡ DoorFault → ⊥) × (status ≡ MirrorFault → ⊥) × ((count : ℕ) → status ≡ TooMany count → ⊥)
  own status ends = (
    λ is. subst (λ (s : Status). Ends on course Uncalled s) is ends,
    λ is. subst (λ (s : Status). Ends on course Uncalled s) is ends,
    λ is. subst (λ (s : Status). Ends on course Uncalled s) is ends,
    λ count is. subst (λ (s : Status). Ends on course Uncalled s) is ends,
  )

  -- the count of one of the disks rose where a disk failed
  fault_rises : Ends on course Uncalled DiskFault → EitherRises on course.disks course.disks_after
  fault_rises (inl (idle, (rise, some, shut))) = risen_rises rise some shut.counts
  fault_rises (inr (turns, all, runs)) =
      let some = runs.office.closes.rose in
      risen_rises (runs.opening + rises_of turns + runs.office.mending) (omega (arith, some)) runs.counts

  pub disk_rises : (status : Status) → Ends on course Uncalled status → status ≡ DiskFault → EitherRises on course.disks course.disks_after
  disk_rises status ends is = fault_rises (subst (λ (s : Status). Ends on course Uncalled s) is ends)

  module _ (first : (founder : Key) (file : List ℕ) (offset : ℕ) (history : List Entry) → IsDamagedFirst founder file offset → IsLegal founder history → StandsFirst file history → ⊥)
      (second : (founder : Key) (file : List ℕ) (offset : ℕ) (history : List Entry) → IsDamagedSecond founder file offset → IsLegal founder history → Stands file history → ⊥)
      (force : (founder : Key) (file : List ℕ) (offset : ℕ) → IsDamagedSecond founder file offset → IsInForce file)
      (files : FilePair) (history : List Entry) (reads : AreRead on course.disks files) (stands : StandBoth files history) (legal : IsLegal course.founder history) where
    -- files that stand for a legal history aren't damaged
    undamaged : (file offset : ℕ) → Ends on course Uncalled (Damaged file offset) → ⊥
    undamaged file offset ends = never_damaged first second force on course.founder course.disks files history file offset reads stands legal ends.1.0

    pub sound : (status : Status) (file offset : ℕ) → Ends on course Uncalled status → status ≡ Damaged file offset → ⊥
    sound status file offset ends is = undamaged file offset (subst (λ (s : Status). Ends on course Uncalled s) is ends)

    module _ (one_session : (bytes : List ℕ) (fs gs : List Frame) (x y : List ℕ) → IsSession bytes fs x → IsSession bytes gs y → (fs ≡ gs) × (x ≡ y))
        (bytes : List ℕ) (known : bytes ≡ course.run.came ++ course.run.more) where
      no_stop : (offset : ℕ) (turns : List Turn) → Serves course.clock course.clock_after (StopsAt course.run offset) turns → IsWhole bytes → ⊥
      no_stop offset turns (served, s, are) whole =
          let stopped = subst (λ (b : List ℕ). IsSession b (frames_of served) s.rest) (sym known) s.over.session in
          let rest_is : s.rest ≡ [] = (one_session bytes (frames_of served) whole.0 s.rest [] stopped whole.1).1 in
          let some = s.some in
          absurd (omega (arith, ap length rest_is))

      pub complete : (status : Status) → Ends on course Uncalled status → IsWhole bytes
          → (status ≡ DiskFault → ⊥) → (status ≡ ReadFault → ⊥) → (status ≡ WriteFault → ⊥) → IsDoneOrNoMemory status
      complete Done ends whole disks reads writes = tt
      complete NoMemory ends whole disks reads writes = tt
      complete Usage ends whole disks reads writes = ends
      complete DoorFault ends whole disks reads writes = ends
      complete MirrorFault ends whole disks reads writes = ends
      complete (TooMany count) ends whole disks reads writes = ends
      complete (BadFrame offset) ends whole disks reads writes = no_stop offset ends.0 ends.1 whole
      complete DiskFault ends whole disks reads writes = disks refl
      complete (Damaged file offset) ends whole disks reads writes = undamaged file offset ends
      complete ReadFault ends whole disks reads writes = reads refl
      complete WriteFault ends whole disks reads writes = writes refl

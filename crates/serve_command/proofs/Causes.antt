-- What a status of a whole call says of the counts of faults.
use Rattle.std.proofs.Common.{◌≡◌, ℕ, ◌<◌, ◌≤◌, List, length, map, Option, Some, None, refl, sym, ap, subst, ◌∙◌, inl, inr, ⊎_elim, arith}
use Rattle.std.specs.Prelude.{◌⊎◌}
use Rattle.call_log.specs.Counts.{Rises}
use Rattle.act_bodies.specs.declared.key.Key.{Key}
use Rattle.act_model.specs.declared.entry.Entry.{Entry}
use Rattle.act_model.specs.Keepers.{RoseBy}
use Rattle.act_model.specs.Legal.{IsLegal}
use Rattle.mpc_desk.specs.Desks.{DeskState, count_of}
use Rattle.obs_journal.specs.Chains.{IsInForce}
use Rattle.mpc_desk.specs.Files.{Stands, StandsFirst}
use Rattle.mpc_desk.specs.Opening.{IsDamagedFirst, IsDamagedSecond}
use Rattle.mpc_desk.specs.Pairs.{FilePair, StandBoth, DiskPair, AreRead, EitherRises}
use Rattle.mpc_desk.specs.PairLaws.{risen_rises, never_damaged}
use Rattle.intake_lock.specs.Items.{RisesBy}
use Rattle.command_ends.specs.declared.status.Status.{Status}
use Rattle.command_ends.specs.declared.status.Status.TheVariants.{Done, Usage, BadFrame, DiskFault, Damaged, ReadFault, WriteFault, NoMemory, DoorFault, MirrorFault, TooMany}
use Rattle.command_ends.specs.Disks.{DiskWords}
use Rattle.command_ends.specs.Opening.{EndsUnopened}
use Rattle.command_ends.specs.Closing.{MendsLast}
use Rattle.command_ends.specs.Statuses.{IsDoneOrNoMemory}
use Rattle.serve_command.specs.declared.accepting.Stop.{Stop}
use Rattle.serve_command.specs.declared.accepting.Stop.TheVariants as stops
use Rattle.serve_command.specs.Links.{LinkWords, link_of}
use Rattle.serve_command.specs.Gathering.{DoorState}
use Rattle.serve_command.specs.Serving.{EndsTaking}
use Rattle.serve_command.specs.Runs.{first_fault, WritesLines, Writes, RunStart, RunEnd, Runs, Ends}
use Rattle.serve_command.specs.Summaries.{summary}
use Rattle.serve_command.proofs.Mending.{IsFromMending, first_so}

-- the laws that a file which stands for a legal history isn't damaged
pub record Undamaged : Type 0 where
  pub first : (founder : Key) (file : List ℕ) (offset : ℕ) (history : List Entry) → IsDamagedFirst founder file offset → IsLegal founder history → StandsFirst file history → ⊥
  pub second : (founder : Key) (file : List ℕ) (offset : ℕ) (history : List Entry) → IsDamagedSecond founder file offset → IsLegal founder history → Stands file history → ⊥
  pub force : (founder : Key) (file : List ℕ) (offset : ℕ) → IsDamagedSecond founder file offset → IsInForce file

-- the count rose in the last mending
rises_last : (a b c d calls rise : ℕ) → a ≤ b → RisesBy calls (count_of b) (count_of c) → 0 < rise → RoseBy rise (count_of c) (count_of d) → Rises a d
rises_last a b c d calls rise later grew some rose = omega arith

-- a status with which the call may end once the office was opened: one that the links and the last mending may leave,
-- or that of a fault in writing the lines
abbrev pub IsOwn : Status → Type 0
IsOwn status = IsFromMending status ⊎ (status ≡ WriteFault)

-- where the lines were written, wholly or not, the status is one of two
lines_end : (old new : Option (List ℕ)) (lines : List ℕ) (status : Status) → WritesLines old new lines status → (status ≡ Done) ⊎ (status ≡ WriteFault)
lines_end old new lines Done writes = inl refl
lines_end old new lines WriteFault writes = inr refl
lines_end old new lines Usage writes = absurd writes
lines_end old new lines (BadFrame offset) writes = absurd writes
lines_end old new lines DiskFault writes = absurd writes
lines_end old new lines (Damaged file offset) writes = absurd writes
lines_end old new lines ReadFault writes = absurd writes
lines_end old new lines NoMemory writes = absurd writes
lines_end old new lines DoorFault writes = absurd writes
lines_end old new lines MirrorFault writes = absurd writes
lines_end old new lines (TooMany count) writes = absurd writes

-- ---- by why no further link was taken

module _ {D I O : Type 0} (on : DiskWords D) (left last : DeskState D) (most : ℕ) (came : List (I × O)) (door after : DoorState I O) where
  door_failed : (stop : Option Stop) (mended : Status) → EndsTaking most came door after stop → MendsLast on left mended last → first_fault stop mended ≡ DoorFault
      → Rises door.faults after.faults
  door_failed (Some stops.Full) mended stopped mends is = absurd (subst (λ (s : Status). MendsLast on left s last) is mends)
  door_failed (Some stops.Shut) mended stopped mends is = absurd (subst (λ (s : Status). MendsLast on left s last) is mends)
  door_failed (Some stops.Failed) mended stopped mends is = stopped.1
  door_failed (Some stops.NoMemory) mended stopped mends is = absurd cc
  door_failed None mended stopped mends is = absurd cc

  door_held : (stop : Option Stop) (mended : Status) → EndsTaking most came door after stop → (first_fault stop mended ≡ DoorFault → ⊥) → after.faults ≡ door.faults
  door_held (Some stops.Full) mended stopped never = stopped.1
  door_held (Some stops.Shut) mended stopped never = stopped.1
  door_held (Some stops.Failed) mended stopped never = absurd (never refl)
  door_held (Some stops.NoMemory) mended stopped never = stopped
  door_held None mended stopped never = ap (λ (d : DoorState I O). d.faults) stopped.1

  disk_failed : (stop : Option Stop) (mended : Status) → MendsLast on left mended last → first_fault stop mended ≡ DiskFault → MendsLast on left DiskFault last
  disk_failed (Some stops.Full) mended mends is = subst (λ (s : Status). MendsLast on left s last) is mends
  disk_failed (Some stops.Shut) mended mends is = subst (λ (s : Status). MendsLast on left s last) is mends
  disk_failed (Some stops.Failed) mended mends is = absurd cc
  disk_failed (Some stops.NoMemory) mended mends is = absurd cc
  disk_failed None mended mends is = absurd cc

-- ---- the whole call

module _ {D I O : Type 0} (on : DiskWords D) (links : LinkWords I O) (start : RunStart D I O) (end : RunEnd D I O)
    (Uncalled Unasked Unwritten : Type 0) (ran : Ends on links start end Uncalled Unasked Unwritten) where
  -- the lines that are written where nothing failed
  abbrev lines_of : Runs on links start end Unasked Unwritten → List ℕ
  lines_of r = summary (length end.ends) (length r.service.last.state.settled)

  pub door_caused : end.status ≡ DoorFault → Rises start.door.faults end.door.faults
  door_caused is = by ran
    where
      of_run : (r : Runs on links start end Unasked Unwritten) → Writes (first_fault r.service.stop r.service.mended) Unwritten start.taken end.taken (lines_of r) end.status → Rises start.door.faults end.door.faults
      of_run r (inl (good, lines)) = absurd (subst (WritesLines start.taken end.taken (lines_of r)) is lines)
      of_run r (inr (bad, same, unwritten)) =
          door_failed on r.service.left r.service.last start.most (map link_of r.service.serves.attendances) start.door end.door r.service.stop r.service.mended r.service.serves.stops r.service.mends (sym same ∙ is)

      by : Ends on links start end Uncalled Unasked Unwritten → Rises start.door.faults end.door.faults
      by (inl (uncalled, unopened)) = absurd (subst (λ (s : Status). EndsUnopened on start.founder start.disks end.disks end.added s) is unopened)
      by (inr r) = of_run r r.writes

  pub door_faultless : (Uncalled → end.door.faults ≡ start.door.faults) → (end.status ≡ DoorFault → ⊥) → end.door.faults ≡ start.door.faults
  door_faultless untouched never = by ran
    where
      of_run : (r : Runs on links start end Unasked Unwritten) → Writes (first_fault r.service.stop r.service.mended) Unwritten start.taken end.taken (lines_of r) end.status → end.door.faults ≡ start.door.faults
      of_run r (inl (good, lines)) =
          door_held on r.service.left r.service.last start.most (map link_of r.service.serves.attendances) start.door end.door r.service.stop r.service.mended r.service.serves.stops (λ is. let no : Done ≡ DoorFault = sym good ∙ is in absurd cc)
      of_run r (inr (bad, same, unwritten)) =
          door_held on r.service.left r.service.last start.most (map link_of r.service.serves.attendances) start.door end.door r.service.stop r.service.mended r.service.serves.stops (λ is. never (same ∙ is))

      by : Ends on links start end Uncalled Unasked Unwritten → end.door.faults ≡ start.door.faults
      by (inl (uncalled, unopened)) = untouched uncalled
      by (inr r) = of_run r r.writes

  pub disk_caused : end.status ≡ DiskFault → EitherRises on start.disks end.disks
  disk_caused is = by ran
    where
      of_run : (r : Runs on links start end Unasked Unwritten) → Writes (first_fault r.service.stop r.service.mended) Unwritten start.taken end.taken (lines_of r) end.status → EitherRises on start.disks end.disks
      of_run r (inl (good, lines)) = absurd (subst (WritesLines start.taken end.taken (lines_of r)) is lines)
      of_run r (inr (bad, same, unwritten)) =
          let m = disk_failed on r.service.left r.service.last start.most (map link_of r.service.serves.attendances) start.door end.door r.service.stop r.service.mended r.service.mends (sym same ∙ is) in
          inr
          (subst (λ (d : DiskPair D). Rises (on.faults start.disks.second) (on.faults d.second)) (sym r.office.disks_are)
          (rises_last (on.faults start.disks.second) (on.faults r.service.opened.chained.disk) (on.faults r.service.left.disk) (on.faults r.service.last.disk) _ m.0 r.service.opens.counts.second r.service.serves.grows.counts m.1.rose m.2.counts))

      by : Ends on links start end Uncalled Unasked Unwritten → EitherRises on start.disks end.disks
      by (inl (uncalled, unopened)) =
          let u = subst (λ (s : Status). EndsUnopened on start.founder start.disks end.disks end.added s) is unopened in
          risen_rises u.0 u.1 u.2.counts
      by (inr r) = of_run r r.writes

  -- once the office was opened
  own_run : Runs on links start end Unasked Unwritten → IsOwn end.status
  own_run r = by r.writes
    where
      by : Writes (first_fault r.service.stop r.service.mended) Unwritten start.taken end.taken (lines_of r) end.status → IsOwn end.status
      by (inl (good, lines)) =
          ⊎_elim (λ done. inl (subst IsFromMending (sym done) tt)) (λ failed. inr failed) (lines_end start.taken end.taken (lines_of r) end.status lines)
      by (inr (bad, same, unwritten)) = inl (subst IsFromMending (sym same) (first_so on r.service.left r.service.last r.service.stop r.service.mended r.service.mends))

  -- a status that is of no end
  none_such : (s : Status) → (EndsUnopened on start.founder start.disks end.disks end.added s → ⊥) → (IsFromMending s → ⊥) → (s ≡ WriteFault → ⊥) → end.status ≡ s → ⊥
  none_such s unopened mended written is = by ran
    where
      by : Ends on links start end Uncalled Unasked Unwritten → ⊥
      by (inl (uncalled, u)) = unopened (subst (λ (s : Status). EndsUnopened on start.founder start.disks end.disks end.added s) is u)
      by (inr r) = ⊎_elim mended written (subst IsOwn is (own_run r))

  pub no_usage : end.status ≡ Usage → ⊥
  no_usage = none_such Usage (λ e. e) (λ e. e) (λ e. absurd cc)

  pub no_read : end.status ≡ ReadFault → ⊥
  no_read = none_such ReadFault (λ e. e) (λ e. e) (λ e. absurd cc)

  pub no_frame : (offset : ℕ) → end.status ≡ BadFrame offset → ⊥
  no_frame offset = none_such (BadFrame offset) (λ e. e) (λ e. e) (λ e. absurd cc)

  pub no_mirror : end.status ≡ MirrorFault → ⊥
  no_mirror = none_such MirrorFault (λ e. e) (λ e. e) (λ e. absurd cc)

  pub no_count : (count : ℕ) → end.status ≡ TooMany count → ⊥
  no_count count = none_such (TooMany count) (λ e. e) (λ e. e) (λ e. absurd cc)

  pub undamaged : Undamaged → (files : FilePair) (history : List Entry) (file offset : ℕ) → AreRead on start.disks files → StandBoth files history → IsLegal start.founder history
      → end.status ≡ Damaged file offset → ⊥
  undamaged law files history file offset reads stands legal =
      none_such (Damaged file offset)
      (λ e. never_damaged law.first law.second law.force on start.founder start.disks files history file offset reads stands legal e.0)
      (λ e. e) (λ e. absurd cc)

  pub completes : Undamaged → (write_rose : Type 0) → (end.status ≡ WriteFault → write_rose) → (files : FilePair) (history : List Entry)
      → AreRead on start.disks files → StandBoth files history → IsLegal start.founder history → ¬ EitherRises on start.disks end.disks
      → ¬ Rises start.door.faults end.door.faults → ¬ write_rose → IsDoneOrNoMemory end.status
  completes law write_rose wrote files history reads stands legal no_disk no_door no_write = by end.status refl
    where
      by : (s : Status) → end.status ≡ s → IsDoneOrNoMemory s
      by Done is = tt
      by NoMemory is = tt
      by DiskFault is = no_disk (disk_caused is)
      by DoorFault is = no_door (door_caused is)
      by WriteFault is = no_write (wrote is)
      by (Damaged file offset) is = undamaged law files history file offset reads stands legal is
      by Usage is = no_usage is
      by (BadFrame offset) is = no_frame offset is
      by ReadFault is = no_read is
      by MirrorFault is = no_mirror is
      by (TooMany count) is = no_count count is

-- The promises of a command, by the command that the words name.
use Rattle.std.proofs.Common.{◌≡◌, ℕ, ℤ, true, false, Option, Some, None, ◌⊎◌, inl, inr, refl, sym, ap, subst}
use Rattle.std.specs.Prelude.{◌≤◌, Bool}
use Rattle.std.proofs.Math.Nat.{le_refl}
use Rattle.act_bodies.specs.declared.key.Key.{Key}
use Rattle.command_line.specs.declared.command.Command.{Command}
use Rattle.command_line.specs.declared.command.Command.TheVariants.{Run, Serve, Export, Mirror, Look, Workload, Comets}
use Rattle.command_ends.specs.Courses.{SourceWords, OutsideWords, Change, IsUncalled, Course, HasCause, StaysOpen, SinkCause, DiskCause}
use Rattle.command_ends.specs.declared.status.Status.{Status}
use Rattle.command_ends.specs.declared.status.Status.TheVariants.{ReadFault, DoorFault, MirrorFault}
use Rattle.export_command.specs.Exports.{IsOwn}
use Rattle.mirror_store.specs.Words.{MirrorWords}
use Rattle.mirror_command.specs.Ends.{IsOwn as IsOwnOfMirror}
use Rattle.look_command.specs.Ends.{IsOwn as IsOwnOfLook}
use Rattle.workload_command.specs.Ends.{IsOwn as IsOwnOfWorkload}
use Rattle.run_command.specs.Promises.{KeepsRun}
use Rattle.serve_command.specs.Promises.{DoorWords, KeepsServe}
use Rattle.comets_command.specs.Promises.{KeepsComets}
use Rattle.program_top.specs.Jobs.{is_done_alone}
use Rattle.program_top.specs.Promises.{DoorCourse, IsDoorUncalled, IsUsage, ExportsAlone, MirrorsAlone, LooksAlone, WorksAlone, HasCauses, MirrorRests, PromisesAlone, Promises}

-- ---- what wasn't called

-- it didn't fail, and the end is none of its faults
quiet : {X : Type 0} (faults : X → ℕ) (x : Change X) (fault status : Status) → IsUncalled x → (status ≡ fault → ⊥) → HasCause faults x fault status
quiet faults x fault status same other = record { cause = λ is. absurd (other is); faultless = λ _. ap faults same }

stays_open : {X : Type 0} (faults : X → ℕ) (is_open : X → Bool) (x : Change X) → IsUncalled x → StaysOpen faults is_open x
stays_open {X = X} faults is_open x same =
    record { counts = subst (λ (n : X). faults x.old ≤ faults n) (sym same) (le_refl (faults x.old)); stays = ap is_open same }

-- ---- what is promised without threads

-- of the office's disks one failed, or the register's
beside : {A B : Type 0} → A ⊎ B → A ⊎ ((true ≡ true) × B)
beside (inl office) = inl office
beside (inr register) = inr (refl, register)

module _ {S K D C M : Type 0} (read : SourceWords S) (on : OutsideWords K D C) (kept : MirrorWords M) (source : Change S) (course : Course K D C) (mirror : Change M) (register : Change D) where
  -- where the source wasn't called, and the end is none of its faults
  sourceless : (command : Option Command) → IsUncalled source → (course.status ≡ ReadFault → ⊥) → SinkCause on.sink course.sink course.status → DiskCause on.disk course.disks course.status → HasCauses read on source course register command
  sourceless command same other write disk = record {
    read_cause = (quiet read.faults source ReadFault course.status same other, stays_open read.faults read.is_open source same);
    write_cause = write;
    disk_cause = λ is. inl (disk is);
  }

  -- where nothing was called
  usage_quiet : (command : Option Command) → IsUsage source course → HasCauses read on source course register command
  usage_quiet command is =
      let status = is.status in
      sourceless command is.uncalled.0 (λ other. absurd cc)
      (quiet on.sink.faults course.sink _ course.status is.uncalled.1 (λ other. absurd cc), stays_open on.sink.faults on.sink.is_open course.sink is.uncalled.1) (λ other. absurd cc)

  -- where the mirror wasn't called, and the end is none of its faults
  unmirrored : (command : Option Command) → IsUncalled mirror → (course.status ≡ MirrorFault → ⊥) → MirrorRests kept mirror course.status command
  unmirrored command same other = record {
    cause = quiet kept.faults mirror MirrorFault course.status same other;
    counts = subst (λ (n : M). kept.faults mirror.old ≤ kept.faults n) (sym same) (le_refl (kept.faults mirror.old));
    uncalled = λ _. same;
  }

  -- the promises of a command that is done
  module _ (command : Option Command) where
    pub by_run : (key : Key) → Some (Run key) ≡ command → IsUncalled register → IsUncalled mirror → KeepsRun read on source course key → PromisesAlone read on kept source course mirror register command
    by_run key is rests same keeps = subst (λ (c : Option Command). PromisesAlone read on kept source course mirror register c) is (record {
      keeps = keeps;
      usage = (λ usage. absurd (keeps.own.0 usage), λ never. absurd cc);
      causes = record { read_cause = keeps.read_cause; write_cause = keeps.write_cause; disk_cause = λ is. inl (keeps.disk_cause is) };
      mirror_cause = unmirrored (Some (Run key)) same keeps.own.2;
      comets_untouched = λ _. rests;
    })

    pub by_export : Some Export ≡ command → IsUncalled register → IsUncalled mirror → ExportsAlone on source course → PromisesAlone read on kept source course mirror register command
    by_export is rests same alone = subst (λ (c : Option Command). PromisesAlone read on kept source course mirror register c) is (record {
      keeps = alone;
      usage = (λ usage. absurd (subst IsOwn usage alone.keeps.own), λ never. absurd cc);
      causes = sourceless _ alone.source_rests (λ other. subst IsOwn other alone.keeps.own) alone.keeps.write_cause alone.keeps.disk_cause;
      mirror_cause = unmirrored (Some Export) same (λ other. subst IsOwn other alone.keeps.own);
      comets_untouched = λ _. rests;
    })

    pub by_mirror : Some Mirror ≡ command → IsUncalled register → MirrorsAlone on kept source course mirror → PromisesAlone read on kept source course mirror register command
    by_mirror is rests alone = subst (λ (c : Option Command). PromisesAlone read on kept source course mirror register c) is (record {
      keeps = alone;
      usage = (λ usage. absurd (subst IsOwnOfMirror usage alone.keeps.own), λ never. absurd cc);
      causes = sourceless _ alone.source_rests (λ other. subst IsOwnOfMirror other alone.keeps.own) alone.keeps.write_cause alone.keeps.disk_cause;
      mirror_cause = record { cause = alone.keeps.mirror_cause; counts = alone.keeps.mirror_counts; uncalled = λ never. absurd cc };
      comets_untouched = λ _. rests;
    })

    pub by_look : (from to : ℤ) → Some (Look from to) ≡ command → IsUncalled register → LooksAlone on kept source course mirror from to → PromisesAlone read on kept source course mirror register command
    by_look from to is rests alone = subst (λ (c : Option Command). PromisesAlone read on kept source course mirror register c) is (record {
      keeps = alone;
      usage = (λ usage. absurd (subst IsOwnOfLook usage alone.keeps.own), λ never. absurd cc);
      causes = sourceless _ alone.source_rests (λ other. subst IsOwnOfLook other alone.keeps.own) alone.keeps.write_cause (λ disk. absurd (subst IsOwnOfLook disk alone.keeps.own));
      mirror_cause = record { cause = alone.keeps.mirror_cause; counts = alone.keeps.mirror_counts; uncalled = λ never. absurd cc };
      comets_untouched = λ _. rests;
    })

    pub by_workload : (seed count : ℕ) → Some (Workload seed count) ≡ command → IsUncalled register → IsUncalled mirror → WorksAlone on source course seed count → PromisesAlone read on kept source course mirror register command
    by_workload seed count is rests same alone = subst (λ (c : Option Command). PromisesAlone read on kept source course mirror register c) is (record {
      keeps = alone;
      usage = (λ usage. absurd (subst IsOwnOfWorkload usage alone.keeps.own), λ never. absurd cc);
      causes = sourceless _ alone.source_rests (λ other. subst IsOwnOfWorkload other alone.keeps.own) alone.keeps.write_cause (λ disk. absurd (subst IsOwnOfWorkload disk alone.keeps.own));
      mirror_cause = unmirrored (Some (Workload seed count)) same (λ other. subst IsOwnOfWorkload other alone.keeps.own);
      comets_untouched = λ _. rests;
    })

    pub by_comets : (key : Key) → Some (Comets key) ≡ command → IsUncalled mirror → KeepsComets read on source course register key → PromisesAlone read on kept source course mirror register command
    by_comets key is same keeps = subst (λ (c : Option Command). PromisesAlone read on kept source course mirror register c) is (record {
      keeps = keeps;
      usage = (λ usage. absurd (keeps.own.0 usage), λ never. absurd cc);
      causes = record { read_cause = keeps.read_cause; write_cause = keeps.write_cause; disk_cause = λ is. beside (keeps.disk_cause is) };
      mirror_cause = unmirrored (Some (Comets key)) same keeps.own.2;
      comets_untouched = λ never. absurd cc;
    })

  -- the end is `Usage`, and so no fault of the mirror
  usage_unmirrored : IsUsage source course → course.status ≡ MirrorFault → ⊥
  usage_unmirrored is other = let status = is.status in absurd cc

  pub by_usage : (command : Option Command) → is_done_alone command ≡ false → IsUncalled register → IsUncalled mirror → IsUsage source course → PromisesAlone read on kept source course mirror register command
  by_usage None none rests same is = record { keeps = is; usage = (λ _. none, λ _. is.status); causes = usage_quiet _ is; mirror_cause = unmirrored None same (usage_unmirrored is); comets_untouched = λ _. rests }
  by_usage (Some (Serve key connections)) none rests same is = record { keeps = is; usage = (λ _. none, λ _. is.status); causes = usage_quiet _ is; mirror_cause = unmirrored (Some (Serve key connections)) same (usage_unmirrored is); comets_untouched = λ _. rests }
  by_usage (Some (Run key)) none rests same is = absurd cc
  by_usage (Some Export) none rests same is = absurd cc
  by_usage (Some Mirror) none rests same is = absurd cc
  by_usage (Some (Look from to)) none rests same is = absurd cc
  by_usage (Some (Workload seed count)) none rests same is = absurd cc
  by_usage (Some (Comets key)) none rests same is = absurd cc

  -- ---- what is promised with them

  -- no command that is done alone ends with a fault of the door
  no_door : (command : Option Command) → PromisesAlone read on kept source course mirror register command → course.status ≡ DoorFault → ⊥
  no_door None p door = (let status = p.keeps.status in absurd cc)
  no_door (Some (Serve key connections)) p door = (let status = p.keeps.status in absurd cc)
  no_door (Some (Run key)) p door = p.keeps.own.1 door
  no_door (Some Export) p door = subst IsOwn door p.keeps.keeps.own
  no_door (Some Mirror) p door = subst IsOwnOfMirror door p.keeps.keeps.own
  no_door (Some (Look from to)) p door = subst IsOwnOfLook door p.keeps.keeps.own
  no_door (Some (Workload seed count)) p door = subst IsOwnOfWorkload door p.keeps.keeps.own
  no_door (Some (Comets key)) p door = p.keeps.own.1 door

  module _ {G I O : Type 0} (doors : DoorWords G I O) (at : DoorCourse G I O) where
    uncalled_door : (command : Option Command) → PromisesAlone read on kept source course mirror register command → IsDoorUncalled at → HasCause doors.faults at.door DoorFault course.status
    uncalled_door command p door = quiet doors.faults at.door DoorFault course.status door.0 (no_door command p)

    pub by_alone : (command : Option Command) → ((key : Key) (connections : ℕ) → command ≡ Some (Serve key connections) → ⊥) → PromisesAlone read on kept source course mirror register command → IsDoorUncalled at
        → Promises read on kept doors source course mirror register at command
    by_alone None other p door = record { keeps = (p.keeps, door); usage = p.usage; causes = p.causes; mirror_cause = p.mirror_cause; comets_untouched = p.comets_untouched; door_cause = uncalled_door None p door }
    by_alone (Some (Run key)) other p door = record { keeps = (p.keeps, door); usage = p.usage; causes = p.causes; mirror_cause = p.mirror_cause; comets_untouched = p.comets_untouched; door_cause = uncalled_door (Some (Run key)) p door }
    by_alone (Some Export) other p door = record { keeps = (p.keeps, door); usage = p.usage; causes = p.causes; mirror_cause = p.mirror_cause; comets_untouched = p.comets_untouched; door_cause = uncalled_door (Some Export) p door }
    by_alone (Some Mirror) other p door = record { keeps = (p.keeps, door); usage = p.usage; causes = p.causes; mirror_cause = p.mirror_cause; comets_untouched = p.comets_untouched; door_cause = uncalled_door (Some Mirror) p door }
    by_alone (Some (Look from to)) other p door = record { keeps = (p.keeps, door); usage = p.usage; causes = p.causes; mirror_cause = p.mirror_cause; comets_untouched = p.comets_untouched; door_cause = uncalled_door (Some (Look from to)) p door }
    by_alone (Some (Workload seed count)) other p door = record { keeps = (p.keeps, door); usage = p.usage; causes = p.causes; mirror_cause = p.mirror_cause; comets_untouched = p.comets_untouched; door_cause = uncalled_door (Some (Workload seed count)) p door }
    by_alone (Some (Comets key)) other p door = record { keeps = (p.keeps, door); usage = p.usage; causes = p.causes; mirror_cause = p.mirror_cause; comets_untouched = p.comets_untouched; door_cause = uncalled_door (Some (Comets key)) p door }
    by_alone (Some (Serve key connections)) other p door = absurd (other key connections refl)

    pub by_serve : (key : Key) (connections : ℕ) (command : Option Command) → Some (Serve key connections) ≡ command → IsUncalled register → IsUncalled mirror → IsUncalled source → KeepsServe on doors course at.door at.ends key connections
        → Promises read on kept doors source course mirror register at command
    by_serve key connections command is untouched rests same keeps = subst (λ (c : Option Command). Promises read on kept doors source course mirror register at c) is (record {
      keeps = (same, keeps);
      usage = (λ usage. absurd (keeps.own.0 usage), λ never. absurd cc);
      causes = sourceless _ same keeps.own.1 keeps.write_cause keeps.disk_cause;
      mirror_cause = unmirrored (Some (Serve key connections)) rests keeps.own.3;
      comets_untouched = λ _. untouched;
      door_cause = keeps.door_cause;
    })

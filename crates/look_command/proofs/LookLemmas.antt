-- What follows from what was written of some rows.
use Rattle.std.proofs.Common.{◌≡◌, ℤ, ℕ, List, Option, Some, subst, ap, ◌∙◌, refl}
use Rattle.std.specs.Prelude.{◌++◌, flat_map}
use Rattle.command_ends.specs.declared.status.Status.{Status}
use Rattle.command_ends.specs.declared.status.Status.TheVariants.{Done, Usage, BadFrame, DiskFault, Damaged, ReadFault, WriteFault, NoMemory, DoorFault, MirrorFault, TooMany}
use Rattle.command_ends.specs.Courses.{SinkWords, Change}
use Rattle.command_ends.specs.Statuses.{IsDoneOrNoMemory}
use Rattle.mirror_store.specs.declared.rows.MirrorRows.{MirrorRows}
use Rattle.look_command.specs.Looks.{first_moment, look_text, object_line, sight_line}
use Rattle.look_command.specs.Ends.{Shows, Looks, Writes, IsOwn}

-- the text of a mirror that tells its lists
told_text : (told : Option MirrorRows) (from to : ℤ) (P : List ℕ → Type 0) (lists : MirrorRows) → told ≡ Some lists → Shows told (first_moment from) (first_moment to) P → P (look_text from to lists)
told_text told from to P lists is shows =
    subst P
    (ap (λ (t : List ℕ). t ++ flat_map sight_line shows.sights) (ap (flat_map object_line) (shows.seen.objects_told lists is))
    ∙ ap (λ (t : List ℕ). flat_map object_line lists.objects ++ t) (ap (flat_map sight_line) (shows.seen.sights_told lists is)))
    shows.written

module _ {K : Type 0} (write : SinkWords K) (told : Option MirrorRows) (from to : ℤ) (sink : Change K) where
  pub of_told : (lists : MirrorRows) → told ≡ Some lists → (status : Status) → Looks write told (first_moment from) (first_moment to) sink status → Writes write sink (look_text from to lists) status
  of_told lists is Done ends = told_text told from to _ lists is ends
  of_told lists is WriteFault ends = told_text told from to _ lists is ends
  of_told lists is MirrorFault ends = ends
  of_told lists is NoMemory ends = ends
  of_told lists is Usage ends = ends
  of_told lists is (BadFrame offset) ends = ends
  of_told lists is DiskFault ends = ends
  of_told lists is (Damaged file offset) ends = ends
  of_told lists is ReadFault ends = ends
  of_told lists is DoorFault ends = ends
  of_told lists is (TooMany count) ends = ends

  pub own : (status : Status) → Looks write told (first_moment from) (first_moment to) sink status → IsOwn status
  own Done ends = tt
  own WriteFault ends = tt
  own NoMemory ends = tt
  own MirrorFault ends = tt
  own Usage ends = ends
  own (BadFrame offset) ends = ends
  own DiskFault ends = ends
  own (Damaged file offset) ends = ends
  own ReadFault ends = ends
  own DoorFault ends = ends
  own (TooMany count) ends = ends

  pub complete : (status : Status) → Looks write told (first_moment from) (first_moment to) sink status → (status ≡ WriteFault → ⊥) → (status ≡ MirrorFault → ⊥) → IsDoneOrNoMemory status
  complete Done ends writes mirrors = tt
  complete NoMemory ends writes mirrors = tt
  complete WriteFault ends writes mirrors = writes refl
  complete MirrorFault ends writes mirrors = mirrors refl
  complete Usage ends writes mirrors = ends
  complete (BadFrame offset) ends writes mirrors = ends
  complete DiskFault ends writes mirrors = ends
  complete (Damaged file offset) ends writes mirrors = ends
  complete ReadFault ends writes mirrors = ends
  complete DoorFault ends writes mirrors = ends
  complete (TooMany count) ends writes mirrors = ends

-- An office that couldn't be opened.
use Rattle.std.proofs.Common.{◌≡◌, ℕ, ◌+◌, ◌-◌, ◌<◌, List, Option, Some, None, refl, sym, subst, ◌∙◌, inl, inr, arith}
use Rattle.std.specs.Prelude.{◌≢◌, IfSome}
use Rattle.obs_journal.specs.declared.fault.OpenFault.{OpenFault}
use Rattle.obs_journal.specs.declared.fault.OpenFault.TheVariants as opening
use Rattle.disk_model.specs.Moments.{during_nothing}
use Rattle.obs_journal.specs.Chains.{IsInForce}
use Rattle.act_bodies.specs.declared.key.Key.{Key}
use Rattle.act_model.specs.declared.entry.Entry.{Entry}
use Rattle.act_model.specs.Legal.{IsLegal}
use Rattle.mpc_desk.specs.Desks.{count_of}
use Rattle.mpc_desk.specs.Pairs.{FilePair, StandBoth, DiskPair, AreRead, HaveRisen, NeitherFell, EitherRises}
use Rattle.mpc_desk.specs.PairLaws.{both_nothing, never_damaged}
use Rattle.mpc_desk.specs.Opening.{SpellAlike, IsDamagedFirst, IsDamagedSecond, IsUnopened}
use Rattle.mpc_desk.specs.Files.{Stands, StandsFirst}
use Rattle.command_ends.specs.declared.status.Status.{Status}
use Rattle.command_ends.specs.declared.status.Status.TheVariants.{Damaged}
use Rattle.command_ends.specs.Disks.{DiskWords}
use Rattle.command_ends.specs.Opening.{status_of, IsNotOpened, AreAsTheyWere, EndsUnopened}
use Rattle.command_ends.proofs.Counts.{rose_any, rose_fault, rose_none}

if_each : (reads : Option (List ℕ)) (P : List ℕ → Type 0) → ((file : List ℕ) → P file) → IfSome reads P
if_each None P each = tt
if_each (Some file) P each = each file

module _ {D : Type 0} (on : DiskWords D) (founder : Key) (disks now : DiskPair D) (added : ℕ) (none : added ≡ 0) where
  -- both counts rose by their differences
  any_rise : NeitherFell on disks now → (rise : ℕ) × HaveRisen on rise disks now
  any_rise later = (
    (count_of (on.faults now.first) - count_of (on.faults disks.first)) + (count_of (on.faults now.second) - count_of (on.faults disks.second)),
    record {
      first = count_of (on.faults now.first) - count_of (on.faults disks.first);
      second = count_of (on.faults now.second) - count_of (on.faults disks.second);
      sum = refl;
      rose_first = rose_any (on.faults disks.first) (on.faults now.first) later.first;
      rose_second = rose_any (on.faults disks.second) (on.faults now.second) later.second;
    },
  )

  -- or one of them by something
  some_rise : NeitherFell on disks now → EitherRises on disks now → (rise : ℕ) × (0 < rise) × HaveRisen on rise disks now
  some_rise later (inl rises) =
      let (rise, some, rose) = rose_fault (on.faults disks.first) (on.faults now.first) later.first rises in
      let other = count_of (on.faults now.second) - count_of (on.faults disks.second) in (
        rise + other,
        omega (arith, some),
        record { first = rise; second = other; sum = refl; rose_first = rose; rose_second = rose_any (on.faults disks.second) (on.faults now.second) later.second },
      )
  some_rise later (inr rises) =
      let (rise, some, rose) = rose_fault (on.faults disks.second) (on.faults now.second) later.second rises in
      let other = count_of (on.faults now.first) - count_of (on.faults disks.first) in (
        other + rise,
        omega (arith, some),
        record { first = other; second = rise; sum = refl; rose_first = rose_any (on.faults disks.first) (on.faults now.first) later.first; rose_second = rose },
      )

  module _ (fault : OpenFault) (left : IsUnopened on founder disks fault now) where
    shut : (rise : ℕ) → HaveRisen on rise disks now → IsNotOpened on disks now added rise
    shut rise counts = record { added_is = none; counts = counts; images = left.images; uncalled = left.uncalled }

    as_they_were : fault ≢ opening.DiskFault → AreAsTheyWere on disks now added
    as_they_were other =
        let (rise, rose) = any_rise left.counts in
        record { rise = rise; shut = shut rise rose; second_unwritten = left.second_unwritten other; first_unwritten = left.first_unwritten other }

  pub unopened_ends : (fault : OpenFault) → IsUnopened on founder disks fault now → EndsUnopened on founder disks now added (status_of fault)
  unopened_ends opening.DiskFault left =
      let (rise, some, rose) = some_rise left.counts (left.cause refl) in
      (rise, some, shut opening.DiskFault left rise rose)
  unopened_ends (opening.Damaged file offset) left = (left.damaged file offset refl, as_they_were (opening.Damaged file offset) left (λ is. absurd cc))
  unopened_ends opening.NoMemory left = as_they_were opening.NoMemory left (λ is. absurd cc)

  -- where no device was called
  pub nothing_called : ((disk : D) (image : List ℕ) → on.since disk (on.moment disk) image → on.leaves disk image) → now ≡ disks → AreAsTheyWere on disks now added
  nothing_called only_now same = subst (λ (n : DiskPair D). AreAsTheyWere on disks n added) (sym same) (record {
    rise = 0;
    shut = record {
      added_is = none;
      counts = record { first = 0; second = 0; sum = refl; rose_first = rose_none (on.faults disks.first); rose_second = rose_none (on.faults disks.second) };
      images = both_nothing on only_now disks (SpellAlike on disks);
      uncalled = if_each (on.reads disks.second) (λ file. IsInForce file → disks.first ≡ disks.first) (λ file force. refl);
    };
    second_unwritten = record { same = refl; no_image = during_nothing disks.second (λ _. ⊥) };
    first_unwritten = λ known. record { same = refl; no_image = during_nothing disks.first (λ _. ⊥) };
  })

-- the status says what damage it is
status_damaged : (fault : OpenFault) (file offset : ℕ) → status_of fault ≡ Damaged file offset → fault ≡ opening.Damaged file offset
status_damaged opening.DiskFault file offset is = absurd cc
status_damaged (opening.Damaged number place) file offset is = cc
status_damaged opening.NoMemory file offset is = absurd cc

-- files that stand for a legal history aren't damaged
pub undamaged : (first : (founder : Key) (file : List ℕ) (offset : ℕ) (history : List Entry) → IsDamagedFirst founder file offset → IsLegal founder history → StandsFirst file history → ⊥)
    → (second : (founder : Key) (file : List ℕ) (offset : ℕ) (history : List Entry) → IsDamagedSecond founder file offset → IsLegal founder history → Stands file history → ⊥)
    → (force : (founder : Key) (file : List ℕ) (offset : ℕ) → IsDamagedSecond founder file offset → IsInForce file)
    → {D : Type 0} (on : DiskWords D) (founder : Key) (disks now : DiskPair D) (fault : OpenFault) (status : Status) → status ≡ status_of fault → IsUnopened on founder disks fault now
    → (files : FilePair) (history : List Entry) (file offset : ℕ) → AreRead on disks files → StandBoth files history → IsLegal founder history → status ≡ Damaged file offset → ⊥
undamaged first second force on founder disks now fault status is left files history file offset read stood legal at =
    never_damaged first second force on founder disks files history file offset read stood legal (left.damaged file offset (status_damaged fault file offset (sym is ∙ at)))

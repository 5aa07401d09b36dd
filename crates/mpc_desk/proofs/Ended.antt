-- How opening ends: on the second disk where it is in force, else on the first, which is carried over.
use Rattle.std.proofs.Common.{◌≡◌, ◌≢◌, ◌⊎◌, ℕ, ◌≤◌, List, Option, Some, None, refl, sym, subst, ◌∙◌, inl, inr, ⊎_elim, le_refl, le_trans, arith}
use Rattle.std.specs.Prelude.{IfSome, IsSome}
use Rattle.call_log.specs.Counts.{Rises}
use Rattle.disk_model.specs.Crashes.{During}
use Rattle.disk_model.specs.Moments.{during_nothing, during_joined, during_weaker}
use Rattle.obs_journal.specs.declared.fault.OpenFault.{OpenFault}
use Rattle.obs_journal.specs.declared.fault.OpenFault.TheVariants.{DiskFault, Damaged, NoMemory}
use Rattle.obs_journal.specs.Parcels.{RawParcel}
use Rattle.obs_journal.specs.Files.{Spells}
use Rattle.obs_journal.specs.Chains.{IsInForce, IsChain}
use Rattle.obs_journal.specs.Journals.{IsUnwritten}
use Rattle.obs_journal.specs.Moves.{IsIdle, IsCarriedInto}
use Rattle.obs_journal.specs.Opening.{SpellsAlike}
use Rattle.act_bodies.specs.declared.key.Key.{Key}
use Rattle.act_model.specs.declared.entry.Entry.{Entry}
use Rattle.act_model.specs.Legal.{IsLegal}
use Rattle.mpc_desk.specs.Desks.{DeskState, IsAtRest}
use Rattle.mpc_desk.specs.Disks.{DiskWords}
use Rattle.mpc_desk.specs.Files.{Stands, StandsFirst}
use Rattle.mpc_desk.specs.Pairs.{FilePair, StandBoth, DiskPair, pair, AreRead, AreLeft, DuringBoth, IsFirstUncalled, NeitherFell}
use Rattle.mpc_desk.specs.PairLaws.{both_weaker}
use Rattle.mpc_desk.specs.Opening.{StandAlike, SpellAlike, IsCarriedOver, IsDamagedFirst, IsDamagedSecond, IsDamagedOn, IsOpened, IsUnopened}
use Rattle.mpc_desk.proofs.Opened.{if_some, at_file}
use Rattle.mpc_desk.proofs.Pairing.{decides, spelled_stand, moved, both_stay}

if_each : (reads : Option (List ℕ)) (P : List ℕ → Type 0) → ((file : List ℕ) → P file) → IfSome reads P
if_each None P each = tt
if_each (Some file) P each = each file

rises_later : (a m b : ℕ) → a ≤ m → Rises m b → Rises a b
rises_later a m b later rises = omega (arith, later, rises)

-- neither of the other faults is damage
pub disk_is_no_damage : (file offset : ℕ) → DiskFault ≡ Damaged file offset → ⊥
disk_is_no_damage file offset is = absurd cc

pub memory_is_no_damage : (file offset : ℕ) → NoMemory ≡ Damaged file offset → ⊥
memory_is_no_damage file offset is = absurd cc

pub memory_is_no_disk : NoMemory ≡ DiskFault → ⊥
memory_is_no_disk is = absurd cc

module _ {D : Type 0} (on : DiskWords D) (as_read : (disk : D) (file : List ℕ) → on.reads disk ≡ Some file → on.leaves disk file)
    (known : (disk : D) (image : List ℕ) → on.leaves disk image → IsSome (on.reads disk))
    (counts_now : (disk : D) (t : ℕ) (image : List ℕ) → t ≤ on.moment disk → on.leaves disk image → on.since disk t image)
    (only_now : (disk : D) (image : List ℕ) → on.since disk (on.moment disk) image → on.leaves disk image)
    (one_list : (file : List ℕ) (ps qs : List RawParcel) → Spells file ps → Spells file qs → ps ≡ qs)
    (one_chain : (file : List ℕ) (ps qs : List RawParcel) → IsChain file ps → IsChain file qs → ps ≡ qs)
    (in_force : (file : List ℕ) (ps : List RawParcel) → IsChain file ps → IsInForce file)
    (founder : Key)
    (damage_first : (file : List ℕ) (offset : ℕ) (history : List Entry) → IsDamagedFirst founder file offset → IsLegal founder history → StandsFirst file history → ⊥)
    (damage_second : (file : List ℕ) (offset : ℕ) (history : List Entry) → IsDamagedSecond founder file offset → IsLegal founder history → Stands file history → ⊥)
    (damaged_force : (file : List ℕ) (offset : ℕ) → IsDamagedSecond founder file offset → IsInForce file)
    (first second mid : D)
    (quiet : IsUnwritten on.reads on.moment on.since second mid) (counted : on.faults second ≤ on.faults mid) where
  abbrev start : DiskPair D
  start = pair first second

  at_mid : (P : List ℕ → Type 0) → IfSome (on.reads mid) P → IfSome (on.reads second) P
  at_mid P holds = subst (λ (o : Option (List ℕ)). IfSome o P) quiet.same holds

  unwritten_on : (now : D) → IsUnwritten on.reads on.moment on.since mid now → IsUnwritten on.reads on.moment on.since second now
  unwritten_on now more = record { same = more.same ∙ quiet.same; no_image = during_joined quiet.no_image more.no_image }

  -- no disk was written
  stays : (now : D) → IsUnwritten on.reads on.moment on.since second now → (P : FilePair → Type 0) → DuringBoth on start (pair first now) P
  stays now unwritten P = both_stay on as_read known counts_now only_now start (pair first now) P (during_nothing first (λ _. ⊥)) unwritten.no_image

  fell : (now : D) → on.faults mid ≤ on.faults now → NeitherFell on start (pair first now)
  fell now counts = record { first = le_refl _; second = le_trans counted counts }

  same_first : (now : D) → IsFirstUncalled on start (pair first now)
  same_first now = if_each (on.reads second) (λ file. IsInForce file → first ≡ first) (λ file force. refl)

  -- a file isn't damaged where all that a crash may leave stands for a legal history
  sound_on : (file offset : ℕ) → IsDamagedOn on founder start file offset → (read : FilePair) → AreRead on start read
      → ((files : FilePair) → AreLeft on start files → (history : List Entry) × IsLegal founder history × StandBoth files history) → ⊥
  sound_on file offset damaged read are each =
      let (history, legal, stood) = each read (as_read first read.first are.first, as_read second read.second are.second) in
      by damaged history legal stood
    where
      by : IsDamagedOn on founder start file offset → (history : List Entry) → IsLegal founder history → StandBoth read history → ⊥
      by (inl (is, broken)) history legal stood =
          let at = at_file (on.reads second) (λ bytes. IsDamagedSecond founder bytes offset) read.second are.second broken in
          damage_second read.second offset history at legal (stood.in_force (damaged_force read.second offset at))
      by (inr (is, idle, broken)) history legal stood =
          damage_first read.first offset history (at_file (on.reads first) (λ bytes. IsDamagedFirst founder bytes offset) read.first are.first broken) legal
          (stood.idle (at_file (on.reads second) IsIdle read.second are.second idle))

  -- ---- nothing was opened yet

  pub unopened_yet : (fault : OpenFault) → (now : D) → IsUnwritten on.reads on.moment on.since second now → on.faults mid ≤ on.faults now → ((file offset : ℕ) → fault ≡ Damaged file offset → ⊥)
      → (fault ≡ DiskFault → Rises (on.faults second) (on.faults now)) → IsUnopened on founder start fault (pair first now)
  unopened_yet fault now unwritten counts never rises = record {
    cause = λ is. inr (rises is);
    damaged = λ file offset is. absurd (never file offset is);
    sound = λ file offset is read are each. never file offset is;
    second_unwritten = λ _. unwritten;
    first_unwritten = λ _ _. record { same = refl; no_image = during_nothing first (λ _. ⊥) };
    images = stays now unwritten (SpellAlike on start);
    counts = fell now counts;
    uncalled = same_first now;
  }

  -- ---- the second disk is in force

  module _ (now : D) (unwritten : IsUnwritten on.reads on.moment on.since mid now) (counts : on.faults mid ≤ on.faults now) where
    pub opened_second : (limit : ℕ) (desk : DeskState D) → desk.disk ≡ now → desk.founder ≡ founder → desk.limit ≡ limit → desk.state.doubt ≡ None → IfSome (on.reads mid) (λ file. Stands file desk.state.settled) → IsLegal founder desk.state.settled → IsAtRest on.leaves desk
        → IsOpened on founder limit start (record { first = first; chained = desk })
    opened_second limit desk same keys limits settled stands legal rests = record {
      founder_is = keys;
      limit_is = limits;
      settled = settled;
      stood = λ files read. decides in_force files desk.state.settled (at_file (on.reads second) (λ file. Stands file desk.state.settled) files.second read.second (at_mid (λ file. Stands file desk.state.settled) stands));
      legal = legal;
      at_rest = rests;
      images = subst (λ (d : D). DuringBoth on start (pair first d) (StandAlike on start desk.state.settled)) (sym same) (stays now (unwritten_on now unwritten) (StandAlike on start desk.state.settled));
      counts = subst (λ (d : D). NeitherFell on start (pair first d)) (sym same) (fell now counts);
      uncalled = subst (λ (d : D). IsFirstUncalled on start (pair first d)) (sym same) (same_first now);
    }

    pub unopened_second : (fault : OpenFault) → (fault ≡ DiskFault → Rises (on.faults mid) (on.faults now))
        → ((file offset : ℕ) → fault ≡ Damaged file offset → (file ≡ 2) × IfSome (on.reads mid) (λ bytes. IsDamagedSecond founder bytes offset)) → IsUnopened on founder start fault (pair first now)
    unopened_second fault rises damaged =
        let damage : (file offset : ℕ) → fault ≡ Damaged file offset → IsDamagedOn on founder start file offset = λ file offset is. let d = damaged file offset is in inl (d.0, at_mid (λ bytes. IsDamagedSecond founder bytes offset) d.1) in
        record {
          cause = λ is. inr (rises_later (on.faults second) (on.faults mid) (on.faults now) counted (rises is));
          damaged = damage;
          sound = λ file offset is read are each. sound_on file offset (damage file offset is) read are each;
          second_unwritten = λ _. unwritten_on now unwritten;
          first_unwritten = λ _ _. record { same = refl; no_image = during_nothing first (λ _. ⊥) };
          images = stays now (unwritten_on now unwritten) (SpellAlike on start);
          counts = fell now counts;
          uncalled = same_first now;
        }

  -- ---- the first disk is carried over

  module _ (idle : IfSome (on.reads mid) IsIdle) (first_now now : D) (first_moment : During on.moment on.since first first_now (SpellsAlike (on.reads first)))
      (first_counts : on.faults first ≤ on.faults first_now) (second_counts : on.faults mid ≤ on.faults now) where
    abbrev end : DiskPair D
    end = pair first_now now

    idle_first : IfSome (on.reads second) IsIdle
    idle_first = at_mid IsIdle idle

    carried_on : IsCarriedOver on first mid now → IsCarriedOver on first second now
    carried_on (parcels, spelled, carries) = (
      parcels,
      spelled,
      subst (λ (o : Option (List ℕ)). During on.moment on.since second now (IsCarriedInto o parcels)) quiet.same
          (during_joined (during_weaker (IsCarriedInto (on.reads mid) parcels) (λ image never. absurd never) quiet.no_image) carries),
    )

    moments : (now ≡ mid) ⊎ IsCarriedOver on first mid now → DuringBoth on start end (SpellAlike on start)
    moments which =
        moved on as_read known counts_now only_now start end idle_first in_force first_moment
        (⊎_elim (λ same. inl (subst (λ (d : D). During on.moment on.since second d (λ _. ⊥)) (sym same) quiet.no_image)) (λ carries. inr (carried_on carries)) which)

    both_counts : NeitherFell on start end
    both_counts = record { first = first_counts; second = le_trans counted second_counts }

    not_called : IsFirstUncalled on start end
    not_called = if_some (on.reads second) IsIdle (λ file. IsInForce file → first_now ≡ first) (λ file still force. absurd (still force)) idle_first

    pub opened_moved : (limit : ℕ) (desk : DeskState D) → desk.disk ≡ now → desk.founder ≡ founder → desk.limit ≡ limit → desk.state.doubt ≡ None → IfSome (on.reads first) (λ file. StandsFirst file desk.state.settled) → IsLegal founder desk.state.settled → IsAtRest on.leaves desk
        → IsCarriedOver on first mid now → IsOpened on founder limit start (record { first = first_now; chained = desk })
    opened_moved limit desk same keys limits settled stands legal rests carries =
        let stood : (files : FilePair) → AreRead on start files → StandBoth files desk.state.settled = λ files read. record {
          in_force = λ force. absurd (at_file (on.reads second) IsIdle files.second read.second idle_first force);
          idle = λ _. at_file (on.reads first) (λ file. StandsFirst file desk.state.settled) files.first read.first stands;
        } in
        record {
          founder_is = keys;
          limit_is = limits;
          settled = settled;
          stood = stood;
          legal = legal;
          at_rest = rests;
          images = subst (λ (d : D). DuringBoth on start (pair first_now d) (StandAlike on start desk.state.settled)) (sym same)
              (both_weaker (StandAlike on start desk.state.settled)
              (λ files alike. record {
                before = alike.before;
                read = alike.read;
                stood = stood alike.before alike.read;
                now = spelled_stand one_list one_chain alike.before files alike.parcels desk.state.settled alike.spelled alike.now (stood alike.before alike.read);
              })
              (moments (inr carries)));
          counts = subst (λ (d : D). NeitherFell on start (pair first_now d)) (sym same) both_counts;
          uncalled = subst (λ (d : D). IsFirstUncalled on start (pair first_now d)) (sym same) not_called;
        }

    pub unopened_moved : (fault : OpenFault) → (now ≡ mid) ⊎ IsCarriedOver on first mid now → (fault ≡ DiskFault → Rises (on.faults first) (on.faults first_now) ⊎ Rises (on.faults mid) (on.faults now))
        → ((file offset : ℕ) → fault ≡ Damaged file offset → (file ≡ 1) × IfSome (on.reads first) (λ bytes. IsDamagedFirst founder bytes offset))
        → (fault ≢ DiskFault → IsSome (on.reads first) → IsUnwritten on.reads on.moment on.since first first_now) → (fault ≢ DiskFault → now ≡ mid) → IsUnopened on founder start fault end
    unopened_moved fault which rises damaged kept same =
        let damage : (file offset : ℕ) → fault ≡ Damaged file offset → IsDamagedOn on founder start file offset = λ file offset is. let d = damaged file offset is in inr (d.0, idle_first, d.1) in
        record {
          cause = λ is. ⊎_elim (λ r. inl r) (λ r. inr (rises_later (on.faults second) (on.faults mid) (on.faults now) counted r)) (rises is);
          damaged = damage;
          sound = λ file offset is read are each. sound_on file offset (damage file offset is) read are each;
          second_unwritten = λ other. subst (λ (d : D). IsUnwritten on.reads on.moment on.since second d) (sym (same other)) quiet;
          first_unwritten = kept;
          images = moments which;
          counts = both_counts;
          uncalled = not_called;
        }

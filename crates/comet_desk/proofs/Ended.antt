-- How opening a register ends.
use Rattle.std.proofs.Common.{◌≡◌, ℕ, ◌≤◌, List, [], Option, Some, None, Result, Ok, Err, refl, sym, subst, ◌∙◌, ⊎_elim, le_trans, arith}
use Rattle.std.specs.Prelude.{IfSome, IsSome, IfOk, IfErr}
use Rattle.call_log.specs.Counts.{Rises}
use Rattle.disk_model.specs.Crashes.{During}
use Rattle.disk_model.specs.Moments.{during_joined, during_weaker}
use Rattle.obs_journal.specs.declared.fault.OpenFault.{OpenFault}
use Rattle.obs_journal.specs.declared.fault.OpenFault.TheVariants.{DiskFault, Damaged, NoMemory}
use Rattle.obs_journal.specs.Chains.{IsInForce, IsChain}
use Rattle.obs_journal.specs.Journals.{IsUnwritten}
use Rattle.obs_journal.specs.Moves.{IsIdle, IsCarried, IsCarriedInto}
use Rattle.obs_journal.specs.Parcels.{RawParcel}
use Rattle.act_bodies.specs.declared.key.Key.{Key}
use Rattle.act_model.specs.declared.deed.Deed.{Deed}
use Rattle.act_model.specs.declared.entry.Entry.{Entry}
use Rattle.mpc_desk.specs.Disks.{DiskWords}
use Rattle.mpc_desk.specs.Files.{Stands}
use Rattle.comet_model.specs.Legal.{IsLegal}
use Rattle.comet_desk.specs.Files.{HoldsEntries}
use Rattle.comet_desk.specs.Desks.{CometDeskState, IsBeside, IsAtRest}
use Rattle.comet_desk.specs.Opening.{IsDamaged, HoldsAlike, IsOpened, IsUnopened, EndsOpening, disk_after}
use Rattle.comet_desk.proofs.Replayed.{if_some}
use Rattle.comet_desk.proofs.OneRegister.{holds_stands, holds_none}

rises_later : (a m b : ℕ) → a ≤ m → Rises m b → Rises a b
rises_later a m b later rises = omega (arith, later, rises)

-- neither of the other faults is damage
pub disk_is_no_damage : (file offset : ℕ) → DiskFault ≡ Damaged file offset → ⊥
disk_is_no_damage file offset is = absurd cc

pub memory_is_no_damage : (file offset : ℕ) → NoMemory ≡ Damaged file offset → ⊥
memory_is_no_damage file offset is = absurd cc

pub memory_is_no_disk : NoMemory ≡ DiskFault → ⊥
memory_is_no_disk is = absurd cc

if_each : (reads : Option (List ℕ)) (P : List ℕ → Type 0) → ((file : List ℕ) → P file) → IfSome reads P
if_each None P each = tt
if_each (Some file) P each = each file

-- of a disk that reads a file something holds
at_reads : (reads : Option (List ℕ)) (P : List ℕ → Type 0) (Q : Type 0) → ((file : List ℕ) → reads ≡ Some file → P file → Q) → IsSome reads → IfSome reads P → Q
at_reads None P Q each known holds = absurd cc
at_reads (Some file) P Q each known holds = each file refl holds

module _ {D : Type 0} (on : DiskWords D) (as_read : (disk : D) (file : List ℕ) → on.reads disk ≡ Some file → on.leaves disk file)
    (in_force : (file : List ℕ) (ps : List RawParcel) → IsChain file ps → IsInForce file)
    (founder : Key) (limit : ℕ) (desk : List Deed)
    (undamaged : (file : List ℕ) (offset : ℕ) (entries : List Entry) → IsDamaged founder desk file offset → IsLegal founder desk entries → HoldsEntries file entries → ⊥)
    (disk mid : D) (quiet : IsUnwritten on.reads on.moment on.since disk mid) (counted : on.faults disk ≤ on.faults mid) where
  at_mid : (P : List ℕ → Type 0) → IfSome (on.reads mid) P → IfSome (on.reads disk) P
  at_mid P holds = subst (λ (o : Option (List ℕ)). IfSome o P) quiet.same holds

  -- ---- nothing was opened yet

  pub unopened_yet : (fault : OpenFault) (now : D) → IsUnwritten on.reads on.moment on.since disk now → on.faults disk ≤ on.faults now → ((file offset : ℕ) → fault ≡ Damaged file offset → ⊥)
      → (fault ≡ DiskFault → Rises (on.faults disk) (on.faults now)) → IsUnopened on founder desk disk fault now
  unopened_yet fault now unwritten counts never rises = record {
    cause = rises;
    damaged = λ file offset is. absurd (never file offset is);
    sound = λ file offset is known each. never file offset is;
    unwritten = λ _. unwritten;
    images = during_weaker (HoldsAlike (on.reads disk)) (λ image none. absurd none) unwritten.no_image;
    counts = counts;
  }

  -- ---- the file is in force

  module _ (keys : Key) (same : keys ≡ founder) where
    under : (P : Key → Type 0) → P keys → P founder
    under P has = subst P same has

    chain_opened : (opened : CometDeskState D) → IfSome (on.reads mid) (λ file. Stands file opened.state.settled) → opened.state.doubt ≡ None → IsBeside desk opened → IsAtRest on.leaves opened → opened.founder ≡ keys → opened.limit ≡ limit
        → IsUnwritten on.reads on.moment on.since mid opened.disk → on.faults mid ≤ on.faults opened.disk → IsOpened on founder limit desk disk opened
    chain_opened opened stands settled beside rests its_key its_limit unwritten counts = record {
      founder_is = its_key ∙ same;
      limit_is = its_limit;
      settled = settled;
      stood = if_some (on.reads disk) (λ file. Stands file opened.state.settled) (λ file. HoldsEntries file opened.state.settled) (λ file stood. holds_stands in_force file opened.state.settled stood) (at_mid (λ file. Stands file opened.state.settled) stands);
      legal = subst (λ (k : Key). IsLegal k desk opened.state.settled) (its_key ∙ same) beside.legal.0;
      beside = beside;
      at_rest = rests;
      images = during_weaker (λ image. HoldsEntries image opened.state.settled) (λ image none. absurd none) (during_joined quiet.no_image unwritten.no_image);
      unwritten = if_each (on.reads disk) (λ file. IsInForce file → IsUnwritten on.reads on.moment on.since disk opened.disk)
          (λ file force. record { same = unwritten.same ∙ quiet.same; no_image = during_joined quiet.no_image unwritten.no_image });
      counts = le_trans counted counts;
    }

    chain_unopened : (fault : OpenFault) (now : D) → ((file offset : ℕ) → fault ≡ Damaged file offset → (file ≡ 3) × IfSome (on.reads mid) (λ bytes. IsDamaged keys desk bytes offset))
        → IsUnwritten on.reads on.moment on.since mid now → on.faults mid ≤ on.faults now → (fault ≡ DiskFault → Rises (on.faults mid) (on.faults now)) → IsUnopened on founder desk disk fault now
    chain_unopened fault now damaged unwritten counts rises =
        let damage : (file offset : ℕ) → fault ≡ Damaged file offset → (file ≡ 3) × IfSome (on.reads disk) (λ bytes. IsDamaged founder desk bytes offset) =
        λ file offset is. let d = damaged file offset is in (d.0, at_mid (λ bytes. IsDamaged founder desk bytes offset) (under (λ k. IfSome (on.reads mid) (λ bytes. IsDamaged k desk bytes offset)) d.1)) in
        let all : IsUnwritten on.reads on.moment on.since disk now = record { same = unwritten.same ∙ quiet.same; no_image = during_joined quiet.no_image unwritten.no_image } in
        record {
          cause = λ is. rises_later (on.faults disk) (on.faults mid) (on.faults now) counted (rises is);
          damaged = damage;
          sound = λ file offset is known each.
              at_reads (on.reads disk) (λ bytes. IsDamaged founder desk bytes offset) ⊥
              (λ bytes reads broken. let held = each bytes (as_read disk bytes reads) in undamaged bytes offset held.0 broken held.1 held.2)
              known (damage file offset is).1;
          unwritten = λ _. all;
          images = during_weaker (HoldsAlike (on.reads disk)) (λ image none. absurd none) all.no_image;
          counts = le_trans counted counts;
        }

    pub ends_chain : (result : Result (CometDeskState D) (OpenFault × D)) → IfOk result (λ opened. IfSome (on.reads mid) (λ file. Stands file opened.state.settled)) → IfOk result (λ opened. opened.state.doubt ≡ None) → IfOk result (IsBeside desk) → IfOk result (IsAtRest on.leaves)
        → IfOk result (λ opened. opened.founder ≡ keys) → IfOk result (λ opened. opened.limit ≡ limit)
        → IfErr result (λ failed. (file offset : ℕ) → failed.0 ≡ Damaged file offset → (file ≡ 3) × IfSome (on.reads mid) (λ bytes. IsDamaged keys desk bytes offset))
        → IsUnwritten on.reads on.moment on.since mid (disk_after result) → on.faults mid ≤ on.faults (disk_after result) → IfErr result (λ failed. failed.0 ≡ DiskFault → Rises (on.faults mid) (on.faults failed.1)) → EndsOpening on founder limit desk disk result
    ends_chain (Ok opened) stands settled beside rests its_key its_limit damaged unwritten counts rises = chain_opened opened stands settled beside rests its_key its_limit unwritten counts
    ends_chain (Err failed) stands settled beside rests its_key its_limit damaged unwritten counts rises = chain_unopened failed.0 failed.1 damaged unwritten counts rises

    -- ---- it isn't

    module _ (idle : IfSome (on.reads mid) IsIdle) where
      carried_holds : (image : List ℕ) → IsCarried [] image → HoldsEntries image []
      carried_holds image carried =
          ⊎_elim
          (λ shut. holds_none image shut)
          (λ chain. holds_stands in_force image [] (record { chained = chain; acts = tt }))
          carried

      carried_alike : (reads : Option (List ℕ)) → IfSome reads IsIdle → (image : List ℕ) → IsCarriedInto reads [] image → HoldsAlike reads image
      carried_alike None shut image carried = let known = carried.known in absurd cc
      carried_alike (Some file) shut image carried = record { file = file; entries = []; file_is = refl; before = holds_none file shut; now = carried_holds image carried.now }

      moments : (now : D) (P : List ℕ → Type 0) → ((image : List ℕ) → IsCarriedInto (on.reads mid) [] image → P image) → During on.moment on.since mid now (IsCarriedInto (on.reads mid) []) → During on.moment on.since disk now P
      moments now P each carries = during_joined (during_weaker P (λ image none. absurd none) quiet.no_image) (during_weaker P each carries)

      begun : (opened : CometDeskState D) → opened.state.settled ≡ [] → opened.state.doubt ≡ None → IsBeside desk opened → IsAtRest on.leaves opened → opened.founder ≡ keys → opened.limit ≡ limit
          → During on.moment on.since mid opened.disk (IsCarriedInto (on.reads mid) []) → on.faults mid ≤ on.faults opened.disk → IsOpened on founder limit desk disk opened
      begun opened none settled beside rests its_key its_limit carries counts = record {
        founder_is = its_key ∙ same;
        limit_is = its_limit;
        settled = settled;
        stood = if_some (on.reads disk) IsIdle (λ file. HoldsEntries file opened.state.settled) (λ file shut. subst (HoldsEntries file) (sym none) (holds_none file shut)) (at_mid IsIdle idle);
        legal = subst (λ (k : Key). IsLegal k desk opened.state.settled) (its_key ∙ same) beside.legal.0;
        beside = beside;
        at_rest = rests;
        images = moments opened.disk (λ image. HoldsEntries image opened.state.settled) (λ image carried. subst (HoldsEntries image) (sym none) (carried_holds image carried.now)) carries;
        unwritten = if_some (on.reads disk) IsIdle (λ file. IsInForce file → IsUnwritten on.reads on.moment on.since disk opened.disk) (λ file shut force. absurd (shut force)) (at_mid IsIdle idle);
        counts = le_trans counted counts;
      }

      not_begun : (fault : OpenFault) (now : D) → fault ≡ DiskFault → During on.moment on.since mid now (IsCarriedInto (on.reads mid) []) → on.faults mid ≤ on.faults now → Rises (on.faults mid) (on.faults now) → IsUnopened on founder desk disk fault now
      not_begun fault now is carries counts rises = record {
        cause = λ _. rises_later (on.faults disk) (on.faults mid) (on.faults now) counted rises;
        damaged = λ file offset damage. absurd (disk_is_no_damage file offset (sym is ∙ damage));
        sound = λ file offset damage known each. disk_is_no_damage file offset (sym is ∙ damage);
        unwritten = λ other. absurd (other is);
        images = subst (λ (o : Option (List ℕ)). During on.moment on.since disk now (HoldsAlike o)) quiet.same (moments now (HoldsAlike (on.reads mid)) (carried_alike (on.reads mid) idle) carries);
        counts = le_trans counted counts;
      }

      pub ends_begun : (result : Result (CometDeskState D) (OpenFault × D)) → IfOk result (λ opened. opened.state.settled ≡ []) → IfOk result (λ opened. opened.state.doubt ≡ None) → IfOk result (IsBeside desk) → IfOk result (IsAtRest on.leaves)
          → IfOk result (λ opened. opened.founder ≡ keys) → IfOk result (λ opened. opened.limit ≡ limit) → IfErr result (λ failed. failed.0 ≡ DiskFault)
          → During on.moment on.since mid (disk_after result) (IsCarriedInto (on.reads mid) []) → on.faults mid ≤ on.faults (disk_after result) → IfErr result (λ failed. Rises (on.faults mid) (on.faults failed.1)) → EndsOpening on founder limit desk disk result
      ends_begun (Ok opened) none settled beside rests its_key its_limit fault carries counts rises = begun opened none settled beside rests its_key its_limit carries counts
      ends_begun (Err failed) none settled beside rests its_key its_limit fault carries counts rises = not_begun failed.0 failed.1 fault carries counts rises

-- Two files, and what a crash inside opening may leave of them.
use Rattle.std.proofs.Common.{◌≡◌, ◌⊎◌, ℕ, ◌≤◌, List, ◌∷◌, Option, Some, None, refl, subst, inl, inr, ⊎_elim}
use Rattle.std.specs.Prelude.{IfSome, IsSome, IsSomeAnd}
use Rattle.disk_model.specs.Crashes.{During}
use Rattle.disk_model.specs.Moments.{images_during}
use Rattle.obs_journal.specs.Parcels.{RawParcel}
use Rattle.obs_journal.specs.Files.{Spells}
use Rattle.obs_journal.specs.Chains.{IsInForce, IsChain}
use Rattle.obs_journal.specs.Moves.{IsIdle, IsCarriedInto}
use Rattle.obs_journal.specs.Opening.{SpellsAlike}
use Rattle.act_model.specs.declared.entry.Entry.{Entry}
use Rattle.act_model.specs.declared.keeper.OfficeState.{OfficeState}
use Rattle.mpc_desk.specs.Desks.{RestsAt}
use Rattle.mpc_desk.specs.Disks.{DiskWords}
use Rattle.mpc_desk.specs.Files.{parcels_in, AreActs, Stands, StandsFirst}
use Rattle.mpc_desk.specs.Pairs.{FilePair, StandBoth, SpellBoth, AreReadAlike, RestBoth, DiskPair, AreLikeLeft, DuringBoth}
use Rattle.mpc_desk.specs.PairLaws.{force_or_idle, read_alike_self}
use Rattle.mpc_desk.specs.Opening.{SpellAlike, IsCarriedOver}
use Rattle.mpc_desk.proofs.OneHistory.{one_first, one_second}
use Rattle.mpc_desk.proofs.Opened.{at_file}

-- ---- one history

module _ (in_force : (file : List ℕ) (ps : List RawParcel) → IsChain file ps → IsInForce file) where
  pub decides : (files : FilePair) (h : List Entry) → Stands files.second h → StandBoth files h
  decides files h stands = record { in_force = λ _. stands; idle = λ idle. absurd (idle (in_force files.second (parcels_in h) stands.chained)) }

  -- while the office is at rest
  pub rest_both : (state : OfficeState) (files : FilePair) → RestsAt state files.second → RestBoth state files
  rest_both state files (inl stands) = inl (decides files state.settled stands)
  rest_both state files (inr with) = inr (by state.doubt with)
    where
      by : (doubt : Option Entry) → IsSomeAnd doubt (λ entry. Stands files.second (entry ∷ state.settled)) → IsSomeAnd doubt (λ entry. StandBoth files (entry ∷ state.settled))
      by None none = absurd none
      by (Some entry) stands = decides files (entry ∷ state.settled) stands

-- files that are read alike stand for the same history
pub alike_stand : (before files : FilePair) (h : List Entry) → AreReadAlike before files → StandBoth before h → StandBoth files h
alike_stand before files h (inl (force, same)) stood = record {
  in_force = λ _. subst (λ (g : List ℕ). Stands g h) same (stood.in_force force);
  idle = λ idle. absurd (idle (subst IsInForce same force));
}
alike_stand before files h (inr (idle, still, same)) stood = record {
  in_force = λ force. absurd (still force);
  idle = λ _. subst (λ (f : List ℕ). StandsFirst f h) same (stood.idle idle);
}

module _ (one_list : (file : List ℕ) (ps qs : List RawParcel) → Spells file ps → Spells file qs → ps ≡ qs)
    (one_chain : (file : List ℕ) (ps qs : List RawParcel) → IsChain file ps → IsChain file qs → ps ≡ qs) where
  pub one_both : (files : FilePair) (h k : List Entry) → StandBoth files h → StandBoth files k → h ≡ k
  one_both files h k first second =
      ⊎_elim
      (λ force. one_second one_chain files.second h k (first.in_force force) (second.in_force force))
      (λ idle. one_first one_list files.first h k (first.idle idle) (second.idle idle))
      (force_or_idle files.second)

  -- what spells the parcels that were spelled stands for the history that stood
  pub spelled_stand : (before files : FilePair) (parcels : List RawParcel) (h : List Entry) → SpellBoth before parcels → SpellBoth files parcels → StandBoth before h → StandBoth files h
  spelled_stand before files parcels h spelled now stood =
      ⊎_elim
      (λ force. let stands = stood.in_force force in by (one_chain before.second parcels (parcels_in h) (spelled.in_force force) stands.chained) stands.acts)
      (λ idle. let stands = stood.idle idle in by (one_list before.first parcels (parcels_in h) (spelled.idle idle) stands.spelled) stands.acts)
      (force_or_idle before.second)
    where
      by : parcels ≡ parcels_in h → AreActs h → StandBoth files h
      by same acts = record {
        in_force = λ force. record { chained = subst (IsChain files.second) same (now.in_force force); acts = acts };
        idle = λ idle. record { spelled = subst (Spells files.first) same (now.idle idle); acts = acts };
      }

-- ---- inside opening

module _ {D : Type 0} (on : DiskWords D) (as_read : (disk : D) (file : List ℕ) → on.reads disk ≡ Some file → on.leaves disk file)
    (known : (disk : D) (image : List ℕ) → on.leaves disk image → IsSome (on.reads disk))
    (counts_now : (disk : D) (t : ℕ) (image : List ℕ) → t ≤ on.moment disk → on.leaves disk image → on.since disk t image)
    (only_now : (disk : D) (image : List ℕ) → on.since disk (on.moment disk) image → on.leaves disk image) where
  read_of : (reads : Option (List ℕ)) → IsSome reads → (file : List ℕ) × (reads ≡ Some file)
  read_of None some = absurd cc
  read_of (Some file) some = (file, refl)

  -- the first disk goes on with what it spelled, and the second one stays
  module _ (old new : DiskPair D) (idle : IfSome (on.reads old.second) IsIdle) where
    idle_is : (file : List ℕ) → on.reads old.second ≡ Some file → IsIdle file
    idle_is file is = at_file (on.reads old.second) IsIdle file is idle

    module _ (in_force : (file : List ℕ) (ps : List RawParcel) → IsChain file ps → IsInForce file) (files : FilePair) where
      spelled_alike : SpellsAlike (on.reads old.first) files.first → IsSome (on.reads old.second) → IsIdle files.second → SpellAlike on old files
      spelled_alike spells some still =
          let (second, second_is) = read_of (on.reads old.second) some in
          record {
            before = record { first = spells.file; second = second };
            parcels = spells.parcels;
            read = record { first = spells.file_is; second = second_is };
            spelled = record { in_force = λ force. absurd (idle_is second second_is force); idle = λ _. spells.before };
            now = record { in_force = λ force. absurd (still force); idle = λ _. spells.now };
          }

      chain_alike : (parcels : List RawParcel) → IfSome (on.reads old.first) (λ file. Spells file parcels) → (first : List ℕ) → on.reads old.first ≡ Some first → (second : List ℕ) → on.reads old.second ≡ Some second → IsChain files.second parcels → SpellAlike on old files
      chain_alike parcels spelled first first_is second second_is chain = record {
        before = record { first = first; second = second };
        parcels = parcels;
        read = record { first = first_is; second = second_is };
        spelled = record { in_force = λ force. absurd (idle_is second second_is force); idle = λ _. at_file (on.reads old.first) (λ file. Spells file parcels) first first_is spelled };
        now = record { in_force = λ _. chain; idle = λ still. absurd (still (in_force files.second parcels chain)) };
      }

      first_alike : SpellsAlike (on.reads old.first) files.first → on.leaves old.second files.second → AreLikeLeft on old files ⊎ SpellAlike on old files
      first_alike spells left =
          ⊎_elim
          (λ force. inl (record {
            before = record { first = spells.file; second = files.second };
            left = (as_read old.first spells.file spells.file_is, left);
            alike = inl (force, refl);
          }))
          (λ still. inr (spelled_alike spells (known old.second files.second left) still))
          (force_or_idle files.second)

      second_alike : (parcels : List RawParcel) → IfSome (on.reads old.first) (λ file. Spells file parcels) → on.leaves old.first files.first → IsCarriedInto (on.reads old.second) parcels files.second → AreLikeLeft on old files ⊎ SpellAlike on old files
      second_alike parcels spelled left carried =
          let (second, second_is) = read_of (on.reads old.second) carried.known in
          ⊎_elim
          (λ still. inl (record {
            before = record { first = files.first; second = second };
            left = (left, as_read old.second second second_is);
            alike = inr (idle_is second second_is, still, refl);
          }))
          (λ chain.
          let (first, first_is) = read_of (on.reads old.first) (known old.first files.first left) in
          inr (chain_alike parcels spelled first first_is second second_is chain))
          carried.now

      both_alike : (parcels : List RawParcel) → IfSome (on.reads old.first) (λ file. Spells file parcels) → SpellsAlike (on.reads old.first) files.first → IsCarriedInto (on.reads old.second) parcels files.second → SpellAlike on old files
      both_alike parcels spelled spells carried =
          let (second, second_is) = read_of (on.reads old.second) carried.known in
          ⊎_elim
          (λ still. spelled_alike spells carried.known still)
          (λ chain. chain_alike parcels spelled spells.file spells.file_is second second_is chain)
          carried.now

    -- what a crash may leave: the first disk spells the same parcels all along, and they are carried into the second,
    -- or it stays
    pub moved : (in_force : (file : List ℕ) (ps : List RawParcel) → IsChain file ps → IsInForce file) → During on.moment on.since old.first new.first (SpellsAlike (on.reads old.first))
        → During on.moment on.since old.second new.second (λ _. ⊥) ⊎ IsCarriedOver on old.first old.second new.second → DuringBoth on old new (SpellAlike on old)
    moved in_force first (inl stays) = record {
      later_first = first.later;
      later_second = stays.later;
      either = λ files since.
          let left : on.leaves old.second files.second = ⊎_elim (λ l. l) (λ never. absurd never) (images_during on.leaves counts_now only_now stays files.second since.1) in
          ⊎_elim
          (λ f. inl (record { before = files; left = (f, left); alike = read_alike_self files }))
          (λ spells. first_alike in_force files spells left)
          (images_during on.leaves counts_now only_now first files.first since.0);
    }
    moved in_force first (inr (parcels, spelled, carries)) = record {
      later_first = first.later;
      later_second = carries.later;
      either = λ files since.
          ⊎_elim
          (λ f. ⊎_elim (λ l. inl (record { before = files; left = (f, l); alike = read_alike_self files })) (λ carried. second_alike in_force files parcels spelled f carried) (images_during on.leaves counts_now only_now carries files.second since.1))
          (λ spells. ⊎_elim (λ l. first_alike in_force files spells l) (λ carried. inr (both_alike in_force files parcels spelled spells carried)) (images_during on.leaves counts_now only_now carries files.second since.1))
          (images_during on.leaves counts_now only_now first files.first since.0);
    }

  -- no image came of the one, and none of the other
  pub both_stay : (old new : DiskPair D) (P : FilePair → Type 0) → During on.moment on.since old.first new.first (λ _. ⊥) → During on.moment on.since old.second new.second (λ _. ⊥) → DuringBoth on old new P
  both_stay old new P first second = record {
    later_first = first.later;
    later_second = second.later;
    either = λ files since.
        inl (record {
          before = files;
          left = (
            ⊎_elim (λ l. l) (λ never. absurd never) (images_during on.leaves counts_now only_now first files.first since.0),
            ⊎_elim (λ l. l) (λ never. absurd never) (images_during on.leaves counts_now only_now second files.second since.1),
          );
          alike = read_alike_self files;
        });
  }

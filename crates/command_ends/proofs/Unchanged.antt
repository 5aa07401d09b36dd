-- An office that was opened, and is closed again as it was.
use Rattle.std.proofs.Common.{◌≡◌, ℕ, ◌+◌, ◌-◌, true, List, [], ◌∷◌, Option, None, refl, sym, ap, subst, inl, inr, arith}
use Rattle.std.specs.Prelude.{IsSomeAnd, Result, IfErr}
use Rattle.std.proofs.lemmas.Result.{IfErr-weaker}
use Rattle.act_bodies.specs.declared.key.Key.{Key}
use Rattle.act_bodies.specs.Keys.{key_text, begins_with_plus}
use Rattle.act_model.specs.declared.entry.Entry.{Entry}
use Rattle.act_model.specs.declared.keeper.OfficeState.{OfficeState}
use Rattle.act_model.specs.Conducts.{Extends}
use Rattle.act_model.specs.History.{EachNumberOnce}
use Rattle.act_model.specs.Legal.{IsLegal}
use Rattle.act_model.specs.Places.{OnePlace}
use Rattle.act_model.specs.Unbroken.{UnbrokenRows, UnbrokenNumbers}
use Rattle.mpc_desk.specs.Accepted.{AddsLines}
use Rattle.mpc_desk.specs.Desks.{DeskState, RestsAt, count_of}
use Rattle.mpc_desk.specs.Files.{Stands}
use Rattle.mpc_desk.specs.Pairs.{FilePair, StandBoth, DiskPair, AreRead, PairState, disks_of}
use Rattle.command_ends.specs.declared.status.Status.{Status}
use Rattle.command_ends.specs.declared.status.Status.TheVariants.{Damaged}
use Rattle.command_ends.specs.Disks.{DiskWords}
use Rattle.command_ends.specs.Opening.{Opens}
use Rattle.command_ends.specs.Reading.{reader, KeepsOffice, IsSound}
use Rattle.command_ends.proofs.Counts.{rose_any}

-- with nothing in doubt an image stands for the settled history
stands_settled : (state : OfficeState) (image : List ℕ) → state.doubt ≡ None → RestsAt state image → Stands image state.settled
stands_settled state image none (inl stands) = stands
stands_settled state image none (inr stands) = absurd (subst (λ (o : Option Entry). IsSomeAnd o (λ entry. Stands image (entry ∷ state.settled))) none stands)

module _ (once : (founder : Key) (history : List Entry) → IsLegal founder history → EachNumberOnce history)
    (places : (history : List Entry) → OnePlace history) (rows : (history : List Entry) → UnbrokenRows history) (numbers : (history : List Entry) → UnbrokenNumbers history)
    (lines : (earlier later : List Entry) → Extends earlier later → AddsLines earlier later) where
  pub keeps : {D : Type 0} (on : DiskWords D) (founder : Key) (disks now : DiskPair D) (office : PairState D) → Opens on founder disks office → now ≡ disks_of office → KeepsOffice on founder disks now 0 office.chained.state.settled
  keeps {D} on founder disks now office opens same = subst (λ (d : DiskPair D). KeepsOffice on founder disks d 0 office.chained.state.settled) (sym same) (record {
    rise = (count_of (on.faults office.first) - count_of (on.faults disks.first)) + (count_of (on.faults desk.disk) - count_of (on.faults disks.second));
    stood = opens.stood;
    legal = opens.legal;
    counts = record {
      first = count_of (on.faults office.first) - count_of (on.faults disks.first);
      second = count_of (on.faults desk.disk) - count_of (on.faults disks.second);
      sum = refl;
      rose_first = rose_any (on.faults disks.first) (on.faults office.first) opens.counts.first;
      rose_second = rose_any (on.faults disks.second) (on.faults desk.disk) opens.counts.second;
    };
    images = opens.images;
    stands = λ image leaves. stands_settled desk.state image opens.settled (opens.at_rest image leaves);
    uncalled = opens.uncalled;
    is_left = record {
      entries = omega arith;
      once = once founder desk.state.settled opens.legal;
      places = places desk.state.settled;
      rows = rows desk.state.settled;
      numbers = numbers desk.state.settled;
      lines = lines desk.state.settled desk.state.settled ([], refl);
    };
  })
    where
      desk : DeskState D
      desk = office.chained

-- what is never said at the reader's key is said at none: a history that is legal under some founding officer is legal
-- there
pub sound_at_any : ((founder other : Key) (history : List Entry) → begins_with_plus (key_text other) ≡ true → IsLegal founder history → IsLegal other history)
    → {D T E : Type 0} (on : DiskWords D) (disks : DiskPair D) (opened : Result T E) (status : E → Status) (key : Key) → key ≡ reader
    → IfErr opened (λ ended. (files : FilePair) (history : List Entry) (file offset : ℕ) → AreRead on disks files → StandBoth files history → IsLegal key history → status ended ≡ Damaged file offset → ⊥)
    → IfErr opened (λ ended. IsSound on disks (status ended))
sound_at_any any_founder on disks opened status key is sound =
    IfErr-weaker opened _ _
    (λ ended never founder files history file offset plus read stood legal.
    never files history file offset read stood (any_founder founder key history (ap (λ (k : Key). begins_with_plus (key_text k)) is) legal))
    sound

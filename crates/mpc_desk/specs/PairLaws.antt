-- Laws of two files and two disks: how runs of calls are joined, what a crash at some moment of a run may leave, how
-- counts rise, and which files aren't damaged.
use Rattle.std.specs.Prelude.{◌≡◌, ◌⊎◌, ◌==◌, nat_lt, ℕ, ◌<◌, ◌≤◌, Bool, true, false, List, length, slice_index}
use Rattle.std.specs.Prelude.{Option, Some, IfSome}
use Rattle.std.proofs.Common.{refl, sym, ap, ◌∙◌, inl, inr, ⊎_elim, subst, zero, suc, le_refl, le_trans, arith}
use Rattle.std.proofs.lemmas.Bool.Decides.{nat_tests}
use Rattle.disk_model.specs.Crashes.{During}
use Rattle.obs_journal.specs.Chains.{IsInForce}
use Rattle.obs_journal.specs.Moves.{IsIdle}
use Rattle.mpc_desk.specs.Disks.{DiskWords}
use Rattle.act_bodies.specs.declared.key.Key.{Key}
use Rattle.act_model.specs.declared.entry.Entry.{Entry}
use Rattle.act_model.specs.Legal.{IsLegal}
use Rattle.mpc_desk.specs.Files.{Stands, StandsFirst}
use Rattle.mpc_desk.specs.Opening.{IsDamagedFirst, IsDamagedSecond, IsDamagedOn}
use Rattle.mpc_desk.specs.Pairs.{FilePair, StandBoth, AreReadAlike, DiskPair, pair, AreRead, AreSince, AreLikeLeft}
use Rattle.mpc_desk.specs.Pairs.{DuringBoth, HaveRisen, EitherRises}

-- two disks are these where each is
pub same_pair : {D : Type 0} (one other first second : D) → one ≡ first → other ≡ second
    → pair one other ≡ pair first second
same_pair {D} one other first second same again =
    ap (λ (d : D). pair d other) same ∙ ap (λ (d : D). pair first d) again

-- a file is in force or it isn't
pub force_or_idle : (file : List ℕ) → IsInForce file ⊎ IsIdle file
force_or_idle file = by (nat_lt (length file) 2) refl (slice_index file 0 == 1) refl
  where
    by : (short : Bool) → nat_lt (length file) 2 ≡ short → (one : Bool) → (slice_index file 0 == 1) ≡ one
        → IsInForce file ⊎ IsIdle file
    by true few one is =
        inr (λ force. let less : length file < 2 = grind (arith, nat_tests) in absurd (omega (arith, less, force.0)))
    by false many true is =
        let least : 2 ≤ length file = grind (arith, nat_tests) in
        let same : slice_index file 0 ≡ 1 = grind (arith, nat_tests) in
        inl (least, same)
    by false many false is = inr (λ force. absurd (let one = force.1 in grind (arith, nat_tests)))

-- so two files are read like themselves
pub read_alike_self : (files : FilePair) → AreReadAlike files files
read_alike_self files =
    ⊎_elim (λ force. inl (force, refl)) (λ idle. inr (idle, idle, refl)) (force_or_idle files.second)

-- before the first call; the law of each disk: since this moment there is no image but those now
pub both_nothing : {D : Type 0} (on : DiskWords D)
    → ((disk : D) (image : List ℕ) → on.since disk (on.moment disk) image → on.leaves disk image)
    → (disks : DiskPair D) (P : FilePair → Type 0) → DuringBoth on disks disks P
both_nothing on only_now disks P = record {
  later_first = le_refl _;
  later_second = le_refl _;
  either = λ files since.
      inl (record {
        before = files;
        left = (only_now disks.first files.first since.0, only_now disks.second files.second since.1);
        alike = read_alike_self files;
      });
}

-- what has P has Q
pub both_weaker : {D : Type 0} {on : DiskWords D} {old new : DiskPair D} {P : FilePair → Type 0} (Q : FilePair → Type 0)
    → ((files : FilePair) → P files → Q files) → DuringBoth on old new P → DuringBoth on old new Q
both_weaker Q weaker run = record {
  later_first = run.later_first;
  later_second = run.later_second;
  either = λ files since.
      ⊎_elim (λ before. inl before) (λ has. inr (weaker files has)) (run.either files since);
}

-- a run on both, and then one on the second disk alone
pub both_then : {D : Type 0} {on : DiskWords D} {old mid new : DiskPair D} {P : FilePair → Type 0}
    {Q : List ℕ → Type 0} (R : FilePair → Type 0) → ((files : FilePair) → P files → R files)
    → ((files : FilePair) → Q files.second → R files) → DuringBoth on old mid P → new.first ≡ mid.first
    → During on.moment on.since mid.second new.second Q → DuringBoth on old new R
both_then {D} {on} {old} {mid} {new} {P} {Q} R first second run same goes_on = record {
  later_first = subst (λ (d : D). on.moment old.first ≤ on.moment d) (sym same) run.later_first;
  later_second = le_trans run.later_second goes_on.later;
  either = λ files since.
      let at_first = subst (λ (d : D). on.since d (on.moment old.first) files.first) same since.0 in
      ⊎_elim
      (λ earlier.
      ⊎_elim (λ before. inl before) (λ has. inr (first files has)) (run.either files (at_first, earlier)))
      (λ has. inr (second files has))
      (goes_on.either (on.moment old.second) files.second run.later_second since.1);
}

-- ---- counts

-- where counts rose by something, one of the disks failed
pub risen_rises : {D : Type 0} {on : DiskWords D} {old new : DiskPair D} (rise : ℕ) → 0 < rise
    → HaveRisen on rise old new → EitherRises on old new
risen_rises {D} {on} {old} {new} rise some risen = by risen.first refl
  where
    by : (first : ℕ) → risen.first ≡ first → EitherRises on old new
    by zero none =
        let sum = risen.sum in
        let rose = risen.rose_second in
        inr (omega (arith, none, sum, some, rose))
    by (suc n) more =
        let rose = risen.rose_first in
        inl (omega (arith, more, rose))

-- ---- damage

-- what is said of known bytes is said of these
pub at_read : (reads : Option (List ℕ)) (P : List ℕ → Type 0) (file : List ℕ) → reads ≡ Some file → IfSome reads P
    → P file
at_read reads P file is holds = subst (λ (o : Option (List ℕ)). IfSome o P) is holds

-- Files that stand for a legal history aren't damaged, by the laws of one file.
pub never_damaged : (first : (founder : Key) (file : List ℕ) (offset : ℕ) (history : List Entry)
    → IsDamagedFirst founder file offset → IsLegal founder history → StandsFirst file history → ⊥)
    → (second : (founder : Key) (file : List ℕ) (offset : ℕ) (history : List Entry)
    → IsDamagedSecond founder file offset → IsLegal founder history → Stands file history → ⊥)
    → (force : (founder : Key) (file : List ℕ) (offset : ℕ) → IsDamagedSecond founder file offset → IsInForce file)
    → {D : Type 0} (on : DiskWords D) (founder : Key) (disks : DiskPair D) (files : FilePair) (history : List Entry)
    (file offset : ℕ) → AreRead on disks files → StandBoth files history → IsLegal founder history
    → IsDamagedOn on founder disks file offset → ⊥
never_damaged first second force on founder disks files history file offset read stood legal damaged =
    ⊎_elim
    (λ d.
    let found = at_read (on.reads disks.second) (λ bytes. IsDamagedSecond founder bytes offset) files.second in
    let broken = found read.second d.1 in
    second founder files.second offset history broken legal (stood.in_force (force founder files.second offset broken)))
    (λ d.
    let found = at_read (on.reads disks.first) (λ bytes. IsDamagedFirst founder bytes offset) files.first in
    first founder files.first offset history (found read.first d.2) legal
    (stood.idle (at_read (on.reads disks.second) IsIdle files.second read.second d.1)))
    damaged

-- An office that is opened to be read, and what reading it leaves.
use Rattle.std.specs.Prelude.{◌≡◌, true, ℕ, List, [], ◌∷◌}
use Rattle.act_bodies.specs.declared.key.Key.{Key}
use Rattle.act_bodies.specs.Keys.{key_of, key_text, begins_with_plus}
use Rattle.act_model.specs.declared.entry.Entry.{Entry}
use Rattle.act_model.specs.Legal.{IsLegal}
use Rattle.mpc_desk.specs.Files.{Stands}
use Rattle.mpc_desk.specs.Opening.{StandAlike}
use Rattle.mpc_desk.specs.Pairs.{FilePair, StandBoth, DiskPair, AreRead, DuringBoth, IsFirstUncalled, HaveRisen}
use Rattle.command_ends.specs.declared.status.Status.{Status}
use Rattle.command_ends.specs.declared.status.Status.TheVariants.{Damaged}
use Rattle.command_ends.specs.Disks.{DiskWords}
use Rattle.command_ends.specs.Left.{IsLeft}

-- the key with which an office is opened to be read, by which nobody asks: a plus and nothing else
abbrev pub reader : Key
reader = key_of (43 ∷ [])

-- The disks stood for a legal history and stand for it still, now the second one by itself; nothing was added. What a
-- crash at some moment leaves is read like what it might have left at the start, or stands for that history. Where the
-- second file was in force the first disk wasn't called.
pub record KeepsOffice {D : Type 0} (on : DiskWords D) (founder : Key) (disks now : DiskPair D) (added : ℕ)
    (history : List Entry) : Type 0 where
  pub rise : ℕ
  pub stood : (files : FilePair) → AreRead on disks files → StandBoth files history
  pub legal : IsLegal founder history
  pub counts : HaveRisen on rise disks now
  pub images : DuringBoth on disks now (StandAlike on disks history)
  pub stands : (image : List ℕ) → on.leaves now.second image → Stands image history
  pub uncalled : IsFirstUncalled on disks now
  pub is_left : IsLeft history history added

-- disks that stand for a legal history, under whatever founding officer, aren't said to be damaged
abbrev pub IsSound : {D : Type 0} → DiskWords D → DiskPair D → Status → Type 0
IsSound on disks status =
    (key : Key) (files : FilePair) (history : List Entry) (file offset : ℕ) → begins_with_plus (key_text key) ≡ true
    → AreRead on disks files → StandBoth files history → IsLegal key history → status ≡ Damaged file offset → ⊥

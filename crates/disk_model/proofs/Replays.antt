-- A record's deeds, played again.
use Rattle.std.proofs.Common.{◌≡◌, ℕ, Bool, true, List, ◌∷◌, length, take, drop, sym, ◌∙◌, ap, subst}
use Rattle.disk_model.specs.Files.{written}
use Rattle.disk_model.specs.Crashes.{Torn}
use Rattle.disk_model.specs.Memory.{Deed, file_after, IsImage}
use Rattle.disk_model.specs.Entries.{deed_of}
use Rattle.disk_model.specs.declared.record.Entry.{Entry}
use Rattle.disk_model.specs.declared.record.Entry.TheVariants.{Wrote}

-- a write that was done
pub file_written : (pool first bytes old new : List ℕ) (past : List Deed) (entry : Entry) (at start count : ℕ) (done : Bool)
    → entry ≡ Wrote at start count done → done ≡ true → bytes ≡ take count (drop start pool) → old ≡ file_after first past → new ≡ written at bytes old
    → new ≡ file_after first (deed_of pool entry ∷ past)
file_written pool first bytes old new past entry at start count done is was_done part same made =
    made ∙ (λ i. written at (part i) (same i)) ∙ ap (λ (e : Entry). file_after first (deed_of pool e ∷ past)) (sym (is ∙ ap (λ (d : Bool). Wrote at start count d) was_done))

-- what a crash leaves of a write
pub image_torn : (pool first bytes old new : List ℕ) (past : List Deed) (entry : Entry) (at start count : ℕ) (done : Bool)
    → entry ≡ Wrote at start count done → bytes ≡ take count (drop start pool) → IsImage first past old → Torn at (length bytes) old new
    → IsImage first (deed_of pool entry ∷ past) new
image_torn pool first bytes old new past entry at start count done is part was torn =
    subst (λ (e : Entry). IsImage first (deed_of pool e ∷ past) new) (sym is) (old, was, subst (λ (l : List ℕ). Torn at (length l) old new) part torn)

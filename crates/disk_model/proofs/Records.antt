-- A record with one entry more.
use Rattle.std.proofs.Common.{◌≡◌, ℕ, ◌+◌, ◌<◌, ◌≤◌, Bool, List, [], ◌∷◌, ◌++◌, length, take, drop, map, reverse, All, refl, sym, ◌∙◌, ap, subst, arith, length-append, length-drop}
use Rattle.std.proofs.lemmas.List.{take-append-le, drop-append-le, take_all, drop_at, map-append, reverse-append}
use Rattle.std.specs.List.{AllByRecursion}
use Rattle.std.proofs.lemmas.List.Elements.{recursion_from_All, All-push}
use Rattle.disk_model.specs.Memory.{Deed, record_size}
use Rattle.disk_model.specs.Memory as deeds
use Rattle.disk_model.specs.Entries.{deed_of, deeds_of, IsWithin, IsKept}
use Rattle.disk_model.specs.declared.record.Entry.{Entry}
use Rattle.disk_model.specs.declared.record.Entry.TheVariants.{Wrote, Cut, Synced}

-- an entry stands for the same deed when the pool has grown
deed_grown : (pool bytes : List ℕ) (capacity : ℕ) (entry : Entry) → IsWithin (length pool) capacity entry → deed_of (pool ++ bytes) entry ≡ deed_of pool entry
deed_grown pool bytes capacity (Wrote at start count done) within =
    ap (λ (l : List ℕ). deeds.Wrote at (take count l) done) (drop-append-le start pool bytes (omega (arith, within.0)))
    ∙ ap (λ (l : List ℕ). deeds.Wrote at l done) (take-append-le count (drop start pool) bytes (omega (arith, within.0, length-drop start pool)))
deed_grown pool bytes capacity (Cut len done) within = refl
deed_grown pool bytes capacity (Synced done) within = refl

deeds_grown : (pool bytes : List ℕ) (capacity : ℕ) (entries : List Entry) → AllByRecursion (IsWithin (length pool) capacity) entries → map (deed_of (pool ++ bytes)) entries ≡ map (deed_of pool) entries
deeds_grown pool bytes capacity [] within = refl
deeds_grown pool bytes capacity (entry ∷ entries) within =
    ap (λ (d : Deed). d ∷ map (deed_of (pool ++ bytes)) entries) (deed_grown pool bytes capacity entry within.0)
    ∙ ap (λ (ds : List Deed). deed_of pool entry ∷ ds) (deeds_grown pool bytes capacity entries within.1)

-- the deed of the new entry stands before all others
pub deeds_more : (pool bytes : List ℕ) (capacity : ℕ) (entries : List Entry) (entry : Entry) → All (IsWithin (length pool) capacity) entries
    → deeds_of (pool ++ bytes) (entries ++ entry ∷ []) ≡ deed_of (pool ++ bytes) entry ∷ deeds_of pool entries
deeds_more pool bytes capacity entries entry within =
    ap (λ (ds : List Deed). reverse ds) (map-append (deed_of (pool ++ bytes)) entries (entry ∷ []))
    ∙ reverse-append (map (deed_of (pool ++ bytes)) entries) (deed_of (pool ++ bytes) entry ∷ [])
    ∙ ap (λ (ds : List Deed). deed_of (pool ++ bytes) entry ∷ reverse ds) (deeds_grown pool bytes capacity entries (recursion_from_All _ entries within))

-- the bytes of a write, put after the pool
pub written_deed : (pool bytes : List ℕ) (at : ℕ) (done : _) → deed_of (pool ++ bytes) (Wrote at (length pool) (length bytes) done) ≡ deeds.Wrote at bytes done
written_deed pool bytes at done =
    ap (λ (l : List ℕ). deeds.Wrote at (take (length bytes) l) done) (drop_at pool bytes (length pool) refl)
    ∙ ap (λ (l : List ℕ). deeds.Wrote at l done) (take_all (length bytes) bytes (omega arith))

within_grown : (pool bytes : List ℕ) (capacity : ℕ) (entry : Entry) → IsWithin (length pool) capacity entry → IsWithin (length (pool ++ bytes)) capacity entry
within_grown pool bytes capacity (Wrote at start count done) within = ((let longer : start + count ≤ length (pool ++ bytes) = omega (arith, within.0, length-append pool bytes) in longer), within.1)
within_grown pool bytes capacity (Cut len done) within = tt
within_grown pool bytes capacity (Synced done) within = tt

-- a record with one entry more is kept
pub kept_more : (pool bytes : List ℕ) (entries : List Entry) (capacity : ℕ) (entry : Entry) (deed : Deed)
    → IsKept pool entries capacity
    → deed_of (pool ++ bytes) entry ≡ deed
    → record_size (deed ∷ deeds_of pool entries) ≡ 32 + length bytes + record_size (deeds_of pool entries)
    → IsWithin (length (pool ++ bytes)) capacity entry
    → 32 + length bytes + record_size (deeds_of pool entries) ≤ capacity
    → IsKept (pool ++ bytes) (entries ++ entry ∷ []) capacity
kept_more pool bytes entries capacity entry deed kept is counts within fits =
    let all : deeds_of (pool ++ bytes) (entries ++ entry ∷ []) ≡ deed ∷ deeds_of pool entries = deeds_more pool bytes capacity entries entry kept.within ∙ ap (λ (d : Deed). d ∷ deeds_of pool entries) is in
    let more : length (entries ++ entry ∷ []) ≡ length entries + 1 = length-append entries (entry ∷ []) in
    let longer : length (pool ++ bytes) ≡ length pool + length bytes = length-append pool bytes in
    record {
      size = ap record_size all ∙ counts ∙ omega (arith, kept.size, more, longer);
      fits = omega (arith, kept.size, fits, more, longer);
      within = All-push (IsWithin (length (pool ++ bytes)) capacity) entries entry (λ k d le. within_grown pool bytes capacity _ (kept.within k d le)) within;
    }

-- a record with one write more
module _ (pool bytes newpool : List ℕ) (entries newentries : List Entry) (capacity at start : ℕ) (done : Bool)
    (kept : IsKept pool entries capacity) (starts : start ≡ length pool)
    (pools : newpool ≡ pool ++ bytes) (adds : newentries ≡ entries ++ Wrote at start (length bytes) done ∷ []) where
  pub kept_write : (0 < length bytes → at + length bytes ≤ capacity) → 32 + length bytes + record_size (deeds_of pool entries) ≤ capacity → IsKept newpool newentries capacity
  kept_write within fits =
      let entry = Wrote at (length pool) (length bytes) done in
      let long : length pool + length bytes ≤ length (pool ++ bytes) = omega (arith, length-append pool bytes) in
      let more : IsKept (pool ++ bytes) (entries ++ entry ∷ []) capacity =
      kept_more pool bytes entries capacity entry (deeds.Wrote at bytes done) kept (written_deed pool bytes at done) refl (long, within) fits in
      subst (λ (l : List ℕ). IsKept l newentries capacity) (sym pools) (subst (λ (l : List Entry). IsKept (pool ++ bytes) l capacity) (sym (adds ∙ ap (λ (n : ℕ). entries ++ Wrote at n (length bytes) done ∷ []) starts)) more)

  pub deeds_write : deeds_of newpool newentries ≡ deeds.Wrote at bytes done ∷ deeds_of pool entries
  deeds_write =
      ap (λ (l : List ℕ). deeds_of l newentries) pools
      ∙ ap (λ (l : List Entry). deeds_of (pool ++ bytes) l) (adds ∙ ap (λ (n : ℕ). entries ++ Wrote at n (length bytes) done ∷ []) starts)
      ∙ deeds_more pool bytes capacity entries (Wrote at (length pool) (length bytes) done) kept.within
      ∙ ap (λ (d : Deed). d ∷ deeds_of pool entries) (written_deed pool bytes at done)

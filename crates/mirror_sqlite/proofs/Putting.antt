-- Rows put into an empty table, one after the other.
use Rattle.std.proofs.Common.{◌≡◌, ℕ, ◌+◌, ◌<◌, suc, zero, List, [], ◌∷◌, ◌++◌, map, length, take, get_or, true, Ok, Err, Result, OnOk, refl, sym, ap, ◌∙◌, arith}
use Rattle.std.specs.List.{AllByRecursion}
use Rattle.std.proofs.lemmas.List.{take_more}
use Rattle.sqlite.specs.State.{State, Shows, KeepsCommit}
use Rattle.mirror_store.specs.declared.rows.ObjectRow.{ObjectRow}
use Rattle.mirror_store.specs.declared.rows.SightRow.{SightRow}
use Rattle.mirror_store.specs.declared.rows.MirrorRows.{MirrorRows}
use Rattle.mirror_store.specs.declared.mirror.MirrorErr.{MirrorErr}
use Rattle.mirror_store.specs.Rows.{Ascend}
use Rattle.mirror_sqlite.specs.Stored.{stored_object, stored_sight}
use Rattle.mirror_sqlite.specs.Holding.{LosesSights, LosesObjects, GainsObject, GainsSight, Goes, FillsObjects, FillsSights, Replaces}

pub all_at : {A : Type 0} (P : A → Type 0) (xs : List A) (i : ℕ) (d : A) → AllByRecursion P xs → i < length xs → P (get_or xs i d)
all_at P [] i d all low = absurd (omega (arith, low))
all_at P (x ∷ xs) zero d all low = all.0
all_at P (x ∷ xs) (suc i) d all low = all_at P xs i d all.1 (omega (arith, low))

module _ {A : Type 0} (key : A → ℕ) where
  above : (n : ℕ) (xs : List A) (i : ℕ) (d : A) → AllByRecursion (λ later. n < later) (map key xs) → i < length xs → n < key (get_or xs i d)
  above n [] i d all low = absurd (omega (arith, low))
  above n (x ∷ xs) zero d all low = all.0
  above n (x ∷ xs) (suc i) d all low = above n xs i d all.1 (omega (arith, low))

  -- those before a place have smaller keys
  pub low_before : (xs : List A) (i : ℕ) (d : A) → Ascend (map key xs) → i < length xs
      → AllByRecursion (λ x. key x < key (get_or xs i d)) (take i xs)
  low_before xs zero d up low = tt
  low_before [] (suc i) d up low = absurd (omega (arith, low))
  low_before (x ∷ xs) (suc i) d up low = (above (key x) xs i d up.0 (omega (arith, low)), low_before xs i d up.1 (omega (arith, low)))

pub goes_then : (old mid new : State) → Goes old mid → KeepsCommit mid new → KeepsCommit old new
goes_then old mid new go kept = record {
  was_open = λ o. go.kept.was_open (kept.was_open o);
  committed = λ o. kept.committed o ∙ go.kept.committed (kept.was_open o);
}

pub shown_goes : (old new : State) → Shows old new new.now old.committed true → Goes old new
shown_goes old new shows = record {
  going = shows.mode;
  kept = record { was_open = λ _. shows.was_open; committed = λ _. shows.committed_is };
}

pub goes_on : (old mid new : State) → Goes old mid → Shows mid new new.now mid.committed true → Goes old new
goes_on old mid new go shows =
    let next = shown_goes mid new shows in record { going = next.going; kept = goes_then old mid new go next.kept }

pub fills_more : (old mid new : State) (rows : List ObjectRow) (i : ℕ) (d : ObjectRow) → Ascend (map (λ (o : ObjectRow). o.place) rows)
    → i < length rows → FillsObjects (take i rows) old mid → GainsObject (get_or rows i d) mid new
    → FillsObjects (take (i + 1) rows) old new
fills_more old mid new rows i d up low filled gains lists held none =
    let below = low_before (λ (o : ObjectRow). o.place) rows i d up low in
    let made = gains (record lists { objects = take i rows }) (filled lists held none) below in
    let more : take (i + 1) rows ≡ take i rows ++ get_or rows i d ∷ [] = take_more rows i d low in
    record { schema = made.schema; objects = made.objects ∙ ap (map stored_object) (sym more); sights = made.sights }

pub sights_more : (old mid new : State) (rows : List SightRow) (i : ℕ) (d : SightRow) → Ascend (map (λ (s : SightRow). s.id) rows)
    → i < length rows → FillsSights (take i rows) old mid → GainsSight (get_or rows i d) mid new
    → FillsSights (take (i + 1) rows) old new
sights_more old mid new rows i d up low filled gains lists held none =
    let below = low_before (λ (s : SightRow). s.id) rows i d up low in
    let made = gains (record lists { sights = take i rows }) (filled lists held none) below in
    let more : take (i + 1) rows ≡ take i rows ++ get_or rows i d ∷ [] = take_more rows i d low in
    record { schema = made.schema; objects = made.objects; sights = made.sights ∙ ap (map stored_sight) (sym more) }

pub replaced : {A : Type 0} (old one two three new : State) (rows : MirrorRows) (objects : List ObjectRow) (sights : List SightRow)
    (result : Result A MirrorErr) → objects ≡ rows.objects → sights ≡ rows.sights → LosesSights old one → LosesObjects one two
    → FillsObjects objects two three → OnOk result (FillsSights sights three new) → OnOk result (Replaces rows old new)
replaced old one two three new rows objects sights (Err e) p q a b c d = tt
replaced old one two three new rows objects sights (Ok u) p q a b c d = λ lists held.
    let empty = c _ (b _ (a lists held)) refl in
    let full = d _ empty refl in
    record { schema = full.schema; objects = full.objects ∙ ap (map stored_object) p; sights = full.sights ∙ ap (map stored_sight) q }

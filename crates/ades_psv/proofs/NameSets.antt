-- The names that were seen in a column header, and those after them.
use Rattle.std.proofs.Common.{◌≡◌, ℕ, Bool, true, false, cond, not, ◌&&◌, ◌||◌, eqb, List, [], ◌∷◌, length, refl, sym, ap, ◌∙◌, Bor}
use Rattle.std.specs.BTreeSet.{BTreeSet, Updates}
use Rattle.std.specs.Cmp.Lexicographic.{slice_cmp, same_text}
use Rattle.std.specs.Ordering.{nat_cmp}
use Rattle.std.proofs.lemmas.Bool.{not-true, not-false}
use Rattle.std.proofs.lemmas.Cmp.{nat_list_eq_equiv}
use Rattle.std.proofs.lemmas.Map.Text.{is_eq-slice_cmp}
use Rattle.ades_psv.specs.Cells.{is_word}
use Rattle.ades_psv.specs.Columns.{has_column, stands_again, has_twice, is_seen, repeats}

-- nothing was seen yet
pub repeats_none : (names : List (List ℕ)) → repeats (λ name. false) names ≡ has_twice names
unfolding repeats has_twice
repeats_none [] = refl
repeats_none (name ∷ names) = ap (λ (b : Bool). stands_again name names || b) (repeats_none names)

swap_or : (a b c : Bool) → a || (b || c) ≡ b || (a || c)
swap_or true true c = refl
swap_or true false c = refl
swap_or false b c = refl

or_step : (some w s h a m : Bool) → (w ≡ true → some ≡ true) → (some && (cond w true s || h)) || (a || m) ≡ (w || a) || ((some && (s || h)) || m)
or_step some true s h a m is = rw (is refl) refl
or_step true false s h a m is = swap_or (s || h) a m
or_step false false s h a m is = refl

-- a name more was seen, which isn't empty
seen_more : (seen : List ℕ → Bool) (name : List ℕ) (names : List (List ℕ)) → eqb (length name) 0 ≡ false
    → repeats (λ text. cond (is_word name text) true (seen text)) names ≡ has_column name names || repeats seen names
unfolding repeats
seen_more seen name [] some = refl
seen_more seen name (text ∷ names) some =
    ap (λ (b : Bool). (not (eqb (length text) 0) && (cond (is_word name text) true (seen text) || has_column text names)) || b) (seen_more seen name names some)
    ∙ or_step (not (eqb (length text) 0)) (is_word name text) (seen text) (has_column text names) (has_column name names) (repeats seen names)
    (λ is. (let same : text ≡ name = same_text text name (sym is) in rw (same, some) refl))

-- a set that a name is put into has it, and what it had
seen_after : (old new : BTreeSet (Bor (List ℕ))) (name : Bor (List ℕ)) (text : List ℕ) → Updates (λ a b. slice_cmp nat_cmp a.now b.now) old new name true
    → is_seen new text ≡ cond (is_word name.now text) true (is_seen old text)
seen_after old new name text after =
    after.0 (record { ref_ptr = name.ref_ptr; now = text }) ∙ ap (λ (b : Bool). cond b true (is_seen old text)) (is_eq-slice_cmp name.now text ∙ nat_list_eq_equiv.symm name.now text)

-- another name is put among those that were seen, or it was seen before
pub note_name : (old new : BTreeSet (Bor (List ℕ))) (name : Bor (List ℕ)) (names : List (List ℕ)) (added : Bool) → eqb (length name.now) 0 ≡ false → added ≡ not (is_seen old name.now)
    → Updates (λ a b. slice_cmp nat_cmp a.now b.now) old new name true → repeats (is_seen old) (name.now ∷ names) ≡ not added || repeats (is_seen new) names
unfolding repeats
note_name old new name names true some is after =
    let unseen : is_seen old name.now ≡ false = not-true (is_seen old name.now) (sym is) in
    rw (some, unseen) (sym (seen_more (is_seen old) name.now names some) ∙ ap (λ (seen : List ℕ → Bool). repeats seen names) (λ i text. sym (seen_after old new name text after) i))
note_name old new name names false some is after = rw (some, not-false (is_seen old name.now) (sym is)) refl

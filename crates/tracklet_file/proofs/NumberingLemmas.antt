-- Lists that stand newest first, over the vectors that keep them oldest first.
use Rattle.std.proofs.Common.{◌≡◌, ℕ, ◌+◌, ◌-◌, ◌<◌, ◌≤◌, Bool, true, false, cond, List, [], ◌∷◌, ◌++◌, length, get_or, Option, Some, None, zero, suc, refl, ap, sym, ◌∙◌, inl, inr, eq-or-lt_of_le, arith}
use Rattle.std.specs.Prelude.{reverse, ◌==◌, ◌≢◌, slice_get, IsSome}
use Rattle.std.specs.Option.{option_map}
use Rattle.std.proofs.Math.ListN.{set}
use Rattle.std.proofs.lemmas.List.{reverse-append, reverse-reverse, length-reverse, set_at, set-append_left}
use Rattle.std.proofs.lemmas.Option.{slice_get_read, slice_get_within, none-some, same_Some}
use Rattle.std.proofs.lemmas.Bool.{eqb-true, eqb-false, false≢true}
use Rattle.std.proofs.lemmas.Bool.Decides.{nat_tests}
use Rattle.tracklet_file.specs.Numbering.{next_number, numbered, changed_at}

-- one more item at the end of the vector is the newest
pub reverse_push : {A : Type 0} (items : List A) (item : A) → reverse (items ++ item ∷ []) ≡ item ∷ reverse items
reverse_push items item = reverse-append items (item ∷ [])

slice_get_end : {A : Type 0} (items : List A) (item : A) → slice_get (items ++ item ∷ []) (length items) ≡ Some item
slice_get_end [] item = refl
slice_get_end (first ∷ items) item = slice_get_end items item

slice_get_inside : {A : Type 0} (items : List A) (item : A) (place : ℕ) → place ≢ length items → slice_get (items ++ item ∷ []) place ≡ slice_get items place
slice_get_inside [] item zero other = absurd (other refl)
slice_get_inside [] item (suc place) other = refl
slice_get_inside (first ∷ items) item zero other = refl
slice_get_inside (first ∷ items) item (suc place) other = slice_get_inside items item place (λ same. other (ap suc same))

-- no item has the number 0
pub numbered_zero : {A : Type 0} (items : List A) → numbered items 0 ≡ None
numbered_zero [] = refl
numbered_zero (newest ∷ older) =
    let other : (0 == next_number older) ≡ false = grind (arith, nat_tests) in
    ap (λ (b : Bool). cond b (Some newest) (numbered older 0)) other ∙ numbered_zero older

numbered_turned : {A : Type 0} (items : List A) (place : ℕ) → numbered items (place + 1) ≡ slice_get (reverse items) place
numbered_turned [] place = refl
numbered_turned (newest ∷ older) place = by (place + 1 == next_number older) refl (numbered_turned older place)
  where
    by : (b : Bool) → (place + 1 == next_number older) ≡ b → numbered older (place + 1) ≡ slice_get (reverse older) place → numbered (newest ∷ older) (place + 1) ≡ slice_get (reverse (newest ∷ older)) place
    by true is rest =
        let last : length (reverse older) ≡ place = ends in
        ap (λ (b : Bool). cond b (Some newest) (numbered older (place + 1))) is
        ∙ sym (ap (λ (xs : List _). slice_get xs place) (reverse-append (newest ∷ []) older) ∙ ap (slice_get (reverse older ++ newest ∷ [])) (sym last) ∙ slice_get_end (reverse older) newest)
      where
        ends : length (reverse older) ≡ place
        ends = length-reverse older ∙ grind (arith, nat_tests)
    by false is rest =
        ap (λ (b : Bool). cond b (Some newest) (numbered older (place + 1))) is ∙ rest
        ∙ sym (ap (λ (xs : List _). slice_get xs place) (reverse-append (newest ∷ []) older) ∙ slice_get_inside (reverse older) newest place other)
      where
        other : place ≢ length (reverse older)
        other same = absurd (differs (same ∙ length-reverse older))
          where
            differs : place ≡ length older → ⊥
            differs same = grind (arith, nat_tests)

-- the item at a place of the vector has the number that is one more
pub numbered_at : {A : Type 0} (items : List A) (place : ℕ) → numbered (reverse items) (place + 1) ≡ slice_get items place
numbered_at items place = numbered_turned (reverse items) place ∙ ap (λ (xs : List _). slice_get xs place) (reverse-reverse items)

-- ---- numbers that are there

pub numbered_within : {A : Type 0} (items : List A) (number : ℕ) → IsSome (numbered items number) → (0 < number) × (number ≤ length items)
numbered_within [] number there = absurd (false≢true there)
numbered_within (newest ∷ older) number there = by (number == next_number older) refl there (numbered_within older number)
  where
    by : (b : Bool) → (number == next_number older) ≡ b → IsSome (cond b (Some newest) (numbered older number)) → (IsSome (numbered older number) → (0 < number) × (number ≤ length older))
        → (0 < number) × (number ≤ length (newest ∷ older))
    by true is there rest =
        let same : number ≡ next_number older = eqb-true _ _ is in
        (omega arith, omega arith)
    by false is there rest =
        let inside = rest there in
        (inside.0, omega arith)

-- what was read at the place of a number has the number
pub read_at : {A : Type 0} (items : List A) (number : ℕ) (item : A) → IsSome (numbered (reverse items) number) → item ≡ get_or items (number - 1) item → numbered (reverse items) number ≡ Some item
read_at items number item there read =
    let inside = numbered_within (reverse items) number there in
    let lengths : length (reverse items) ≡ length items = length-reverse items in
    let place : number ≡ number - 1 + 1 = omega arith in
    ap (numbered (reverse items)) place ∙ numbered_at items (number - 1) ∙ slice_get_read items (length items) (number - 1) item refl (omega arith) read

-- what has a number stands at its place
pub numbered_place : {A : Type 0} (items : List A) (number : ℕ) → IsSome (numbered (reverse items) number) → numbered (reverse items) number ≡ slice_get items (number - 1)
numbered_place items number there =
    let inside = numbered_within (reverse items) number there in
    let place : number ≡ number - 1 + 1 = omega arith in
    ap (numbered (reverse items)) place ∙ numbered_at items (number - 1)

pub number_some : {A : Type 0} (items : List A) (number : ℕ) → IsSome (numbered (reverse items) number) → 1 ≤ number
number_some items number there = (numbered_within (reverse items) number there).0

pub place_within : {A : Type 0} (items : List A) (number : ℕ) → IsSome (numbered (reverse items) number) → number - 1 < length items
place_within items number there =
    let inside = numbered_within (reverse items) number there in
    let lengths : length (reverse items) ≡ length items = length-reverse items in
    omega arith

-- ---- a change at a number

pub length-changed_at : {A : Type 0} (change : A → A) (items : List A) (number : ℕ) → length (changed_at change items number) ≡ length items
length-changed_at change [] number = refl
length-changed_at change (newest ∷ older) number = by (number == next_number older) (length-changed_at change older number)
  where
    by : (b : Bool) → length (changed_at change older number) ≡ length older → length (cond b (change newest ∷ older) (newest ∷ changed_at change older number)) ≡ length (newest ∷ older)
    by true rest = refl
    by false rest = ap suc rest

pub numbered_changed : {A : Type 0} (change : A → A) (items : List A) (number : ℕ) → numbered (changed_at change items number) number ≡ option_map change (numbered items number)
numbered_changed change [] number = refl
numbered_changed change (newest ∷ older) number = by (number == next_number older) refl (numbered_changed change older number)
  where
    by : (b : Bool) → (number == next_number older) ≡ b → numbered (changed_at change older number) number ≡ option_map change (numbered older number)
        → numbered (cond b (change newest ∷ older) (newest ∷ changed_at change older number)) number ≡ option_map change (cond b (Some newest) (numbered older number))
    by true is rest = ap (λ (b : Bool). cond b (Some (change newest)) (numbered older number)) is
    by false is rest =
        ap (λ (n : ℕ). cond (number == n + 1) (Some newest) (numbered (changed_at change older number) number)) (length-changed_at change older number)
        ∙ ap (λ (b : Bool). cond b (Some newest) (numbered (changed_at change older number) number)) is ∙ rest

pub numbered_others : {A : Type 0} (change : A → A) (items : List A) (number other : ℕ) → (other == number) ≡ false → numbered (changed_at change items number) other ≡ numbered items other
numbered_others change [] number other differs = refl
numbered_others change (newest ∷ older) number other differs = by (number == next_number older) refl (numbered_others change older number other differs)
  where
    by : (b : Bool) → (number == next_number older) ≡ b → numbered (changed_at change older number) other ≡ numbered older other
        → numbered (cond b (change newest ∷ older) (newest ∷ changed_at change older number)) other ≡ cond (other == next_number older) (Some newest) (numbered older other)
    by true is rest =
        let past : (other == next_number older) ≡ false = ap (λ (n : ℕ). other == n) (sym (eqb-true _ _ is)) ∙ differs in
        ap (λ (b : Bool). cond b (Some (change newest)) (numbered older other)) past ∙ sym (ap (λ (b : Bool). cond b (Some newest) (numbered older other)) past)
    by false is rest =
        ap (λ (n : ℕ). cond (other == n + 1) (Some newest) (numbered (changed_at change older number) other)) (length-changed_at change older number)
        ∙ ap (λ (o : Option _). cond (other == next_number older) (Some newest) o) rest

-- one more item leaves the numbers of the others
pub numbered_stays : {A : Type 0} (newest : A) (older : List A) (number : ℕ) → IsSome (numbered older number) → numbered (newest ∷ older) number ≡ numbered older number
numbered_stays newest older number there =
    let inside = numbered_within older number there in
    let differs : (number == next_number older) ≡ false = grind (arith, nat_tests) in
    ap (λ (b : Bool). cond b (Some newest) (numbered older number)) differs

below_other : {n m : ℕ} → n ≤ m → n ≢ m → n < m
below_other low differs = elim (eq-or-lt_of_le low) [ inl same ↦ absurd (differs same) | inr below ↦ below ]

changed_turned : {A : Type 0} (change : A → A) (items : List A) (place : ℕ) (item : A) → slice_get (reverse items) place ≡ Some item
    → changed_at change items (place + 1) ≡ reverse (set (reverse items) place (change item))
changed_turned change [] place item there = absurd (none-some item there)
changed_turned change (newest ∷ older) place item there = by (place + 1 == next_number older) refl (changed_turned change older place item)
  where
    turned : reverse (newest ∷ older) ≡ reverse older ++ newest ∷ []
    turned = reverse-append (newest ∷ []) older

    by : (b : Bool) → (place + 1 == next_number older) ≡ b → (slice_get (reverse older) place ≡ Some item → changed_at change older (place + 1) ≡ reverse (set (reverse older) place (change item)))
        → cond b (change newest ∷ older) (newest ∷ changed_at change older (place + 1)) ≡ reverse (set (reverse (newest ∷ older)) place (change item))
    by true is rest =
        let last : length (reverse older) ≡ place = length-reverse older ∙ grind (arith, nat_tests) in
        let newest_is : newest ≡ item =
        same_Some newest item (sym (slice_get_end (reverse older) newest) ∙ ap (slice_get (reverse older ++ newest ∷ [])) last ∙ ap (λ (xs : List _). slice_get xs place) (sym turned) ∙ there) in
        ap (λ (i : _). change i ∷ older) newest_is ∙ ap (λ (xs : List _). change item ∷ xs) (sym (reverse-reverse older)) ∙ sym (reverse_push (reverse older) (change item))
        ∙ ap reverse (sym (set_at (reverse older) newest [] (change item) place last)) ∙ ap (λ (xs : List _). reverse (set xs place (change item))) (sym turned)
    by false is rest =
        let lengths : length (reverse older) ≡ length older = length-reverse older in
        let below : place < length (reverse (newest ∷ older)) = slice_get_within (reverse (newest ∷ older)) place item there in
        let all : length (reverse (newest ∷ older)) ≡ length (newest ∷ older) = length-reverse (newest ∷ older) in
        let differs : place ≢ length older = λ same. eqb-false _ _ is (ap (λ (n : ℕ). n + 1) same) in
        let differs_turned : place ≢ length (reverse older) = λ same. differs (same ∙ lengths) in
        let within : place < length (reverse older) = below_other below_sum differs_turned in
        let here = rest (sym (slice_get_inside (reverse older) newest place differs_turned) ∙ ap (λ (xs : List _). slice_get xs place) (sym turned) ∙ there) in
        ap (λ (xs : List _). newest ∷ xs) here ∙ sym (reverse_push (set (reverse older) place (change item)) newest)
        ∙ ap reverse (sym (set-append_left (reverse older) (newest ∷ []) place (change item) within)) ∙ ap (λ (xs : List _). reverse (set xs place (change item))) (sym turned)
      where
        below_sum : place ≤ length (reverse older)
        below_sum =
            let below : place < length (reverse (newest ∷ older)) = slice_get_within (reverse (newest ∷ older)) place item there in
            let all : length (reverse (newest ∷ older)) ≡ length (newest ∷ older) = length-reverse (newest ∷ older) in
            let lengths : length (reverse older) ≡ length older = length-reverse older in
            omega arith

-- a change in the vector at the place of a number
pub changed_in_place : {A : Type 0} (change : A → A) (items : List A) (number : ℕ) (item : A) → IsSome (numbered (reverse items) number) → item ≡ get_or items (number - 1) item
    → changed_at change (reverse items) number ≡ reverse (set items (number - 1) (change item))
changed_in_place change items number item there read =
    let inside = numbered_within (reverse items) number there in
    let lengths : length (reverse items) ≡ length items = length-reverse items in
    let place : number ≡ number - 1 + 1 = omega arith in
    let back : reverse (reverse items) ≡ items = reverse-reverse items in
    ap (changed_at change (reverse items)) place
    ∙ changed_turned change (reverse items) (number - 1) item (ap (λ (xs : List _). slice_get xs (number - 1)) back ∙ slice_get_read items (length items) (number - 1) item refl (omega arith) read)
    ∙ ap (λ (xs : List _). reverse (set xs (number - 1) (change item))) back

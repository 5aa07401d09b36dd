-- Names that stand in a list once each, and the designations that they lead to.
use Rattle.std.proofs.Common.{◌≡◌, ℕ, zero, suc, ◌<◌, Bool, true, false, cond, List, [], ◌∷◌, ◌++◌, length, get_or, map, Option, Some, None, set, refl, ap, sym, ◌∙◌, arith}
use Rattle.std.specs.Prelude.{bytes_eq, slice_index}
use Rattle.std.proofs.lemmas.Slice.Eq.{bytes_eq-Decides}
use Rattle.std.proofs.lemmas.List.{get_or-map}
use Rattle.packed_names.specs.declared.name.Designation.{Designation}
use Rattle.comet_core.specs.declared.names.KnownName.{KnownName}
use Rattle.comet_core.specs.Names.{object_of, text_mark, name_mark, AreOnce, StandsAt}

same : (a b : List ℕ) → bytes_eq a b ≡ true → a ≡ b
same a b is = (bytes_eq-Decides a b).0 is

itself : (a b : List ℕ) → a ≡ b → bytes_eq a b ≡ true
itself a b is = (bytes_eq-Decides a b).1 is

-- a choice by a test that is known
chosen : {A : Type 0} (b : Bool) (x y : A) → b ≡ true → cond b x y ≡ x
chosen true x y is = refl
chosen false x y is = absurd cc

-- the name at a place leads to the designation there
pub object_at : (names : List KnownName) (place : ℕ) (d : KnownName) → AreOnce names → place < length names → object_of names (get_or names place d).text ≡ Some (get_or names place d).object
object_at [] place d once within = absurd (omega (arith, within))
object_at (n ∷ more) zero d once within = chosen (bytes_eq n.text n.text) (Some n.object) (object_of more n.text) (itself n.text n.text refl)
object_at (n ∷ more) (suc place) d once within = by (bytes_eq n.text own.text) refl (object_at more place d once.1 (omega (arith, within)))
  where
    own : KnownName
    own = get_or more place d

    by : (b : Bool) → bytes_eq n.text own.text ≡ b → object_of more own.text ≡ Some own.object → cond b (Some n.object) (object_of more own.text) ≡ Some own.object
    by true is rest =
        let none : object_of more own.text ≡ None = ap (object_of more) (sym (same n.text own.text is)) ∙ once.0 in
        let never : None ≡ Some own.object = sym none ∙ rest in
        absurd cc
    by false is rest = rest

-- a name that leads nowhere stands nowhere
pub nowhere : (names : List KnownName) (text : List ℕ) → ((place : ℕ) → place < length names → (d : KnownName) → bytes_eq (get_or names place d).text text ≡ false) → object_of names text ≡ None
nowhere [] text none = refl
nowhere (n ∷ more) text none =
    ap (λ (b : Bool). cond b (Some n.object) (object_of more text)) (none 0 (omega arith) n)
    ∙ nowhere more text (λ place within d. none (suc place) (omega (arith, within)) d)

-- what a text leads to where a name gets a designation
abbrev with_name : KnownName → List ℕ → Option Designation → Option Designation
with_name known text older = cond (bytes_eq known.text text) (Some known.object) older

-- a text that isn't a name of the list's front is none of a name's own
apart_from : (n : KnownName) (more : List KnownName) (text : List ℕ) → cond (bytes_eq n.text text) (Some n.object) (object_of more text) ≡ None → (bytes_eq n.text text ≡ false) × (object_of more text ≡ None)
apart_from n more text none = by (bytes_eq n.text text) none
  where
    by : (b : Bool) → cond b (Some n.object) (object_of more text) ≡ None → (b ≡ false) × (object_of more text ≡ None)
    by true never = absurd cc
    by false rest = (refl, rest)

-- one text is told from two names that are apart
order_of_tests : (n known : KnownName) (text : List ℕ) (rest : Option Designation) → bytes_eq n.text known.text ≡ false
    → cond (bytes_eq n.text text) (Some n.object) (with_name known text rest) ≡ with_name known text (cond (bytes_eq n.text text) (Some n.object) rest)
order_of_tests n known text rest apart = by (bytes_eq n.text text) (bytes_eq known.text text) refl refl
  where
    by : (mine its : Bool) → bytes_eq n.text text ≡ mine → bytes_eq known.text text ≡ its
        → cond mine (Some n.object) (cond its (Some known.object) rest) ≡ cond its (Some known.object) (cond mine (Some n.object) rest)
    by true true mine_is its_is =
        let is : bytes_eq n.text known.text ≡ true = itself n.text known.text (same n.text text mine_is ∙ sym (same known.text text its_is)) in
        absurd cc
    by true false mine_is its_is = refl
    by false true mine_is its_is = refl
    by false false mine_is its_is = refl

-- two texts that are apart
turned : (a b : List ℕ) → bytes_eq a b ≡ false → bytes_eq b a ≡ false
turned a b apart = by (bytes_eq b a) refl
  where
    by : (x : Bool) → bytes_eq b a ≡ x → x ≡ false
    by false is = refl
    by true is =
        let yes : bytes_eq a b ≡ true = itself a b (sym (same b a is)) in
        absurd cc

-- what isn't found stays so where another name comes
still : (n known : KnownName) (more : List KnownName) → bytes_eq n.text known.text ≡ false → object_of more n.text ≡ None → with_name known n.text (object_of more n.text) ≡ None
still n known more apart none = ap (λ (b : Bool). cond b (Some known.object) (object_of more n.text)) (turned n.text known.text apart) ∙ none

-- ---- a name more

pub finds_more : (names : List KnownName) (known : KnownName) (text : List ℕ) → object_of names known.text ≡ None → object_of (names ++ known ∷ []) text ≡ with_name known text (object_of names text)
finds_more [] known text new = refl
finds_more (n ∷ more) known text new =
    let apart = apart_from n more known.text new in
    ap (cond (bytes_eq n.text text) (Some n.object)) (finds_more more known text apart.1)
    ∙ order_of_tests n known text (object_of more text) apart.0

pub once_more : (names : List KnownName) (known : KnownName) → AreOnce names → object_of names known.text ≡ None → AreOnce (names ++ known ∷ [])
once_more [] known once new = (refl, tt)
once_more (n ∷ more) known once new =
    let apart = apart_from n more known.text new in
    (finds_more more known n.text apart.1 ∙ still n known more apart.0 once.0, once_more more known once.1 apart.1)

-- ---- another designation of a name

-- a name that stands further on isn't the first one
first_apart : (n : KnownName) (more : List KnownName) (place : ℕ) (known : KnownName) → AreOnce (n ∷ more) → place < length more → (get_or more place known).text ≡ known.text → bytes_eq n.text known.text ≡ false
first_apart n more place known once within is = by (bytes_eq n.text known.text) refl
  where
    by : (b : Bool) → bytes_eq n.text known.text ≡ b → b ≡ false
    by false apart = refl
    by true same_is =
        let there : object_of more known.text ≡ Some (get_or more place known).object = ap (object_of more) (sym is) ∙ object_at more place known once.1 within in
        let none : object_of more known.text ≡ None = ap (object_of more) (sym (same n.text known.text same_is)) ∙ once.0 in
        let never : None ≡ Some (get_or more place known).object = sym none ∙ there in
        absurd cc

pub finds_set : (names : List KnownName) (place : ℕ) (known : KnownName) (text : List ℕ) → AreOnce names → place < length names → (get_or names place known).text ≡ known.text
    → object_of (set names place known) text ≡ with_name known text (object_of names text)
finds_set [] place known text once within is = absurd (omega (arith, within))
finds_set (n ∷ more) zero known text once within is = twice (bytes_eq known.text text) (bytes_eq n.text text) (ap (λ (own : List ℕ). bytes_eq own text) is)
  where
    twice : (its mine : Bool) → mine ≡ its → cond its (Some known.object) (object_of more text) ≡ cond its (Some known.object) (cond mine (Some n.object) (object_of more text))
    twice true mine is = refl
    twice false true is = absurd cc
    twice false false is = refl
finds_set (n ∷ more) (suc place) known text once within is =
    let inside : place < length more = omega (arith, within) in
    ap (cond (bytes_eq n.text text) (Some n.object)) (finds_set more place known text once.1 inside is)
    ∙ order_of_tests n known text (object_of more text) (first_apart n more place known once inside is)

pub once_set : (names : List KnownName) (place : ℕ) (known : KnownName) → AreOnce names → place < length names → (get_or names place known).text ≡ known.text → AreOnce (set names place known)
once_set [] place known once within is = absurd (omega (arith, within))
once_set (n ∷ more) zero known once within is = (ap (object_of more) (sym is) ∙ once.0, once.1)
once_set (n ∷ more) (suc place) known once within is =
    let inside : place < length more = omega (arith, within) in
    (finds_set more place known n.text once.1 inside is ∙ still n known more (first_apart n more place known once inside is) once.0, once_set more place known once.1 inside is)

pub marks_set : (names : List KnownName) (place : ℕ) (known : KnownName) → place < length names → (get_or names place known).text ≡ known.text → map name_mark (set names place known) ≡ map name_mark names
marks_set [] place known within is = absurd (omega (arith, within))
marks_set (n ∷ more) zero known within is = ap (λ (text : List ℕ). text_mark text ∷ map name_mark more) (sym is)
marks_set (n ∷ more) (suc place) known within is = ap (λ (marks : List ℕ). name_mark n ∷ marks) (marks_set more place known (omega (arith, within)) is)

-- ---- what is found by its mark

pub found_at : (names : List KnownName) (place : ℕ) (text : List ℕ) (own d : KnownName) → AreOnce names → StandsAt names place text → own ≡ get_or names place d → Some own.object ≡ object_of names text
found_at names place text own d once stands is =
    ap (λ (known : KnownName). Some known.object) is ∙ sym (object_at names place d once stands.0) ∙ ap (object_of names) (stands.1 d)

-- no name that has the text's mark is the text, and so none is
pub not_found : (names : List KnownName) (marks : List ℕ) (text : List ℕ) → marks ≡ map name_mark names
    → ((place : ℕ) → place < length names → slice_index marks place ≡ text_mark text → (d : KnownName) → bytes_eq (get_or names place d).text text ≡ false)
    → object_of names text ≡ None
not_found names marks text are none = nowhere names text (λ place within d. by place within d (bytes_eq (get_or names place d).text text) refl)
  where
    by : (place : ℕ) → place < length names → (d : KnownName) → (b : Bool) → bytes_eq (get_or names place d).text text ≡ b → bytes_eq (get_or names place d).text text ≡ false
    by place within d false is = is
    by place within d true is =
        let own : text_mark (get_or names place d).text ≡ text_mark text = ap text_mark (same (get_or names place d).text text is) in
        let there : slice_index marks place ≡ name_mark (get_or names place d) = ap (λ (ms : List ℕ). slice_index ms place) are ∙ get_or-map name_mark names place d 0 within in
        none place within (there ∙ own) d

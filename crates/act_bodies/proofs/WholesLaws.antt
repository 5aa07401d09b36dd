-- The whole numbers of a list, read one after the other.
use Rattle.std.proofs.Common.{◌≡◌, ℕ, ◌+◌, ◌<◌, ◌≤◌, List, [], ◌∷◌, ◌++◌, length, drop, get_or, Option, Some, None, refl, ap, sym, ◌∙◌}
use Rattle.std.proofs.lemmas.List.{append_assoc, append-nil, at_drop_more, at_drop_all}
use Rattle.serde_json.specs.declared.value.Value.{Value}
use Rattle.serde_json.specs.View.{view, items_view}
use Rattle.ascii_text.specs.Reading.{◌>>=◌}
use Rattle.act_bodies.specs.Members.{whole_of, wholes_of}

-- numbers before those that are still to be read, if these can be
abbrev pub joined : List ℕ → Option (List ℕ) → Option (List ℕ)
joined before (Some more) = Some (before ++ more)
joined before None = None

pub joined_nothing : (o : Option (List ℕ)) → o ≡ joined [] o
joined_nothing (Some more) = refl
joined_nothing None = refl

joined_one : (before : List ℕ) (whole : ℕ) (o : Option (List ℕ)) → joined before (o >>= λ more. Some (whole ∷ more)) ≡ joined (before ++ whole ∷ []) o
joined_one before whole (Some more) = ap Some (sym (append_assoc before (whole ∷ []) more))
joined_one before whole None = refl

-- the whole numbers of what is left, where its first value is one
left_one : (items : List Value) (i : ℕ) (value : Value) (whole : ℕ) → i < length items → value ≡ get_or items i value → whole_of (view value) ≡ Some whole
    → wholes_of (items_view (drop i items)) ≡ (wholes_of (items_view (drop (i + 1) items)) >>= λ more. Some (whole ∷ more))
unfolding wholes_of
left_one items i value whole below at is =
    at_drop_more (λ left. wholes_of (items_view left)) items i value below
    ∙ ap (λ (o : Option ℕ). o >>= λ first. wholes_of (items_view (drop (i + 1) items)) >>= λ more. Some (first ∷ more)) (ap (λ v. whole_of (view v)) (sym at) ∙ is)

-- one value more was read
pub joined-read : (items : List Value) (i : ℕ) (value : Value) (before after : List ℕ) (whole : ℕ) → i < length items
    → value ≡ get_or items i value → whole_of (view value) ≡ Some whole → wholes_of (items_view items) ≡ joined before (wholes_of (items_view (drop i items)))
    → after ≡ before ++ whole ∷ [] → wholes_of (items_view items) ≡ joined after (wholes_of (items_view (drop (i + 1) items)))
joined-read items i value before after whole below at is kept pushed =
    kept ∙ ap (joined before) (left_one items i value whole below at is) ∙ joined_one before whole (wholes_of (items_view (drop (i + 1) items)))
    ∙ ap (λ (numbers : List ℕ). joined numbers (wholes_of (items_view (drop (i + 1) items)))) (sym pushed)

-- a value that is no whole number was met
pub joined-met : (items : List Value) (i : ℕ) (value : Value) (before : List ℕ) → i < length items
    → value ≡ get_or items i value → whole_of (view value) ≡ None → wholes_of (items_view items) ≡ joined before (wholes_of (items_view (drop i items)))
    → wholes_of (items_view items) ≡ None
unfolding wholes_of
joined-met items i value before below at is kept =
    kept
    ∙ ap (joined before)
    (at_drop_more (λ left. wholes_of (items_view left)) items i value below
    ∙ ap (λ (o : Option ℕ). o >>= λ first. wholes_of (items_view (drop (i + 1) items)) >>= λ more. Some (first ∷ more)) (ap (λ v. whole_of (view v)) (sym at) ∙ is))

-- nothing is left
pub joined-end : (items : List Value) (i : ℕ) (before : List ℕ) → length items ≤ i
    → wholes_of (items_view items) ≡ joined before (wholes_of (items_view (drop i items))) → wholes_of (items_view items) ≡ Some before
unfolding wholes_of
joined-end items i before past kept =
    kept ∙ ap (joined before) (at_drop_all (λ left. wholes_of (items_view left)) items i past) ∙ ap Some (append-nil before)

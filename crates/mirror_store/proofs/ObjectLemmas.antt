-- The objects of an office as rows: each is in range, and they stand by place, under different names.
use Rattle.std.proofs.Common.{◌≡◌, ◌⊎◌, inl, inr, ℕ, ◌+◌, ◌<◌, true, List, [], ◌∷◌, map, Option, Some, None, refl, arith}
use Rattle.std.specs.List.{AllByRecursion, Contains}
use Rattle.std.specs.Option.{option_map_or}
use Rattle.std.specs.Ordering.{eq_by_cmp}
use Rattle.std.specs.declared.cmp.Ordering.TheVariants.{Less}
use Rattle.std.proofs.lemmas.List.Elements.{All-contains, All-from_recursion}
use Rattle.ascii_text.specs.Laws.{TextLaws}
use Rattle.packed_names.specs.declared.name.Designation.{Designation}
use Rattle.packed_names.specs.declared.name.Name.{Name}
use Rattle.packed_names.specs.declared.name.Name.TheVariants as names
use Rattle.packed_names.specs.declared.number.Number.{Number}
use Rattle.packed_names.specs.Order.{designation_cmp}
use Rattle.packed_names.specs.Printed.{printed_text, IsPrintedAs}
use Rattle.packed_names.specs.Ranges.{IsDesignation, IsNumber}
use Rattle.identify_core.specs.Principals.{IsBefore, IsAscending}
use Rattle.numbering_core.specs.Numbers.{number_of}
use Rattle.act_model.specs.declared.deed.Deed.{Deed}
use Rattle.act_model.specs.Numbers.{numbers_of}
use Rattle.mirror_store.specs.Mirrored.{printed_label, object_rows_from}
use Rattle.mirror_store.specs.Rows.{Ascend, AreDifferent, IsObjectRow, IsPrintedDesignation}
use Rattle.mirror_store.proofs.LabelLemmas.{is_printed, one_text}

-- ---- ranges

number_is : (number : Option Number) → ((n : Number) → number ≡ Some n → IsNumber n.0) → (option_map_or (λ n. n.0) number 0 ≡ 0) ⊎ IsNumber (option_map_or (λ n. n.0) number 0)
number_is None are = inl refl
number_is (Some n) are = inr (are n refl)

module _ (texts : TextLaws) where
  -- the label of a designation is its printed form
  pub printed_is : (d : Designation) → IsDesignation d → IsPrintedDesignation (printed_label d)
  printed_is d is = (d, printed_text (names.Designation d), record { within = is; text_is = refl }, is_printed texts d is)

  pub objects_are : (past : List Deed) → ((d : Designation) (n : Number) → number_of (numbers_of past) d ≡ Some n → IsNumber n.0) → (place : ℕ) (names : List Designation) → AllByRecursion IsDesignation names → AllByRecursion IsObjectRow (object_rows_from past place names)
  objects_are past are place [] named = tt
  objects_are past are place (p ∷ more) named =
      (record { principal = printed_is p named.0; number = number_is (number_of (numbers_of past) p) (are p) }, objects_are past are (place + 1) more named.1)

-- ---- places

-- the places from one on are all after what is before it
places_after : (past : List Deed) (before place : ℕ) (names : List Designation) → before < place → AllByRecursion (λ later. before < later) (map (λ row. row.place) (object_rows_from past place names))
places_after past before place [] after = tt
places_after past before place (p ∷ more) after = (after, places_after past before (place + 1) more (omega arith))

pub places_ascend : (past : List Deed) (place : ℕ) (names : List Designation) → Ascend (map (λ row. row.place) (object_rows_from past place names))
places_ascend past place [] = tt
places_ascend past place (p ∷ more) = (places_after past place (place + 1) more (omega arith), places_ascend past (place + 1) more)

-- ---- principals

-- what no item of a list is doesn't stand in it
none_is : {A : Type 0} (xs : List A) (x : A) → AllByRecursion (λ y. y ≡ x → ⊥) xs → ¬ Contains xs x
none_is xs x none there = All-contains (λ y. y ≡ x → ⊥) xs x (All-from_recursion (λ y. y ≡ x → ⊥) xs none) there refl

module _ (itself : (d : Designation) → eq_by_cmp designation_cmp d d ≡ true)
    (one_name : (one other : Name) (text : List ℕ) → IsPrintedAs one text → IsPrintedAs other text → one ≡ other) where
  one_designation : (one other : Designation) → IsDesignation one → IsDesignation other → printed_label one ≡ printed_label other → one ≡ other
  one_designation one other one_is other_is same =
      let text = printed_text (names.Designation one) in
      let text_is = one_text text (printed_text (names.Designation other)) same in
      let one_is_printed : IsPrintedAs (names.Designation one) text = record { within = one_is; text_is = refl } in
      let names_are = one_name (names.Designation one) (names.Designation other) text one_is_printed (record { within = other_is; text_is = text_is }) in
      cc

  not_before_itself : (d e : Designation) → designation_cmp d e ≡ Less → e ≡ d → ⊥
  not_before_itself d e before same = let equal = itself d in cc

  others_differ : (past : List Deed) (d : Designation) (place : ℕ) (names : List Designation) → IsDesignation d → AllByRecursion IsDesignation names → IsBefore d names → AllByRecursion (λ label. label ≡ printed_label d → ⊥) (map (λ row. row.principal) (object_rows_from past place names))
  others_differ past d place [] is named before = tt
  others_differ past d place (e ∷ more) is named before =
      (λ same. not_before_itself d e before.0 (one_designation e d named.0 is same), others_differ past d (place + 1) more is named.1 before.1)

  pub principals_differ : (past : List Deed) (place : ℕ) (names : List Designation) → AllByRecursion IsDesignation names → IsAscending names → AreDifferent (map (λ row. row.principal) (object_rows_from past place names))
  principals_differ past place [] named ascending = tt
  principals_differ past place (d ∷ more) named ascending =
      (none_is _ _ (others_differ past d (place + 1) more named.0 named.1 ascending.0), principals_differ past (place + 1) more named.1 ascending.1)

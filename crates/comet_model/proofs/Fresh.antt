-- The name that is given next is one that no comet of the register has.
use Rattle.std.proofs.Common.{◌≡◌, ℕ, ◌+◌, ◌<◌, ◌≤◌, List, [], ◌∷◌, Bool, true, false, cond, Some, None, Ok, refl, sym, ap, subst, ◌∙◌, arith}
use Rattle.std.specs.Prelude.{bytes_eq}
use Rattle.std.specs.List.{AllByRecursion}
use Rattle.std.specs.Ordering.{eq_by_cmp}
use Rattle.std.proofs.lemmas.Bool.Decides.{nat_tests}
use Rattle.std.proofs.lemmas.Slice.Eq.{bytes_eq-Decides}
use Rattle.packed_names.specs.declared.half_month.HalfMonth.{HalfMonth}
use Rattle.packed_names.specs.declared.name.Designation.{Designation}
use Rattle.packed_names.specs.Order.{half_cmp}
use Rattle.packed_names.specs.Ranges.{IsHalfMonth}
use Rattle.comet_names.specs.declared.comet.Comet.{Comet}
use Rattle.comet_names.specs.Judging.{is_comet}
use Rattle.comet_names.specs.Packed.{packed_comet, IsCometPackedAs}
use Rattle.comet_names.specs.Ranges.{IsComet}
use Rattle.act_model.specs.declared.deed.Deed.{Deed}
use Rattle.act_model.specs.declared.entry.Entry.{Entry}
use Rattle.comet_model.specs.declared.named.Found.TheVariants as found
use Rattle.comet_model.specs.declared.named.NamedComet.{NamedComet}
use Rattle.comet_model.specs.declared.naming.Naming.{Naming}
use Rattle.comet_model.specs.Comets.{count_in}
use Rattle.comet_model.specs.Finding.{found_of}
use Rattle.comet_model.specs.Refusals.{names}
use Rattle.comet_model.specs.Register.{comets}
use Rattle.comet_model.specs.Texts.{packed_comet_text}
use Rattle.comet_model.specs.Translation.{object_named}
use Rattle.comet_model.specs.Unbroken.{AreComets}
use Rattle.comet_model.proofs.Names.{AreSameHalves, IsGiven, gives, each_named, are_comets}

-- ---- each number is at most the count

abbrev IsCounted : List NamedComet → NamedComet → Type 0
IsCounted among named = named.comet.number ≤ count_in named.comet.half among

module _ (halves : AreSameHalves) (desk : List Deed) where
  count_grows : (named : NamedComet) (past : List NamedComet) (half : HalfMonth) → count_in half past ≤ count_in half (named ∷ past)
  count_grows named past half = by (eq_by_cmp half_cmp named.comet.half half)
    where
      by : (b : Bool) → count_in half past ≤ cond b (count_in half past + 1) (count_in half past)
      by true = omega arith
      by false = omega arith

  still_counted : (named : NamedComet) (past some : List NamedComet) → AllByRecursion (IsCounted past) some → AllByRecursion (IsCounted (named ∷ past)) some
  still_counted named past [] all = tt
  still_counted named past (n ∷ some) all = (let here = all.0 in let grows = count_grows named past n.comet.half in omega (arith, here, grows), still_counted named past some all.1)

  counted_with : (past : List NamedComet) (naming : Naming) (named : NamedComet) → AllByRecursion (IsCounted past) past → IsGiven desk past naming named → AllByRecursion (IsCounted (named ∷ past)) (named ∷ past)
  counted_with past naming named before is =
      let here : eq_by_cmp half_cmp is.half is.half ≡ true = (halves is.half is.half).1 refl in
      let count : count_in is.half (named ∷ past) ≡ count_in is.half past + 1 =
      ap (λ (n : NamedComet). count_in is.half (n ∷ past)) is.next ∙ ap (λ (b : Bool). cond b (count_in is.half past + 1) (count_in is.half past)) here in
      let number : named.comet.number ≡ count_in is.half past + 1 = ap (λ (n : NamedComet). n.comet.number) is.next in
      let half : named.comet.half ≡ is.half = ap (λ (n : NamedComet). n.comet.half) is.next in
      (subst (λ (h : HalfMonth). named.comet.number ≤ count_in h (named ∷ past)) (sym half) (omega (arith, number, count)), still_counted named past past before)

  counted : (entries : List Entry) → AllByRecursion (IsCounted (comets desk entries)) (comets desk entries)
  counted entries = each_named (λ past. AllByRecursion (IsCounted past) past) desk tt counted_with entries

-- ---- packed names

-- a comet passes the test
passes : (comet : Comet) → IsComet comet → is_comet comet ≡ true
passes comet h = grind (arith, nat_tests, h.half.year_from, h.half.year_to, h.half.index, h.number_from, h.number_to)

packed_is : (comet : Comet) → IsComet comet → packed_comet_text comet ≡ packed_comet comet
packed_is comet is = ap (λ (b : Bool). cond b (packed_comet comet) []) (passes comet is)

module _ (one_comet : (one other : Comet) (text : List ℕ) → IsCometPackedAs one text → IsCometPackedAs other text → one ≡ other) where
  same_packed : (one other : Comet) → IsComet one → IsComet other → packed_comet_text one ≡ packed_comet_text other → one ≡ other
  same_packed one other first second same =
      one_comet one other (packed_comet one) (record { within = first; text_is = refl })
      (record { within = second; text_is = sym (packed_is one first) ∙ same ∙ packed_is other second })

  -- no comet of those whose numbers are at most the count has the next name
  unnamed : (among some : List NamedComet) (next : Comet) → IsComet next → count_in next.half among < next.number → AreComets some → AllByRecursion (IsCounted among) some → object_named some (packed_comet_text next) ≡ None
  unnamed among [] next is above are counts = refl
  unnamed among (n ∷ some) next is above are counts = by (bytes_eq (packed_comet_text n.comet) (packed_comet_text next)) refl (unnamed among some next is above are.1 counts.1)
    where
      by : (b : Bool) → bytes_eq (packed_comet_text n.comet) (packed_comet_text next) ≡ b → object_named some (packed_comet_text next) ≡ None → cond b (Some n.object) (object_named some (packed_comet_text next)) ≡ None
      by true same rest =
          let one : n.comet ≡ next = same_packed n.comet next are.0 is ((bytes_eq-Decides (packed_comet_text n.comet) (packed_comet_text next)).0 same) in
          let most : next.number ≤ count_in next.half among = subst (λ (c : Comet). c.number ≤ count_in c.half among) one counts.0 in
          absurd (omega (arith, most, above))
      by false other rest = rest

  module _ (halves : AreSameHalves) (desk : List Deed) (years : (d : Designation) (half : HalfMonth) → found_of desk d ≡ found.Discovered half → IsHalfMonth half) where
    pub next_unnamed : (entries : List Entry) (naming : Naming) (named : NamedComet) → names desk (comets desk entries) naming ≡ Ok named → object_named (comets desk entries) (packed_comet_text named.comet) ≡ None
    next_unnamed entries naming named given =
        let past : List NamedComet = comets desk entries in
        let is = gives desk past naming named given in
        let free = is.free in
        let next : Comet = record { kind = naming.kind; half = is.half; number = count_in is.half past + 1 } in
        let comet : IsComet next = record { half = years naming.object is.half is.discovered; number_from = omega arith; number_to = omega (arith, free) } in
        ap (λ (n : NamedComet). object_named past (packed_comet_text n.comet)) is.next
        ∙ unnamed past past next comet (omega arith) (are_comets desk years entries) (counted halves desk entries)

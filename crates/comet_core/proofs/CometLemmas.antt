-- The indexes of the comets, with one comet more.
use Rattle.std.proofs.Common.{◌≡◌, ◌≢◌, ℕ, ◌+◌, Bool, true, false, cond, List, [], ◌∷◌, length, Option, Some, None, nat_eq, refl, ap, sym, subst, ◌∙◌, arith}
use Rattle.std.specs.Prelude.{bytes_eq}
use Rattle.std.specs.Ordering.{eq_by_cmp, is_eq}
use Rattle.std.specs.declared.cmp.Ordering.{Ordering}
use Rattle.std.proofs.lemmas.Bool.Decides.{nat_tests}
use Rattle.std.proofs.lemmas.Slice.Eq.{bytes_eq-Decides}
use Rattle.ascii_text.specs.Digits.{digits_text}
use Rattle.ordered_list.specs.Orders.{found}
use Rattle.packed_names.specs.declared.half_month.HalfMonth.{HalfMonth}
use Rattle.packed_names.specs.declared.name.Designation.{Designation}
use Rattle.packed_names.specs.contracts.name.DesignationOrd.TheImpl as derived
use Rattle.packed_names.specs.Order.{half_cmp}
use Rattle.packed_names.specs.Laws.{OrderLaws}
use Rattle.comet_names.specs.declared.comet.Comet.{Comet}
use Rattle.comet_names.specs.Judging.{is_comet}
use Rattle.comet_names.specs.Packed.{packed_comet}
use Rattle.comet_names.specs.Ranges.{IsComet}
use Rattle.comet_model.specs.declared.named.NamedComet.{NamedComet}
use Rattle.comet_model.specs.Comets.{count_in, comet_of}
use Rattle.comet_model.specs.Texts.{packed_comet_text}
use Rattle.comet_model.specs.Translation.{object_named}
use Rattle.comet_core.specs.declared.index.Count.{Count}
use Rattle.comet_core.specs.declared.index.KnownObject.{KnownObject}
use Rattle.comet_core.specs.declared.names.KnownName.{KnownName}
use Rattle.comet_core.specs.Names.{object_of}
use Rattle.comet_core.specs.Comets.{count_key, count_by, object_key, comet_by, AreKept, AreLong}

-- ---- packed names

-- a comet passes the test
passes : (comet : Comet) → IsComet comet → is_comet comet ≡ true
passes comet h = grind (arith, nat_tests, h.half.year_from, h.half.year_to, h.half.index, h.number_from, h.number_to)

packed_is : (comet : Comet) → IsComet comet → packed_comet_text comet ≡ packed_comet comet
packed_is comet is = ap (λ (b : Bool). cond b (packed_comet comet) []) (passes comet is)

packed_long : (comet : Comet) → length (packed_comet comet) ≡ 8
unfolding packed_comet digits_text
packed_long comet = refl

-- a text of another length is the name of none
pub unnamed : (named : List NamedComet) (text : List ℕ) → AreLong named → length text ≢ 8 → object_named named text ≡ None
unnamed [] text long other = refl
unnamed (n ∷ past) text long other = by (bytes_eq (packed_comet_text n.comet) text) refl (unnamed past text long.1 other)
  where
    by : (b : Bool) → bytes_eq (packed_comet_text n.comet) text ≡ b → object_named past text ≡ None → cond b (Some n.object) (object_named past text) ≡ None
    by true same rest = absurd (other (sym (ap length ((bytes_eq-Decides (packed_comet_text n.comet) text).0 same)) ∙ long.0))
    by false apart rest = rest

-- a name is found by its eight characters, and by no other text
pub named_by_eight : (named : List NamedComet) (text : List ℕ) (answer : Option Designation) → AreLong named → (length text ≡ 8 → answer ≡ object_named named text) → (length text ≢ 8 → answer ≡ None)
    → answer ≡ object_named named text
named_by_eight named text answer long eight other = by (nat_eq (length text) 8) refl
  where
    by : (b : Bool) → nat_eq (length text) 8 ≡ b → answer ≡ object_named named text
    by true is = eight (grind (arith, nat_tests, is))
    by false is =
        let apart : length text ≢ 8 = λ same. grind (arith, nat_tests, is, same) in
        other apart ∙ sym (unnamed named text long apart)

-- ---- one comet more

comet_either : (b : Bool) (new : KnownObject) (other : Option KnownObject) (older : Option Comet) → comet_by other ≡ older
    → comet_by (cond b (Some new) other) ≡ cond b (Some new.comet) older
comet_either true new other older is = refl
comet_either false new other older is = is

module _ (orders : OrderLaws) (count_cmp : Count → Count → Ordering) (object_cmp : KnownObject → KnownObject → Ordering) (past : List NamedComet) (named : NamedComet)
    (counts counts' : List Count) (objects objects' : List KnownObject) (names names' : List KnownName) (kept : AreKept count_cmp object_cmp past counts objects names) where
  counted_more : (n : ℕ) → n ≡ count_in named.comet.half past + 1
      → ((half : HalfMonth) → found count_cmp (count_key half 0) counts' ≡ cond (eq_by_cmp half_cmp named.comet.half half) (Some (count_key named.comet.half n)) (found count_cmp (count_key half 0) counts))
      → (half : HalfMonth) → count_by (found count_cmp (count_key half 0) counts') ≡ count_in half (named ∷ past)
  counted_more n is finds half = ap count_by (finds half) ∙ by (eq_by_cmp half_cmp named.comet.half half) refl
    where
      by : (b : Bool) → eq_by_cmp half_cmp named.comet.half half ≡ b
          → count_by (cond b (Some (count_key named.comet.half n)) (found count_cmp (count_key half 0) counts)) ≡ cond b (count_in half past + 1) (count_in half past)
      by true same = is ∙ ap (λ (h : HalfMonth). count_in h past + 1) ((orders.halves named.comet.half half).0 same)
      by false apart = kept.counted half

  by_object_more : ((d : Designation) (comet : Comet) → found object_cmp (object_key d comet) objects'
      ≡ cond (is_eq ((derived.ghosts).cmp named.object d)) (Some (object_key named.object named.comet)) (found object_cmp (object_key d comet) objects))
      → (d : Designation) (comet : Comet) → comet_by (found object_cmp (object_key d comet) objects') ≡ comet_of d (named ∷ past)
  by_object_more finds d comet =
      ap comet_by (finds d comet)
      ∙ comet_either (is_eq ((derived.ghosts).cmp named.object d)) (object_key named.object named.comet) (found object_cmp (object_key d comet) objects) (comet_of d past) (kept.by_object d comet)
      ∙ ap (λ (o : Ordering). cond (is_eq o) (Some named.comet) (comet_of d past)) (orders.compared named.object d)

  by_name_more : (packed : List ℕ) → packed ≡ packed_comet_text named.comet
      → ((text : List ℕ) → object_of names' text ≡ cond (bytes_eq packed text) (Some named.object) (object_of names text))
      → (text : List ℕ) → object_of names' text ≡ object_named (named ∷ past) text
  by_name_more packed is finds text =
      finds text
      ∙ ap (cond (bytes_eq packed text) (Some named.object)) (kept.by_name text)
      ∙ ap (λ (p : List ℕ). cond (bytes_eq p text) (Some named.object) (object_named past text)) is

  pub kept_more : (longer : List NamedComet) → longer ≡ named ∷ past → IsComet named.comet → (n : ℕ) → n ≡ count_in named.comet.half past + 1 → (packed : List ℕ) → packed ≡ packed_comet named.comet
      → ((half : HalfMonth) → found count_cmp (count_key half 0) counts' ≡ cond (eq_by_cmp half_cmp named.comet.half half) (Some (count_key named.comet.half n)) (found count_cmp (count_key half 0) counts))
      → ((d : Designation) (comet : Comet) → found object_cmp (object_key d comet) objects'
      ≡ cond (is_eq ((derived.ghosts).cmp named.object d)) (Some (object_key named.object named.comet)) (found object_cmp (object_key d comet) objects))
      → ((text : List ℕ) → object_of names' text ≡ cond (bytes_eq packed text) (Some named.object) (object_of names text))
      → AreKept count_cmp object_cmp longer counts' objects' names'
  kept_more longer pushed comet n counts_is packed packed_as finds_counts finds_objects finds_names =
      let text : packed ≡ packed_comet_text named.comet = packed_as ∙ sym (packed_is named.comet comet) in
      subst (λ (all : List NamedComet). AreKept count_cmp object_cmp all counts' objects' names') (sym pushed)
      (record {
        long = (ap length (packed_is named.comet comet) ∙ packed_long named.comet, kept.long);
        counted = counted_more n counts_is finds_counts;
        by_object = by_object_more finds_objects;
        by_name = by_name_more packed text finds_names;
      })

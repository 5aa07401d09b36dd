-- Stamps that grow, and the calls that have them.
use Rattle.std.proofs.Common.{◌≡◌, ℕ, ℤ, List, [], ◌∷◌, ◌++◌, length, Option, Some, None, refl, sym, ap, subst, ◌∙◌, append_assoc, le_trans, le_refl, inl, inr, arith}
use Rattle.std.specs.Prelude.{◌⊎◌, IfSome, IsSomeAnd, Contains}
use Rattle.std.proofs.lemmas.List.{append-nil}
use Rattle.std.proofs.lemmas.List.Elements.{Contains-append_left, Contains-append_right, Contains-push, Contains-push_cases}
use Rattle.act_model.specs.declared.keeper.Office.{Office}
use Rattle.act_model.specs.declared.keeper.Stamp.{Stamp}
use Rattle.act_model.specs.declared.keeper.Stamps.{Stamps}
use Rattle.intake_lock.specs.declared.view.Item.{Item}
use Rattle.intake_lock.specs.declared.view.View.{View}
use Rattle.intake_lock.specs.Stamps.{Gave, GoesOn, StampsOn}
use Rattle.intake_lock.specs.Items.{HasStamp, AreStamped, IsStampOf, Stamped, Called}
use Rattle.intake_lock.specs.Rule.{IsCall, StampsCome}

-- ---- stamps that grow

goes_on_refl : (a : Stamps) → GoesOn a a
goes_on_refl a = record { later = le_refl a.moment; newer = []; grown = sym (append-nil a.given) }

pub stamps_refl : (a : Option Stamps) → StampsOn a a
stamps_refl None = refl
stamps_refl (Some stamps) = goes_on_refl stamps

pub stamps_on : (a b c : Option Stamps) → StampsOn a b → StampsOn b c → StampsOn a c
stamps_on None b c first then = subst (λ (o : Option Stamps). StampsOn o c) first then
stamps_on (Some a) None c first then = absurd first
stamps_on (Some a) (Some b) None first then = absurd then
stamps_on (Some a) (Some b) (Some c) first then =
    record {
      later = le_trans first.later then.later;
      newer = first.newer ++ then.newer;
      grown = then.grown ∙ ap (λ (s : List Stamp). s ++ then.newer) first.grown ∙ append_assoc a.given first.newer then.newer;
    }

among_more : (stamps newer : List Stamp) (stamp : Option Stamp) → IsSomeAnd stamp (λ given. Contains stamps given) → IsSomeAnd stamp (λ given. Contains (stamps ++ newer) given)
among_more stamps newer None has = absurd has
among_more stamps newer (Some given) has = Contains-append_left stamps newer given has

pub has_later : (a b : Option Stamps) (reading : Option ℤ) (stamp : Option Stamp) → StampsOn a b → HasStamp a reading stamp → HasStamp b reading stamp
has_later None b reading stamp same has = subst (λ (o : Option Stamps). HasStamp o reading stamp) (sym same) tt
has_later (Some a) None reading stamp on has = absurd on
has_later (Some a) (Some b) None stamp on has = tt
has_later (Some a) (Some b) (Some reading) stamp on has =
    subst (λ (l : List Stamp). IsSomeAnd stamp (λ given. Contains l given)) (sym on.grown) (among_more a.given on.newer stamp has)

pub stamped_later : (a b : Option Stamps) (items : List Item) → StampsOn a b → AreStamped a items → AreStamped b items
stamped_later a b [] on are = tt
stamped_later a b (item ∷ items) on (has, are) = (has_later a b item.reading item.stamp on has, stamped_later a b items on are)

pub stamped_both : (a : Option Stamps) (items more : List Item) → AreStamped a items → AreStamped a more → AreStamped a (items ++ more)
stamped_both a [] more are others = others
stamped_both a (item ∷ items) more (has, are) others = (has, stamped_both a items more are others)

-- ---- the stamp of one call

module _ (item : Item) (count : ℕ) (after : Option Stamps) where
  pub one_grows : (before : Option Stamps) (reading : Option ℤ) → Stamped item before reading count after → StampsOn before after
  one_grows None reading (none, same) = same
  one_grows (Some stamps) None (none, same) = subst (λ (o : Option Stamps). StampsOn (Some stamps) o) (sym same) (goes_on_refl stamps)
  one_grows (Some stamps) (Some reading) s =
      subst (λ (o : Option Stamps). StampsOn (Some stamps) o) (sym s.now) (record { later = s.later; newer = s.given ∷ []; grown = refl })

  pub one_has : (before : Option Stamps) (reading : Option ℤ) → Stamped item before reading count after → HasStamp after reading item.stamp
  one_has None reading (none, same) = subst (λ (o : Option Stamps). HasStamp o reading item.stamp) (sym same) tt
  one_has (Some stamps) None (none, same) = subst (λ (o : Option Stamps). HasStamp o None item.stamp) (sym same) tt
  one_has (Some stamps) (Some reading) s =
      subst (λ (o : Option Stamps). HasStamp o (Some reading) item.stamp) (sym s.now)
      (subst (λ (g : Option Stamp). IsSomeAnd g (λ given. Contains (stamps.given ++ s.given ∷ []) given)) (sym s.of_call.stamp)
      (Contains-push stamps.given s.given))

  no_stamp : item.stamp ≡ None → IfSome item.stamp (λ s. s.entries ≡ count)
  no_stamp none = subst (λ (o : Option Stamp). IfSome o (λ s. s.entries ≡ count)) (sym none) tt

  pub one_counts : (before : Option Stamps) (reading : Option ℤ) → Stamped item before reading count after → IfSome item.stamp (λ s. s.entries ≡ count)
  one_counts None reading (none, same) = no_stamp none
  one_counts (Some stamps) None (none, same) = no_stamp none
  one_counts (Some stamps) (Some reading) s = subst (λ (o : Option Stamp). IfSome o (λ g. g.entries ≡ count)) (sym s.of_call.stamp) s.entries

  -- what was stamped in the call is the call
  one_came : (before : Option Stamps) (reading : Option ℤ) → Stamped item before reading count after → (stamp : Stamp) → Gave after stamp → Gave before stamp ⊎ IsStampOf item stamp
  one_came None reading (none, same) stamp gave = inl (subst (λ (o : Option Stamps). Gave o stamp) same gave)
  one_came (Some stamps) None (none, same) stamp gave = inl (subst (λ (o : Option Stamps). Gave o stamp) same gave)
  one_came (Some stamps) (Some reading) s stamp gave =
      elim (Contains-push_cases stamps.given s.given stamp (subst (λ (o : Option Stamps). Gave o stamp) s.now gave)) [
        | inl earlier ↦ inl earlier
        | inr same ↦ inr (subst (λ (g : Stamp). IsStampOf item g) same s.of_call)
      ]

-- ---- calls one after another

pub called_grows : (before after : Office) (items : List Item) → Called before items after → StampsOn before.stamps after.stamps
called_grows before after [] is = subst (λ (o : Office). StampsOn before.stamps o.stamps) (sym is) (stamps_refl before.stamps)
called_grows before after (item ∷ items) (between, others, last) =
    stamps_on before.stamps between.stamps after.stamps (called_grows before between items others)
    (one_grows item (length after.state.settled) after.stamps between.stamps item.reading last.stamps)

pub called_stamped : (before after : Office) (items : List Item) → Called before items after → AreStamped after.stamps items
called_stamped before after [] is = tt
called_stamped before after (item ∷ items) (between, others, last) = (
  one_has item (length after.state.settled) after.stamps between.stamps item.reading last.stamps,
  stamped_later between.stamps after.stamps items
      (one_grows item (length after.state.settled) after.stamps between.stamps item.reading last.stamps)
      (called_stamped before between items others),
)

-- ---- whose stamps they are

-- what calls are stamped are calls of passes
pub called_came : (opening before after : Office) (views : List View) (items : List Item) → ((i : Item) → Contains items i → IsCall views i) → StampsCome opening before views → Called before items after → StampsCome opening after views
called_came opening before after views [] calls come is = subst (λ (o : Office). StampsCome opening o views) (sym is) come
called_came opening before after views (item ∷ items) calls come (between, others, last) =
    let so_far = called_came opening before between views items (λ i in_it. calls i (Contains-append_right (item ∷ []) items i in_it)) come others in
    λ stamp gave. elim (one_came item (length after.state.settled) after.stamps between.stamps item.reading last.stamps stamp gave) [
      | inl earlier ↦ so_far stamp earlier
      | inr here ↦ inr (item, calls item (Contains-append_left (item ∷ []) items item (0, omega arith, refl)), here)
    ]

pub come_kept : (opening office : Office) (views views' : List View) → ((i : Item) → IsCall views i → IsCall views' i) → StampsCome opening office views → StampsCome opening office views'
come_kept opening office views views' kept come stamp gave = elim (come stamp gave) [
  | inl opened ↦ inl opened
  | inr call ↦ inr (call.0, kept call.0 call.1, call.2)
]

pub come_first : (opening : Office) (views : List View) → StampsCome opening opening views
come_first opening views stamp gave = inl gave

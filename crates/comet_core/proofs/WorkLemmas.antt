-- What becomes of an act, step by step.
use Rattle.std.proofs.Common.{◌≡◌, ℕ, ◌+◌, ◌<◌, ◌≤◌, Bool, true, false, cond, List, ◌∷◌, ◌++◌, length, Option, Some, Ok, refl, sym, ap, subst, ◌∙◌, arith}
use Rattle.std.specs.Prelude.{bytes_eq, ◌↔◌, reverse, slice_get}
use Rattle.std.specs.Ordering.{eq_by_cmp}
use Rattle.packed_names.specs.declared.half_month.HalfMonth.{HalfMonth}
use Rattle.packed_names.specs.Order.{half_cmp}
use Rattle.act_model.specs.declared.deed.Deed.{Deed}
use Rattle.act_model.specs.declared.entry.Entry.{Entry}
use Rattle.act_model.specs.History.{Kept, numbered_entry, next_receipt}
use Rattle.act_model.specs.Texts.{receipt_line}
use Rattle.comet_model.specs.declared.named.NamedComet.{NamedComet}
use Rattle.comet_model.specs.declared.naming.Naming.{Naming}
use Rattle.comet_model.specs.declared.reply.CometRefusal.TheVariants.{OtherRequest}
use Rattle.comet_model.specs.declared.reply.CometReply.TheVariants.{Done, Refused}
use Rattle.comet_model.specs.Comets.{count_in}
use Rattle.comet_model.specs.Namings.{naming_of}
use Rattle.comet_model.specs.Refusals.{names}
use Rattle.comet_model.specs.Register.{named_unless, named_if_read, named_by, with_named, comets}
use Rattle.comet_model.specs.Replies.{named_answer, entry_answer}
use Rattle.comet_model.specs.Step.{kept_reply}
use Rattle.comet_model.specs.Texts.{comet_line}
use Rattle.comet_model.specs.Unbroken.{UnbrokenNames, AreComets}
use Rattle.comet_core.specs.Book.{place_of}
use Rattle.comet_core.specs.Register.{RegisterValue, IsOver, IsNext}
use Rattle.comet_core.proofs.PlaceLemmas.{Stands, stands, placed}

-- ---- an act whose number was used

-- the entry of a number, which stands at its place with the comet that it names
pub record StandsAt (desk : List Deed) (register : RegisterValue) (number place : ℕ) : Type 0 where
  pub k : Kept
  pub kept_is : numbered_entry register.entries 0 number ≡ Some k
  pub place_is : place ≡ length k.before
  pub stands : Stands desk register.entries register.comets k

pub stands_at : (desk : List Deed) (register : RegisterValue) (number place : ℕ) → IsOver desk register → length (comets desk register.entries) ≡ length register.entries
    → Some place ≡ place_of register.entries number → StandsAt desk register number place
stands_at desk register number place over same is =
    let (k, kept_is, place_is) = placed register.entries number place is in
    record {
      k = k;
      kept_is = kept_is;
      place_is = place_is;
      stands = subst (λ (named : List NamedComet). Stands desk register.entries named k) (sym over.comets) (stands desk number k register.entries same kept_is);
    }

module _ (desk : List Deed) (register : RegisterValue) (number place : ℕ) (s : StandsAt desk register number place) where
  pub entry_within : place < length register.entries
  entry_within = let within = s.stands.within in let is = s.place_is in omega (arith, within, is)

  pub comet_within : place < length register.comets
  comet_within = let within = s.stands.comet_within in let is = s.place_is in omega (arith, within, is)

  one_kept : (k : Kept) → numbered_entry register.entries 0 number ≡ Some k → s.k ≡ k
  one_kept k is = let both : Some s.k ≡ Some k = sym s.kept_is ∙ is in cc

  answer_is : entry_answer desk s.k.before s.k.entry ≡ receipt_line (next_receipt s.k.before) ++ comet_line s.stands.comet.comet
  unfolding entry_answer
  answer_is = ap (named_answer (next_receipt s.k.before)) s.stands.names

  -- the request that became the entry has the entry's own answer
  pub done_again : (bytes text : List ℕ) (comet : NamedComet) → comet ≡ s.stands.comet → text ≡ receipt_line (place + 1) ++ comet_line comet.comet → bytes_eq bytes s.k.entry.body ≡ true
      → (k : Kept) → numbered_entry register.entries 0 number ≡ Some k → Done text ≡ kept_reply desk bytes k
  done_again bytes text comet comet_is text_is same k is =
      let all : text ≡ entry_answer desk s.k.before s.k.entry =
      text_is ∙ ap (λ (c : NamedComet). receipt_line (place + 1) ++ comet_line c.comet) comet_is
      ∙ ap (λ (n : ℕ). receipt_line (n + 1) ++ comet_line s.stands.comet.comet) s.place_is ∙ sym answer_is in
      subst (λ (x : Kept). Done text ≡ kept_reply desk bytes x) (one_kept k is)
      (ap (λ (t : List ℕ). Done t) all
      ∙ sym (ap (λ (b : Bool). cond b (Done (entry_answer desk s.k.before s.k.entry)) (Refused (OtherRequest (next_receipt s.k.before)))) same))

  -- and another one is refused
  pub other_again : (bytes : List ℕ) → bytes_eq bytes s.k.entry.body ≡ false → (k : Kept) → numbered_entry register.entries 0 number ≡ Some k → Refused (OtherRequest (place + 1)) ≡ kept_reply desk bytes k
  other_again bytes apart k is =
      subst (λ (x : Kept). Refused (OtherRequest (place + 1)) ≡ kept_reply desk bytes x) (one_kept k is)
      (ap (λ (n : ℕ). Refused (OtherRequest (n + 1))) s.place_is
      ∙ sym (ap (λ (b : Bool). cond b (Done (entry_answer desk s.k.before s.k.entry)) (Refused (OtherRequest (next_receipt s.k.before)))) apart))

-- ---- an act whose number was not used

-- what a body that was read names
pub names_read : (desk : List Deed) (past : List NamedComet) (entry : Entry) (naming : Naming) (named : NamedComet) → naming_of entry.body ≡ Some naming → names desk past naming ≡ Ok named
    → named_by desk past entry ≡ Some named
unfolding named_by
names_read desk past entry naming named read given = ap (named_if_read desk past) read ∙ ap named_unless given

abbrev pub AreSameHalves : Type 0
AreSameHalves = (one other : HalfMonth) → (eq_by_cmp half_cmp one other ≡ true) ↔ (one ≡ other)

module _ (desk : List Deed) (register : RegisterValue) (over : IsOver desk register) (entry : Entry) (named : NamedComet) (is : named_by desk register.comets entry ≡ Some named) where
  pub named_more : comets desk (entry ∷ register.entries) ≡ named ∷ register.comets
  named_more =
      ap (λ (past : List NamedComet). with_named (named_by desk past entry) past) (sym over.comets)
      ∙ ap (λ (o : Option NamedComet). with_named o register.comets) is

  -- it is a comet of a half-month that isn't full
  pub next_is : AreComets (comets desk (entry ∷ register.entries)) → UnbrokenNames desk (entry ∷ register.entries) → AreSameHalves → IsNext register.comets named
  next_is are unbroken halves =
      let most : count_in named.comet.half (named ∷ register.comets) ≤ 99 = subst (λ (c : List NamedComet). count_in named.comet.half c ≤ 99) named_more (unbroken.within named.comet.half) in
      let more : count_in named.comet.half (named ∷ register.comets) ≡ count_in named.comet.half register.comets + 1 =
      ap (λ (b : Bool). cond b (count_in named.comet.half register.comets + 1) (count_in named.comet.half register.comets)) ((halves named.comet.half named.comet.half).1 refl) in
      record {
        comet = (subst AreComets named_more are).0;
        free = omega (arith, most, more);
      }

  pub answer_at : (text : List ℕ) → text ≡ receipt_line (next_receipt register.entries) ++ comet_line named.comet → text ≡ entry_answer desk register.entries entry
  unfolding entry_answer
  answer_at text text_is =
      text_is ∙ ap (named_answer (next_receipt register.entries)) (sym is)
      ∙ ap (λ (past : List NamedComet). named_answer (next_receipt register.entries) (named_by desk past entry)) over.comets

module _ (desk : List Deed) (register : RegisterValue) (number place : ℕ) (s : StandsAt desk register number place) where
  pub entry_at : slice_get (reverse register.entries) place ≡ Some s.k.entry
  entry_at = ap (slice_get (reverse register.entries)) s.place_is ∙ s.stands.entry

  pub comet_at : slice_get (reverse register.comets) place ≡ Some s.stands.comet
  comet_at = ap (slice_get (reverse register.comets)) s.place_is ∙ s.stands.there

-- the answer with the receipt that was counted
pub answer_as : (desk : List Deed) (register : RegisterValue) (over : IsOver desk register) (entry : Entry) (named : NamedComet) (is : named_by desk register.comets entry ≡ Some named)
    → (text : List ℕ) (receipt : ℕ) (counted : List Entry) → text ≡ receipt_line receipt ++ comet_line named.comet → receipt ≡ next_receipt counted → counted ≡ register.entries
    → text ≡ entry_answer desk register.entries entry
answer_as desk register over entry named is text receipt counted text_is receipt_is same =
    answer_at desk register over entry named is text (text_is ∙ ap (λ (n : ℕ). receipt_line n ++ comet_line named.comet) (receipt_is ∙ ap next_receipt same))

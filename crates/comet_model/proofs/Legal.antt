-- What the step adds is legal, and what follows for legal registers.
use Rattle.std.proofs.Common.{◌≡◌, ◌≢◌, ℕ, ℤ, List, [], ◌∷◌, ◌++◌, length, Bool, true, false, cond, Option, Some, None, Ok, refl, sym, ap, subst, ◌∙◌, inl, inr, arith}
use Rattle.std.specs.Prelude.{int_lt}
use Rattle.std.proofs.lemmas.Int.{ints}
use Rattle.obs_time.specs.Instants.{IsInstantNs}
use Rattle.read_ahead.specs.declared.body.Body.TheVariants.{Whole}
use Rattle.act_bodies.specs.declared.key.Key.{Key}
use Rattle.act_model.specs.declared.deed.Deed.{Deed}
use Rattle.act_model.specs.declared.entry.Entry.{Entry}
use Rattle.act_model.specs.Conducts.{Extends}
use Rattle.act_model.specs.History.{next_moment, next_receipt, EachNumberOnce}
use Rattle.comet_model.specs.declared.named.Found.TheVariants as found
use Rattle.comet_model.specs.declared.named.NamedComet.{NamedComet}
use Rattle.comet_model.specs.declared.naming.Naming.{Naming}
use Rattle.comet_model.specs.declared.reply.CometReply.{CometReply}
use Rattle.comet_model.specs.declared.reply.CometReply.TheVariants.{Done}
use Rattle.comet_model.specs.declared.request.CometRequest.{CometRequest}
use Rattle.comet_model.specs.Finding.{found_of}
use Rattle.comet_model.specs.declared.heard.CometAsked.TheVariants.{Names}
use Rattle.comet_model.specs.Hearing.{bytes_in}
use Rattle.comet_model.specs.Namings.{naming_of}
use Rattle.comet_model.specs.Refusals.{names}
use Rattle.comet_model.specs.Register.{named_by, with_named, comets, new_entry}
use Rattle.comet_model.specs.Replies.{named_answer, entry_answer}
use Rattle.comet_model.specs.Step.{Outcome, Adds, outcome, reply_and_entries, step}
use Rattle.comet_model.specs.Conducts.{Makes}
use Rattle.comet_model.specs.Legal.{entry_request, IsAdded, IsLegal}
use Rattle.comet_model.proofs.Names.{gives, gives_again, named_again}
use Rattle.comet_model.proofs.Steps.{whole_again, hears, hear_again, naming_is, Added, adds, adds_again, added_unused, step_is, step_makes}

-- ---- moments

-- no number is below itself
not_below : (x : ℤ) → int_lt x x ≡ false
not_below x = by (int_lt x x) refl
  where
    by : (t : Bool) → int_lt x x ≡ t → int_lt x x ≡ false
    by true is = absurd (omega (arith, ints))
    by false is = is

-- a moment that was given to an entry would be given to it again
moment_again : (past : List Entry) (reading : ℤ) → next_moment past (next_moment past reading) ≡ next_moment past reading
moment_again [] reading = refl
moment_again (last ∷ past) reading = by (int_lt reading last.moment) refl
  where
    by : (t : Bool) → int_lt reading last.moment ≡ t → next_moment (last ∷ past) (cond t last.moment reading) ≡ cond t last.moment reading
    by true is = ap (λ (b : Bool). cond b last.moment last.moment) (not_below last.moment)
    by false is = ap (λ (b : Bool). cond b last.moment reading) is

either_instant : (t : Bool) (a b : ℤ) → IsInstantNs a → IsInstantNs b → IsInstantNs (cond t a b)
either_instant true a b first second = first
either_instant false a b first second = second

-- the next moment of a legal register is one that a clock gives
next_instant : (founder : Key) (desk : List Deed) (past : List Entry) (reading : ℤ) → IsLegal founder desk past → IsInstantNs reading → IsInstantNs (next_moment past reading)
next_instant founder desk [] reading legal instant = instant
next_instant founder desk (last ∷ past) reading legal instant = either_instant (int_lt reading last.moment) last.moment reading legal.0.0 instant

-- ---- entries that were added

-- a register isn't longer than itself
longer_than : (e : Entry) (past : List Entry) → e ∷ past ≡ past → ⊥
longer_than e past is = let lengths = ap length is in omega arith

-- the newest entry, or another one where there is none
head_or : Entry → List Entry → Entry
head_or e [] = e
head_or e (x ∷ xs) = x

head_is : (e f : Entry) (past : List Entry) → e ∷ past ≡ f ∷ past → e ≡ f
unfolding head_or
head_is e f past is = ap (head_or e) is

module _ (founder : Key) (limit : Option ℕ) (desk : List Deed) (past : List Entry) (q : CometRequest) (t : ℤ) (e : Entry) (a : Added founder limit desk past q t e) where
  body_is : e.body ≡ a.bytes
  body_is = ap (λ (x : Entry). x.body) a.entry

  number_is : e.number ≡ a.number
  number_is = ap (λ (x : Entry). x.number) a.entry

  moment_is : e.moment ≡ next_moment past t
  moment_is = ap (λ (x : Entry). x.moment) a.entry

  -- what its body asks
  read_is : naming_of e.body ≡ Some a.naming
  read_is = ap naming_of body_is ∙ (naming_is q.verb a.bytes a.naming (hears founder q a.bytes (record { number = a.number; asked = Names a.naming }) a.hears).asked).read

  -- what it names
  pub named_added : named_by desk (comets desk past) e ≡ Some a.named
  named_added = named_again desk (comets desk past) e a.naming a.named read_is a.gives

  -- The entry's own request becomes the entry, under any founding officer, and where the same comets stand before it
  -- and the same was found of its designation.
  pub added_own : (founder' : Key) (desk' : List Deed) → comets desk' past ≡ comets desk past → found_of desk' a.naming.object ≡ found_of desk a.naming.object
      → outcome founder' None desk' past (entry_request founder' e) e.moment ≡ Adds e
  added_own founder' desk' same found =
      let h = hears founder q a.bytes (record { number = a.number; asked = Names a.naming }) a.hears in
      let given : names desk' (comets desk' past) a.naming ≡ Ok a.named =
      ap (λ (c : List NamedComet). names desk' c a.naming) same ∙ gives_again desk desk' (comets desk past) a.naming a.named a.gives found in
      adds_again founder' None desk' past (entry_request founder' e) e.moment a.bytes a.number a.naming a.named
      (ap (λ (b : List ℕ). bytes_in (Whole b)) body_is ∙ whole_again q.body a.bytes a.body)
      (hear_again founder founder' q (entry_request founder' e) a.bytes a.number a.naming h refl (ap (λ (n : ℕ). Some n) number_is) refl)
      a.unused given refl
      ∙ ap (λ (m : ℤ). Adds (new_entry a.number a.bytes m)) (ap (next_moment past) moment_is ∙ moment_again past t)
      ∙ ap (λ (x : Entry). Adds x) (sym a.entry)

module _ (founder : Key) (desk : List Deed) where
  -- an entry that is added is what becomes of its request
  adds_entry : (past : List Entry) (e : Entry) → outcome founder None desk past (entry_request founder e) e.moment ≡ Adds e → (step founder None desk past (entry_request founder e) e.moment).1 ≡ e ∷ past
  adds_entry past e is = ap (λ (p : CometReply × List Entry). p.1) (step_is founder None desk past (entry_request founder e) e.moment) ∙ ap (λ (o : Outcome). (reply_and_entries desk past o).1) is

  made_entry : (past : List Entry) (e : Entry) (o : Outcome) (reply : CometReply) → Makes desk past o reply (e ∷ past) → (o ≡ Adds e) × (reply ≡ Done (entry_answer desk past e))
  made_entry past e o reply (inl same) = absurd (longer_than e past same)
  made_entry past e o reply (inr (other, is, answer, more)) =
      let same = sym (head_is e other past more) in (is ∙ ap (λ (x : Entry). Adds x) same, answer ∙ ap (λ (x : Entry). Done (entry_answer desk past x)) same)

  pub stepped_entry : (limit : Option ℕ) (past : List Entry) (q : CometRequest) (t : ℤ) (reply : CometReply) (e : Entry) → step founder limit desk past q t ≡ (reply, e ∷ past)
      → (outcome founder limit desk past q t ≡ Adds e) × (reply ≡ Done (entry_answer desk past e))
  stepped_entry limit past q t reply e is = made_entry past e (outcome founder limit desk past q t) reply (step_makes founder limit desk past q t reply (e ∷ past) is)

  added_outcome : (past : List Entry) (e : Entry) → IsAdded founder desk past e → outcome founder None desk past (entry_request founder e) e.moment ≡ Adds e
  added_outcome past e (instant, is) =
      let reply : CometReply = (step founder None desk past (entry_request founder e) e.moment).0 in
      (stepped_entry None past (entry_request founder e) e.moment reply e (ap (λ (h : List Entry). (reply, h)) is)).0

  pub added : (past : List Entry) (e : Entry) → IsAdded founder desk past e → Added founder None desk past (entry_request founder e) e.moment e
  added past e is = adds founder None desk past (entry_request founder e) e.moment e (added_outcome past e is)

  -- ---- legal registers

  module _ (limit : Option ℕ) where
    pub legal_added : (past : List Entry) (q : CometRequest) (t : ℤ) (e : Entry) → IsInstantNs t → IsLegal founder desk past → outcome founder limit desk past q t ≡ Adds e → IsLegal founder desk (e ∷ past)
    legal_added past q t e instant legal is =
        let a = adds founder limit desk past q t e is in
        ((subst IsInstantNs (sym (moment_is founder limit desk past q t e a)) (next_instant founder desk past t legal instant), adds_entry past e (added_own founder limit desk past q t e a founder desk refl refl)), legal)

    legal_made : (past : List Entry) (q : CometRequest) (t : ℤ) (reply : CometReply) (next : List Entry) → IsLegal founder desk past → IsInstantNs t → Makes desk past (outcome founder limit desk past q t) reply next → IsLegal founder desk next
    legal_made past q t reply next legal instant (inl same) = subst (IsLegal founder desk) (sym same) legal
    legal_made past q t reply next legal instant (inr (e, is, answer, more)) = subst (IsLegal founder desk) (sym more) (legal_added past q t e instant legal is)

    pub legal_step : (past : List Entry) (q : CometRequest) (t : ℤ) (reply : CometReply) (next : List Entry) → IsLegal founder desk past → IsInstantNs t → step founder limit desk past q t ≡ (reply, next) → IsLegal founder desk next
    legal_step past q t reply next legal instant is = legal_made past q t reply next legal instant (step_makes founder limit desk past q t reply next is)

  legal_behind : (newer earlier : List Entry) → IsLegal founder desk (newer ++ earlier) → IsLegal founder desk earlier
  legal_behind [] earlier legal = legal
  legal_behind (e ∷ newer) earlier (is, legal) = legal_behind newer earlier legal

  pub legal_prefix : (earlier later : List Entry) → IsLegal founder desk later → Extends earlier later → IsLegal founder desk earlier
  legal_prefix earlier later legal (newer, is) = legal_behind newer earlier (subst (IsLegal founder desk) is legal)

  -- no two entries have the same number
  pub legal_once : (entries : List Entry) → IsLegal founder desk entries → EachNumberOnce entries
  legal_once [] legal = tt
  legal_once (e ∷ past) (is, legal) = (added_unused founder None desk past (entry_request founder e) e.moment e (added past e is), legal_once past legal)

  -- each entry names a comet
  pub each_names : (entries : List Entry) → IsLegal founder desk entries → length (comets desk entries) ≡ length entries
  each_names [] legal = refl
  each_names (e ∷ past) (is, legal) =
      let a = added past e is in
      let rest = each_names past legal in
      let here = ap (λ (o : Option NamedComet). length (with_named o (comets desk past))) (named_added founder None desk past (entry_request founder e) e.moment e a) in
      here ∙ omega (arith, rest)

-- ---- another founding officer, and a longer history of the office

-- what was found of a designation that was given stays
abbrev pub FoundStays : List Deed → List Deed → Type 0
FoundStays desk other = (naming : Naming) → found_of desk naming.object ≢ found.NotGiven → found_of other naming.object ≡ found_of desk naming.object

-- the same comets, and a legal register again
record StaysLegal (founder' : Key) (desk other : List Deed) (entries : List Entry) : Type 0 where
  same : comets other entries ≡ comets desk entries
  legal : IsLegal founder' other entries

module _ (founder founder' : Key) (desk other : List Deed) (stays : FoundStays desk other) where
  found_again : (past : List NamedComet) (naming : Naming) (named : NamedComet) → names desk past naming ≡ Ok named → found_of other naming.object ≡ found_of desk naming.object
  found_again past naming named given =
      let discovered = (gives desk past naming named given).discovered in
      stays naming (λ none. let both = sym discovered ∙ none in cc)

  stays_legal : (entries : List Entry) → IsLegal founder desk entries → StaysLegal founder' desk other entries
  stays_legal [] legal = record { same = refl; legal = tt }
  stays_legal (e ∷ past) (is, legal) =
      let before = stays_legal past legal in
      let a = added founder desk past e is in
      let again = found_again (comets desk past) a.naming a.named a.gives in
      let request = entry_request founder e in
      let own = added_own founder None desk past request e.moment e a founder' other before.same again in
      let here : comets desk (e ∷ past) ≡ a.named ∷ comets desk past = ap (λ (o : Option NamedComet). with_named o (comets desk past)) (named_added founder None desk past request e.moment e a) in
      let given : names other (comets other past) a.naming ≡ Ok a.named =
      ap (λ (c : List NamedComet). names other c a.naming) before.same ∙ gives_again desk other (comets desk past) a.naming a.named a.gives again in
      let there : comets other (e ∷ past) ≡ a.named ∷ comets other past =
      ap (λ (o : Option NamedComet). with_named o (comets other past)) (named_again other (comets other past) e a.naming a.named (read_is founder None desk past request e.moment e a) given) in
      record {
        same = there ∙ ap (λ (c : List NamedComet). a.named ∷ c) before.same ∙ sym here;
        legal = ((is.0, adds_entry founder' other past e own), before.legal);
      }

  pub legal_again : (entries : List Entry) → IsLegal founder desk entries → IsLegal founder' other entries
  legal_again entries legal = (stays_legal entries legal).legal

  pub comets_again : (entries : List Entry) → IsLegal founder desk entries → comets other entries ≡ comets desk entries
  comets_again entries legal = (stays_legal entries legal).same

  -- the answer to an entry stays
  pub answer_again : (e : Entry) (past : List Entry) → IsLegal founder desk (e ∷ past) → entry_answer other past e ≡ entry_answer desk past e
  unfolding entry_answer
  answer_again e past (is, legal) =
      let before = stays_legal past legal in
      let a = added founder desk past e is in
      let request = entry_request founder e in
      let again = found_again (comets desk past) a.naming a.named a.gives in
      let given : names other (comets other past) a.naming ≡ Ok a.named =
      ap (λ (c : List NamedComet). names other c a.naming) before.same ∙ gives_again desk other (comets desk past) a.naming a.named a.gives again in
      let there = named_again other (comets other past) e a.naming a.named (read_is founder None desk past request e.moment e a) given in
      ap (named_answer (next_receipt past)) (there ∙ sym (named_added founder None desk past request e.moment e a))

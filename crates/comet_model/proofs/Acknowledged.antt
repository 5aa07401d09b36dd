-- An act that was answered is kept, and answered alike when it is sent again.
use Rattle.std.proofs.Common.{◌≡◌, ℕ, ℤ, Bool, true, false, cond, List, [], ◌∷◌, ◌++◌, Option, Some, None, Result, Ok, Err, refl, sym, ap, subst, ◌∙◌, inl, inr, arith}
use Rattle.std.specs.Prelude.{◌⊎◌, ◌==◌, ◌&&◌, bytes_eq}
use Rattle.std.proofs.lemmas.Bool.Decides.{nat_tests}
use Rattle.std.proofs.lemmas.Slice.Eq.{bytes_eq-Decides}
use Rattle.act_bodies.specs.declared.key.Key.{Key}
use Rattle.act_model.specs.declared.deed.Deed.{Deed}
use Rattle.act_model.specs.declared.entry.Entry.{Entry}
use Rattle.act_model.specs.declared.keeper.OfficeState.{OfficeState}
use Rattle.act_model.specs.Conducts.{Extends}
use Rattle.act_model.specs.History.{Kept, numbered_entry, next_moment, next_receipt, is_numbered, IsUnused, EachNumberOnce}
use Rattle.comet_model.specs.declared.heard.CometAsked.{CometAsked}
use Rattle.comet_model.specs.declared.heard.CometAsked.TheVariants.{Names, Register, Translate}
use Rattle.comet_model.specs.declared.heard.CometHeard.{CometHeard}
use Rattle.comet_model.specs.declared.named.NamedComet.{NamedComet}
use Rattle.comet_model.specs.declared.naming.Naming.{Naming}
use Rattle.comet_model.specs.declared.reply.CometRefusal.{CometRefusal}
use Rattle.comet_model.specs.declared.reply.CometRefusal.TheVariants.{OtherRequest}
use Rattle.comet_model.specs.declared.reply.CometReply.{CometReply}
use Rattle.comet_model.specs.declared.reply.CometReply.TheVariants.{Done, Refused}
use Rattle.comet_model.specs.declared.request.CometRequest.{CometRequest}
use Rattle.comet_model.specs.declared.request.CometVerb.{CometVerb}
use Rattle.comet_model.specs.declared.request.CometVerb.TheVariants as verb
use Rattle.comet_model.specs.Rows.{◌>>=◌}
use Rattle.comet_model.specs.Requests.{is_act}
use Rattle.comet_model.specs.Hearing.{bytes_in, naming_by, asked_of, hear}
use Rattle.comet_model.specs.Namings.{naming_of}
use Rattle.comet_model.specs.Register.{new_entry}
use Rattle.comet_model.specs.Replies.{entry_answer}
use Rattle.comet_model.specs.Step.{Outcome, names_within, unless_kept, unless_refused, asked_step, unless_unheard, reply_and_entries, step}
use Rattle.comet_model.specs.Turns.{CometTurn, TakesReading, Answers, FailsToKeep, Settles, Takes, IsTurn}
use Rattle.comet_model.specs.Conducts.{IsAcknowledged}
use Rattle.comet_model.specs.Legal.{IsLegal}
use Rattle.comet_model.proofs.Legal.{legal_once}
use Rattle.comet_model.proofs.Steps.{hearing, heard_outcome, outcome_is, step_is, keeps, whole_body, number_some, hears, ok_is}

-- ---- numbers that were used

-- the caller and the number of an entry
numbered_is : (a c b n : ℕ) → (a == c) && (b == n) ≡ true → (a ≡ c) × (b ≡ n)
numbered_is a c b n is = grind (arith, nat_tests)

-- an entry that stands for a number still does after one with another number
kept_behind : (e : Entry) (past : List Entry) (caller number : ℕ) (k : Kept) → IsUnused past e → numbered_entry past caller number ≡ Some k → numbered_entry (e ∷ past) caller number ≡ Some k
kept_behind e past caller number k unused found = by (is_numbered caller number e) refl
  where
    by : (b : Bool) → is_numbered caller number e ≡ b → cond b (Some (record { entry = e; before = past })) (numbered_entry past caller number) ≡ Some k
    by false is = found
    by true is =
        let same = numbered_is e.caller caller e.number number is in
        let nothing : numbered_entry past caller number ≡ None = ap (λ (c : ℕ). numbered_entry past c number) (sym same.0) ∙ ap (λ (n : ℕ). numbered_entry past e.caller n) (sym same.1) ∙ unused in
        absurd cc

kept_newer : (newer earlier : List Entry) (caller number : ℕ) (k : Kept) → EachNumberOnce (newer ++ earlier) → numbered_entry earlier caller number ≡ Some k → numbered_entry (newer ++ earlier) caller number ≡ Some k
kept_newer [] earlier caller number k once found = found
kept_newer (e ∷ newer) earlier caller number k (unused, once) found = kept_behind e (newer ++ earlier) caller number k unused (kept_newer newer earlier caller number k once found)

-- the newest entry stands for its number
kept_newest : (number : ℕ) (bytes : List ℕ) (moment : ℤ) (past : List Entry) → numbered_entry (new_entry number bytes moment ∷ past) 0 number ≡ Some (record { entry = new_entry number bytes moment; before = past })
kept_newest number bytes moment past =
    let itself : (0 == 0) && (number == number) ≡ true = grind (arith, nat_tests) in
    ap (λ (b : Bool). cond b (Some (record { entry = new_entry number bytes moment; before = past })) (numbered_entry past 0 number)) itself

pub kept_stays : (founder : Key) (desk : List Deed) (earlier later : List Entry) (number : ℕ) (k : Kept) → IsLegal founder desk later → Extends earlier later → numbered_entry earlier 0 number ≡ Some k → numbered_entry later 0 number ≡ Some k
kept_stays founder desk earlier later number k legal (newer, is) found =
    ap (λ (h : List Entry). numbered_entry h 0 number) is ∙ kept_newer newer earlier 0 number k (legal_once founder desk (newer ++ earlier) (subst (IsLegal founder desk) is legal)) found

-- a kept reply that is an answer is that to the same request
kept_done : (same : Bool) (answer text : List ℕ) (receipt : ℕ) → cond same (Done answer) (Refused (OtherRequest receipt)) ≡ Done text → (same ≡ true) × (text ≡ answer)
kept_done true answer text receipt is = (refl, cc)
kept_done false answer text receipt is = absurd cc

-- ---- what the step answers

-- the act was heard, and in this register its number stands for the same request, with this text as its answer
pub record Answered (founder : Key) (desk : List Deed) (q : CometRequest) (text : List ℕ) (later : List Entry) : Type 0 where
  pub bytes : List ℕ
  pub number : ℕ
  pub naming : Naming
  pub entry : Kept
  pub body : bytes_in q.body ≡ Ok bytes
  pub hears : hear founder q bytes ≡ Ok (record { number = number; asked = Names naming })
  pub found : numbered_entry later 0 number ≡ Some entry
  pub same : bytes_eq bytes entry.entry.body ≡ true
  pub answer : text ≡ entry_answer desk entry.before entry.entry

module _ (founder : Key) (desk : List Deed) (q : CometRequest) (text : List ℕ) where
  pub is_acknowledged : (later : List Entry) → Answered founder desk q text later → IsAcknowledged desk q text later
  is_acknowledged later a =
      let h = hears founder q a.bytes (record { number = a.number; asked = Names a.naming }) a.hears in
      record {
        bytes = a.bytes;
        number = a.number;
        entry = a.entry;
        body = (whole_body q.body a.bytes a.body).0;
        numbered = number_some q.verb q.number a.number h.number;
        found = a.found;
        same = a.same;
        answer = a.answer;
      }

  -- it stays so in each later legal register
  pub answered_on : (later now : List Entry) → Answered founder desk q text later → IsLegal founder desk now → Extends later now → Answered founder desk q text now
  answered_on later now a legal kept_before =
      record {
        bytes = a.bytes;
        number = a.number;
        naming = a.naming;
        entry = a.entry;
        body = a.body;
        hears = a.hears;
        found = kept_stays founder desk later now a.number a.entry legal kept_before a.found;
        same = a.same;
        answer = a.answer;
      }

  -- and is answered so when it is sent again
  pub answered_again : (now : List Entry) → Answered founder desk q text now → (limit : Option ℕ) (t : ℤ) → step founder limit desk now q t ≡ (Done text, now)
  answered_again now a limit t =
      step_is founder limit desk now q t
      ∙ ap (reply_and_entries desk now) (keeps founder limit desk now q t a.bytes a.number a.naming a.entry a.body a.hears a.found)
      ∙ ap (λ (b : Bool). (cond b (Done (entry_answer desk a.entry.before a.entry.entry)) (Refused (OtherRequest (next_receipt a.entry.before))), now)) a.same
      ∙ ap (λ (x : List ℕ). (Done x, now)) (sym a.answer)

-- no query asks an act
query_asks : (v : CometVerb) (bytes : List ℕ) (asked : CometAsked) → is_act v ≡ true → asked_of v bytes ≡ Ok asked → (asked ≡ Register → ⊥) × (asked ≡ Translate → ⊥)
unfolding asked_of
query_asks verb.Comet bytes asked act is = by asked (naming_of bytes) is
  where
    by : (asked : CometAsked) (o : Option Naming) → naming_by o ≡ Ok asked → (asked ≡ Register → ⊥) × (asked ≡ Translate → ⊥)
    by asked (Some naming) same = (λ other. let both = ok_is (Names naming) asked same ∙ other in cc, λ other. let both = ok_is (Names naming) asked same ∙ other in cc)
    by asked None same = absurd cc
query_asks verb.Register bytes asked act is = absurd cc
query_asks verb.Translate bytes asked act is = absurd cc
query_asks verb.Unknown bytes asked act is = absurd cc

module _ (founder : Key) (limit : Option ℕ) (desk : List Deed) (past : List Entry) (q : CometRequest) (t : ℤ) (text : List ℕ) (next : List Entry) (act : is_act q.verb ≡ true) where
  module _ (bytes : List ℕ) (number : ℕ) (naming : Naming) (body : bytes_in q.body ≡ Ok bytes) (h : hear founder q bytes ≡ Ok (record { number = number; asked = Names naming })) where
    abbrev newest : Entry
    newest = new_entry number bytes (next_moment past t)

    -- the register has the entry under the number
    has : (k : Kept) → numbered_entry next 0 number ≡ Some k → bytes_eq bytes k.entry.body ≡ true → text ≡ entry_answer desk k.before k.entry → Answered founder desk q text next
    has k found same answer = record { bytes = bytes; number = number; naming = naming; entry = k; body = body; hears = h; found = found; same = same; answer = answer }

    of_used : (used : Option Kept) (work : Result NamedComet CometRefusal) → numbered_entry past 0 number ≡ used → reply_and_entries desk past (unless_kept desk used bytes (unless_refused work newest)) ≡ (Done text, next)
        → Answered founder desk q text next
    of_used (Some k) work found is =
        let here = ap (λ (p : CometReply × List Entry). p.1) is in
        let answers = kept_done (bytes_eq bytes k.entry.body) (entry_answer desk k.before k.entry) text (next_receipt k.before) (ap (λ (p : CometReply × List Entry). p.0) is) in
        has k (ap (λ (h : List Entry). numbered_entry h 0 number) (sym here) ∙ found) answers.0 answers.1
    of_used None (Ok named) found is =
        let here = ap (λ (p : CometReply × List Entry). p.1) is in
        has (record { entry = newest; before = past }) (ap (λ (h : List Entry). numbered_entry h 0 number) (sym here) ∙ kept_newest number bytes (next_moment past t) past) ((bytes_eq-Decides bytes bytes).1 refl)
        (let reply = ap (λ (p : CometReply × List Entry). p.0) is in cc)
    of_used None (Err r) found is = let reply = ap (λ (p : CometReply × List Entry). p.0) is in absurd cc

  of_asked : (bytes : List ℕ) (heard : CometHeard) → bytes_in q.body ≡ Ok bytes → hear founder q bytes ≡ Ok heard
      → reply_and_entries desk past (asked_step limit desk past heard.number heard.asked bytes (next_moment past t)) ≡ (Done text, next) → Answered founder desk q text next
  of_asked bytes heard body h is = by heard.asked refl is
    where
      by : (asked : CometAsked) → heard.asked ≡ asked → reply_and_entries desk past (asked_step limit desk past heard.number asked bytes (next_moment past t)) ≡ (Done text, next) → Answered founder desk q text next
      by (Names naming) asked_is last =
          of_used bytes heard.number naming body (h ∙ ap (λ (a : CometAsked). Ok (record { number = heard.number; asked = a })) asked_is) (numbered_entry past 0 heard.number) (names_within limit desk past bytes naming) refl last
      by Register asked_is last = absurd ((query_asks q.verb bytes heard.asked act (hears founder q bytes heard h).asked).0 asked_is)
      by Translate asked_is last = absurd ((query_asks q.verb bytes heard.asked act (hears founder q bytes heard h).asked).1 asked_is)

  of_hearing : (bytes : List ℕ) (heard : Result CometHeard CometRefusal) → bytes_in q.body ≡ Ok bytes → hear founder q bytes ≡ heard
      → reply_and_entries desk past (unless_unheard (heard >>= heard_outcome founder limit desk past q t bytes)) ≡ (Done text, next) → Answered founder desk q text next
  of_hearing bytes (Ok heard) body h is = of_asked bytes heard body h is
  of_hearing bytes (Err r) body h is = let reply = ap (λ (p : CometReply × List Entry). p.0) is in absurd cc

  of_bytes : (bytes : Result (List ℕ) CometRefusal) → bytes_in q.body ≡ bytes → reply_and_entries desk past (unless_unheard (bytes >>= hearing founder limit desk past q t)) ≡ (Done text, next) → Answered founder desk q text next
  of_bytes (Ok bytes) body is = of_hearing bytes (hear founder q bytes) body refl is
  of_bytes (Err r) body is = let reply = ap (λ (p : CometReply × List Entry). p.0) is in absurd cc

  pub step_answers : step founder limit desk past q t ≡ (Done text, next) → Answered founder desk q text next
  step_answers is =
      of_bytes (bytes_in q.body) refl (ap (λ (o : Outcome). reply_and_entries desk past o) (sym (outcome_is founder limit desk past q t)) ∙ sym (step_is founder limit desk past q t) ∙ is)

-- ---- turns

module _ (founder : Key) (limit : Option ℕ) (desk : List Deed) (before : OfficeState) (turn : CometTurn) (next : OfficeState) (text : List ℕ) (act : is_act turn.request.verb ≡ true) (reply : turn.reply ≡ Done text) where
  answer_answers : (past : List Entry) (t : ℤ) → Answers founder limit desk past turn.request t turn.reply next.settled → Answered founder desk turn.request text next.settled
  answer_answers past t (inl is) = step_answers founder limit desk past turn.request t text next.settled act (is ∙ ap (λ (r : CometReply). (r, next.settled)) reply)
  answer_answers past t (inr (wants, same)) = let both = sym reply ∙ wants in absurd cc

  acts_answer : (past : List Entry) (t : ℤ) → Settles founder limit desk past turn t next ⊎ FailsToKeep founder limit desk past turn t next → Answered founder desk turn.request text next.settled
  acts_answer past t (inl s) = answer_answers past t s.answers
  acts_answer past t (inr f) = let both = sym reply ∙ f.reply in absurd cc

  takes_answers : (reading : Option ℤ) → TakesReading turn.request.verb reading → Takes founder limit desk before turn reading next → Answered founder desk turn.request text next.settled
  takes_answers (Some t) reads (inl f) = let both = sym reply ∙ f.reply in absurd cc
  takes_answers (Some t) reads (inr a) = acts_answer a.mended t a.acts
  takes_answers None reads a = let both = sym act ∙ reads in absurd cc

  pub turn_answers : IsTurn founder limit desk before turn next → Answered founder desk turn.request text next.settled
  turn_answers is = takes_answers turn.reading is.reads is.takes

  pub turn_acknowledges : IsTurn founder limit desk before turn next → IsAcknowledged desk turn.request text next.settled
  turn_acknowledges is = is_acknowledged founder desk turn.request text next.settled (turn_answers is)

-- What an act is that becomes an entry of a register.
use Rattle.std.proofs.Common.{◌≡◌, ℕ, ℤ, ◌≤◌, Bool, true, false, cond, List, [], ◌∷◌, length, Option, Some, None, Result, Ok, Err, refl, sym, ap, subst, arith}
use Rattle.std.specs.Prelude.{nat_lt}
use Rattle.std.proofs.lemmas.Bool.Decides.{nat_tests}
use Rattle.read_ahead.specs.declared.body.Body.{Body}
use Rattle.read_ahead.specs.declared.body.Body.TheVariants.{Whole, TooLong, NoRoom}
use Rattle.act_bodies.specs.declared.key.Key.{Key}
use Rattle.act_model.specs.declared.deed.Deed.{Deed}
use Rattle.act_model.specs.declared.entry.Entry.{Entry}
use Rattle.act_model.specs.declared.reply.Excess.TheVariants as excess
use Rattle.act_model.specs.declared.request.TheConstants.{BODY_BYTES, BODY_LINES}
use Rattle.act_model.specs.declared.request.Verb.TheVariants.{Enrol}
use Rattle.act_model.specs.History.{Kept, numbered_entry, next_moment}
use Rattle.act_model.specs.Requests.{is_act, line_feeds}
use Rattle.act_model.specs.Rows.{first_row}
use Rattle.comet_model.specs.declared.heard.CometAsked.{CometAsked}
use Rattle.comet_model.specs.declared.heard.CometAsked.TheVariants.{Names, Register, Translate}
use Rattle.comet_model.specs.declared.heard.CometHeard.{CometHeard}
use Rattle.comet_model.specs.declared.named.NamedComet.{NamedComet}
use Rattle.comet_model.specs.declared.reply.CometRefusal.{CometRefusal}
use Rattle.comet_model.specs.declared.reply.CometRefusal.TheVariants.{TooLarge}
use Rattle.comet_model.specs.declared.request.CometRequest.{CometRequest}
use Rattle.comet_model.specs.Hearing.{size_rows, bytes_in, hear}
use Rattle.comet_model.specs.Legal.{entry_request, IsAdded, IsLegal}
use Rattle.comet_model.specs.Register.{new_entry}
use Rattle.comet_model.specs.Rows.{unless, ◌>>=◌}
use Rattle.comet_model.specs.Step.{Outcome, Refuses, Keeps, Tells, Adds, names_within, unless_kept, unless_refused, asked_step, unless_unheard, outcome, reply_and_entries, step}
use Rattle.mpc_desk.specs.Files.{AreActs}

-- the entry has the verb of a register's entries, and its body is one that a request may have
pub record IsOfAct (e : Entry) : Type 0 where
  pub verb : e.verb ≡ Enrol
  pub short : length e.body ≤ BODY_BYTES

-- ---- one that was added

unless_ok : (o : Option CometRefusal) (bytes text : List ℕ) → unless o (Ok bytes) ≡ Ok text → (o ≡ None) × (bytes ≡ text)
unless_ok (Some refusal) bytes text is = absurd cc
unless_ok None bytes text is = (refl, cc)

-- a body that is taken isn't too large
short_bytes : (bytes text : List ℕ) → unless (first_row (size_rows bytes)) (Ok bytes) ≡ Ok text → length text ≤ BODY_BYTES
short_bytes bytes text is =
    let (small, same) = unless_ok (first_row (size_rows bytes)) bytes text is in
    let fits : length bytes ≤ BODY_BYTES = by (nat_lt BODY_BYTES (length bytes)) refl small in
    subst (λ (b : List ℕ). length b ≤ BODY_BYTES) same fits
  where
    by : (long : Bool) → nat_lt BODY_BYTES (length bytes) ≡ long → cond long (Some (TooLarge (excess.Length (length bytes)))) (cond (nat_lt BODY_LINES (line_feeds bytes)) (Some (TooLarge (excess.Lines (line_feeds bytes)))) None) ≡ None → length bytes ≤ BODY_BYTES
    by true over none = absurd cc
    by false within none = grind (arith, nat_tests)

short_body : (body : Body) (text : List ℕ) → bytes_in body ≡ Ok text → length text ≤ BODY_BYTES
short_body (Whole bytes) text is = short_bytes bytes text is
short_body (TooLong size) text is = absurd cc
short_body NoRoom text is = absurd cc

-- what becomes an entry is the entry of its number, its bytes and its moment
new_is : (desk : List Deed) (used : Option Kept) (bytes : List ℕ) (work : Result NamedComet CometRefusal) (new e : Entry) → unless_kept desk used bytes (unless_refused work new) ≡ Adds e → e ≡ new
new_is desk None bytes (Ok named) new e is = cc
new_is desk None bytes (Err x) new e is = absurd cc
new_is desk (Some k) bytes work new e is = absurd cc

module _ (founder : Key) (limit : Option ℕ) (desk : List Deed) (past : List Entry) (q : CometRequest) (t : ℤ) (e : Entry) where
  abbrev goes_on : List ℕ → CometHeard → Result Outcome CometRefusal
  goes_on bytes heard = Ok (asked_step limit desk past heard.number heard.asked bytes (next_moment past t))

  asked_adds : (number : ℕ) (asked : CometAsked) (bytes : List ℕ) → length bytes ≤ BODY_BYTES → asked_step limit desk past number asked bytes (next_moment past t) ≡ Adds e → IsOfAct e
  asked_adds number (Names naming) bytes short is =
      let new : e ≡ new_entry number bytes (next_moment past t) = new_is desk (numbered_entry past 0 number) bytes (names_within limit desk past bytes naming) (new_entry number bytes (next_moment past t)) e is in
      record {
        verb = ap (λ (x : Entry). x.verb) new;
        short = subst (λ (b : List ℕ). length b ≤ BODY_BYTES) (sym (ap (λ (x : Entry). x.body) new)) short;
      }
  asked_adds number Register bytes short is = absurd cc
  asked_adds number Translate bytes short is = absurd cc

  heard_adds : (bytes : List ℕ) (heard : Result CometHeard CometRefusal) → length bytes ≤ BODY_BYTES → unless_unheard (heard >>= goes_on bytes) ≡ Adds e → IsOfAct e
  heard_adds bytes (Ok heard) short is = asked_adds heard.number heard.asked bytes short is
  heard_adds bytes (Err refusal) short is = absurd cc

  body_adds : (body : Result (List ℕ) CometRefusal) → ((bytes : List ℕ) → body ≡ Ok bytes → length bytes ≤ BODY_BYTES) → unless_unheard (body >>= (λ bytes. hear founder q bytes >>= goes_on bytes)) ≡ Adds e → IsOfAct e
  body_adds (Ok bytes) short is = heard_adds bytes (hear founder q bytes) (short bytes refl) is
  body_adds (Err refusal) short is = absurd cc

  pub of_act : outcome founder limit desk past q t ≡ Adds e → IsOfAct e
  unfolding outcome
  of_act is = body_adds (bytes_in q.body) (short_body q.body) is

-- ---- the entries of a legal register

longer_than : (e : Entry) (past : List Entry) → past ≡ e ∷ past → ⊥
longer_than e past is = let lengths = ap length is in omega arith

after_adds : (desk : List Deed) (past : List Entry) (e : Entry) (o : Outcome) → (reply_and_entries desk past o).1 ≡ e ∷ past → o ≡ Adds e
after_adds desk past e (Refuses refusal) is = absurd (longer_than e past is)
after_adds desk past e (Keeps reply) is = absurd (longer_than e past is)
after_adds desk past e (Tells text) is = absurd (longer_than e past is)
after_adds desk past e (Adds other) is = cc

pub enrol_acts : (e : Entry) → IsOfAct e → is_act e.verb ≡ true
enrol_acts e act = ap is_act act.verb

module _ (founder : Key) (desk : List Deed) where
  pub added_act : (past : List Entry) (e : Entry) → IsAdded founder desk past e → IsOfAct e
  unfolding step
  added_act past e added = of_act founder None desk past (entry_request founder e) e.moment e (after_adds desk past e (outcome founder None desk past (entry_request founder e) e.moment) added.1)

  pub legal_acts : (entries : List Entry) → IsLegal founder desk entries → AreActs entries
  legal_acts [] legal = tt
  legal_acts (e ∷ past) (added, legal) = (enrol_acts e (added_act past e added), legal_acts past legal)

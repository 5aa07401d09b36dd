-- What queries are told.
use Rattle.std.proofs.Common.{◌≡◌, ◌≢◌, ℕ, ℤ, false, List, [], ◌∷◌, Option, Result, Ok, Err, refl, sym, ap, ◌∙◌, inl, inr}
use Rattle.act_bodies.specs.declared.key.Key.{Key}
use Rattle.act_model.specs.declared.deed.Deed.{Deed}
use Rattle.act_model.specs.declared.entry.Entry.{Entry}
use Rattle.act_model.specs.History.{next_moment}
use Rattle.comet_model.specs.declared.heard.CometAsked.{CometAsked}
use Rattle.comet_model.specs.declared.heard.CometAsked.TheVariants.{Names, Register, Translate}
use Rattle.comet_model.specs.declared.heard.CometHeard.{CometHeard}
use Rattle.comet_model.specs.declared.naming.Naming.{Naming}
use Rattle.comet_model.specs.declared.reply.CometRefusal.{CometRefusal}
use Rattle.comet_model.specs.declared.reply.CometReply.TheVariants.{Done, Refused}
use Rattle.comet_model.specs.declared.request.CometRequest.{CometRequest}
use Rattle.comet_model.specs.declared.request.CometVerb.{CometVerb}
use Rattle.comet_model.specs.declared.request.CometVerb.TheVariants as verb
use Rattle.comet_model.specs.Requests.{is_act}
use Rattle.comet_model.specs.Hearing.{bytes_in, asked_of, hear}
use Rattle.comet_model.specs.Step.{Refuses, Tells, asked_step, outcome, reply_and_entries, step}
use Rattle.comet_model.specs.Turns.{Answers}
use Rattle.comet_core.specs.Preparing.{IsRefused}
use Rattle.comet_core.proofs.HearLemmas.{asked_is, ok_is, heard_step}

-- what was heard by the founding officer's key
pub heard_by : (key founder : Key) (q : CometRequest) (bytes : List ℕ) (heard : Result CometHeard CometRefusal) → heard ≡ hear key q bytes → key ≡ founder → hear founder q bytes ≡ heard
heard_by key founder q bytes heard is same = sym (is ∙ ap (λ (k : Key). hear k q bytes) same)

-- what is asked by a query names no comet
query_asked : (v : CometVerb) (bytes : List ℕ) (asked : CometAsked) → is_act v ≡ false → asked_of v bytes ≡ Ok asked → (naming : Naming) → asked ≢ Names naming
unfolding asked_of
query_asked verb.Comet bytes asked query is naming names = absurd cc
query_asked verb.Register [] asked query is naming names = let same = ok_is Register asked is in cc
query_asked verb.Register (byte ∷ rest) asked query is naming names = absurd cc
query_asked verb.Translate bytes asked query is naming names = let same = ok_is Translate asked is in cc
query_asked verb.Unknown bytes asked query is naming names = absurd cc

pub names_none : (founder : Key) (q : CometRequest) (bytes : List ℕ) (heard : CometHeard) → is_act q.verb ≡ false → hear founder q bytes ≡ Ok heard → (naming : Naming) → heard.asked ≢ Names naming
names_none founder q bytes heard query is = query_asked q.verb bytes heard.asked query (asked_is founder q bytes heard is)

-- a refusal as an answer
abbrev refused : {A : Type 0} → CometRefusal → Result A CometRefusal
refused r = Err r

refuses_is : (r s : CometRefusal) → Refuses r ≡ Refuses s → r ≡ s
refuses_is r s is = cc

module _ (founder : Key) (limit : Option ℕ) (desk : List Deed) (past : List Entry) (q : CometRequest) (t : ℤ) where
  -- one refusal becomes of a request
  pub same_refusal : {A : Type 0} (r s : CometRefusal) → outcome founder limit desk past q t ≡ Refuses r → outcome founder limit desk past q t ≡ Refuses s → refused {A = A} r ≡ Err s
  same_refusal {A} r s is other = ap (refused {A = A}) (refuses_is r s (sym is ∙ other))

  module _ (bytes : List ℕ) (heard : CometHeard) (body : bytes_in q.body ≡ Ok bytes) (hears : hear founder q bytes ≡ Ok heard) where
    pub told : (text : List ℕ) → asked_step limit desk past heard.number heard.asked bytes (next_moment past t) ≡ Tells text → outcome founder limit desk past q t ≡ Tells text
    told text is = heard_step founder limit desk past q t bytes heard body hears ∙ is

    never : (asked : CometAsked) (r : CometRefusal) → ((naming : Naming) → asked ≢ Names naming) → asked_step limit desk past heard.number asked bytes (next_moment past t) ≡ Refuses r → ⊥
    never (Names naming) r query is = query naming refl
    never Register r query is = absurd cc
    never Translate r query is = absurd cc

    -- a query that was heard is never refused
    pub never_refused : is_act q.verb ≡ false → (r : CometRefusal) → outcome founder limit desk past q t ≡ Refuses r → ⊥
    never_refused query r is = never heard.asked r (names_none founder q bytes heard query hears) (sym (heard_step founder limit desk past q t bytes heard body hears) ∙ is)

  -- ---- the reply

  pub answers_done : (text : List ℕ) → outcome founder limit desk past q t ≡ Tells text → Answers founder limit desk past q t (Done text) past
  unfolding step
  answers_done text is = inl (ap (reply_and_entries desk past) is)

  pub answers_refused : (r : CometRefusal) → IsRefused (outcome founder limit desk past q t) r → Answers founder limit desk past q t (Refused r) past
  unfolding step
  answers_refused r (inl is) = inl (ap (reply_and_entries desk past) is)
  answers_refused r (inr none) = inr (ap (λ (x : CometRefusal). Refused x) none, refl)

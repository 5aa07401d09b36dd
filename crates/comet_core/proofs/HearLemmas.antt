-- What becomes of a request, by what was heard of it.
use Rattle.std.proofs.Common.{◌≡◌, ℕ, ℤ, true, List, Option, Some, None, Result, Ok, Err, refl, sym, ap, subst, ◌∙◌, inl, inr}
use Rattle.std.specs.Prelude.{◌⊎◌}
use Rattle.act_bodies.specs.declared.key.Key.{Key}
use Rattle.act_model.specs.declared.deed.Deed.{Deed}
use Rattle.act_model.specs.declared.entry.Entry.{Entry}
use Rattle.act_model.specs.History.{next_moment}
use Rattle.act_model.specs.Rows.{first_row}
use Rattle.comet_model.specs.declared.heard.CometAsked.{CometAsked}
use Rattle.comet_model.specs.declared.heard.CometAsked.TheVariants.{Names, Register, Translate}
use Rattle.comet_model.specs.declared.heard.CometHeard.{CometHeard}
use Rattle.comet_model.specs.declared.named.NamedComet.{NamedComet}
use Rattle.comet_model.specs.declared.naming.Naming.{Naming}
use Rattle.comet_model.specs.declared.reply.CometRefusal.{CometRefusal}
use Rattle.comet_model.specs.declared.request.CometRequest.{CometRequest}
use Rattle.comet_model.specs.declared.request.CometVerb.{CometVerb}
use Rattle.comet_model.specs.declared.request.CometVerb.TheVariants as verb
use Rattle.comet_model.specs.Rows.{unless, ◌>>=◌, IsDue}
use Rattle.comet_model.specs.Namings.{naming_of}
use Rattle.comet_model.specs.Requests.{is_act}
use Rattle.comet_model.specs.Hearing.{bytes_in, number_claimed, naming_by, asked_of, key_rows, hear}
use Rattle.comet_model.specs.Step.{Outcome, Refuses, act_step, asked_step, unless_unheard, outcome}
use Rattle.comet_core.specs.Preparing.{IsRefused, IsPrepared}
use Rattle.comet_core.specs.declared.prepared.Prep.{Prep}

-- what was found, in two questions one after the other
pub bound : {A B : Type 0} (m : Result A CometRefusal) (f : A → Result B CometRefusal) (b : B) → (m >>= f) ≡ Ok b → (a : A) × (m ≡ Ok a) × (f a ≡ Ok b)
bound (Ok a) f b is = (a, refl, is)
bound (Err r) f b is = absurd cc

pub unless_ok : {A : Type 0} (o : Option CometRefusal) (goes_on : Result A CometRefusal) (a : A) → unless o goes_on ≡ Ok a → (o ≡ None) × (goes_on ≡ Ok a)
unless_ok (Some r) goes_on a is = absurd cc
unless_ok None goes_on a is = (refl, is)

abbrev found : {A : Type 0} → A → Result A CometRefusal
found a = Ok a

pub ok_is : {A : Type 0} (x y : A) → found x ≡ Ok y → x ≡ y
ok_is x y is = cc

-- ---- what was heard

-- what a request that was heard asks is what its verb and its body ask
pub asked_is : (founder : Key) (q : CometRequest) (bytes : List ℕ) (heard : CometHeard) → hear founder q bytes ≡ Ok heard → asked_of q.verb bytes ≡ Ok heard.asked
unfolding hear
asked_is founder q bytes heard is =
    let with : ℕ → CometAsked → Result CometHeard CometRefusal = λ number asked. unless (first_row (key_rows founder q.key)) (Ok (record { number = number; asked = asked })) in
    let (number, claimed_is, more) = bound (number_claimed q.verb q.number) (λ number. asked_of q.verb bytes >>= with number) heard is in
    let (asked, asked_is, last) = bound (asked_of q.verb bytes) (with number) heard more in
    let (key, same) = unless_ok (first_row (key_rows founder q.key)) (Ok (record { number = number; asked = asked })) heard last in
    asked_is ∙ ap (λ (h : CometHeard). Ok h.asked) (ok_is _ heard same)

-- and its number is the one that it said
pub claimed_is : (founder : Key) (q : CometRequest) (bytes : List ℕ) (heard : CometHeard) → hear founder q bytes ≡ Ok heard → number_claimed q.verb q.number ≡ Ok heard.number
unfolding hear
claimed_is founder q bytes heard is =
    let with : ℕ → CometAsked → Result CometHeard CometRefusal = λ number asked. unless (first_row (key_rows founder q.key)) (Ok (record { number = number; asked = asked })) in
    let (number, claimed_is, more) = bound (number_claimed q.verb q.number) (λ number. asked_of q.verb bytes >>= with number) heard is in
    let (asked, asked_is, last) = bound (asked_of q.verb bytes) (with number) heard more in
    let (key, same) = unless_ok (first_row (key_rows founder q.key)) (Ok (record { number = number; asked = asked })) heard last in
    claimed_is ∙ ap (λ (h : CometHeard). Ok h.number) (ok_is _ heard same)

-- an act asks for the name that its body says
pub record AsksNaming (bytes : List ℕ) (asked : CometAsked) : Type 0 where
  pub naming : Naming
  pub asks : asked ≡ Names naming
  pub read : naming_of bytes ≡ Some naming

naming_asked : (v : CometVerb) (bytes : List ℕ) (asked : CometAsked) → is_act v ≡ true → asked_of v bytes ≡ Ok asked → AsksNaming bytes asked
unfolding asked_of
naming_asked verb.Comet bytes asked act is = by (naming_of bytes) refl is
  where
    by : (o : Option Naming) → naming_of bytes ≡ o → naming_by o ≡ Ok asked → AsksNaming bytes asked
    by (Some naming) read same = record { naming = naming; asks = sym (ok_is (Names naming) asked same); read = read }
    by None read same = absurd cc
naming_asked verb.Register bytes asked act is = absurd cc
naming_asked verb.Translate bytes asked act is = absurd cc
naming_asked verb.Unknown bytes asked act is = absurd cc

pub act_asks : (founder : Key) (q : CometRequest) (bytes : List ℕ) (heard : CometHeard) → is_act q.verb ≡ true → hear founder q bytes ≡ Ok heard → AsksNaming bytes heard.asked
act_asks founder q bytes heard act is = naming_asked q.verb bytes heard.asked act (asked_is founder q bytes heard is)

pub asks_register : (bytes : List ℕ) → AsksNaming bytes Register → ⊥
asks_register bytes a = let is = a.asks in cc

pub asks_translate : (bytes : List ℕ) → AsksNaming bytes Translate → ⊥
asks_translate bytes a = let is = a.asks in cc

names_is : (one other : Naming) → Names one ≡ Names other → one ≡ other
names_is one other is = cc

pub reads : (bytes : List ℕ) (naming : Naming) → AsksNaming bytes (Names naming) → naming_of bytes ≡ Some naming
reads bytes naming a = a.read ∙ ap (λ (n : Naming). Some n) (sym (names_is naming a.naming a.asks))

-- ---- what becomes of a request

module _ (founder : Key) (limit : Option ℕ) (desk : List Deed) (past : List Entry) (q : CometRequest) (t : ℤ) where
  abbrev pub heard_outcome : List ℕ → CometHeard → Result Outcome CometRefusal
  heard_outcome bytes heard = Ok (asked_step limit desk past heard.number heard.asked bytes (next_moment past t))

  pub outcome_is : outcome founder limit desk past q t ≡ unless_unheard (bytes_in q.body >>= (λ bytes. hear founder q bytes >>= heard_outcome bytes))
  unfolding outcome
  outcome_is = refl

  pub no_bytes : (r : CometRefusal) → bytes_in q.body ≡ Err r → outcome founder limit desk past q t ≡ Refuses r
  no_bytes r is = outcome_is ∙ ap (λ (x : Result (List ℕ) CometRefusal). unless_unheard (x >>= (λ bytes. hear founder q bytes >>= heard_outcome bytes))) is

  pub heard_as : (bytes : List ℕ) (h : Result CometHeard CometRefusal) → bytes_in q.body ≡ Ok bytes → hear founder q bytes ≡ h → outcome founder limit desk past q t ≡ unless_unheard (h >>= heard_outcome bytes)
  heard_as bytes h body is =
      outcome_is
      ∙ ap (λ (x : Result (List ℕ) CometRefusal). unless_unheard (x >>= (λ bytes. hear founder q bytes >>= heard_outcome bytes))) body
      ∙ ap (λ (x : Result CometHeard CometRefusal). unless_unheard (x >>= heard_outcome bytes)) is

  -- a refusal in hearing is the refusal that the request meets, or that memory was refused
  pub unheard : (bytes : List ℕ) (r : CometRefusal) → bytes_in q.body ≡ Ok bytes → IsDue (hear founder q bytes) (Err r) → IsRefused (outcome founder limit desk past q t) r
  unheard bytes r body (inl is) = inl (heard_as bytes (Err r) body is)
  unheard bytes r body (inr none) = inr none

  pub heard_step : (bytes : List ℕ) (heard : CometHeard) → bytes_in q.body ≡ Ok bytes → hear founder q bytes ≡ Ok heard
      → outcome founder limit desk past q t ≡ asked_step limit desk past heard.number heard.asked bytes (next_moment past t)
  heard_step bytes heard body is = heard_as bytes (Ok heard) body is

-- ---- an act that was heard

pub reads_as : (bytes : List ℕ) (asked : CometAsked) (naming : Naming) → asked ≡ Names naming → AsksNaming bytes asked → naming_of bytes ≡ Some naming
reads_as bytes asked naming is asks = reads bytes naming (subst (AsksNaming bytes) is asks)

pub never_told : (bytes : List ℕ) (asked : CometAsked) → (asked ≡ Register) ⊎ (asked ≡ Translate) → AsksNaming bytes asked → ⊥
never_told bytes asked (inl is) asks = asks_register bytes (subst (AsksNaming bytes) is asks)
never_told bytes asked (inr is) asks = asks_translate bytes (subst (AsksNaming bytes) is asks)

-- what is prepared of a naming is prepared of the request
pub prepared_naming : (founder : Key) (limit : Option ℕ) (desk : List Deed) (entries : List Entry) (q : CometRequest) (t : ℤ) (bytes : List ℕ) (heard : CometHeard) (naming : Naming) → bytes_in q.body ≡ Ok bytes
    → hear founder q bytes ≡ Ok heard → heard.asked ≡ Names naming → (past : List NamedComet) (room : ℕ) (result : Result Prep CometRefusal) (moment : ℤ) (known : List Entry) → moment ≡ next_moment known t → known ≡ entries
    → IsPrepared limit desk entries past room (act_step limit desk entries heard.number naming bytes moment) result → IsPrepared limit desk entries past room (outcome founder limit desk entries q t) result
prepared_naming founder limit desk entries q t bytes heard naming body hears asks past room result moment known moment_is same prepared =
    let is : outcome founder limit desk entries q t ≡ act_step limit desk entries heard.number naming bytes moment =
    heard_step founder limit desk entries q t bytes heard body hears
    ∙ ap (λ (a : CometAsked). asked_step limit desk entries heard.number a bytes (next_moment entries t)) asks
    ∙ ap (λ (m : ℤ). act_step limit desk entries heard.number naming bytes m) (sym (moment_is ∙ ap (λ (h : List Entry). next_moment h t) same)) in
    subst (λ (o : Outcome). IsPrepared limit desk entries past room o result) (sym is) prepared

-- Entries that come again.
use Rattle.std.proofs.Common.{◌≡◌, ℕ, ℤ, Bool, true, false, cond, List, ◌∷◌, length, Option, Some, None, Result, Ok, Err, refl, sym, ap, subst, ◌∙◌, inl, inr, arith}
use Rattle.std.specs.Prelude.{◌↔◌, not, IsErrOf}
use Rattle.std.proofs.lemmas.Slice.Eq.{bytes_eq-Decides}
use Rattle.obs_time.specs.Instants.{IsInstantNs}
use Rattle.act_bodies.specs.declared.key.Key.{Key}
use Rattle.act_bodies.specs.Keys.{key_text, same_key}
use Rattle.act_model.specs.declared.deed.Deed.{Deed}
use Rattle.act_model.specs.declared.entry.Entry.{Entry}
use Rattle.act_model.specs.declared.reply.Part.TheVariants as part
use Rattle.act_model.specs.declared.request.Verb.{Verb}
use Rattle.act_model.specs.declared.request.Verb.TheVariants.{Enrol}
use Rattle.act_model.specs.History.{Kept, numbered_entry, next_moment}
use Rattle.act_model.specs.Requests.{verb_code}
use Rattle.act_model.specs.Rows.{first_row}
use Rattle.comet_model.specs.declared.heard.CometAsked.{CometAsked}
use Rattle.comet_model.specs.declared.heard.CometAsked.TheVariants.{Names}
use Rattle.comet_model.specs.declared.heard.CometHeard.{CometHeard}
use Rattle.comet_model.specs.declared.named.NamedComet.{NamedComet}
use Rattle.comet_model.specs.declared.naming.Naming.{Naming}
use Rattle.comet_model.specs.declared.reply.CometRefusal.{CometRefusal}
use Rattle.comet_model.specs.declared.reply.CometRefusal.TheVariants.{Unread, UnknownKey, NoMemory}
use Rattle.comet_model.specs.declared.reply.CometReply.{CometReply}
use Rattle.comet_model.specs.declared.request.CometRequest.{CometRequest}
use Rattle.comet_model.specs.declared.request.CometVerb.TheVariants.{Comet}
use Rattle.comet_model.specs.Rows.{unless, ◌>>=◌}
use Rattle.comet_model.specs.Namings.{naming_of}
use Rattle.comet_model.specs.Hearing.{size_rows, bytes_in, is_number_of, naming_by, asked_of, key_rows, hear}
use Rattle.comet_model.specs.Legal.{entry_request, IsAdded}
use Rattle.comet_model.specs.Register.{new_entry}
use Rattle.comet_model.specs.Step.{Outcome, Refuses, Keeps, Tells, Adds, names_within, unless_kept, unless_refused, act_step, asked_step, unless_unheard, outcome, reply_and_entries, step}
use Rattle.comet_core.specs.declared.replaying.ReplayFault.{ReplayFault}
use Rattle.comet_core.specs.declared.replaying.ReplayFault.TheVariants as fault
use Rattle.comet_core.specs.declared.prepared.Prep.{Prep}
use Rattle.comet_core.specs.declared.prepared.Prep.TheVariants as prep
use Rattle.comet_core.specs.Preparing.{IsRefused, Prepares}
use Rattle.comet_core.specs.Register.{Ready}
use Rattle.comet_core.specs.Replaying.{HasFields, MayFollow}
use Rattle.comet_core.proofs.HearLemmas.{bound, unless_ok, ok_is, AsksNaming, act_asks, claimed_is, outcome_is, heard_outcome, heard_step}

-- ---- an entry that was added

longer : (e : Entry) (past : List Entry) → past ≡ e ∷ past → {A : Type 0} → A
longer e past is = let lengths = ap length is in absurd (omega arith)

made_entry : (desk : List Deed) (e : Entry) (past : List Entry) (o : Outcome) → (reply_and_entries desk past o).1 ≡ e ∷ past → o ≡ Adds e
made_entry desk e past (Refuses r) is = longer e past is
made_entry desk e past (Keeps reply) is = longer e past is
made_entry desk e past (Tells text) is = longer e past is
made_entry desk e past (Adds other) is = cc

was_heard : (x : Result Outcome CometRefusal) (e : Entry) → unless_unheard x ≡ Adds e → x ≡ Ok (Adds e)
was_heard (Ok o) e is = ap (λ (o : Outcome). Ok o) is
was_heard (Err r) e is = absurd cc

number_taken : (b : Bool) (number n : ℕ) (r : CometRefusal) → cond b (Ok number) (Err r) ≡ Ok n → (b ≡ true) × (number ≡ n)
number_taken true number n r is = (refl, ok_is number n is)
number_taken false number n r is = absurd cc

-- an act that becomes an entry has a number that was not used, and becomes that of its own fields
acted : (desk : List Deed) (used : Option Kept) (bytes : List ℕ) (work : Result NamedComet CometRefusal) (new e : Entry) → unless_kept desk used bytes (unless_refused work new) ≡ Adds e → (used ≡ None) × (e ≡ new)
acted desk None bytes (Ok named) new e is = (refl, cc)
acted desk None bytes (Err x) new e is = absurd cc
acted desk (Some k) bytes work new e is = absurd cc

-- what is seen of the fields of an entry that was added, and what its body asks
pub record Comes (past : List Entry) (entry : Entry) : Type 0 where
  pub follows : MayFollow past entry
  pub naming : Naming
  pub read : naming_of entry.body ≡ Some naming

module _ (founder : Key) (desk : List Deed) (past : List Entry) (e : Entry) where
  abbrev pub own : CometRequest
  own = entry_request founder e

  pub adds_entry : outcome founder None desk past own e.moment ≡ Adds e → (step founder None desk past own e.moment).1 ≡ e ∷ past
  unfolding step
  adds_entry is = ap (λ (o : Outcome). (reply_and_entries desk past o).1) is

  pub entry_added : IsAdded founder desk past e → outcome founder None desk past own e.moment ≡ Adds e
  unfolding step
  entry_added is = made_entry desk e past (outcome founder None desk past own e.moment) is.1

  comes_by : (bytes : List ℕ) (heard : CometHeard) → bytes_in own.body ≡ Ok bytes → hear founder own bytes ≡ Ok heard
      → asked_step None desk past heard.number heard.asked bytes (next_moment past e.moment) ≡ Adds e → Comes past e
  comes_by bytes heard body hears is =
      let (size, same) = unless_ok (first_row (size_rows e.body)) (Ok e.body) bytes body in
      let bytes_are : e.body ≡ bytes = ok_is e.body bytes same in
      let (numbered, number_is) = number_taken (is_number_of Comet e.number) e.number heard.number (Unread part.Number) (claimed_is founder own bytes heard hears) in
      let asks : AsksNaming bytes heard.asked = act_asks founder own bytes heard refl hears in
      let acts : act_step None desk past heard.number asks.naming bytes (next_moment past e.moment) ≡ Adds e =
      ap (λ (a : CometAsked). asked_step None desk past heard.number a bytes (next_moment past e.moment)) (sym asks.asks) ∙ is in
      let (unused, new) = acted desk (numbered_entry past 0 heard.number) bytes (names_within None desk past bytes asks.naming) (new_entry heard.number bytes (next_moment past e.moment)) e acts in
      let caller : e.caller ≡ 0 = ap (λ (x : Entry). x.caller) new in
      record {
        follows = record {
          caller = caller;
          verb = ap (λ (x : Entry). x.verb) new;
          size = size;
          number = numbered;
          unused = ap (λ (c : ℕ). numbered_entry past c e.number) caller ∙ ap (numbered_entry past 0) number_is ∙ unused;
          moment = sym (ap (λ (x : Entry). x.moment) new);
        };
        naming = asks.naming;
        read = ap naming_of bytes_are ∙ asks.read;
      }

  pub comes : IsAdded founder desk past e → Comes past e
  comes is =
      let hearing : List ℕ → Result Outcome CometRefusal = λ bytes. hear founder own bytes >>= heard_outcome founder None desk past own e.moment bytes in
      let heard_is = was_heard (bytes_in own.body >>= hearing) e (sym (outcome_is founder None desk past own e.moment) ∙ entry_added is) in
      let (bytes, body, rest) = bound (bytes_in own.body) hearing (Adds e) heard_is in
      let (heard, hears, last) = bound (hear founder own bytes) (heard_outcome founder None desk past own e.moment bytes) (Adds e) rest in
      comes_by bytes heard body hears (ok_is (asked_step None desk past heard.number heard.asked bytes (next_moment past e.moment)) (Adds e) last)

-- ---- an entry that may follow

same_itself : (key : Key) → same_key key key ≡ true
same_itself key = (bytes_eq-Decides (key_text key) (key_text key)).1 refl

module _ (founder : Key) (desk : List Deed) (past : List Entry) (number : ℕ) (body : List ℕ) (moment : ℤ) where
  abbrev pub new : Entry
  new = new_entry number body moment

  heard_own : (naming : Naming) → is_number_of Comet number ≡ true → naming_of body ≡ Some naming → hear founder (entry_request founder new) body ≡ Ok (record { number = number; asked = Names naming })
  unfolding hear asked_of
  heard_own naming numbered read =
      let with : ℕ → CometAsked → Result CometHeard CometRefusal = λ n asked. unless (first_row (key_rows founder founder)) (Ok (record { number = n; asked = asked })) in
      ap (λ (b : Bool). cond b (Ok number) (Err (Unread part.Number)) >>= (λ n. naming_by (naming_of body) >>= with n)) numbered
      ∙ ap (λ (o : Option Naming). naming_by o >>= with number) read
      ∙ ap (λ (b : Bool). unless (cond (not b) (Some UnknownKey) None) (Ok (record { number = number; asked = Names naming }))) (same_itself founder)

  -- what becomes of its request is that it is added, unless what it names is refused
  pub becomes : MayFollow past new → (naming : Naming) → naming_of body ≡ Some naming → outcome founder None desk past (entry_request founder new) moment ≡ unless_refused (names_within None desk past body naming) new
  becomes may naming read =
      let body_is : bytes_in (entry_request founder new).body ≡ Ok body = ap (λ (o : Option CometRefusal). unless o (Ok body)) may.size in
      heard_step founder None desk past (entry_request founder new) moment body (record { number = number; asked = Names naming }) body_is (heard_own naming may.number read)
      ∙ ap (λ (k : Option Kept). unless_kept desk k body (unless_refused (names_within None desk past body naming) (new_entry number body (next_moment past moment)))) may.unused
      ∙ ap (λ (m : ℤ). unless_refused (names_within None desk past body naming) (new_entry number body m)) may.moment

  module _ (instant : IsInstantNs moment) (may : MayFollow past new) (naming : Naming) (read : naming_of body ≡ Some naming) where
    one_added : (work : Result NamedComet CometRefusal) (f : Entry) → unless_refused work new ≡ Adds f → f ≡ new
    one_added (Ok named) f is = cc
    one_added (Err r) f is = absurd cc

    -- an act that is ready becomes the entry
    pub ready_is : (f : Entry) → unless_refused (names_within None desk past body naming) new ≡ Adds f → f ≡ new
    ready_is f is = one_added (names_within None desk past body naming) f is

    pub ready_added : (f : Entry) → unless_refused (names_within None desk past body naming) new ≡ Adds f → IsAdded founder desk past f
    ready_added f is =
        let same : f ≡ new = ready_is f is in
        subst (IsAdded founder desk past) (sym same) ((instant, adds_entry founder desk past new (becomes may naming read ∙ is ∙ ap (λ (x : Entry). Adds x) same)))

    -- and where anything else becomes of it, the entry isn't added
    pub never_added : (o : Outcome) → unless_refused (names_within None desk past body naming) new ≡ o → (o ≡ Adds new → ⊥) → IsAdded founder desk past new → ⊥
    never_added o is other added = other (sym is ∙ sym (becomes may naming read) ∙ entry_added founder desk past new added)

    keeps_apart : (reply : CometReply) → Keeps reply ≡ Adds new → ⊥
    keeps_apart reply is = cc

    refuses_apart : (r : CometRefusal) → Refuses r ≡ Adds new → ⊥
    refuses_apart r is = cc

    -- nor where a reply was kept
    pub kept_never : (reply : CometReply) → unless_refused (names_within None desk past body naming) new ≡ Keeps reply → IsAdded founder desk past new → ⊥
    kept_never reply is = never_added (Keeps reply) is (keeps_apart reply)

    -- nor where it was refused, for want of memory aside
    pub refused_never : (r : CometRefusal) (f : ReplayFault) → IsRefused (unless_refused (names_within None desk past body naming) new) r → (f ≡ fault.NoMemory ↔ r ≡ NoMemory) → f ≡ fault.NotLegal
        → IsAdded founder desk past new → ⊥
    refused_never r f (inl is) same not_legal = never_added (Refuses r) is (refuses_apart r)
    refused_never r f (inr none) same not_legal = let both : fault.NoMemory ≡ fault.NotLegal = sym (same.1 none) ∙ not_legal in absurd cc

-- what was prepared becomes an entry, is refused, or was kept
module _ (desk : List Deed) (entries : List Entry) (past : List NamedComet) (room : ℕ) (due : Outcome) (p : Prep) (prepares : Prepares None desk entries past room due p) where
  pub ready_due : (r : Ready) → p ≡ prep.Ready r → due ≡ Adds r.entry
  ready_due r is = (subst (Prepares None desk entries past room due) is prepares).0

  pub refused_due : (r : CometRefusal) → p ≡ prep.Refused r → IsRefused due r
  refused_due r is = subst (Prepares None desk entries past room due) is prepares

  pub kept_due : (reply : CometReply) → p ≡ prep.Kept reply → due ≡ Keeps reply
  kept_due reply is = subst (Prepares None desk entries past room due) is prepares

-- an entry whose body can't be read isn't added
pub unread_never : (founder : Key) (desk : List Deed) (past : List Entry) (e : Entry) → naming_of e.body ≡ None → IsAdded founder desk past e → ⊥
unread_never founder desk past e none added = let it = comes founder desk past e added in let both : Some it.naming ≡ None = sym it.read ∙ none in cc

-- the fault of an answer
pub err_is : {A : Type 0} (f g : ReplayFault) → IsErrOf {T = A} (Err f) g → f ≡ g
err_is f g is = cc

-- ---- fields

module _ (caller number : ℕ) (moment : ℤ) (code : ℕ) (body : List ℕ) (e : Entry) (has : HasFields caller number moment code body e) where
  -- the entry of these fields that is the founding officer's act
  pub fields_are : e.caller ≡ 0 → e.verb ≡ Enrol → e ≡ new_entry number body moment
  fields_are caller_is verb_is =
      ap (λ (c : ℕ). record { caller = c; number = e.number; moment = e.moment; verb = e.verb; body = e.body }) caller_is
      ∙ ap (λ (n : ℕ). record { caller = 0; number = n; moment = e.moment; verb = e.verb; body = e.body }) has.number_is
      ∙ ap (λ (m : ℤ). record { caller = 0; number = number; moment = m; verb = e.verb; body = e.body }) has.moment_is
      ∙ ap (λ (v : Verb). record { caller = 0; number = number; moment = moment; verb = v; body = e.body }) verb_is
      ∙ ap (λ (b : List ℕ). record { caller = 0; number = number; moment = moment; verb = Enrol; body = b }) has.body_is

  pub founders : (past : List Entry) → MayFollow past e → (caller ≡ 0) × (code ≡ 1)
  founders past may = (sym has.caller_is ∙ may.caller, sym has.code_is ∙ ap verb_code may.verb)

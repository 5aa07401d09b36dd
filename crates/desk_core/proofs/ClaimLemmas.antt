-- What becomes of a request, by what it says of itself before its body is read.
use Rattle.std.proofs.Common.{◌≡◌, ℕ, ℤ, Bool, true, false, cond, List, Option, Some, None, Result, Ok, Err, refl, sym, ap, subst, ◌∙◌, inl, inr}
use Rattle.std.specs.Prelude.{IfErr}
use Rattle.act_bodies.specs.declared.key.Key.{Key}
use Rattle.act_model.specs.declared.deed.Deed.{Deed}
use Rattle.act_model.specs.declared.entry.Entry.{Entry}
use Rattle.act_model.specs.declared.heard.Asked.{Asked}
use Rattle.act_model.specs.declared.heard.Asked.TheVariants as asked
use Rattle.act_model.specs.declared.heard.Heard.{Heard}
use Rattle.act_model.specs.declared.reply.Part.TheVariants as part
use Rattle.act_model.specs.declared.reply.Refusal.{Refusal}
use Rattle.act_model.specs.declared.reply.Refusal.TheVariants.{OtherRequest}
use Rattle.act_model.specs.declared.reply.Reply.TheVariants.{Done, Refused}
use Rattle.act_model.specs.declared.request.Request.{Request}
use Rattle.act_model.specs.declared.request.Verb.{Verb}
use Rattle.act_model.specs.declared.roster.Caller.{Caller}
use Rattle.act_model.specs.declared.roster.Member.{Member}
use Rattle.act_model.specs.Deeds.{deeds}
use Rattle.act_model.specs.Hearing.{bytes_in, verb_rows, number_in, asked_of, caller_in, hear}
use Rattle.act_model.specs.History.{Kept, numbered_entry, next_moment, next_receipt}
use Rattle.act_model.specs.Refusals.{work_within}
use Rattle.act_model.specs.Replies.{entry_answer}
use Rattle.act_model.specs.Requests.{is_act}
use Rattle.act_model.specs.Roster.{members, caller_of}
use Rattle.act_model.specs.Rows.{first_row, unless, ◌>>=◌, IsDue}
use Rattle.act_model.specs.Step.{Outcome, Refuses, Keeps, Adds, outcome, unless_unheard, heard_step, act_step, query_step, query_in, answer_of_query, tells, unless_kept, unless_refused, new_entry, kept_reply, is_resend}
use Rattle.desk_core.specs.declared.hearing.Claim.{Claim}
use Rattle.desk_core.specs.Claims.{claim_of, announcement, heard_by, kept_for, act_by, told_by}
use Rattle.desk_core.specs.Preparing.{IsRefused}

-- ---- what is heard, by what a request says of itself

-- what is asked, and by whom
abbrev claiming : ℕ → Option Caller → Result Claim Refusal
claiming number who = Ok (record { number = number; caller = who })

abbrev pub hears : Verb → ℕ → Result Asked Refusal → Option Caller → Result Heard Refusal
hears verb number what who = what >>= λ asked. caller_in who >>= λ caller. Ok (record { verb = verb; number = number; asked = asked; caller = caller })

in_two : (verb : Verb) (named : Option Refusal) (number : Result ℕ Refusal) (what : Result Asked Refusal) (who : Option Caller)
    → unless named (number >>= λ n. hears verb n what who)
    ≡ (unless named (number >>= λ n. claiming n who) >>= λ claim. hears verb claim.number what claim.caller)
in_two verb (Some refusal) number what who = refl
in_two verb None (Ok n) what who = refl
in_two verb None (Err refusal) what who = refl

hear_claimed : (founder : Key) (enrolled : List Member) (q : Request) (bytes : List ℕ)
    → hear founder enrolled q bytes ≡ (claim_of founder enrolled q.verb q.number q.key >>= λ claim. heard_by claim q.verb bytes)
unfolding hear
hear_claimed founder enrolled q bytes = in_two q.verb (first_row (verb_rows q.verb)) (number_in q.verb q.number) (asked_of q.verb bytes) (caller_of founder enrolled q.key)

-- what is read of the body, and who has the key
module _ (claim : Claim) (verb : Verb) (bytes : List ℕ) where
  pub heard_asked : (r : Refusal) → IsDue (asked_of verb bytes) (Err r) → IsDue (heard_by claim verb bytes) (Err r)
  heard_asked r (inl is) = inl (ap (λ (what : Result Asked Refusal). hears verb claim.number what claim.caller) is)
  heard_asked r (inr wants) = inr wants

  pub heard_who : (asked : Asked) (who : Option Caller) → asked_of verb bytes ≡ Ok asked → claim.caller ≡ who → heard_by claim verb bytes ≡ hears verb claim.number (Ok asked) who
  heard_who asked who what is = ap (λ (what : Result Asked Refusal). hears verb claim.number what claim.caller) what ∙ ap (hears verb claim.number (Ok asked)) is

  pub told_unheard : (past : List Entry) (r : Refusal) → heard_by claim verb bytes ≡ Err r → told_by past claim verb bytes ≡ Err r
  told_unheard past r is = ap (λ (x : Result Heard Refusal). x >>= λ heard. query_in heard.asked >>= answer_of_query past heard.caller.number) is

module _ (limit : Option ℕ) (past : List Entry) (bytes : List ℕ) (moment : ℤ) (verb : Verb) (number : ℕ) where
  abbrev steps : Result Heard Refusal → Outcome
  steps heard = unless_unheard (heard >>= λ heard. Ok (heard_step limit past heard bytes moment))

  as_act : (what : Result Asked Refusal) (who : Option Caller) → is_act verb ≡ true
      → steps (hears verb number what who) ≡ unless_unheard (hears verb number what who >>= λ heard. Ok (act_step limit past heard bytes moment))
  as_act (Err refusal) who act = refl
  as_act (Ok asked) None act = refl
  as_act (Ok asked) (Some caller) act =
      let heard : Heard = record { verb = verb; number = number; asked = asked; caller = caller } in
      ap (λ (b : Bool). cond b (act_step limit past heard bytes moment) (query_step past heard)) act

  as_query : (what : Result Asked Refusal) (who : Option Caller) → is_act verb ≡ false
      → steps (hears verb number what who) ≡ tells (hears verb number what who >>= λ heard. query_in heard.asked >>= answer_of_query past heard.caller.number)
  as_query (Err refusal) who query = refl
  as_query (Ok asked) None query = refl
  as_query (Ok asked) (Some caller) query =
      let heard : Heard = record { verb = verb; number = number; asked = asked; caller = caller } in
      ap (λ (b : Bool). cond b (act_step limit past heard bytes moment) (query_step past heard)) query

-- ---- what becomes of a request

module _ (founder : Key) (limit : Option ℕ) (past : List Entry) (q : Request) (t : ℤ) where
  abbrev claims : Result Claim Refusal
  claims = claim_of founder (members (deeds past)) q.verb q.number q.key

  abbrev heard_outcome : List ℕ → Heard → Result Outcome Refusal
  heard_outcome bytes heard = Ok (heard_step limit past heard bytes (next_moment past t))

  outcome_is : outcome founder limit past q t ≡ unless_unheard (bytes_in q.body >>= λ bytes. hear founder (members (deeds past)) q bytes >>= heard_outcome bytes)
  unfolding outcome
  outcome_is = refl

  -- a body that isn't taken
  pub outcome_bytes : (r : Refusal) → bytes_in q.body ≡ Err r → outcome founder limit past q t ≡ Refuses r
  outcome_bytes r is = outcome_is ∙ ap (λ (x : Result (List ℕ) Refusal). unless_unheard (x >>= λ bytes. hear founder (members (deeds past)) q bytes >>= heard_outcome bytes)) is

  after_bytes : (bytes : List ℕ) → bytes_in q.body ≡ Ok bytes → outcome founder limit past q t ≡ unless_unheard ((claims >>= λ claim. heard_by claim q.verb bytes) >>= heard_outcome bytes)
  after_bytes bytes is =
      outcome_is
      ∙ ap (λ (x : Result (List ℕ) Refusal). unless_unheard (x >>= λ bytes. hear founder (members (deeds past)) q bytes >>= heard_outcome bytes)) is
      ∙ ap (λ (x : Result Heard Refusal). unless_unheard (x >>= heard_outcome bytes)) (hear_claimed founder (members (deeds past)) q bytes)

  -- a verb or a number that isn't taken
  pub outcome_unclaimed : (bytes : List ℕ) (r : Refusal) → bytes_in q.body ≡ Ok bytes → claims ≡ Err r → outcome founder limit past q t ≡ Refuses r
  outcome_unclaimed bytes r body is = after_bytes bytes body ∙ ap (λ (x : Result Claim Refusal). unless_unheard ((x >>= λ claim. heard_by claim q.verb bytes) >>= heard_outcome bytes)) is

  after_claim : (bytes : List ℕ) (claim : Claim) → bytes_in q.body ≡ Ok bytes → claims ≡ Ok claim → outcome founder limit past q t ≡ unless_unheard (heard_by claim q.verb bytes >>= heard_outcome bytes)
  after_claim bytes claim body is = after_bytes bytes body ∙ ap (λ (x : Result Claim Refusal). unless_unheard ((x >>= λ claim. heard_by claim q.verb bytes) >>= heard_outcome bytes)) is

  -- an act
  pub outcome_act : (bytes : List ℕ) (claim : Claim) → bytes_in q.body ≡ Ok bytes → claims ≡ Ok claim → is_act q.verb ≡ true
      → outcome founder limit past q t ≡ act_by limit past claim q.verb bytes (next_moment past t)
  outcome_act bytes claim body is act =
      after_claim bytes claim body is ∙ as_act limit past bytes (next_moment past t) q.verb claim.number (asked_of q.verb bytes) claim.caller act

  -- a query
  pub outcome_query : (bytes : List ℕ) (claim : Claim) → bytes_in q.body ≡ Ok bytes → claims ≡ Ok claim → is_act q.verb ≡ false
      → outcome founder limit past q t ≡ tells (told_by past claim q.verb bytes)
  outcome_query bytes claim body is query =
      after_claim bytes claim body is ∙ as_query limit past bytes (next_moment past t) q.verb claim.number (asked_of q.verb bytes) claim.caller query

-- ---- what is refused before memory is asked for

pub no_bytes : (founder : Key) (enrolled : List Member) (q : Request) (r : Refusal) → bytes_in q.body ≡ Err r → announcement founder enrolled q ≡ Err r
no_bytes founder enrolled q r is = ap (λ (x : Result (List ℕ) Refusal). x >>= λ bytes. claim_of founder enrolled q.verb q.number q.key) is

pub has_bytes : (founder : Key) (enrolled : List Member) (q : Request) (bytes : List ℕ) (claim : Result Claim Refusal) → bytes_in q.body ≡ Ok bytes → claim_of founder enrolled q.verb q.number q.key ≡ claim
    → announcement founder enrolled q ≡ claim
has_bytes founder enrolled q bytes claim is claims = ap (λ (x : Result (List ℕ) Refusal). x >>= λ bytes. claim_of founder enrolled q.verb q.number q.key) is ∙ claims

-- a refusal that is due is the one that is answered
pub if_refused : {A : Type 0} (B : Type 0) (due : Result A Refusal) (r : Refusal) → due ≡ Err r → IfErr due (λ refusal. ◌≡◌ {A = Result B Refusal} (Err r) (Err refusal))
if_refused {A} B due r is = subst (λ (d : Result A Refusal). IfErr d (λ refusal. ◌≡◌ {A = Result B Refusal} (Err r) (Err refusal))) (sym is) refl

-- where none is due, nothing is asked
pub if_taken : {A : Type 0} (due : Result A Refusal) (a : A) (P : Refusal → Type 0) → due ≡ Ok a → IfErr due P
if_taken {A} due a P is = subst (λ (d : Result A Refusal). IfErr d P) (sym is) tt

-- ---- an act that said so much of itself

module _ (limit : Option ℕ) (past : List Entry) (claim : Claim) (verb : Verb) (bytes : List ℕ) (moment : ℤ) where
  -- it isn't heard
  pub act_unheard : (r : Refusal) → IsDue (heard_by claim verb bytes) (Err r) → IsRefused (act_by limit past claim verb bytes moment) r
  act_unheard r (inl is) = inl (ap (λ (x : Result Heard Refusal). unless_unheard (x >>= λ heard. Ok (act_step limit past heard bytes moment))) is)
  act_unheard r (inr wants) = inr wants

  pub act_heard : (heard : Heard) → heard_by claim verb bytes ≡ Ok heard → act_by limit past claim verb bytes moment ≡ act_step limit past heard bytes moment
  act_heard heard is = ap (λ (x : Result Heard Refusal). unless_unheard (x >>= λ heard. Ok (act_step limit past heard bytes moment))) is

-- what was heard is what the request said of itself
pub record IsHeard (claim : Claim) (verb : Verb) (heard : Heard) : Type 0 where
  pub caller : claim.caller ≡ Some heard.caller
  pub number : heard.number ≡ claim.number
  pub verb_is : heard.verb ≡ verb

heard_so : (verb : Verb) (number : ℕ) (what : Result Asked Refusal) (who : Option Caller) (heard : Heard) → hears verb number what who ≡ Ok heard
    → (who ≡ Some heard.caller) × (heard.number ≡ number) × (heard.verb ≡ verb)
heard_so verb number (Err refusal) who heard is = absurd cc
heard_so verb number (Ok asked) None heard is = absurd cc
heard_so verb number (Ok asked) (Some caller) heard is =
    let own : Heard = record { verb = verb; number = number; asked = asked; caller = caller } in
    let same : own ≡ heard = cc in
    (ap (λ (h : Heard). Some h.caller) same, sym (ap (λ (h : Heard). h.number) same), sym (ap (λ (h : Heard). h.verb) same))

pub is_heard : (claim : Claim) (verb : Verb) (bytes : List ℕ) (heard : Heard) → heard_by claim verb bytes ≡ Ok heard → IsHeard claim verb heard
is_heard claim verb bytes heard is =
    let so = heard_so verb claim.number (asked_of verb bytes) claim.caller heard is in
    record { caller = so.0; number = so.1; verb_is = so.2 }

-- its number stands for an entry, or for none
kept_heard : (past : List Entry) (claim : Claim) (verb : Verb) (heard : Heard) → IsHeard claim verb heard → kept_for past claim ≡ numbered_entry past heard.caller.number heard.number
kept_heard past claim verb heard is =
    ap (λ (who : Option Caller). kept_for past (record { number = claim.number; caller = who })) is.caller ∙ ap (λ (n : ℕ). numbered_entry past heard.caller.number n) (sym is.number)

module _ (limit : Option ℕ) (past : List Entry) (claim : Claim) (verb : Verb) (bytes : List ℕ) (moment : ℤ) (heard : Heard) (hears : heard_by claim verb bytes ≡ Ok heard) where
  by_kept : (o : Option Kept) → kept_for past claim ≡ o → act_by limit past claim verb bytes moment ≡ unless_kept o heard bytes (unless_refused (work_within limit past bytes moment heard) (new_entry heard bytes moment))
  by_kept o is =
      act_heard limit past claim verb bytes moment heard hears
      ∙ ap (λ (o : Option Kept). unless_kept o heard bytes (unless_refused (work_within limit past bytes moment heard) (new_entry heard bytes moment)))
      (sym (kept_heard past claim verb heard (is_heard claim verb bytes heard hears)) ∙ is)

  pub act_new : kept_for past claim ≡ None → act_by limit past claim verb bytes moment ≡ unless_refused (work_within limit past bytes moment heard) (new_entry heard bytes moment)
  act_new is = by_kept None is

  pub act_kept : (k : Kept) → kept_for past claim ≡ Some k → act_by limit past claim verb bytes moment ≡ Keeps (kept_reply verb bytes k)
  act_kept k is = by_kept (Some k) is ∙ ap (λ (v : Verb). Keeps (kept_reply v bytes k)) (is_heard claim verb bytes heard hears).verb_is

  -- another request under its number
  pub act_other : (k : Kept) → kept_for past claim ≡ Some k → is_resend verb bytes k.entry ≡ false → act_by limit past claim verb bytes moment ≡ Keeps (Refused (OtherRequest (next_receipt k.before)))
  act_other k is other = act_kept k is ∙ ap (λ (b : Bool). Keeps (cond b (Done (entry_answer k.before k.entry)) (Refused (OtherRequest (next_receipt k.before))))) other

-- ---- what an act that is added says of itself

pub record AddsNew (founder : Key) (past : List Entry) (q : Request) (t : ℤ) (e : Entry) : Type 0 where
  pub bytes : List ℕ
  pub caller : Caller
  pub number : ℕ
  pub body_is : bytes_in q.body ≡ Ok bytes
  pub number_is : number_in q.verb q.number ≡ Ok number
  pub who : caller_of founder (members (deeds past)) q.key ≡ Some caller
  pub unused : numbered_entry past caller.number number ≡ None
  pub is : e ≡ record { caller = caller.number; number = number; moment = next_moment past t; verb = q.verb; body = bytes }

not_refused : {A : Type 0} (o : Outcome) (r : Refusal) (e : Entry) → o ≡ Refuses r → o ≡ Adds e → A
not_refused o r e refuses adds = let both = sym refuses ∙ adds in absurd cc

claim_is : (named : Option Refusal) (number : Result ℕ Refusal) (who : Option Caller) (claim : Claim) → unless named (number >>= λ n. claiming n who) ≡ Ok claim
    → (number ≡ Ok claim.number) × (who ≡ claim.caller)
claim_is (Some refusal) number who claim is = absurd cc
claim_is None (Err refusal) who claim is = absurd cc
claim_is None (Ok n) who claim is =
    let own : Claim = record { number = n; caller = who } in
    let same : own ≡ claim = cc in
    (ap (λ (c : Claim). Ok c.number) same, ap (λ (c : Claim). c.caller) same)

none_kept : (o : Option Kept) (heard : Heard) (bytes : List ℕ) (then : Outcome) (e : Entry) → unless_kept o heard bytes then ≡ Adds e → (o ≡ None) × (then ≡ Adds e)
none_kept None heard bytes then e is = (refl, is)
none_kept (Some k) heard bytes then e is = absurd cc

one_added : (deed : Result Deed Refusal) (entry e : Entry) → unless_refused deed entry ≡ Adds e → e ≡ entry
one_added (Ok deed) entry e is = cc
one_added (Err r) entry e is = absurd cc

module _ (founder : Key) (limit : Option ℕ) (past : List Entry) (q : Request) (t : ℤ) (e : Entry) (act : is_act q.verb ≡ true) (adds : outcome founder limit past q t ≡ Adds e) where
  by_heard : (bytes : List ℕ) (claim : Claim) (heard : Result Heard Refusal) → bytes_in q.body ≡ Ok bytes → claim_of founder (members (deeds past)) q.verb q.number q.key ≡ Ok claim → heard_by claim q.verb bytes ≡ heard
      → AddsNew founder past q t e
  by_heard bytes claim (Err r) body claims hears =
      not_refused (outcome founder limit past q t) r e
      (outcome_act founder limit past q t bytes claim body claims act
      ∙ ap (λ (x : Result Heard Refusal). unless_unheard (x >>= λ heard. Ok (act_step limit past heard bytes (next_moment past t)))) hears) adds
  by_heard bytes claim (Ok heard) body claims hears =
      let is = is_heard claim q.verb bytes heard hears in
      let says = claim_is (first_row (verb_rows q.verb)) (number_in q.verb q.number) (caller_of founder (members (deeds past)) q.key) claim claims in
      let steps : act_step limit past heard bytes (next_moment past t) ≡ Adds e =
      sym (outcome_act founder limit past q t bytes claim body claims act ∙ act_heard limit past claim q.verb bytes (next_moment past t) heard hears) ∙ adds in
      let new = none_kept (numbered_entry past heard.caller.number heard.number) heard bytes (unless_refused (work_within limit past bytes (next_moment past t) heard) (new_entry heard bytes (next_moment past t))) e steps in
      let entry : e ≡ new_entry heard bytes (next_moment past t) = one_added (work_within limit past bytes (next_moment past t) heard) (new_entry heard bytes (next_moment past t)) e new.1 in
      record {
        bytes = bytes;
        caller = heard.caller;
        number = heard.number;
        body_is = body;
        number_is = says.0 ∙ ap (λ (n : ℕ). Ok n) (sym is.number);
        who = says.1 ∙ is.caller;
        unused = new.0;
        is = entry ∙ ap (λ (v : Verb). record { caller = heard.caller.number; number = heard.number; moment = next_moment past t; verb = v; body = bytes }) is.verb_is;
      }

  by_claim : (bytes : List ℕ) (claim : Result Claim Refusal) → bytes_in q.body ≡ Ok bytes → claim_of founder (members (deeds past)) q.verb q.number q.key ≡ claim → AddsNew founder past q t e
  by_claim bytes (Err r) body is = not_refused (outcome founder limit past q t) r e (outcome_unclaimed founder limit past q t bytes r body is) adds
  by_claim bytes (Ok claim) body is = by_heard bytes claim (heard_by claim q.verb bytes) body is refl

  by_bytes : (bytes : Result (List ℕ) Refusal) → bytes_in q.body ≡ bytes → AddsNew founder past q t e
  by_bytes (Err r) is = not_refused (outcome founder limit past q t) r e (outcome_bytes founder limit past q t r is) adds
  by_bytes (Ok bytes) is = by_claim bytes (claim_of founder (members (deeds past)) q.verb q.number q.key) is refl

  pub adds_new : AddsNew founder past q t e
  adds_new = by_bytes (bytes_in q.body) refl

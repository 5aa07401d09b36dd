-- What the step adds to a register, and what it leaves.
use Rattle.std.proofs.Common.{◌≡◌, ℕ, ℤ, Bool, true, false, not, cond, List, [], ◌∷◌, Option, Some, None, Result, Ok, Err, refl, sym, ap, subst, ◌∙◌, inl, inr}
use Rattle.std.specs.Prelude.{◌⊎◌}
use Rattle.std.proofs.lemmas.Slice.Eq.{bytes_eq-Decides}
use Rattle.read_ahead.specs.declared.body.Body.{Body}
use Rattle.read_ahead.specs.declared.body.Body.TheVariants.{Whole, TooLong, NoRoom}
use Rattle.act_bodies.specs.declared.key.Key.{Key}
use Rattle.act_bodies.specs.Keys.{key_text, same_key}
use Rattle.act_model.specs.declared.deed.Deed.{Deed}
use Rattle.act_model.specs.declared.entry.Entry.{Entry}
use Rattle.act_model.specs.declared.reply.Part.TheVariants as part
use Rattle.act_model.specs.History.{Kept, numbered_entry, next_moment, IsUnused}
use Rattle.act_model.specs.Rows.{first_row}
use Rattle.comet_model.specs.declared.heard.CometAsked.{CometAsked}
use Rattle.comet_model.specs.declared.heard.CometAsked.TheVariants.{Names, Register, Translate}
use Rattle.comet_model.specs.declared.heard.CometHeard.{CometHeard}
use Rattle.comet_model.specs.declared.named.NamedComet.{NamedComet}
use Rattle.comet_model.specs.declared.naming.Naming.{Naming}
use Rattle.comet_model.specs.declared.reply.CometRefusal.{CometRefusal}
use Rattle.comet_model.specs.declared.reply.CometRefusal.TheVariants.{Unread, UnknownKey, NoMemory}
use Rattle.comet_model.specs.declared.reply.CometReply.{CometReply}
use Rattle.comet_model.specs.declared.reply.CometReply.TheVariants.{Refused}
use Rattle.comet_model.specs.declared.request.CometRequest.{CometRequest}
use Rattle.comet_model.specs.declared.request.CometVerb.{CometVerb}
use Rattle.comet_model.specs.declared.request.CometVerb.TheVariants as verb
use Rattle.comet_model.specs.Rows.{unless, ◌>>=◌}
use Rattle.comet_model.specs.Namings.{naming_of}
use Rattle.comet_model.specs.Hearing.{size_rows, bytes_in, verb_rows, is_number_of, number_in, number_claimed, naming_by, if_empty, asked_of, key_rows, hear}
use Rattle.comet_model.specs.Refusals.{names, room_rows}
use Rattle.comet_model.specs.Register.{comets, new_entry}
use Rattle.comet_model.specs.Step.{Outcome, Refuses, Keeps, Tells, Adds, names_within, unless_kept, unless_refused, act_step, asked_step, unless_unheard, outcome, reply_and_entries, step}
use Rattle.comet_model.specs.Conducts.{Makes}

-- what was found, in two questions one after the other
pub bound : {A B : Type 0} (m : Result A CometRefusal) (f : A → Result B CometRefusal) (b : B) → (m >>= f) ≡ Ok b → (a : A) × (m ≡ Ok a) × (f a ≡ Ok b)
bound (Ok a) f b is = (a, refl, is)
bound (Err r) f b is = absurd cc

pub unless_ok : {A : Type 0} (o : Option CometRefusal) (goes_on : Result A CometRefusal) (a : A) → unless o goes_on ≡ Ok a → (o ≡ None) × (goes_on ≡ Ok a)
unless_ok (Some r) goes_on a is = absurd cc
unless_ok None goes_on a is = (refl, is)

-- what was found
abbrev pub found : {A : Type 0} → A → Result A CometRefusal
found a = Ok a

pub ok_is : {A : Type 0} (x y : A) → found x ≡ Ok y → x ≡ y
ok_is x y is = cc

-- ---- what was heard

-- a body that is taken is whole, and small enough
pub whole_body : (body : Body) (bytes : List ℕ) → bytes_in body ≡ Ok bytes → (body ≡ Whole bytes) × (first_row (size_rows bytes) ≡ None)
whole_body (Whole text) bytes is =
    let (small, same) = unless_ok (first_row (size_rows text)) (Ok text) bytes is in
    let is_text : text ≡ bytes = ok_is text bytes same in
    (ap (λ (b : List ℕ). Whole b) is_text, subst (λ (b : List ℕ). first_row (size_rows b) ≡ None) is_text small)
whole_body (TooLong size) bytes is = absurd cc
whole_body NoRoom bytes is = absurd cc

pub whole_again : (body : Body) (bytes : List ℕ) → bytes_in body ≡ Ok bytes → bytes_in (Whole bytes) ≡ Ok bytes
whole_again body bytes is = ap (λ (o : Option CometRefusal). unless o (Ok bytes)) (whole_body body bytes is).1

-- a number that was read is the request's
pub number_some : (v : CometVerb) (o : Option ℕ) (n : ℕ) → number_in v o ≡ Ok n → o ≡ Some n
number_some v None n is = absurd cc
number_some v (Some m) n is = by (is_number_of v m) is
  where
    by : (b : Bool) → cond b (Ok m) (Err (Unread part.Number)) ≡ Ok n → Some m ≡ Some n
    by true same = ap (λ (k : ℕ). Some k) (ok_is m n same)
    by false same = absurd cc

-- what the act asks is a naming that its body says
pub record AsksNaming (v : CometVerb) (bytes : List ℕ) (naming : Naming) : Type 0 where
  pub is_comet : v ≡ verb.Comet
  pub read : naming_of bytes ≡ Some naming

pub naming_is : (v : CometVerb) (bytes : List ℕ) (naming : Naming) → asked_of v bytes ≡ Ok (Names naming) → AsksNaming v bytes naming
unfolding asked_of
naming_is verb.Comet bytes naming is = record { is_comet = refl; read = by (naming_of bytes) is }
  where
    by : (o : Option Naming) → naming_by o ≡ Ok (Names naming) → o ≡ Some naming
    by (Some other) same = cc
    by None same = absurd cc
naming_is verb.Register bytes naming is = by bytes is
  where
    by : (text : List ℕ) → if_empty Register text ≡ Ok (Names naming) → AsksNaming verb.Register bytes naming
    by [] same = absurd cc
    by (byte ∷ rest) same = absurd cc
naming_is verb.Translate bytes naming is = absurd cc
naming_is verb.Unknown bytes naming is = absurd cc

-- what a request was heard to say
pub record Hears (founder : Key) (q : CometRequest) (bytes : List ℕ) (heard : CometHeard) : Type 0 where
  pub number : number_in q.verb q.number ≡ Ok heard.number
  pub asked : asked_of q.verb bytes ≡ Ok heard.asked
  pub key : same_key q.key founder ≡ true

module _ (founder : Key) (q : CometRequest) (bytes : List ℕ) where
  abbrev whole_heard : ℕ → CometAsked → Result CometHeard CometRefusal
  whole_heard number asked = unless (first_row (key_rows founder q.key)) (Ok (record { number = number; asked = asked }))

  abbrev asked_heard : ℕ → Result CometHeard CometRefusal
  asked_heard number = asked_of q.verb bytes >>= whole_heard number

  hear_is : hear founder q bytes ≡ (number_claimed q.verb q.number >>= asked_heard)
  unfolding hear
  hear_is = refl

  key_found : first_row (key_rows founder q.key) ≡ None → same_key q.key founder ≡ true
  key_found = by (same_key q.key founder)
    where
      by : (b : Bool) → cond (not b) (Some UnknownKey) None ≡ None → b ≡ true
      by true none = refl
      by false none = absurd cc

  pub hears : (heard : CometHeard) → hear founder q bytes ≡ Ok heard → Hears founder q bytes heard
  hears heard is =
      let (number, claimed_is, more) = bound (number_claimed q.verb q.number) asked_heard heard (sym hear_is ∙ is) in
      let (known, number_is) = unless_ok (first_row (verb_rows q.verb)) (number_in q.verb q.number) number claimed_is in
      let (asked, asked_is, last) = bound (asked_of q.verb bytes) (whole_heard number) heard more in
      let (key, same) = unless_ok (first_row (key_rows founder q.key)) (Ok (record { number = number; asked = asked })) heard last in
      let heard_is : record { number = number; asked = asked } ≡ heard = ok_is _ heard same in
      record {
        number = number_is ∙ ap (λ (h : CometHeard). Ok h.number) heard_is;
        asked = asked_is ∙ ap (λ (h : CometHeard). Ok h.asked) heard_is;
        key = key_found key;
      }

-- two keys are one, where they are the same
pub same_itself : (key : Key) → same_key key key ≡ true
same_itself key = (bytes_eq-Decides (key_text key) (key_text key)).1 refl

-- the founding officer's own request with the number and the body is heard so
pub hear_again : (founder : Key) (founder' : Key) (q q' : CometRequest) (bytes : List ℕ) (number : ℕ) (naming : Naming)
    → Hears founder q bytes (record { number = number; asked = Names naming }) → q'.key ≡ founder' → q'.number ≡ Some number → q'.verb ≡ verb.Comet
    → hear founder' q' bytes ≡ Ok (record { number = number; asked = Names naming })
hear_again founder founder' q q' bytes number naming h key_is number_is verb_is =
    let asks = naming_is q.verb bytes naming h.asked in
    let known : first_row (verb_rows q'.verb) ≡ None = ap (λ (v : CometVerb). first_row (verb_rows v)) verb_is in
    let numbered : number_in q'.verb q'.number ≡ Ok number =
    ap (λ (v : CometVerb). number_in v q'.number) (verb_is ∙ sym asks.is_comet) ∙ ap (number_in q.verb) (number_is ∙ sym (number_some q.verb q.number number h.number)) ∙ h.number in
    let asked : asked_of q'.verb bytes ≡ Ok (Names naming) = ap (λ (v : CometVerb). asked_of v bytes) (verb_is ∙ sym asks.is_comet) ∙ h.asked in
    let mine : first_row (key_rows founder' q'.key) ≡ None =
    ap (λ (k : Key). first_row (key_rows founder' k)) key_is ∙ ap (λ (b : Bool). cond (not b) (Some UnknownKey) None) (same_itself founder') in
    hear_is founder' q' bytes
    ∙ ap (λ (o : Option CometRefusal). unless o (number_in q'.verb q'.number) >>= asked_heard founder' q' bytes) known
    ∙ ap (λ (r : Result ℕ CometRefusal). r >>= asked_heard founder' q' bytes) numbered
    ∙ ap (λ (r : Result CometAsked CometRefusal). r >>= whole_heard founder' q' bytes number) asked
    ∙ ap (λ (o : Option CometRefusal). unless o (Ok (record { number = number; asked = Names naming }))) mine

-- ---- what the step adds

was_heard : (x : Result Outcome CometRefusal) (e : Entry) → unless_unheard x ≡ Adds e → x ≡ Ok (Adds e)
was_heard (Ok o) e is = ap (λ (o : Outcome). Ok o) is
was_heard (Err r) e is = absurd cc

-- an act that becomes an entry has a number that was not used, and nothing refuses it
acted : (desk : List Deed) (used : Option Kept) (bytes : List ℕ) (work : Result NamedComet CometRefusal) (new e : Entry)
    → unless_kept desk used bytes (unless_refused work new) ≡ Adds e → (used ≡ None) × ((named : NamedComet) × (work ≡ Ok named)) × (e ≡ new)
acted desk None bytes (Ok named) new e is = (refl, (named, refl), cc)
acted desk None bytes (Err x) new e is = absurd cc
acted desk (Some k) bytes work new e is = absurd cc

-- the request adds this entry: its bytes, its number, what it asks, and the name that it gives
pub record Added (founder : Key) (limit : Option ℕ) (desk : List Deed) (past : List Entry) (q : CometRequest) (t : ℤ) (e : Entry) : Type 0 where
  pub bytes : List ℕ
  pub number : ℕ
  pub naming : Naming
  pub named : NamedComet
  pub body : bytes_in q.body ≡ Ok bytes
  pub hears : hear founder q bytes ≡ Ok (record { number = number; asked = Names naming })
  pub unused : numbered_entry past 0 number ≡ None
  pub gives : names desk (comets desk past) naming ≡ Ok named
  pub room : first_row (room_rows limit past bytes) ≡ None
  pub entry : e ≡ new_entry number bytes (next_moment past t)

module _ (founder : Key) (limit : Option ℕ) (desk : List Deed) (past : List Entry) (q : CometRequest) (t : ℤ) where
  -- the step of a request that was heard, and what is heard before it
  abbrev pub heard_outcome : List ℕ → CometHeard → Result Outcome CometRefusal
  heard_outcome bytes heard = Ok (asked_step limit desk past heard.number heard.asked bytes (next_moment past t))

  abbrev pub hearing : List ℕ → Result Outcome CometRefusal
  hearing bytes = hear founder q bytes >>= heard_outcome bytes

  pub outcome_is : outcome founder limit desk past q t ≡ unless_unheard (bytes_in q.body >>= hearing)
  unfolding outcome
  outcome_is = refl

  abbrev if_room : List ℕ → NamedComet → Result NamedComet CometRefusal
  if_room bytes named = unless (first_row (room_rows limit past bytes)) (Ok named)

  added_by : (e : Entry) (bytes : List ℕ) (heard : CometHeard) → bytes_in q.body ≡ Ok bytes → hear founder q bytes ≡ Ok heard
      → asked_step limit desk past heard.number heard.asked bytes (next_moment past t) ≡ Adds e → Added founder limit desk past q t e
  added_by e bytes heard body hears is = by heard.asked refl is
    where
      by : (asked : CometAsked) → heard.asked ≡ asked → asked_step limit desk past heard.number asked bytes (next_moment past t) ≡ Adds e → Added founder limit desk past q t e
      by (Names naming) asked_is last =
          let (unused, (named, works), entry) = acted desk (numbered_entry past 0 heard.number) bytes (names_within limit desk past bytes naming) (new_entry heard.number bytes (next_moment past t)) e last in
          let (given, gives, rest) = bound (names desk (comets desk past) naming) (if_room bytes) named works in
          let (room, same) = unless_ok (first_row (room_rows limit past bytes)) (Ok given) named rest in
          record {
            bytes = bytes;
            number = heard.number;
            naming = naming;
            named = given;
            body = body;
            hears = hears ∙ ap (λ (a : CometAsked). Ok (record { number = heard.number; asked = a })) asked_is;
            unused = unused;
            gives = gives;
            room = room;
            entry = entry;
          }
      by Register asked_is last = absurd cc
      by Translate asked_is last = absurd cc

  pub adds : (e : Entry) → outcome founder limit desk past q t ≡ Adds e → Added founder limit desk past q t e
  adds e is =
      let (bytes, body, rest) = bound (bytes_in q.body) hearing (Adds e) (was_heard (bytes_in q.body >>= hearing) e (sym outcome_is ∙ is)) in
      let (heard, hears, last) = bound (hear founder q bytes) (heard_outcome bytes) (Adds e) rest in
      added_by e bytes heard body hears (ok_is (asked_step limit desk past heard.number heard.asked bytes (next_moment past t)) (Adds e) last)

  abbrev pub heard_naming : ℕ → Naming → CometHeard
  heard_naming number naming = record { number = number; asked = Names naming }

  -- what becomes of a naming that was heard
  pub acts : (bytes : List ℕ) (number : ℕ) (naming : Naming) → bytes_in q.body ≡ Ok bytes → hear founder q bytes ≡ Ok (heard_naming number naming)
      → outcome founder limit desk past q t ≡ act_step limit desk past number naming bytes (next_moment past t)
  acts bytes number naming body hears =
      outcome_is
      ∙ ap (λ (x : Result (List ℕ) CometRefusal). unless_unheard (x >>= hearing)) body
      ∙ ap (λ (x : Result CometHeard CometRefusal). unless_unheard (x >>= heard_outcome bytes)) hears

  -- what is heard, not used and not refused is added
  pub adds_again : (bytes : List ℕ) (number : ℕ) (naming : Naming) (named : NamedComet) → bytes_in q.body ≡ Ok bytes → hear founder q bytes ≡ Ok (heard_naming number naming)
      → numbered_entry past 0 number ≡ None → names desk (comets desk past) naming ≡ Ok named → first_row (room_rows limit past bytes) ≡ None
      → outcome founder limit desk past q t ≡ Adds (new_entry number bytes (next_moment past t))
  adds_again bytes number naming named body hears unused gives room =
      acts bytes number naming body hears
      ∙ ap (λ (k : Option Kept). unless_kept desk k bytes (unless_refused (names_within limit desk past bytes naming) (new_entry number bytes (next_moment past t)))) unused
      ∙ ap (λ (w : Result NamedComet CometRefusal). unless_refused (w >>= if_room bytes) (new_entry number bytes (next_moment past t))) gives
      ∙ ap (λ (o : Option CometRefusal). unless_refused (unless o (Ok named)) (new_entry number bytes (next_moment past t))) room

  -- a number that was used keeps its reply
  pub keeps : (bytes : List ℕ) (number : ℕ) (naming : Naming) (k : Kept) → bytes_in q.body ≡ Ok bytes → hear founder q bytes ≡ Ok (heard_naming number naming)
      → numbered_entry past 0 number ≡ Some k → outcome founder limit desk past q t ≡ unless_kept desk (Some k) bytes (Refuses NoMemory)
  keeps bytes number naming k body hears used =
      acts bytes number naming body hears
      ∙ ap (λ (k : Option Kept). unless_kept desk k bytes (unless_refused (names_within limit desk past bytes naming) (new_entry number bytes (next_moment past t)))) used

  -- the step by its outcome
  pub step_is : step founder limit desk past q t ≡ reply_and_entries desk past (outcome founder limit desk past q t)
  unfolding step
  step_is = refl

  pub no_room : q.body ≡ NoRoom → step founder limit desk past q t ≡ (Refused NoMemory, past)
  no_room none = step_is ∙ ap (reply_and_entries desk past) (outcome_is ∙ ap (λ (b : Body). unless_unheard (bytes_in b >>= hearing)) none)

-- ---- what the step leaves

-- the register stays, or gets one entry with a number that was not used
abbrev pub Leaves : List Entry → List Entry → Type 0
Leaves past next = (next ≡ past) ⊎ ((entry : Entry) × (next ≡ entry ∷ past) × IsUnused past entry)

makes : (desk : List Deed) (past : List Entry) (o : Outcome) (reply : CometReply) (next : List Entry) → reply_and_entries desk past o ≡ (reply, next) → Makes desk past o reply next
makes desk past (Refuses r) reply next is = inl (sym (ap (λ (p : CometReply × List Entry). p.1) is))
makes desk past (Keeps kept) reply next is = inl (sym (ap (λ (p : CometReply × List Entry). p.1) is))
makes desk past (Tells text) reply next is = inl (sym (ap (λ (p : CometReply × List Entry). p.1) is))
makes desk past (Adds e) reply next is = inr (e, refl, sym (ap (λ (p : CometReply × List Entry). p.0) is), sym (ap (λ (p : CometReply × List Entry). p.1) is))

refused_leaves : (desk : List Deed) (past : List Entry) (o : Outcome) (r : CometRefusal) (next : List Entry) → reply_and_entries desk past o ≡ (Refused r, next) → next ≡ past
refused_leaves desk past (Refuses x) r next is = sym (ap (λ (p : CometReply × List Entry). p.1) is)
refused_leaves desk past (Keeps kept) r next is = sym (ap (λ (p : CometReply × List Entry). p.1) is)
refused_leaves desk past (Tells text) r next is = sym (ap (λ (p : CometReply × List Entry). p.1) is)
refused_leaves desk past (Adds e) r next is = let reply = ap (λ (p : CometReply × List Entry). p.0) is in absurd cc

module _ (founder : Key) (limit : Option ℕ) (desk : List Deed) where
  -- what a step makes
  pub step_makes : (past : List Entry) (q : CometRequest) (t : ℤ) (reply : CometReply) (next : List Entry) → step founder limit desk past q t ≡ (reply, next)
      → Makes desk past (outcome founder limit desk past q t) reply next
  step_makes past q t reply next is = makes desk past (outcome founder limit desk past q t) reply next (sym (step_is founder limit desk past q t) ∙ is)

  pub refusal_leaves : (past : List Entry) (q : CometRequest) (t : ℤ) (r : CometRefusal) (next : List Entry) → step founder limit desk past q t ≡ (Refused r, next) → next ≡ past
  refusal_leaves past q t r next is = refused_leaves desk past (outcome founder limit desk past q t) r next (sym (step_is founder limit desk past q t) ∙ is)

  pub added_unused : (past : List Entry) (q : CometRequest) (t : ℤ) (e : Entry) → Added founder limit desk past q t e → IsUnused past e
  added_unused past q t e a = ap (λ (x : Entry). numbered_entry past x.caller x.number) a.entry ∙ a.unused

  made_leaves : (past : List Entry) (q : CometRequest) (t : ℤ) (reply : CometReply) (next : List Entry) → Makes desk past (outcome founder limit desk past q t) reply next → Leaves past next
  made_leaves past q t reply next (inl same) = inl same
  made_leaves past q t reply next (inr (e, is, answer, more)) = inr (e, more, added_unused past q t e (adds founder limit desk past q t e is))

  pub leaves : (past : List Entry) (q : CometRequest) (t : ℤ) (reply : CometReply) (next : List Entry) → step founder limit desk past q t ≡ (reply, next) → Leaves past next
  leaves past q t reply next is = made_leaves past q t reply next (step_makes past q t reply next is)

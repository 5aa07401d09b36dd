-- What is heard of a request, and what is worked out for it.
use Rattle.std.proofs.Common.{◌≡◌, ℕ, ℤ, List, Bool, true, false, cond, Option, Some, None, Result, Ok, Err, sym, ap, subst, ◌∙◌}
use Rattle.act_bodies.specs.declared.key.Key.{Key}
use Rattle.act_model.specs.declared.act.Act.{Act}
use Rattle.act_model.specs.declared.act.ActFault.{ActFault}
use Rattle.act_model.specs.declared.act.ActFault.TheVariants as fault
use Rattle.act_model.specs.declared.deed.Deed.{Deed}
use Rattle.act_model.specs.declared.heard.Asked.{Asked}
use Rattle.act_model.specs.declared.heard.Asked.TheVariants as asked
use Rattle.act_model.specs.declared.entry.Entry.{Entry}
use Rattle.act_model.specs.declared.heard.Heard.{Heard}
use Rattle.act_model.specs.declared.query.Query.{Query}
use Rattle.act_model.specs.declared.reply.Part.TheVariants as part
use Rattle.act_model.specs.declared.reply.Refusal.{Refusal}
use Rattle.act_model.specs.declared.reply.Refusal.TheVariants.{Unread}
use Rattle.read_ahead.specs.declared.body.Body.{Body}
use Rattle.read_ahead.specs.declared.body.Body.TheVariants.{Whole, TooLong, NoRoom}
use Rattle.act_model.specs.declared.request.Request.{Request}
use Rattle.act_model.specs.declared.request.Verb.{Verb}
use Rattle.act_model.specs.declared.roster.Caller.{Caller}
use Rattle.act_model.specs.declared.roster.Member.{Member}
use Rattle.act_model.specs.Acts.{act_of}
use Rattle.act_model.specs.Queries.{query_of}
use Rattle.act_model.specs.Requests.{is_act}
use Rattle.act_model.specs.Doing.{does}
use Rattle.act_model.specs.Deeds.{unless_refused_deed, done_if_read, deed_of, deeds}
use Rattle.act_model.specs.Hearing.{size_rows, bytes_in, verb_rows, is_number_of, number_in, asked_in, queried_in, asked_of, caller_in, hear}
use Rattle.act_model.specs.Refusals.{role_rows, act_in, work_out}
use Rattle.act_model.specs.Roster.{caller_of}
use Rattle.act_model.specs.Rows.{first_row, unless, ◌>>=◌}
use Rattle.act_model.specs.Step.{new_entry}
use Rattle.act_model.proofs.Conducts.{bound, unless_ok, ok_is}

-- ---- questions that found something

-- the bytes of a body that was whole are those of the whole body
pub whole_again : (body : Body) (bytes : List ℕ) → bytes_in body ≡ Ok bytes → bytes_in (Whole bytes) ≡ Ok bytes
whole_again (Whole b) bytes is =
    let found = unless_ok (first_row (size_rows b)) (Ok b) bytes is in
    let same : b ≡ bytes = let e = found.1 in cc in
    subst (λ (x : List ℕ). bytes_in (Whole x) ≡ Ok bytes) same is
whole_again (TooLong size) bytes is = absurd cc
whole_again NoRoom bytes is = absurd cc

number_by : (b : Bool) (m n : ℕ) → cond b (Ok m) (Err (Unread part.Number)) ≡ Ok n → m ≡ n
number_by true m n is = cc
number_by false m n is = absurd cc

pub number_some : (verb : Verb) (number : Option ℕ) (n : ℕ) → number_in verb number ≡ Ok n → number ≡ Some n
number_some verb None n is = absurd cc
number_some verb (Some m) n is = ap (λ (x : ℕ). Some x) (number_by (is_number_of verb m) m n is)

caller_some : (o : Option Caller) (caller : Caller) → caller_in o ≡ Ok caller → o ≡ Some caller
caller_some None caller is = absurd cc
caller_some (Some c) caller is = let same : c ≡ caller = cc in ap (λ (x : Caller). Some x) same

-- ---- hearing

-- what was heard of a request, question by question
pub record Hears (founder : Key) (enrolled : List Member) (q : Request) (bytes : List ℕ) (heard : Heard) : Type 0 where
  pub named : first_row (verb_rows q.verb) ≡ None
  pub number : number_in q.verb q.number ≡ Ok heard.number
  pub asked : asked_of q.verb bytes ≡ Ok heard.asked
  pub caller : caller_of founder enrolled q.key ≡ Some heard.caller
  pub verb : heard.verb ≡ q.verb

module _ (founder : Key) (enrolled : List Member) (q : Request) (bytes : List ℕ) (heard : Heard) where
  pub hears : hear founder enrolled q bytes ≡ Ok heard → Hears founder enrolled q bytes heard
  unfolding hear
  hears is =
      let (named, found) = unless_ok (first_row (verb_rows q.verb)) _ heard is in
      let (number, numbered, rest) = bound (number_in q.verb q.number) _ heard found in
      let (what, asked, last) = bound (asked_of q.verb bytes) _ heard rest in
      let (caller, known, made) = bound (caller_in (caller_of founder enrolled q.key)) _ heard last in
      let same : record { verb = q.verb; number = number; asked = what; caller = caller } ≡ heard = ok_is (record { verb = q.verb; number = number; asked = what; caller = caller }) heard made in
      record {
        named = named;
        number = numbered ∙ ap (λ (h : Heard). Ok h.number) same;
        asked = asked ∙ ap (λ (h : Heard). Ok h.asked) same;
        caller = caller_some (caller_of founder enrolled q.key) caller known ∙ ap (λ (h : Heard). Some h.caller) same;
        verb = sym (ap (λ (h : Heard). h.verb) same);
      }

-- hearing, by the answers to its questions
abbrev hearing : Verb → Option Refusal → Result ℕ Refusal → Result Asked Refusal → Result Caller Refusal → Result Heard Refusal
hearing verb named number what who =
    unless named (number >>= λ number. what >>= λ asked. who >>= λ caller. Ok (record { verb = verb; number = number; asked = asked; caller = caller }))

module _ (founder : Key) (enrolled : List Member) (q : Request) (bytes : List ℕ) (heard : Heard) (h : Hears founder enrolled q bytes heard) where
  -- whoever asks the same is heard alike, where the caller is the same
  pub hear_again : (founder' : Key) (enrolled' : List Member) (q' : Request) → q'.verb ≡ heard.verb → q'.number ≡ Some heard.number → caller_of founder' enrolled' q'.key ≡ Some heard.caller
      → hear founder' enrolled' q' bytes ≡ Ok heard
  unfolding hear
  hear_again founder' enrolled' q' verb number caller =
      let verbs : q'.verb ≡ q.verb = verb ∙ h.verb in
      let named : first_row (verb_rows q'.verb) ≡ None = ap (λ (v : Verb). first_row (verb_rows v)) verbs ∙ h.named in
      let numbered : number_in q'.verb q'.number ≡ Ok heard.number =
      ap (λ (v : Verb). number_in v q'.number) verbs ∙ ap (number_in q.verb) (number ∙ sym (number_some q.verb q.number heard.number h.number)) ∙ h.number in
      let what : asked_of q'.verb bytes ≡ Ok heard.asked = ap (λ (v : Verb). asked_of v bytes) verbs ∙ h.asked in
      let who : caller_in (caller_of founder' enrolled' q'.key) ≡ Ok heard.caller = ap caller_in caller in
      ap (λ (o : Option Refusal). hearing q'.verb o (number_in q'.verb q'.number) (asked_of q'.verb bytes) (caller_in (caller_of founder' enrolled' q'.key))) named
      ∙ ap (λ (r : Result ℕ Refusal). hearing q'.verb None r (asked_of q'.verb bytes) (caller_in (caller_of founder' enrolled' q'.key))) numbered
      ∙ ap (λ (r : Result Asked Refusal). hearing q'.verb None (Ok heard.number) r (caller_in (caller_of founder' enrolled' q'.key))) what
      ∙ ap (λ (r : Result Caller Refusal). hearing q'.verb None (Ok heard.number) (Ok heard.asked) r) who
      ∙ ap (λ (v : Verb). Ok (record { verb = v; number = heard.number; asked = heard.asked; caller = heard.caller })) verb

-- ---- working out

-- what was worked out: the act that was asked, done where nothing refuses it
pub record Worked (past : List Entry) (moment : ℤ) (heard : Heard) (deed : Deed) : Type 0 where
  pub act : Act
  pub asked : act_in heard.asked ≡ Ok act
  pub done : does (deeds past) moment act ≡ Ok deed

pub worked : (past : List Entry) (moment : ℤ) (heard : Heard) (deed : Deed) → work_out past moment heard ≡ Ok deed → Worked past moment heard deed
unfolding work_out
worked past moment heard deed is =
    let (barred, rest) = unless_ok (first_row (role_rows past heard)) _ deed is in
    let (act, asked, last) = bound (act_in heard.asked) (does (deeds past) moment) deed rest in
    record { act = act; asked = asked; done = last }

-- the act that is asked was read
asked_act : (read : Result Act ActFault) (what : Asked) (act : Act) → asked_in read ≡ Ok what → act_in what ≡ Ok act → read ≡ Ok act
asked_act (Ok a) what act is done =
    let same : asked.Act a ≡ what = ok_is (asked.Act a) what is in
    let acts : a ≡ act = ok_is a act (ap act_in same ∙ done) in
    ap (λ (x : Act). Ok x) acts
asked_act (Err (fault.Header f line)) what act is done =
    let same : asked.Header f line ≡ what = ok_is (asked.Header f line) what is in
    let none = ap act_in same ∙ done in
    absurd cc
asked_act (Err fault.Unread) what act is done = absurd cc
asked_act (Err fault.NoMemory) what act is done = absurd cc

-- what a query asks is no act
queried_act : (o : Option Query) (what : Asked) (act : Act) → queried_in o ≡ Ok what → act_in what ≡ Ok act → ⊥
queried_act None what act is done = cc
queried_act (Some query) what act is done =
    let same : asked.Query query ≡ what = ok_is (asked.Query query) what is in
    let none = ap act_in same ∙ done in
    cc

read_act : (b : Bool) (read : Result Act ActFault) (o : Option Query) (what : Asked) (act : Act) → cond b (asked_in read) (queried_in o) ≡ Ok what → act_in what ≡ Ok act → read ≡ Ok act
read_act true read o what act is done = asked_act read what act is done
read_act false read o what act is done = absurd (queried_act o what act is done)

-- what is worked out is the deed of the entry
pub deed_is : (bytes : List ℕ) (heard : Heard) (past : List Entry) (moment : ℤ) (deed : Deed)
    → asked_of heard.verb bytes ≡ Ok heard.asked → work_out past moment heard ≡ Ok deed → deed_of (deeds past) (new_entry heard bytes moment) ≡ deed
unfolding deed_of
deed_is bytes heard past moment deed asked works =
    let w = worked past moment heard deed works in
    ap (done_if_read (deeds past) moment) (read_act (is_act heard.verb) (act_of heard.verb bytes) (query_of heard.verb bytes) heard.asked w.act asked w.asked)
    ∙ ap unless_refused_deed w.done

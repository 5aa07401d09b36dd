-- An act that was answered is kept, and answered alike when it is sent again.
use Rattle.std.proofs.Common.{◌≡◌, ℕ, ℤ, Bool, true, false, cond, List, Option, Some, None, Result, Ok, Err, refl, sym, ap, ◌∙◌, inl, inr}
use Rattle.std.specs.Prelude.{◌⊎◌}
use Rattle.act_bodies.specs.declared.key.Key.{Key}
use Rattle.act_model.specs.declared.deed.Deed.{Deed}
use Rattle.act_model.specs.declared.entry.Entry.{Entry}
use Rattle.act_model.specs.declared.heard.Heard.{Heard}
use Rattle.act_model.specs.declared.keeper.OfficeState.{OfficeState}
use Rattle.act_model.specs.declared.reply.Refusal.{Refusal}
use Rattle.act_model.specs.declared.reply.Refusal.TheVariants.{OtherRequest}
use Rattle.act_model.specs.declared.reply.Reply.{Reply}
use Rattle.act_model.specs.declared.reply.Reply.TheVariants.{Done, Refused}
use Rattle.read_ahead.specs.declared.body.Body.{Body}
use Rattle.read_ahead.specs.declared.body.Body.TheVariants.{Whole, TooLong, NoRoom}
use Rattle.act_model.specs.declared.request.Request.{Request}
use Rattle.act_model.specs.Rows.{first_row, ◌>>=◌}
use Rattle.act_model.specs.Requests.{is_act}
use Rattle.act_model.specs.Roster.{members}
use Rattle.act_model.specs.Deeds.{deeds}
use Rattle.act_model.specs.History.{Kept, numbered_entry, next_moment, next_receipt}
use Rattle.act_model.specs.Hearing.{size_rows, bytes_in, hear}
use Rattle.act_model.specs.Refusals.{work_within}
use Rattle.act_model.specs.Replies.{entry_answer}
use Rattle.act_model.specs.Step.{Outcome, is_resend, unless_kept, unless_refused, new_entry, query_step, heard_step, unless_unheard, reply_and_history, step}
use Rattle.act_model.specs.Turns.{Turn, TakesReading, Answers, FailsToKeep, Settles, Mends, Takes, IsTurn}
use Rattle.act_model.specs.Conducts.{Extends, IsAcknowledged}
use Rattle.act_model.specs.Legal.{IsLegal}
use Rattle.act_model.proofs.Conducts.{unless_ok, hearing, heard_outcome, outcome_is, step_is, keeps, acts_extends}
use Rattle.act_model.proofs.Hearing.{hears, hear_again, number_some}
use Rattle.act_model.proofs.Legal.{kept_newest, kept_stays, callers_stay, resent}

whole_is : (body : Body) (bytes : List ℕ) → bytes_in body ≡ Ok bytes → body ≡ Whole bytes
whole_is (Whole b) bytes is =
    let found = unless_ok (first_row (size_rows b)) (Ok b) bytes is in
    let same : b ≡ bytes = let e = found.1 in cc in
    ap (λ (x : List ℕ). Whole x) same
whole_is (TooLong size) bytes is = absurd cc
whole_is NoRoom bytes is = absurd cc

-- a kept reply that is an answer is that to the same request
kept_done : (same : Bool) (answer text : List ℕ) (receipt : ℕ) → cond same (Done answer) (Refused (OtherRequest receipt)) ≡ Done text → (same ≡ true) × (text ≡ answer)
kept_done true answer text receipt is = (refl, cc)
kept_done false answer text receipt is = absurd cc

-- ---- acts that were answered

-- the act was heard at the earlier history, and in the later one its caller's number stands for the same request, with
-- this text as its answer
pub record Answered (founder : Key) (earlier : List Entry) (q : Request) (text : List ℕ) (later : List Entry) : Type 0 where
  pub bytes : List ℕ
  pub heard : Heard
  pub entry : Kept
  pub body : bytes_in q.body ≡ Ok bytes
  pub hears : hear founder (members (deeds earlier)) q bytes ≡ Ok heard
  pub act : is_act heard.verb ≡ true
  pub found : numbered_entry later heard.caller.number heard.number ≡ Some entry
  pub same : is_resend heard.verb bytes entry.entry ≡ true
  pub answer : text ≡ entry_answer entry.before entry.entry

module _ (founder : Key) (q : Request) (text : List ℕ) where
  pub is_acknowledged : (earlier later : List Entry) → Answered founder earlier q text later → IsAcknowledged founder earlier q text later
  is_acknowledged earlier later a =
      let h = hears founder (members (deeds earlier)) q a.bytes a.heard a.hears in
      record {
        bytes = a.bytes;
        caller = a.heard.caller;
        number = a.heard.number;
        entry = a.entry;
        body = whole_is q.body a.bytes a.body;
        asks = h.caller;
        numbered = number_some q.verb q.number a.heard.number h.number;
        found = a.found;
        same = ap (λ verb. is_resend verb a.bytes a.entry.entry) (sym h.verb) ∙ a.same;
        answer = a.answer;
      }

  -- it was heard and is kept in each later legal history
  pub answered_on : (earlier later now : List Entry) → Answered founder earlier q text later → IsLegal founder now → Extends earlier now → Extends later now → Answered founder now q text now
  answered_on earlier later now a legal heard_before kept_before =
      let h = hears founder (members (deeds earlier)) q a.bytes a.heard a.hears in
      record {
        bytes = a.bytes;
        heard = a.heard;
        entry = a.entry;
        body = a.body;
        hears =
            hear_again founder (members (deeds earlier)) q a.bytes a.heard h founder (members (deeds now)) q (sym h.verb) (number_some q.verb q.number a.heard.number h.number)
            (callers_stay founder earlier now q.key a.heard.caller legal heard_before h.caller);
        act = a.act;
        found = kept_stays founder later now a.heard.caller.number a.heard.number a.entry legal kept_before a.found;
        same = a.same;
        answer = a.answer;
      }

  -- and is answered so when it is sent again
  pub answered_again : (now : List Entry) → Answered founder now q text now → (limit : Option ℕ) (t : ℤ) → step founder limit now q t ≡ (Done text, now)
  answered_again now a limit t =
      step_is founder limit now q t
      ∙ ap (reply_and_history now) (keeps founder limit now q t a.bytes a.heard a.entry a.body a.hears a.act a.found)
      ∙ ap (λ (b : Bool). (cond b (Done (entry_answer a.entry.before a.entry.entry)) (Refused (OtherRequest (next_receipt a.entry.before))), now)) a.same
      ∙ ap (λ (x : List ℕ). (Done x, now)) (sym a.answer)

-- ---- what the step answers

module _ (founder : Key) (limit : Option ℕ) (past : List Entry) (q : Request) (t : ℤ) (text : List ℕ) (next : List Entry) (act : is_act q.verb ≡ true) where
  module _ (bytes : List ℕ) (heard : Heard) (body : bytes_in q.body ≡ Ok bytes) (h : hear founder (members (deeds past)) q bytes ≡ Ok heard) where
    abbrev newest : Entry
    newest = new_entry heard bytes (next_moment past t)

    acts : is_act heard.verb ≡ true
    acts = (let verb = (hears founder (members (deeds past)) q bytes heard h).verb in ap is_act verb ∙ act)

    -- the history has the entry under the caller's number
    has : (k : Kept) → numbered_entry next heard.caller.number heard.number ≡ Some k → is_resend heard.verb bytes k.entry ≡ true → text ≡ entry_answer k.before k.entry → Answered founder past q text next
    has k found same answer = record { bytes = bytes; heard = heard; entry = k; body = body; hears = h; act = acts; found = found; same = same; answer = answer }

    acted : (used : Option Kept) (work : Result Deed Refusal) → numbered_entry past heard.caller.number heard.number ≡ used → reply_and_history past (unless_kept used heard bytes (unless_refused work newest)) ≡ (Done text, next)
        → Answered founder past q text next
    acted (Some k) work found is =
        let here = ap (λ (p : Reply × List Entry). p.1) is in
        let answers = kept_done (is_resend heard.verb bytes k.entry) (entry_answer k.before k.entry) text (next_receipt k.before) (ap (λ (p : Reply × List Entry). p.0) is) in
        has k (ap (λ (h : List Entry). numbered_entry h heard.caller.number heard.number) (sym here) ∙ found) answers.0 answers.1
    acted None (Ok deed) found is =
        let here = ap (λ (p : Reply × List Entry). p.1) is in
        has (record { entry = newest; before = past }) (ap (λ (h : List Entry). numbered_entry h heard.caller.number heard.number) (sym here) ∙ kept_newest newest past) (resent _ bytes)
        (let reply = ap (λ (p : Reply × List Entry). p.0) is in cc)
    acted None (Err r) found is = let reply = ap (λ (p : Reply × List Entry). p.0) is in absurd cc

    of_act : (b : Bool) → b ≡ true → reply_and_history past (cond b (unless_kept (numbered_entry past heard.caller.number heard.number) heard bytes (unless_refused (work_within limit past bytes (next_moment past t) heard) newest)) (query_step past heard)) ≡ (Done text, next)
        → Answered founder past q text next
    of_act true true_is is = acted (numbered_entry past heard.caller.number heard.number) (work_within limit past bytes (next_moment past t) heard) refl is
    of_act false true_is is = absurd cc

    of_heard : reply_and_history past (heard_step limit past heard bytes (next_moment past t)) ≡ (Done text, next) → Answered founder past q text next
    of_heard is = of_act (is_act heard.verb) acts is

  of_hearing : (bytes : List ℕ) (heard : Result Heard Refusal) → bytes_in q.body ≡ Ok bytes → hear founder (members (deeds past)) q bytes ≡ heard
      → reply_and_history past (unless_unheard (heard >>= heard_outcome founder limit past q t bytes)) ≡ (Done text, next) → Answered founder past q text next
  of_hearing bytes (Ok heard) body h is = of_heard bytes heard body h is
  of_hearing bytes (Err r) body h is = let reply = ap (λ (p : Reply × List Entry). p.0) is in absurd cc

  of_bytes : (bytes : Result (List ℕ) Refusal) → bytes_in q.body ≡ bytes → reply_and_history past (unless_unheard (bytes >>= hearing founder limit past q t)) ≡ (Done text, next) → Answered founder past q text next
  of_bytes (Ok bytes) body is = of_hearing bytes (hear founder (members (deeds past)) q bytes) body refl is
  of_bytes (Err r) body is = let reply = ap (λ (p : Reply × List Entry). p.0) is in absurd cc

  step_answers : step founder limit past q t ≡ (Done text, next) → Answered founder past q text next
  step_answers is =
      of_bytes (bytes_in q.body) refl (ap (λ (o : Outcome). reply_and_history past o) (sym (outcome_is founder limit past q t)) ∙ sym (step_is founder limit past q t) ∙ is)

-- ---- turns

module _ (founder : Key) (limit : Option ℕ) (before : OfficeState) (turn : Turn) (next : OfficeState) (text : List ℕ) (act : is_act turn.request.verb ≡ true) (reply : turn.reply ≡ Done text) where
  answer_answers : (past : List Entry) (t : ℤ) → Answers founder limit past turn.request t turn.reply next.settled → Answered founder past turn.request text next.settled
  answer_answers past t (inl is) = step_answers founder limit past turn.request t text next.settled act (is ∙ ap (λ (r : Reply). (r, next.settled)) reply)
  answer_answers past t (inr (wants, same)) = let both = sym reply ∙ wants in absurd cc

  acts_answer : (past : List Entry) (t : ℤ) → Settles founder limit past turn t next ⊎ FailsToKeep founder limit past turn t next → Answered founder past turn.request text next.settled
  acts_answer past t (inl s) = answer_answers past t s.answers
  acts_answer past t (inr f) = let both = sym reply ∙ f.reply in absurd cc

  -- the history that mending left, at which the act was answered
  abbrev pub AnsweredAt : List Entry → Type 0
  AnsweredAt mended = Mends before.settled before.doubt mended × Extends mended next.settled × Answered founder mended turn.request text next.settled

  takes_answers : (reading : Option ℤ) → TakesReading turn.request.verb reading → Takes founder limit before turn reading next → (mended : List Entry) × AnsweredAt mended
  takes_answers (Some t) reads (inl f) = let both = sym reply ∙ f.reply in absurd cc
  takes_answers (Some t) reads (inr a) = (a.mended, (a.mends, acts_extends founder limit a.mended turn t next a.acts, acts_answer a.mended t a.acts))
  takes_answers None reads a = let both = sym act ∙ reads in absurd cc

  pub turn_answers : IsTurn founder limit before turn next → (mended : List Entry) × AnsweredAt mended
  turn_answers is = takes_answers turn.reading is.reads is.takes

  pub turn_acknowledges : IsTurn founder limit before turn next → (mended : List Entry) × Mends before.settled before.doubt mended × IsAcknowledged founder mended turn.request text next.settled
  turn_acknowledges is =
      let answers = turn_answers is in
      (answers.0, answers.1.0, is_acknowledged founder turn.request text answers.0 next.settled answers.1.2)

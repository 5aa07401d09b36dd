-- What the step adds is legal, and what follows for legal histories.
use Rattle.std.proofs.Common.{IfOk, ◌≡◌, ℕ, ℤ, pos, List, [], ◌∷◌, ◌++◌, length, Bool, true, false, cond, Option, Some, None, Result, Ok, refl, sym, ap, subst, ◌∙◌, append_assoc, inl, inr, arith}
use Rattle.std.specs.Prelude.{unwrap_or, int_lt, bytes_eq, ◌==◌, ◌&&◌}
use Rattle.std.proofs.lemmas.Int.{ints}
use Rattle.std.proofs.lemmas.Bool.Decides.{nat_tests}
use Rattle.std.proofs.lemmas.Slice.Eq.{bytes_eq-Decides}
use Rattle.obs_time.specs.Instants.{IsInstantNs}
use Rattle.act_bodies.specs.declared.enrol.Enrol.{Enrol as EnrolBody}
use Rattle.act_bodies.specs.declared.key.Key.{Key}
use Rattle.act_bodies.specs.Bodies.{enrol_of, station_of, code_of, designate_of, attribute_of, release_of, identify_of, separate_of, verdict_of, number_of_body, retract_of, opening_of}
use Rattle.act_bodies.specs.Keys.{key_text, begins_with_plus}
use Rattle.ades_psv.specs.Batch.{psv_lines_of}
use Rattle.act_model.specs.declared.act.Act.{Act}
use Rattle.act_model.specs.declared.act.Act.TheVariants as act
use Rattle.act_model.specs.declared.act.ActFault.{ActFault}
use Rattle.act_model.specs.declared.deed.Deed.{Deed}
use Rattle.act_model.specs.declared.deed.Deed.TheVariants.{Enrolled}
use Rattle.act_model.specs.declared.entry.Entry.{Entry}
use Rattle.act_model.specs.declared.keeper.OfficeState.{OfficeState}
use Rattle.act_model.specs.declared.reply.Refusal.{Refusal}
use Rattle.act_model.specs.declared.reply.Refusal.TheVariants.{OtherRequest}
use Rattle.act_model.specs.declared.reply.Reply.{Reply}
use Rattle.act_model.specs.declared.reply.Reply.TheVariants.{Done, Refused}
use Rattle.act_model.specs.declared.request.Request.{Request}
use Rattle.act_model.specs.declared.request.Verb.{Verb}
use Rattle.act_model.specs.declared.request.Verb.TheVariants.{Enrol, Station, Code, SubmitPsv, Designate, Attribute, Release, Identify, Separate, Verdict, Number, Retract, Opening}
use Rattle.act_model.specs.declared.roster.Caller.{Caller}
use Rattle.act_model.specs.declared.roster.Member.{Member}
use Rattle.act_model.specs.Requests.{verb_code, is_act}
use Rattle.act_model.specs.Acts.{enrol_act, station_act, code_act, designate_act, attribute_act, release_act, identify_act, separate_act, verdict_act, number_act, retract_act, opening_act, act_of}
use Rattle.act_model.specs.Holdings.{holdings}
use Rattle.act_model.specs.Designations.{row_acts_of}
use Rattle.act_model.specs.Doing.{enrol_rows, does}
use Rattle.act_model.specs.Roster.{members, with_enrolled, caller_of, key_at}
use Rattle.act_model.specs.Deeds.{deed_of, deeds}
use Rattle.act_model.specs.History.{Kept, numbered_entry, next_moment, next_receipt, is_numbered, IsUnused, EachNumberOnce}
use Rattle.act_model.specs.Hearing.{bytes_in, asked_of, hear}
use Rattle.act_model.specs.Refusals.{work_out}
use Rattle.act_model.specs.Rows.{first_row, unless}
use Rattle.act_model.specs.Replies.{entry_answer}
use Rattle.act_model.specs.Step.{Outcome, Adds, step, outcome, reply_and_history, new_entry, kept_reply}
use Rattle.act_model.specs.Turns.{Turn, TakesReading, Answers, at_rest, Takes, IsTurn, Conduct}
use Rattle.act_model.specs.Conducts.{Extends, EitherWay, Makes}
use Rattle.act_model.specs.Legal.{entry_request, IsAdded, IsLegal}
use Rattle.act_model.proofs.Callers.{ArePlain, caller_again, caller_stays, caller_under}
use Rattle.act_model.proofs.DeedCases.{of_body, of_psv, deed_cases}
use Rattle.act_model.proofs.Designating.{designated}
use Rattle.act_model.proofs.Conducts.{ok_is, Added, adds, adds_again, keeps, step_is, step_makes, conduct_more, conduct_holds}
use Rattle.act_model.proofs.Hearing.{hears, hear_again, whole_again, number_some, worked, deed_is}

-- ---- moments

-- no number is below itself
not_below : (x : ℤ) → int_lt x x ≡ false
not_below x = by (int_lt x x) refl
  where
    by : (t : Bool) → int_lt x x ≡ t → int_lt x x ≡ false
    by true is = absurd (omega (arith, ints))
    by false is = is

-- a moment that was given to an entry would be given to it again
moment_again : (past : List Entry) (reading : ℤ) → next_moment past (next_moment past reading) ≡ next_moment past reading
moment_again [] reading = refl
moment_again (last ∷ past) reading = by (int_lt reading last.moment) refl
  where
    by : (t : Bool) → int_lt reading last.moment ≡ t → next_moment (last ∷ past) (cond t last.moment reading) ≡ cond t last.moment reading
    by true is = ap (λ (b : Bool). cond b last.moment last.moment) (not_below last.moment)
    by false is = ap (λ (b : Bool). cond b last.moment reading) is

either_instant : (t : Bool) (a b : ℤ) → IsInstantNs a → IsInstantNs b → IsInstantNs (cond t a b)
either_instant true a b first second = first
either_instant false a b first second = second

-- the next moment of a legal history is one that a clock gives
next_instant : (founder : Key) (past : List Entry) (reading : ℤ) → IsLegal founder past → IsInstantNs reading → IsInstantNs (next_moment past reading)
next_instant founder [] reading legal instant = instant
next_instant founder (last ∷ past) reading legal instant = either_instant (int_lt reading last.moment) last.moment reading legal.0.0 instant

-- ---- entries that were added

-- a history isn't longer than itself
longer : (e : Entry) (past : List Entry) → e ∷ past ≡ past → ⊥
longer e past is = let lengths = ap length is in omega arith

-- the newest entry, or another one where there is none
head_or : Entry → List Entry → Entry
head_or e [] = e
head_or e (x ∷ xs) = x

head_is : (e f : Entry) (past : List Entry) → e ∷ past ≡ f ∷ past → e ≡ f
unfolding head_or
head_is e f past is = ap (head_or e) is

-- an entry is added for whoever is heard to ask the same, at the same moment
module _ (founder : Key) (limit : Option ℕ) (past : List Entry) (q : Request) (t : ℤ) (e : Entry) (a : Added founder limit past q t e) where
  added_for : (founder' : Key) (q' : Request) (t' : ℤ) → bytes_in q'.body ≡ Ok a.bytes → q'.verb ≡ a.heard.verb → q'.number ≡ Some a.heard.number → caller_of founder' (members (deeds past)) q'.key ≡ Some a.heard.caller
      → next_moment past t' ≡ next_moment past t → outcome founder' None past q' t' ≡ Adds e
  added_for founder' q' t' body verb number caller moment =
      let h = hears founder (members (deeds past)) q a.bytes a.heard a.hears in
      let again : hear founder' (members (deeds past)) q' a.bytes ≡ Ok a.heard = hear_again founder (members (deeds past)) q a.bytes a.heard h founder' (members (deeds past)) q' verb number caller in
      let works : work_out past (next_moment past t') a.heard ≡ Ok a.deed = ap (λ (m : ℤ). work_out past m a.heard) moment ∙ a.works in
      adds_again founder' None past q' t' a.bytes a.heard a.deed body again a.act a.unused works refl
      ∙ ap (λ (m : ℤ). Adds (new_entry a.heard a.bytes m)) moment
      ∙ ap (λ (x : Entry). Adds x) (sym a.entry)

  -- the deed of the entry
  deed_added : deed_of (deeds past) e ≡ a.deed
  deed_added =
      let h = hears founder (members (deeds past)) q a.bytes a.heard a.hears in
      ap (deed_of (deeds past)) a.entry ∙ deed_is a.bytes a.heard past (next_moment past t) a.deed (ap (λ (v : Verb). asked_of v a.bytes) h.verb ∙ h.asked) a.works

  caller_is : e.caller ≡ a.heard.caller.number
  caller_is = ap (λ (x : Entry). x.caller) a.entry

  number_is : e.number ≡ a.heard.number
  number_is = ap (λ (x : Entry). x.number) a.entry

  verb_is : e.verb ≡ a.heard.verb
  verb_is = ap (λ (x : Entry). x.verb) a.entry

  moment_is : e.moment ≡ next_moment past t
  moment_is = ap (λ (x : Entry). x.moment) a.entry

  -- the entry's own request is heard as the one that became it, under any founder who finds the caller again
  added_own : (founder' : Key) → caller_of founder' (members (deeds past)) (key_at founder' (members (deeds past)) a.heard.caller.number) ≡ Some a.heard.caller → outcome founder' None past (entry_request founder' past e) e.moment ≡ Adds e
  added_own founder' found =
      added_for founder' (entry_request founder' past e) e.moment
      (ap (λ (x : Entry). bytes_in (entry_request founder' past x).body) a.entry ∙ whole_again q.body a.bytes a.body)
      verb_is
      (ap (λ (n : ℕ). Some n) number_is)
      (ap (λ (n : ℕ). caller_of founder' (members (deeds past)) (key_at founder' (members (deeds past)) n)) caller_is ∙ found)
      (ap (next_moment past) moment_is ∙ moment_again past t)

module _ (founder : Key) where
  -- an entry that is added is what becomes of its request
  adds_entry : (past : List Entry) (e : Entry) → outcome founder None past (entry_request founder past e) e.moment ≡ Adds e → (step founder None past (entry_request founder past e) e.moment).1 ≡ e ∷ past
  adds_entry past e is = ap (λ (p : Reply × List Entry). p.1) (step_is founder None past (entry_request founder past e) e.moment) ∙ ap (λ (o : Outcome). (reply_and_history past o).1) is

  made_entry : (past : List Entry) (e : Entry) (o : Outcome) (reply : Reply) → Makes past o reply (e ∷ past) → (o ≡ Adds e) × (reply ≡ Done (entry_answer past e))
  made_entry past e o reply (inl same) = absurd (longer e past same)
  made_entry past e o reply (inr (other, is, answer, more)) =
      let same = sym (head_is e other past more) in (is ∙ ap (λ (x : Entry). Adds x) same, answer ∙ ap (λ (x : Entry). Done (entry_answer past x)) same)

  stepped_entry : (limit : Option ℕ) (past : List Entry) (q : Request) (t : ℤ) (reply : Reply) (e : Entry) → step founder limit past q t ≡ (reply, e ∷ past)
      → (outcome founder limit past q t ≡ Adds e) × (reply ≡ Done (entry_answer past e))
  stepped_entry limit past q t reply e is = made_entry past e (outcome founder limit past q t) reply (step_makes founder limit past q t reply (e ∷ past) is)

  added_outcome : (past : List Entry) (e : Entry) → IsAdded founder past e → outcome founder None past (entry_request founder past e) e.moment ≡ Adds e
  added_outcome past e (instant, is) =
      let request : Request = entry_request founder past e in
      let reply : Reply = (step founder None past request e.moment).0 in
      (stepped_entry None past request e.moment reply e (ap (λ (h : List Entry). (reply, h)) is)).0

  added : (past : List Entry) (e : Entry) → IsAdded founder past e → Added founder None past (entry_request founder past e) e.moment e
  added past e is = adds founder None past (entry_request founder past e) e.moment e (added_outcome past e is)

  -- ---- legal histories

  module _ (limit : Option ℕ) where
    legal_more : (past : List Entry) (q : Request) (t : ℤ) (e : Entry) → IsLegal founder past → IsInstantNs t → Added founder limit past q t e → IsAdded founder past e
    legal_more past q t e legal instant a =
        let h = hears founder (members (deeds past)) q a.bytes a.heard a.hears in (
          subst IsInstantNs (sym (moment_is founder limit past q t e a)) (next_instant founder past t legal instant),
          adds_entry past e (added_own founder limit past q t e a founder (caller_again founder (members (deeds past)) q.key a.heard.caller h.caller)),
        )

    pub legal_added : (past : List Entry) (q : Request) (t : ℤ) (e : Entry) → IsInstantNs t → IsLegal founder past → outcome founder limit past q t ≡ Adds e → IsLegal founder (e ∷ past)
    legal_added past q t e instant legal is = (legal_more past q t e legal instant (adds founder limit past q t e is), legal)

    legal_made : (past : List Entry) (q : Request) (t : ℤ) (reply : Reply) (next : List Entry) → IsLegal founder past → IsInstantNs t → Makes past (outcome founder limit past q t) reply next → IsLegal founder next
    legal_made past q t reply next legal instant (inl same) = subst (IsLegal founder) (sym same) legal
    legal_made past q t reply next legal instant (inr (e, is, answer, more)) = subst (IsLegal founder) (sym more) (legal_added past q t e instant legal is)

    pub legal_step : (past : List Entry) (q : Request) (t : ℤ) (reply : Reply) (next : List Entry) → IsLegal founder past → IsInstantNs t → step founder limit past q t ≡ (reply, next) → IsLegal founder next
    legal_step past q t reply next legal instant is = legal_made past q t reply next legal instant (step_makes founder limit past q t reply next is)

    pub legal_conduct : (before : OfficeState) (turns : List Turn) (after : OfficeState) → EitherWay (IsLegal founder) before → Conduct founder limit before turns after → EitherWay (IsLegal founder) after
    legal_conduct = conduct_holds founder limit (IsLegal founder) legal_added

  legal_behind : (newer earlier : List Entry) → IsLegal founder (newer ++ earlier) → IsLegal founder earlier
  legal_behind [] earlier legal = legal
  legal_behind (e ∷ newer) earlier (is, legal) = legal_behind newer earlier legal

  pub legal_prefix : (earlier later : List Entry) → IsLegal founder later → Extends earlier later → IsLegal founder earlier
  legal_prefix earlier later legal (newer, is) = legal_behind newer earlier (subst (IsLegal founder) is legal)

-- ---- kept replies

-- the caller and the number of an entry
numbered_is : (a c b n : ℕ) → (a == c) && (b == n) ≡ true → (a ≡ c) × (b ≡ n)
numbered_is a c b n is = grind (arith, nat_tests)

numbered_itself : (e : Entry) → is_numbered e.caller e.number e ≡ true
numbered_itself e = grind (arith, nat_tests)

-- an entry that stands for a number still does after one with another number
kept_behind : (e : Entry) (past : List Entry) (caller number : ℕ) (k : Kept) → IsUnused past e → numbered_entry past caller number ≡ Some k → numbered_entry (e ∷ past) caller number ≡ Some k
kept_behind e past caller number k unused found = by (is_numbered caller number e) refl
  where
    by : (b : Bool) → is_numbered caller number e ≡ b → cond b (Some (record { entry = e; before = past })) (numbered_entry past caller number) ≡ Some k
    by false is = found
    by true is =
        let same = numbered_is e.caller caller e.number number is in
        let nothing : numbered_entry past caller number ≡ None = ap (λ (c : ℕ). numbered_entry past c number) (sym same.0) ∙ ap (λ (n : ℕ). numbered_entry past e.caller n) (sym same.1) ∙ unused in
        absurd cc

kept_newer : (newer earlier : List Entry) (caller number : ℕ) (k : Kept) → EachNumberOnce (newer ++ earlier) → numbered_entry earlier caller number ≡ Some k → numbered_entry (newer ++ earlier) caller number ≡ Some k
kept_newer [] earlier caller number k once found = found
kept_newer (e ∷ newer) earlier caller number k (unused, once) found = kept_behind e (newer ++ earlier) caller number k unused (kept_newer newer earlier caller number k once found)

-- the newest entry stands for its number
pub kept_newest : (e : Entry) (past : List Entry) → numbered_entry (e ∷ past) e.caller e.number ≡ Some (record { entry = e; before = past })
kept_newest e past = ap (λ (b : Bool). cond b (Some (record { entry = e; before = past })) (numbered_entry past e.caller e.number)) (numbered_itself e)

-- a request is sent again where it is sent twice
pub resent : (code : ℕ) (bytes : List ℕ) → (code == code) && bytes_eq bytes bytes ≡ true
resent code bytes = by (code == code) refl
  where
    by : (b : Bool) → (code == code) ≡ b → b && bytes_eq bytes bytes ≡ true
    by true is = (bytes_eq-Decides bytes bytes).1 refl
    by false is = absurd (grind (arith, nat_tests))

module _ (founder : Key) where
  added_unused : (past : List Entry) (e : Entry) → IsAdded founder past e → IsUnused past e
  added_unused past e is =
      let a = added founder past e is in
      ap (λ (x : Entry). numbered_entry past x.caller x.number) a.entry ∙ a.unused

  pub legal_once : (history : List Entry) → IsLegal founder history → EachNumberOnce history
  legal_once [] legal = tt
  legal_once (e ∷ past) (is, legal) = (added_unused past e is, legal_once past legal)

  pub kept_stays : (earlier later : List Entry) (caller number : ℕ) (k : Kept) → IsLegal founder later → Extends earlier later → numbered_entry earlier caller number ≡ Some k → numbered_entry later caller number ≡ Some k
  kept_stays earlier later caller number k legal (newer, is) found =
      ap (λ (h : List Entry). numbered_entry h caller number) is ∙ kept_newer newer earlier caller number k (legal_once (newer ++ earlier) (subst (IsLegal founder) is legal)) found

-- ---- callers stay

first_false : (b : Bool) (x : Refusal) (rest : Option Refusal) → cond b (Some x) rest ≡ None → b ≡ false
first_false true x rest none = absurd cc
first_false false x rest none = refl

-- the deed is the one that is done where nothing refuses it
pub same_deed : (o : Option Refusal) (done deed : Deed) → unless o (Ok done) ≡ Ok deed → (o ≡ None) × (done ≡ deed)
same_deed None done deed is = (refl, ok_is done deed is)
same_deed (Some r) done deed is = absurd cc

-- what holds of the deed that is done holds of the deed
pub by_deed : (P : Deed → Type 0) (o : Option Refusal) (done deed : Deed) → P done → unless o (Ok done) ≡ Ok deed → P deed
by_deed P o done deed holds is = subst P (same_deed o done deed is).1 holds

module _ (founder : Key) (past : List Deed) (moment : ℤ) (key : Key) (caller : Caller) (found : caller_of founder (members past) key ≡ Some caller) where
  abbrev keeps_caller : Deed → Type 0
  keeps_caller deed = caller_of founder (with_enrolled deed (members past)) key ≡ Some caller

  -- what an act does takes nobody's place
  deed_keeps_callers : (a : Act) (deed : Deed) → does past moment a ≡ Ok deed → keeps_caller deed
  unfolding does
  deed_keeps_callers (act.Enrol k name role) deed is =
      let done = same_deed (first_row (enrol_rows (members past) k)) (Enrolled (record { key = k; rank = role })) deed is in
      subst keeps_caller done.1 (caller_stays founder (members past) (record { key = k; rank = role }) key caller (first_false _ _ _ done.0) found)
  deed_keeps_callers (act.Designate tracklets) deed is =
      let d = designated (holdings past) (row_acts_of past) tracklets deed is in
      subst keeps_caller d.deed_is found
  deed_keeps_callers _ deed is = by_deed keeps_caller _ _ deed found is

module _ (founder : Key) where
  added_callers : (past : List Entry) (e : Entry) (key : Key) (caller : Caller) → IsAdded founder past e → caller_of founder (members (deeds past)) key ≡ Some caller → caller_of founder (members (deeds (e ∷ past))) key ≡ Some caller
  added_callers past e key caller is found =
      let request : Request = entry_request founder past e in
      let a = added founder past e is in
      let w = worked past (next_moment past e.moment) a.heard a.deed a.works in
      ap (λ (d : Deed). caller_of founder (with_enrolled d (members (deeds past))) key) (deed_added founder None past request e.moment e a)
      ∙ deed_keeps_callers founder (deeds past) (next_moment past e.moment) key caller found w.act a.deed w.done

  callers_behind : (newer earlier : List Entry) (key : Key) (caller : Caller) → IsLegal founder (newer ++ earlier) → caller_of founder (members (deeds earlier)) key ≡ Some caller → caller_of founder (members (deeds (newer ++ earlier))) key ≡ Some caller
  callers_behind [] earlier key caller legal found = found
  callers_behind (e ∷ newer) earlier key caller (is, legal) found = added_callers (newer ++ earlier) e key caller is (callers_behind newer earlier key caller legal found)

  -- a caller has the same number and rank in every later legal history
  pub callers_stay : (earlier later : List Entry) (key : Key) (caller : Caller) → IsLegal founder later → Extends earlier later → caller_of founder (members (deeds earlier)) key ≡ Some caller → caller_of founder (members (deeds later)) key ≡ Some caller
  callers_stay earlier later key caller legal (newer, is) found =
      ap (λ (h : List Entry). caller_of founder (members (deeds h)) key) is ∙ callers_behind newer earlier key caller (subst (IsLegal founder) is legal) found

-- ---- resends

module _ (founder : Key) (limit other : Option ℕ) where
  again_after : (past : List Entry) (q : Request) (t t' : ℤ) (text : List ℕ) (e : Entry) (later : List Entry) → (reply : Done text ≡ Done (entry_answer past e))
      → Added founder limit past q t e → IsLegal founder later → Extends (e ∷ past) later → step founder other later q t' ≡ (Done text, later)
  again_after past q t t' text e later reply a legal extends =
      let k : Kept = record { entry = e; before = past } in
      let h = hears founder (members (deeds past)) q a.bytes a.heard a.hears in
      let before : Extends past later = (extends.0 ++ e ∷ [], extends.1 ∙ sym (append_assoc extends.0 (e ∷ []) past)) in
      let caller : caller_of founder (members (deeds later)) q.key ≡ Some a.heard.caller = callers_stay founder past later q.key a.heard.caller legal before h.caller in
      let again : hear founder (members (deeds later)) q a.bytes ≡ Ok a.heard =
      hear_again founder (members (deeds past)) q a.bytes a.heard h founder (members (deeds later)) q (sym h.verb) (number_some q.verb q.number a.heard.number h.number) caller in
      let found : numbered_entry later e.caller e.number ≡ Some k = kept_stays founder (e ∷ past) later e.caller e.number k legal extends (kept_newest e past) in
      let used : numbered_entry later a.heard.caller.number a.heard.number ≡ Some k = ap (λ (x : Entry). numbered_entry later x.caller x.number) (sym a.entry) ∙ found in
      let same : kept_reply a.heard.verb a.bytes k ≡ Done (entry_answer past e) =
      ap (λ (x : Entry). cond ((verb_code a.heard.verb == verb_code x.verb) && bytes_eq a.bytes x.body) (Done (entry_answer past e)) (Refused (OtherRequest (next_receipt past)))) a.entry
      ∙ ap (λ (b : Bool). cond b (Done (entry_answer past e)) (Refused (OtherRequest (next_receipt past)))) (resent (verb_code a.heard.verb) a.bytes) in
      step_is founder other later q t'
      ∙ ap (reply_and_history later) (keeps founder other later q t' a.bytes a.heard k a.body again a.act used)
      ∙ ap (λ (r : Reply). (r, later)) (same ∙ sym reply)

  pub answered_again : (past : List Entry) (q : Request) (t t' : ℤ) (text : List ℕ) (e : Entry) (later : List Entry) → step founder limit past q t ≡ (Done text, e ∷ past)
      → IsLegal founder later → Extends (e ∷ past) later → step founder other later q t' ≡ (Done text, later)
  answered_again past q t t' text e later is =
      let (adds_it, answer) = stepped_entry founder limit past q t (Done text) e is in
      again_after past q t t' text e later answer (adds founder limit past q t e adds_it)

-- ---- turns without a disk

module _ (founder : Key) (limit : Option ℕ) where
  -- a query becomes no entry
  query_made : (past : List Entry) (q : Request) (t : ℤ) (reply : Reply) (next : List Entry) → is_act q.verb ≡ false → Makes past (outcome founder limit past q t) reply next → next ≡ past
  query_made past q t reply next query (inl same) = same
  query_made past q t reply next query (inr (e, is, answer, more)) =
      let a = adds founder limit past q t e is in
      let verb = (hears founder (members (deeds past)) q a.bytes a.heard a.hears).verb in
      let act : is_act q.verb ≡ true = ap is_act (sym verb) ∙ a.act in
      absurd cc

  query_leaves : (past : List Entry) (q : Request) (t : ℤ) (reply : Reply) (next : List Entry) → is_act q.verb ≡ false → Answers founder limit past q t reply next → next ≡ past
  query_leaves past q t reply next query (inl is) = query_made past q t reply next query (step_makes founder limit past q t reply next is)
  query_leaves past q t reply next query (inr (wants, same)) = same

  rest_takes : (past : List Entry) (turn : Turn) (reading : Option ℤ) (next : List Entry) → TakesReading turn.request.verb reading
      → Answers founder limit past turn.request (unwrap_or reading (pos 0)) turn.reply next → Takes founder limit (at_rest past) turn reading (at_rest next)
  rest_takes past turn (Some reading) next reads is = inr (record { mended = past; mends = refl; acts = inl (record { answers = is; settled = refl }) })
  rest_takes past turn None next reads is =
      let same = query_leaves past turn.request (pos 0) turn.reply next reads is in
      record {
        answers = subst (λ (h : List Entry). Answers founder limit past turn.request (pos 0) turn.reply h) same is;
        stays = ap (λ (h : List Entry). at_rest h) same;
      }

  pub rest_turn : (past next : List Entry) (turn : Turn) → TakesReading turn.request.verb turn.reading
      → Answers founder limit past turn.request (unwrap_or turn.reading (pos 0)) turn.reply next → IsTurn founder limit (at_rest past) turn (at_rest next)
  rest_turn past next turn reads is = record { reads = reads; takes = rest_takes past turn turn.reading next reads is }

-- ---- how legal histories come about

module _ (founder : Key) where
  -- the turn in which an entry was added
  entry_turn : (past : List Entry) (e : Entry) → Turn
  entry_turn past e =
      let request : Request = entry_request founder past e in
      record { request = request; reading = Some e.moment; reply = (step founder None past request e.moment).0; rise = 0 }

  added_turn : (past : List Entry) (e : Entry) → IsAdded founder past e → IsTurn founder None (at_rest past) (entry_turn past e) (at_rest (e ∷ past))
  unfolding entry_turn
  added_turn past e is =
      let request : Request = entry_request founder past e in
      let reply : Reply = (step founder None past request e.moment).0 in
      let a = added founder past e is in
      rest_turn founder None past (e ∷ past) (entry_turn past e)
      (ap is_act (verb_is founder None past request e.moment e a) ∙ a.act, is.0)
      (inl (ap (λ (h : List Entry). (reply, h)) is.1))

  -- the turns in which a legal history came about
  pub legal_reached : (history : List Entry) → IsLegal founder history → (turns : List Turn) × Conduct founder None (at_rest []) turns (at_rest history)
  legal_reached [] legal = ([], refl)
  legal_reached (e ∷ past) (is, legal) =
      let before = legal_reached past legal in
      (before.0 ++ entry_turn past e ∷ [], conduct_more founder None (at_rest []) before.0 (at_rest past) (entry_turn past e) (at_rest (e ∷ past)) before.1 (added_turn past e is))

-- ---- another founder

-- the bodies of enrolments name keys without a plus
abbrev pub Plain : Type 0
Plain = (bytes : List ℕ) (enrol : EnrolBody) → enrol_of bytes ≡ Some enrol → begins_with_plus (key_text enrol.key) ≡ false

-- an enrolment of a caller whose key begins with no plus, or another deed
abbrev pub IsPlain : Deed → Type 0
IsPlain (Enrolled member) = begins_with_plus (key_text member.key) ≡ false
IsPlain _ = Unit {0}

-- the act of such an enrolment, or another act
abbrev IsPlainAct : Act → Type 0
IsPlainAct (act.Enrol key name role) = begins_with_plus (key_text key) ≡ false
IsPlainAct _ = Unit {0}

plain_read : Plain → (verb : Verb) (body : List ℕ) → IfOk (act_of verb body) IsPlainAct
unfolding act_of
plain_read plain Enrol body = of_body IsPlainAct enrol_act (enrol_of body) (plain body)
plain_read plain Station body = of_body IsPlainAct station_act (station_of body) (λ _ _. tt)
plain_read plain Code body = of_body IsPlainAct code_act (code_of body) (λ _ _. tt)
plain_read plain SubmitPsv body = of_psv IsPlainAct (psv_lines_of body) (λ _ _. tt)
plain_read plain Designate body = of_body IsPlainAct designate_act (designate_of body) (λ _ _. tt)
plain_read plain Attribute body = of_body IsPlainAct attribute_act (attribute_of body) (λ _ _. tt)
plain_read plain Release body = of_body IsPlainAct release_act (release_of body) (λ _ _. tt)
plain_read plain Identify body = of_body IsPlainAct identify_act (identify_of body) (λ _ _. tt)
plain_read plain Separate body = of_body IsPlainAct separate_act (separate_of body) (λ _ _. tt)
plain_read plain Verdict body = of_body IsPlainAct verdict_act (verdict_of body) (λ _ _. tt)
plain_read plain Number body = of_body IsPlainAct number_act (number_of_body body) (λ _ _. tt)
plain_read plain Retract body = of_body IsPlainAct retract_act (retract_of body) (λ _ _. tt)
plain_read plain Opening body = of_body IsPlainAct opening_act (opening_of body) (λ _ _. tt)
plain_read plain _ body = tt

does_plain : (past : List Deed) (moment : ℤ) (a : Act) (deed : Deed) → IsPlainAct a → does past moment a ≡ Ok deed → IsPlain deed
unfolding does
does_plain past moment (act.Enrol key name role) deed plain is = by_deed IsPlain _ _ deed plain is
does_plain past moment (act.Designate tracklets) deed plain is = (let d = designated (holdings past) (row_acts_of past) tracklets deed is in subst IsPlain d.deed_is tt)
does_plain past moment _ deed plain is = by_deed IsPlain _ _ deed tt is

with_plain : (deed : Deed) (enrolled : List Member) → IsPlain deed → ArePlain enrolled → ArePlain (with_enrolled deed enrolled)
with_plain (Enrolled member) enrolled plain others = (plain, others)
with_plain _ enrolled plain others = others

module _ (plain : Plain) where
  deed_plain : (past : List Deed) (e : Entry) → IsPlain (deed_of past e)
  deed_plain past e =
      deed_cases IsPlain past e tt
      (λ a deed read done. does_plain past e.moment a deed (subst (λ (r : Result Act ActFault). IfOk r IsPlainAct) read (plain_read plain e.verb e.body)) done)

  members_plain : (history : List Entry) → ArePlain (members (deeds history))
  members_plain [] = tt
  members_plain (e ∷ past) = with_plain (deed_of (deeds past) e) (members (deeds past)) (deed_plain (deeds past) e) (members_plain past)

  pub legal_under : (founder other : Key) (history : List Entry) → begins_with_plus (key_text other) ≡ true → IsLegal founder history → IsLegal other history
  legal_under founder other [] plus legal = tt
  legal_under founder other (e ∷ past) plus (is, legal) =
      let request : Request = entry_request founder past e in
      let a = added founder past e is in
      let h = hears founder (members (deeds past)) request a.bytes a.heard a.hears in
      let found = caller_under founder other (members (deeds past)) request.key a.heard.caller (members_plain past) plus h.caller in
      ((is.0, adds_entry other past e (added_own founder None past request e.moment e a other found)), legal_under founder other past plus legal)

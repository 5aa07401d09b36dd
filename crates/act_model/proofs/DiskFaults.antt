-- Who answers that a disk failed: never the step, and a turn only where the count of faults rose.
use Rattle.std.proofs.Common.{◌≡◌, ℕ, ℤ, pos, ◌<◌, Bool, true, false, cond, List, [], ◌∷◌, ◌++◌, map, flat_map, Option, Some, None, Result, Ok, Err, sym, ap, subst, ◌∙◌, inl, inr, arith}
use Rattle.std.specs.Prelude.{◌⊎◌, IsSomeAnd}
use Rattle.act_bodies.specs.declared.key.Key.{Key}
use Rattle.designate_core.specs.Takes.{RowAct, next_in}
use Rattle.numbering_core.specs.Numbers.{next_number}
use Rattle.tracklet_file.specs.declared.tracklet.Tracklet.{Tracklet}
use Rattle.act_model.specs.declared.act.Act.{Act}
use Rattle.act_model.specs.declared.act.Act.TheVariants as act
use Rattle.act_model.specs.declared.act.ActFault.{ActFault}
use Rattle.act_model.specs.declared.act.ActFault.TheVariants as fault
use Rattle.act_model.specs.declared.deed.Deed.{Deed}
use Rattle.act_model.specs.declared.deed.Deed.TheVariants.{Designated}
use Rattle.act_model.specs.declared.entry.Entry.{Entry}
use Rattle.act_model.specs.declared.heard.Asked.{Asked}
use Rattle.act_model.specs.declared.heard.Asked.TheVariants as asked
use Rattle.act_model.specs.declared.heard.Heard.{Heard}
use Rattle.act_model.specs.declared.keeper.OfficeState.{OfficeState}
use Rattle.act_model.specs.declared.query.Query.{Query}
use Rattle.act_model.specs.declared.query.Query.TheVariants as query
use Rattle.act_model.specs.declared.reply.Refusal.{Refusal}
use Rattle.act_model.specs.declared.reply.Refusal.TheVariants.{Unread, OtherRequest, DiskFault}
use Rattle.act_model.specs.declared.reply.Part.TheVariants as part
use Rattle.act_model.specs.declared.reply.Reply.{Reply}
use Rattle.act_model.specs.declared.reply.Thing.{Thing}
use Rattle.act_model.specs.declared.reply.Thing.TheVariants as thing
use Rattle.act_model.specs.declared.reply.Reply.TheVariants.{Done, Refused}
use Rattle.read_ahead.specs.declared.body.Body.{Body}
use Rattle.read_ahead.specs.declared.body.Body.TheVariants.{Whole, TooLong, NoRoom}
use Rattle.act_model.specs.declared.request.Request.{Request}
use Rattle.act_model.specs.declared.request.Verb.{Verb}
use Rattle.act_model.specs.declared.roster.Caller.{Caller}
use Rattle.act_model.specs.declared.seen.Seen.{Seen}
use Rattle.act_model.specs.Rows.{first_row, unless, ◌>>=◌}
use Rattle.act_model.specs.Requests.{is_act}
use Rattle.act_model.specs.Acts.{act_of}
use Rattle.act_model.specs.Queries.{query_of}
use Rattle.act_model.specs.Roster.{members, caller_of}
use Rattle.act_model.specs.Holdings.{Holdings, holdings}
use Rattle.act_model.specs.Designations.{row_acts_of, links_of}
use Rattle.act_model.specs.Discoveries.{seen_in, earliest, span, half_of}
use Rattle.act_model.specs.Numbers.{numbers_of}
use Rattle.act_model.specs.Deeds.{deeds}
use Rattle.act_model.specs.History.{Kept, numbered_entry, next_moment}
use Rattle.act_model.specs.Hearing.{size_rows, bytes_in, verb_rows, is_number_of, number_in, asked_in, queried_in, asked_of, caller_in, hear}
use Rattle.act_model.specs.Doing.{enrol_rows, row_rows, batch_rows, retract_rows, opening_rows, tracklet_row, free_rows, designate_rows, object_rows, attribute_rows, release_rows, identify_rows, separate_rows, verdict_rows, next_rows, number_rows, designates_seen, eligible_after, taken_after, does}
use Rattle.act_model.specs.Refusals.{role_rows, act_in, work_out, full_rows, work_within}
use Rattle.act_model.specs.Step.{Outcome, Refuses, Keeps, Tells, Adds, is_resend, unless_kept, unless_refused, answer_of_receipt, answer_of_thing, answer_of_query, query_in, tells, act_step, query_step, heard_step, unless_unheard, outcome, reply_and_history, step}
use Rattle.act_model.specs.Turns.{Turn, unless_untouched, Answers, FailsToKeep, Settles, Takes, IsTurn, Conduct}
use Rattle.act_model.specs.Conducts.{HadNoFault, NoDiskFaults}
use Rattle.act_model.proofs.Conducts.{outcome_is, hearing, heard_outcome, step_is}

-- ---- refusals that no disk has a part in

abbrev IsOther : Refusal → Type 0
IsOther (DiskFault doubt) = ⊥
IsOther _ = Unit {0}

abbrev IfRefused : Option Refusal → Type 0
IfRefused None = Unit {0}
IfRefused (Some refusal) = IsOther refusal

abbrev AreOther : List (Bool × Refusal) → Type 0
AreOther [] = Unit {0}
AreOther (row ∷ rows) = IsOther row.1 × AreOther rows

abbrev ErrsOther : {A : Type 0} → Result A Refusal → Type 0
ErrsOther (Ok a) = Unit {0}
ErrsOther (Err refusal) = IsOther refusal

row_other : (b : Bool) (r : Refusal) (rest : Option Refusal) → IsOther r → IfRefused rest → IfRefused (cond b (Some r) rest)
row_other true r rest is more = is
row_other false r rest is more = more

rows_other : (rows : List (Bool × Refusal)) → AreOther rows → IfRefused (first_row rows)
rows_other [] are = tt
rows_other (row ∷ rows) are = row_other row.0 row.1 (first_row rows) are.0 (rows_other rows are.1)

both_other : (rows others : List (Bool × Refusal)) → AreOther rows → AreOther others → AreOther (rows ++ others)
both_other [] others are more = more
both_other (row ∷ rows) others are more = (are.0, both_other rows others are.1 more)

unless_other : {A : Type 0} (o : Option Refusal) (goes_on : Result A Refusal) → IfRefused o → ErrsOther goes_on → ErrsOther (unless o goes_on)
unless_other (Some r) goes_on is on = is
unless_other None goes_on is on = on

refuses_other : {A : Type 0} (rows : List (Bool × Refusal)) (goes_on : Result A Refusal) → AreOther rows → ErrsOther goes_on → ErrsOther (unless (first_row rows) goes_on)
refuses_other rows goes_on are on = unless_other (first_row rows) goes_on (rows_other rows are) on

bound_other : {A B : Type 0} (m : Result A Refusal) (f : A → Result B Refusal) → ErrsOther m → ((a : A) → ErrsOther (f a)) → ErrsOther (m >>= f)
bound_other (Ok a) f is on = on a
bound_other (Err r) f is on = is

cond_other : {A : Type 0} (b : Bool) (m n : Result A Refusal) → ErrsOther m → ErrsOther n → ErrsOther (cond b m n)
cond_other true m n is other = is
cond_other false m n is other = other

-- ---- what an act does

tracklets_other : (tracklets : List Tracklet) (ts : List ℕ) → AreOther (map (tracklet_row tracklets) ts)
tracklets_other tracklets [] = tt
tracklets_other tracklets (t ∷ ts) = (tt, tracklets_other tracklets ts)

free_other : (held : Holdings) (ts : List ℕ) → AreOther (flat_map (free_rows held) ts)
free_other held [] = tt
free_other held (t ∷ ts) = (tt, (tt, free_other held ts))

next_other : (next : Option ℕ) (first : ℕ) → AreOther (next_rows next first)
next_other None first = tt
next_other (Some next) first = (tt, tt)

seen_other : (rows : List RowAct) (ts : List ℕ) (seen : List Seen) → ErrsOther (designates_seen rows ts seen)
seen_other rows ts [] = tt
seen_other rows ts (first ∷ more) =
    refuses_other (object_rows rows (span first more) (half_of (earliest first more).time)) (Ok (Designated ts (next_in (half_of (earliest first more).time) rows) (earliest first more).number)) (tt, (tt, tt)) tt

module _ (past : List Deed) (moment : ℤ) where
  does_other : (a : Act) → ErrsOther (does past moment a)
  unfolding does
  does_other (act.Enrol key name role) = refuses_other (enrol_rows (members past) key) (Ok _) (tt, (tt, tt)) tt
  does_other (act.Station code name from to) = refuses_other (row_rows _) (Ok _) (tt, tt) tt
  does_other (act.Code kind letter word) = refuses_other (row_rows _) (Ok _) (tt, tt) tt
  does_other (act.Submit80 lines) = refuses_other (batch_rows (taken_after past moment lines)) (Ok _) (tt, tt) tt
  does_other (act.SubmitPsv lines) = refuses_other (batch_rows (taken_after past moment lines)) (Ok _) (tt, tt) tt
  does_other (act.Designate ts) =
      refuses_other (designate_rows (holdings past) ts) (designates_seen (row_acts_of past) ts (seen_in (holdings past).observations ts))
      (both_other (map (tracklet_row (holdings past).tracklets) ts) (flat_map (free_rows (holdings past)) ts) (tracklets_other (holdings past).tracklets ts) (free_other (holdings past) ts))
      (seen_other (row_acts_of past) ts (seen_in (holdings past).observations ts))
  does_other (act.Attribute t to) = refuses_other (attribute_rows (holdings past) (links_of past) t to) (Ok _) (tt, (tt, (tt, (tt, tt)))) tt
  does_other (act.Release t) = refuses_other (release_rows (holdings past) t) (Ok _) (tt, (tt, tt)) tt
  does_other (act.Identify p s) = refuses_other (identify_rows (links_of past) (numbers_of past) p s) (Ok _) (tt, (tt, (tt, (tt, (tt, (tt, (tt, tt))))))) tt
  does_other (act.Separate s) = refuses_other (separate_rows (links_of past) s) (Ok _) (tt, (tt, tt)) tt
  does_other (act.Verdict d u oppositions) = refuses_other (verdict_rows (links_of past) d) (Ok _) (tt, (tt, tt)) tt
  does_other (act.Number first most) =
      refuses_other (number_rows (numbers_of past) first most (eligible_after past)) (Ok _)
      (both_other (next_rows (next_number (numbers_of past)) first) _ (next_other (next_number (numbers_of past)) first) (tt, (tt, tt))) tt
  does_other (act.Opening half given carried) = refuses_other (opening_rows (row_acts_of past) half) (Ok _) (tt, tt) tt
  does_other (act.Retract k) = refuses_other (retract_rows (holdings past).observations k) (Ok _) (tt, (tt, tt)) tt

asked_act_other : (a : Asked) → ErrsOther (act_in a)
asked_act_other (asked.Act a) = tt
asked_act_other (asked.Header what line) = tt
asked_act_other (asked.Query q) = tt

full_other : (limit : Option ℕ) (past : List Entry) (body : List ℕ) → AreOther (full_rows limit past body)
full_other None past body = tt
full_other (Some limit) past body = (tt, tt)

module _ (past : List Entry) (moment : ℤ) (heard : Heard) where
  work_other : ErrsOther (work_out past moment heard)
  unfolding work_out
  work_other =
      refuses_other (role_rows past heard) (act_in heard.asked >>= does (deeds past) moment) (tt, (tt, tt))
      (bound_other (act_in heard.asked) (does (deeds past) moment) (asked_act_other heard.asked) (does_other (deeds past) moment))

  within_other : (limit : Option ℕ) (body : List ℕ) → ErrsOther (work_within limit past body moment heard)
  within_other limit body =
      bound_other (work_out past moment heard) (λ deed. unless (first_row (full_rows limit past body)) (Ok deed)) work_other
      (λ deed. refuses_other (full_rows limit past body) (Ok deed) (full_other limit past body) tt)

-- ---- what is heard

number_other : (verb : Verb) (number : Option ℕ) → ErrsOther (number_in verb number)
number_other verb None = tt
number_other verb (Some number) = cond_other (is_number_of verb number) (Ok number) (Err (Unread part.Number)) tt tt

act_asked_other : (a : Result Act ActFault) → ErrsOther (asked_in a)
act_asked_other (Ok a) = tt
act_asked_other (Err (fault.Header what line)) = tt
act_asked_other (Err fault.Unread) = tt
act_asked_other (Err fault.NoMemory) = tt

query_asked_other : (q : Option Query) → ErrsOther (queried_in q)
query_asked_other (Some q) = tt
query_asked_other None = tt

caller_other : (c : Option Caller) → ErrsOther (caller_in c)
caller_other (Some c) = tt
caller_other None = tt

bytes_other : (body : Body) → ErrsOther (bytes_in body)
bytes_other (Whole bytes) = refuses_other (size_rows bytes) (Ok bytes) (tt, (tt, tt)) tt
bytes_other (TooLong size) = tt
bytes_other NoRoom = tt

heard_other : (founder : Key) (past : List Entry) (q : Request) (bytes : List ℕ) → ErrsOther (hear founder (members (deeds past)) q bytes)
unfolding hear
heard_other founder past q bytes =
    refuses_other (verb_rows q.verb) _ (tt, tt)
    (bound_other (number_in q.verb q.number) _ (number_other q.verb q.number)
    (λ number. bound_other (asked_of q.verb bytes) _ (cond_other (is_act q.verb) (asked_in (act_of q.verb bytes)) (queried_in (query_of q.verb bytes)) (act_asked_other (act_of q.verb bytes)) (query_asked_other (query_of q.verb bytes)))
    (λ asked. bound_other (caller_in (caller_of founder (members (deeds past)) q.key)) _ (caller_other (caller_of founder (members (deeds past)) q.key)) (λ caller. tt))))

-- ---- the step

abbrev IsOtherReply : Reply → Type 0
IsOtherReply (Done text) = Unit {0}
IsOtherReply (Refused refusal) = IsOther refusal

abbrev IsOtherOutcome : Outcome → Type 0
IsOtherOutcome (Refuses refusal) = IsOther refusal
IsOtherOutcome (Keeps reply) = IsOtherReply reply
IsOtherOutcome (Tells text) = Unit {0}
IsOtherOutcome (Adds entry) = Unit {0}

kept_other : (same : Bool) (text : List ℕ) (receipt : ℕ) → IsOtherReply (cond same (Done text) (Refused (OtherRequest receipt)))
kept_other true text receipt = tt
kept_other false text receipt = tt

done_other : (work : Result Deed Refusal) (entry : Entry) → ErrsOther work → IsOtherOutcome (unless_refused work entry)
done_other (Ok deed) entry is = tt
done_other (Err r) entry is = is

acted_other : (used : Option Kept) (heard : Heard) (bytes : List ℕ) (goes_on : Outcome) → IsOtherOutcome goes_on → IsOtherOutcome (unless_kept used heard bytes goes_on)
acted_other None heard bytes goes_on is = is
acted_other (Some k) heard bytes goes_on is = kept_other (is_resend heard.verb bytes k.entry) _ _

receipt_other : (number : ℕ) (used : Option Kept) → ErrsOther (answer_of_receipt number used)
receipt_other number (Some k) = tt
receipt_other number None = tt

thing_other : {A : Type 0} (what : Thing) (text : A → List ℕ) (found : Option A) → ErrsOther (answer_of_thing what text found)
thing_other what text (Some found) = tt
thing_other what text None = tt

told_other : (past : List Entry) (caller : ℕ) (q : Query) → ErrsOther (answer_of_query past caller q)
unfolding answer_of_query
told_other past caller (query.Receipt number) = receipt_other number (numbered_entry past caller number)
told_other past caller (query.Object d) = thing_other (thing.Designation d) _ _
told_other past caller (query.Tracklet t) = thing_other (thing.Tracklet t) _ _
told_other past caller _ = tt

query_other : (a : Asked) → ErrsOther (query_in a)
query_other (asked.Query q) = tt
query_other (asked.Act a) = tt
query_other (asked.Header what line) = tt

tells_other : (told : Result (List ℕ) Refusal) → ErrsOther told → IsOtherOutcome (tells told)
tells_other (Ok text) is = tt
tells_other (Err r) is = is

either_other : (b : Bool) (x y : Outcome) → IsOtherOutcome x → IsOtherOutcome y → IsOtherOutcome (cond b x y)
either_other true x y is other = is
either_other false x y is other = other

module _ (founder : Key) (limit : Option ℕ) (past : List Entry) (q : Request) (t : ℤ) where
  step_other_of : (bytes : List ℕ) (heard : Heard) → IsOtherOutcome (heard_step limit past heard bytes (next_moment past t))
  step_other_of bytes heard =
      either_other (is_act heard.verb) (act_step limit past heard bytes (next_moment past t)) (query_step past heard)
      (acted_other (numbered_entry past heard.caller.number heard.number) heard bytes _ (done_other (work_within limit past bytes (next_moment past t) heard) _ (within_other past (next_moment past t) heard limit bytes)))
      (tells_other _ (bound_other (query_in heard.asked) (answer_of_query past heard.caller.number) (query_other heard.asked) (told_other past heard.caller.number)))

  asks_other : (heard : Result Heard Refusal) (bytes : List ℕ) → ErrsOther heard → IsOtherOutcome (unless_unheard (heard >>= heard_outcome founder limit past q t bytes))
  asks_other (Ok heard) bytes is = step_other_of bytes heard
  asks_other (Err r) bytes is = is

  opens_other : (bytes : Result (List ℕ) Refusal) → ErrsOther bytes → IsOtherOutcome (unless_unheard (bytes >>= hearing founder limit past q t))
  opens_other (Ok bytes) is = asks_other (hear founder (members (deeds past)) q bytes) bytes (heard_other founder past q bytes)
  opens_other (Err r) is = is

  outcome_other : IsOtherOutcome (outcome founder limit past q t)
  outcome_other = subst IsOtherOutcome (sym (outcome_is founder limit past q t)) (opens_other (bytes_in q.body) (bytes_other q.body))

after_other : (past : List Entry) (o : Outcome) → IsOtherOutcome o → IsOtherReply (reply_and_history past o).0
after_other past (Refuses r) is = is
after_other past (Keeps reply) is = is
after_other past (Tells text) is = tt
after_other past (Adds entry) is = tt

module _ (founder : Key) (limit : Option ℕ) where
  pub step_knows_no_disk : (past : List Entry) (q : Request) (t : ℤ) (doubt : Bool) (next : List Entry) → step founder limit past q t ≡ (Refused (DiskFault doubt), next) → ⊥
  step_knows_no_disk past q t doubt next is =
      subst IsOtherReply (ap (λ (p : Reply × List Entry). p.0) (sym (step_is founder limit past q t) ∙ is)) (after_other past (outcome founder limit past q t) (outcome_other founder limit past q t))

  answer_knows_no_disk : (past : List Entry) (q : Request) (t : ℤ) (doubt : Bool) (reply : Reply) (next : List Entry) → reply ≡ Refused (DiskFault doubt) → Answers founder limit past q t reply next → ⊥
  answer_knows_no_disk past q t doubt reply next is (inl steps) = step_knows_no_disk past q t doubt next (steps ∙ ap (λ (r : Reply). (r, next)) is)
  answer_knows_no_disk past q t doubt reply next is (inr (wants, same)) = let both = sym is ∙ wants in absurd cc

  -- ---- turns

  acts_rise : (past : List Entry) (turn : Turn) (reading : ℤ) (after : OfficeState) (doubt : Bool) → turn.reply ≡ Refused (DiskFault doubt)
      → Settles founder limit past turn reading after ⊎ FailsToKeep founder limit past turn reading after → FailsToKeep founder limit past turn reading after
  acts_rise past turn reading after doubt is (inl s) = absurd (answer_knows_no_disk past turn.request reading doubt turn.reply after.settled is s.answers)
  acts_rise past turn reading after doubt is (inr f) = f

  takes_rise : (before : OfficeState) (turn : Turn) (reading : Option ℤ) (after : OfficeState) (doubt : Bool) → Takes founder limit before turn reading after → turn.reply ≡ Refused (DiskFault doubt) → 0 < turn.rise
  takes_rise before turn (Some reading) after doubt (inl f) is = f.rose
  takes_rise before turn (Some reading) after doubt (inr a) is = (acts_rise a.mended turn reading after doubt is a.acts).rose
  takes_rise before turn None after doubt a is = absurd (answer_knows_no_disk before.settled turn.request (pos 0) doubt turn.reply before.settled is a.answers)

  pub fault_rises : (before after : OfficeState) (turn : Turn) (doubt : Bool) → IsTurn founder limit before turn after → turn.reply ≡ Refused (DiskFault doubt) → 0 < turn.rise
  fault_rises before after turn doubt is reply = takes_rise before turn turn.reading after doubt is.takes reply

  pub conduct_knows_no_disk : (before : OfficeState) (turns : List Turn) (after : OfficeState) → Conduct founder limit before turns after → HadNoFault turns → NoDiskFaults turns
  conduct_knows_no_disk before [] after is none = tt
  conduct_knows_no_disk before (turn ∷ turns) after (between, first, others) (none, nones) =
      ((λ doubt is. let rose = fault_rises before between turn doubt first is in absurd (omega arith)), conduct_knows_no_disk between turns after others nones)

  same_doubt : (a b : Bool) (reply : Reply) → reply ≡ Refused (DiskFault a) → reply ≡ Refused (DiskFault b) → a ≡ b
  same_doubt a b reply is other = let both = sym is ∙ other in cc

  -- the act in doubt is the request's own
  own_doubt : (past : List Entry) (turn : Turn) (t : ℤ) (after : OfficeState) → turn.reply ≡ Refused (DiskFault true) → FailsToKeep founder limit past turn t after
      → IsSomeAnd after.doubt (λ entry. outcome founder limit after.settled turn.request t ≡ Adds entry)
  own_doubt past turn t after is f =
      let left = f.leaves ∙ ap (λ (b : Bool). unless_untouched b past f.entry) (same_doubt f.doubt true turn.reply f.reply is) in
      subst (λ (s : OfficeState). IsSomeAnd s.doubt (λ entry. outcome founder limit s.settled turn.request t ≡ Adds entry)) (sym left) f.adds

  takes_doubts : (before : OfficeState) (turn : Turn) (t : ℤ) (after : OfficeState) → Takes founder limit before turn (Some t) after → turn.reply ≡ Refused (DiskFault true)
      → IsSomeAnd after.doubt (λ entry. outcome founder limit after.settled turn.request t ≡ Adds entry)
  takes_doubts before turn t after (inl f) is = let both = sym is ∙ f.reply in absurd cc
  takes_doubts before turn t after (inr a) is = own_doubt a.mended turn t after is (acts_rise a.mended turn t after true is a.acts)

  pub turn_doubts : (before after : OfficeState) (turn : Turn) (t : ℤ) → IsTurn founder limit before turn after → turn.reading ≡ Some t → turn.reply ≡ Refused (DiskFault true)
      → IsSomeAnd after.doubt (λ entry. outcome founder limit after.settled turn.request t ≡ Adds entry)
  turn_doubts before after turn t is reading reply = takes_doubts before turn t after (subst (λ r. Takes founder limit before turn r after) reading is.takes) reply

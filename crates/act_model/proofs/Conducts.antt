-- What the step and conducts do to a history.
use Rattle.std.proofs.Common.{◌≡◌, ◌≢◌, ℕ, ℤ, pos, Bool, true, false, cond, List, [], ◌∷◌, ◌++◌, Option, Some, None, Result, Ok, Err, refl, sym, ap, subst, ◌∙◌, append_assoc, inl, inr, arith}
use Rattle.std.specs.Prelude.{◌⊎◌, IfSome, unwrap_or}
use Rattle.obs_time.specs.Instants.{IsInstantNs}
use Rattle.act_bodies.specs.declared.key.Key.{Key}
use Rattle.act_model.specs.declared.deed.Deed.{Deed}
use Rattle.act_model.specs.declared.entry.Entry.{Entry}
use Rattle.act_model.specs.declared.heard.Heard.{Heard}
use Rattle.act_model.specs.declared.keeper.OfficeState.{OfficeState}
use Rattle.act_model.specs.declared.reply.Refusal.{Refusal}
use Rattle.act_model.specs.declared.reply.Refusal.TheVariants.{NoMemory}
use Rattle.act_model.specs.declared.reply.Reply.{Reply}
use Rattle.act_model.specs.declared.reply.Reply.TheVariants.{Refused}
use Rattle.read_ahead.specs.declared.body.Body.{Body}
use Rattle.read_ahead.specs.declared.body.Body.TheVariants.{NoRoom}
use Rattle.act_model.specs.declared.request.Request.{Request}
use Rattle.act_model.specs.Rows.{first_row, unless, ◌>>=◌}
use Rattle.act_model.specs.Requests.{is_act}
use Rattle.act_model.specs.Roster.{members}
use Rattle.act_model.specs.Deeds.{deeds}
use Rattle.act_model.specs.History.{Kept, numbered_entry, next_moment, IsUnused, EachNumberOnce}
use Rattle.act_model.specs.Hearing.{bytes_in, hear}
use Rattle.act_model.specs.Refusals.{full_rows, work_out, work_within}
use Rattle.act_model.specs.Step.{Outcome, Refuses, Adds, step, outcome, reply_and_history, unless_unheard, heard_step, query_step, query_in, answer_of_query, tells, unless_kept, unless_refused, new_entry}
use Rattle.act_model.specs.Turns.{Turn, TakesReading, Answers, at_rest, unless_untouched, Mends, Settles, FailsToKeep, Takes, IsTurn, Conduct}
use Rattle.act_model.specs.Conducts.{Extends, HadMemory, HadNoFault, IsStepped, IsAnswered, EitherWay, Makes}

-- ---- what the step adds

-- what was found, in two questions one after the other
pub bound : {A B : Type 0} (m : Result A Refusal) (f : A → Result B Refusal) (b : B) → (m >>= f) ≡ Ok b → (a : A) × (m ≡ Ok a) × (f a ≡ Ok b)
bound (Ok a) f b is = (a, refl, is)
bound (Err r) f b is = absurd cc

pub unless_ok : {A : Type 0} (o : Option Refusal) (goes_on : Result A Refusal) (a : A) → unless o goes_on ≡ Ok a → (o ≡ None) × (goes_on ≡ Ok a)
unless_ok (Some r) goes_on a is = absurd cc
unless_ok None goes_on a is = (refl, is)

-- what an act does where the journal has room for its entry
module _ (limit : Option ℕ) (past : List Entry) (bytes : List ℕ) (moment : ℤ) (heard : Heard) (deed : Deed) where
  abbrev if_room : Option Refusal → Deed → Result Deed Refusal
  if_room full done = unless full (Ok done)

  pub works_within : work_within limit past bytes moment heard ≡ Ok deed → (work_out past moment heard ≡ Ok deed) × (first_row (full_rows limit past bytes) ≡ None)
  works_within is =
      let (done, works, rest) = bound (work_out past moment heard) (if_room (first_row (full_rows limit past bytes))) deed is in
      let (room, same) = unless_ok (first_row (full_rows limit past bytes)) (Ok done) deed rest in
      (works ∙ same, room)

  pub within_again : work_out past moment heard ≡ Ok deed → first_row (full_rows limit past bytes) ≡ None → work_within limit past bytes moment heard ≡ Ok deed
  within_again works room =
      ap (λ (w : Result Deed Refusal). w >>= if_room (first_row (full_rows limit past bytes))) works ∙ ap (λ (o : Option Refusal). if_room o deed) room

was_heard : (x : Result Outcome Refusal) (e : Entry) → unless_unheard x ≡ Adds e → x ≡ Ok (Adds e)
was_heard (Ok o) e is = ap (λ (o : Outcome). Ok o) is
was_heard (Err r) e is = absurd cc

-- an outcome that adds an entry adds that of an act whose number was not used, and which nothing refuses
acted : (act : Bool) (used : Option Kept) (heard : Heard) (bytes : List ℕ) (work : Result Deed Refusal) (new e : Entry) (query : Result (List ℕ) Refusal)
    → cond act (unless_kept used heard bytes (unless_refused work new)) (tells query) ≡ Adds e
    → (act ≡ true) × (used ≡ None) × ((deed : Deed) × (work ≡ Ok deed)) × (e ≡ new)
acted true None heard bytes (Ok deed) new e query is = (refl, refl, (deed, refl), cc)
acted true None heard bytes (Err x) new e query is = absurd cc
acted true (Some k) heard bytes work new e query is = absurd cc
acted false used heard bytes work new e (Ok text) is = absurd cc
acted false used heard bytes work new e (Err r) is = absurd cc

-- the request adds this entry: its bytes, what was heard of it, and the deed that it does
pub record Added (founder : Key) (limit : Option ℕ) (past : List Entry) (q : Request) (t : ℤ) (e : Entry) : Type 0 where
  pub bytes : List ℕ
  pub heard : Heard
  pub deed : Deed
  pub body : bytes_in q.body ≡ Ok bytes
  pub hears : hear founder (members (deeds past)) q bytes ≡ Ok heard
  pub act : is_act heard.verb ≡ true
  pub unused : numbered_entry past heard.caller.number heard.number ≡ None
  pub works : work_out past (next_moment past t) heard ≡ Ok deed
  pub room : first_row (full_rows limit past bytes) ≡ None
  pub entry : e ≡ new_entry heard bytes (next_moment past t)

-- what was found
abbrev pub found : {A : Type 0} → A → Result A Refusal
found a = Ok a

pub ok_is : {A : Type 0} (x y : A) → found x ≡ Ok y → x ≡ y
ok_is x y is = cc

module _ (founder : Key) (limit : Option ℕ) (past : List Entry) (q : Request) (t : ℤ) where
  -- the step of a request that was heard, and what is heard before it
  abbrev pub heard_outcome : List ℕ → Heard → Result Outcome Refusal
  heard_outcome bytes heard = Ok (heard_step limit past heard bytes (next_moment past t))

  abbrev pub hearing : List ℕ → Result Outcome Refusal
  hearing bytes = hear founder (members (deeds past)) q bytes >>= heard_outcome bytes

  pub outcome_is : outcome founder limit past q t ≡ unless_unheard (bytes_in q.body >>= hearing)
  unfolding outcome
  outcome_is = refl

  added_by : (e : Entry) (b : (bytes : List ℕ) × (bytes_in q.body ≡ Ok bytes) × (hearing bytes ≡ Ok (Adds e))) → Added founder limit past q t e
  added_by e (bytes, body, rest) =
      let (heard, hears, last) = bound (hear founder (members (deeds past)) q bytes) (heard_outcome bytes) (Adds e) rest in
      let (act, unused, (deed, works), entry) =
      acted (is_act heard.verb) (numbered_entry past heard.caller.number heard.number) heard bytes (work_within limit past bytes (next_moment past t) heard) (new_entry heard bytes (next_moment past t)) e (query_in heard.asked >>= answer_of_query past heard.caller.number) (ok_is (heard_step limit past heard bytes (next_moment past t)) (Adds e) last) in
      let done = works_within limit past bytes (next_moment past t) heard deed works in
      record { bytes = bytes; heard = heard; deed = deed; body = body; hears = hears; act = act; unused = unused; works = done.0; room = done.1; entry = entry }

  pub adds : (e : Entry) → outcome founder limit past q t ≡ Adds e → Added founder limit past q t e
  adds e is = added_by e (bound (bytes_in q.body) hearing (Adds e) (was_heard (bytes_in q.body >>= hearing) e (sym outcome_is ∙ is)))

  -- and what is heard, not used and not refused is added
  pub adds_again : (bytes : List ℕ) (heard : Heard) (deed : Deed) → bytes_in q.body ≡ Ok bytes → hear founder (members (deeds past)) q bytes ≡ Ok heard → is_act heard.verb ≡ true
      → numbered_entry past heard.caller.number heard.number ≡ None → work_out past (next_moment past t) heard ≡ Ok deed → first_row (full_rows limit past bytes) ≡ None → outcome founder limit past q t ≡ Adds (new_entry heard bytes (next_moment past t))
  adds_again bytes heard deed body hears act unused works room =
      outcome_is
      ∙ ap (λ (x : Result (List ℕ) Refusal). unless_unheard (x >>= hearing)) body
      ∙ ap (λ (x : Result Heard Refusal). unless_unheard (x >>= heard_outcome bytes)) hears
      ∙ ap (λ (b : Bool). cond b (unless_kept (numbered_entry past heard.caller.number heard.number) heard bytes (unless_refused (work_within limit past bytes (next_moment past t) heard) (new_entry heard bytes (next_moment past t)))) (query_step past heard)) act
      ∙ ap (λ (k : Option Kept). unless_kept k heard bytes (unless_refused (work_within limit past bytes (next_moment past t) heard) (new_entry heard bytes (next_moment past t)))) unused
      ∙ ap (λ (w : Result Deed Refusal). unless_refused w (new_entry heard bytes (next_moment past t))) (within_again limit past bytes (next_moment past t) heard deed works room)

  -- a number that was used keeps its reply
  pub keeps : (bytes : List ℕ) (heard : Heard) (k : Kept) → bytes_in q.body ≡ Ok bytes → hear founder (members (deeds past)) q bytes ≡ Ok heard → is_act heard.verb ≡ true
      → numbered_entry past heard.caller.number heard.number ≡ Some k → outcome founder limit past q t ≡ unless_kept (Some k) heard bytes (Refuses NoMemory)
  keeps bytes heard k body hears act used =
      outcome_is
      ∙ ap (λ (x : Result (List ℕ) Refusal). unless_unheard (x >>= hearing)) body
      ∙ ap (λ (x : Result Heard Refusal). unless_unheard (x >>= heard_outcome bytes)) hears
      ∙ ap (λ (b : Bool). cond b (unless_kept (numbered_entry past heard.caller.number heard.number) heard bytes (unless_refused (work_within limit past bytes (next_moment past t) heard) (new_entry heard bytes (next_moment past t)))) (query_step past heard)) act
      ∙ ap (λ (k : Option Kept). unless_kept k heard bytes (unless_refused (work_within limit past bytes (next_moment past t) heard) (new_entry heard bytes (next_moment past t)))) used

  -- the step by its outcome
  pub step_is : step founder limit past q t ≡ reply_and_history past (outcome founder limit past q t)
  unfolding step
  step_is = refl

  pub no_room : q.body ≡ NoRoom → step founder limit past q t ≡ (Refused NoMemory, past)
  no_room none = step_is ∙ ap (reply_and_history past) (outcome_is ∙ ap (λ (b : Body). unless_unheard (bytes_in b >>= hearing)) none)

-- ---- what the step leaves

-- the history stays, or gets one entry with a number that was not used
abbrev pub Leaves : List Entry → List Entry → Type 0
Leaves past next = (next ≡ past) ⊎ ((entry : Entry) × (next ≡ entry ∷ past) × IsUnused past entry)

makes : (past : List Entry) (o : Outcome) (reply : Reply) (next : List Entry) → reply_and_history past o ≡ (reply, next) → Makes past o reply next
makes past (Adds e) reply next is = inr (e, refl, sym (ap (λ (p : Reply × List Entry). p.0) is), sym (ap (λ (p : Reply × List Entry). p.1) is))
makes past _ reply next is = inl (sym (ap (λ (p : Reply × List Entry). p.1) is))

refused_leaves : (past : List Entry) (o : Outcome) (r : Refusal) (next : List Entry) → reply_and_history past o ≡ (Refused r, next) → next ≡ past
refused_leaves past (Adds e) r next is = let reply = ap (λ (p : Reply × List Entry). p.0) is in absurd cc
refused_leaves past _ r next is = sym (ap (λ (p : Reply × List Entry). p.1) is)

module _ (founder : Key) (limit : Option ℕ) where
  -- what a step makes
  pub step_makes : (past : List Entry) (q : Request) (t : ℤ) (reply : Reply) (next : List Entry) → step founder limit past q t ≡ (reply, next) → Makes past (outcome founder limit past q t) reply next
  step_makes past q t reply next is = makes past (outcome founder limit past q t) reply next (sym (step_is founder limit past q t) ∙ is)

  added_unused : (past : List Entry) (q : Request) (t : ℤ) (e : Entry) → Added founder limit past q t e → IsUnused past e
  added_unused past q t e a = ap (λ (x : Entry). numbered_entry past x.caller x.number) a.entry ∙ a.unused

  made_leaves : (past : List Entry) (q : Request) (t : ℤ) (reply : Reply) (next : List Entry) → Makes past (outcome founder limit past q t) reply next → Leaves past next
  made_leaves past q t reply next (inl same) = inl same
  made_leaves past q t reply next (inr (e, is, answer, more)) = inr (e, more, added_unused past q t e (adds founder limit past q t e is))

  pub refusal_leaves : (past : List Entry) (q : Request) (t : ℤ) (r : Refusal) (next : List Entry) → step founder limit past q t ≡ (Refused r, next) → next ≡ past
  refusal_leaves past q t r next is = refused_leaves past (outcome founder limit past q t) r next (sym (step_is founder limit past q t) ∙ is)

  pub leaves : (past : List Entry) (q : Request) (t : ℤ) (reply : Reply) (next : List Entry) → step founder limit past q t ≡ (reply, next) → Leaves past next
  leaves past q t reply next is = made_leaves past q t reply next (step_makes past q t reply next is)

  answer_leaves : (past : List Entry) (q : Request) (t : ℤ) (reply : Reply) (next : List Entry) → Answers founder limit past q t reply next → Leaves past next
  answer_leaves past q t reply next (inl is) = leaves past q t reply next is
  answer_leaves past q t reply next (inr (wants, same)) = inl same

  answer_steps : (past : List Entry) (q : Request) (t : ℤ) (reply : Reply) (next : List Entry) → reply ≢ Refused NoMemory → Answers founder limit past q t reply next → step founder limit past q t ≡ (reply, next)
  answer_steps past q t reply next had (inl is) = is
  answer_steps past q t reply next had (inr (wants, same)) = absurd (had wants)

  -- an answer that is a refusal leaves the history, so that out of memory may stand in its place
  pub answer_wanting : (past : List Entry) (q : Request) (t : ℤ) (r : Refusal) (next : List Entry) → Answers founder limit past q t (Refused r) next → Answers founder limit past q t (Refused NoMemory) next
  answer_wanting past q t r next (inl is) = inr (refl, refusal_leaves past q t r next is)
  answer_wanting past q t r next (inr (wants, same)) = inr (refl, same)

  pub wanting_leaves : (past : List Entry) (q : Request) (t : ℤ) (next : List Entry) → Answers founder limit past q t (Refused NoMemory) next → next ≡ past
  wanting_leaves past q t next (inl is) = refusal_leaves past q t NoMemory next is
  wanting_leaves past q t next (inr (wants, same)) = same

  pub no_room_turn : (past : List Entry) (q : Request) (t : ℤ) (reply : Reply) (next : List Entry) → q.body ≡ NoRoom → Answers founder limit past q t reply next → (reply ≡ Refused NoMemory) × (next ≡ past)
  no_room_turn past q t reply next none (inl is) =
      let given = sym (no_room founder limit past q t none) ∙ is in (sym (ap (λ (p : Reply × List Entry). p.0) given), sym (ap (λ (p : Reply × List Entry). p.1) given))
  no_room_turn past q t reply next none (inr wants) = wants

  -- ---- turns

  extends_same : (past next : List Entry) → next ≡ past → Extends past next
  extends_same past next is = ([], is)

  pub extends_on : (past between next : List Entry) → Extends past between → Extends between next → Extends past next
  extends_on past between next (newer, is) (newest, more) =
      (newest ++ newer, more ∙ ap (λ (h : List Entry). newest ++ h) is ∙ sym (append_assoc newest newer past))

  leaves_extends : (past next : List Entry) → Leaves past next → Extends past next
  leaves_extends past next (inl same) = ([], same)
  leaves_extends past next (inr (e, more, unused)) = (e ∷ [], more)

  pub mends_extends : (past : List Entry) (doubt : Option Entry) (mended : List Entry) → Mends past doubt mended → Extends past mended
  mends_extends past None mended same = ([], same)
  mends_extends past (Some e) mended (inl more) = (e ∷ [], more)
  mends_extends past (Some e) mended (inr same) = ([], same)

  -- nothing is mended
  mends_nothing : (past : List Entry) (doubt : Option Entry) → Mends past doubt past
  mends_nothing past None = refl
  mends_nothing past (Some e) = inr refl

  pub acts_extends : (past : List Entry) (turn : Turn) (reading : ℤ) (after : OfficeState) → Settles founder limit past turn reading after ⊎ FailsToKeep founder limit past turn reading after → Extends past after.settled
  acts_extends past turn reading after (inl s) = leaves_extends past after.settled (answer_leaves past turn.request reading turn.reply after.settled s.answers)
  acts_extends past turn reading after (inr f) = extends_same past after.settled (ap (λ (s : OfficeState). s.settled) f.leaves)

  takes_extends : (before : OfficeState) (turn : Turn) (reading : Option ℤ) (after : OfficeState) → Takes founder limit before turn reading after → Extends before.settled after.settled
  takes_extends before turn (Some reading) after (inl f) = extends_same before.settled after.settled (ap (λ (s : OfficeState). s.settled) f.stays)
  takes_extends before turn (Some reading) after (inr a) =
      extends_on before.settled a.mended after.settled (mends_extends before.settled before.doubt a.mended a.mends) (acts_extends a.mended turn reading after a.acts)
  takes_extends before turn None after a = extends_same before.settled after.settled (ap (λ (s : OfficeState). s.settled) a.stays)

  pub conduct_extends : (before : OfficeState) (turns : List Turn) (after : OfficeState) → Conduct founder limit before turns after → Extends before.settled after.settled
  conduct_extends before [] after is = extends_same before.settled after.settled (ap (λ (s : OfficeState). s.settled) is)
  conduct_extends before (turn ∷ turns) after (between, first, others) =
      extends_on before.settled between.settled after.settled (takes_extends before turn turn.reading between first.takes) (conduct_extends between turns after others)

  -- a refusal leaves what mending left
  refused_mends : (before : OfficeState) (turn : Turn) (reading : Option ℤ) (after : OfficeState) (r : Refusal) → Takes founder limit before turn reading after → turn.reply ≡ Refused r → Mends before.settled before.doubt after.settled
  refused_mends before turn (Some reading) after r (inl f) is =
      subst (λ (h : List Entry). Mends before.settled before.doubt h) (sym (ap (λ (s : OfficeState). s.settled) f.stays)) (mends_nothing before.settled before.doubt)
  refused_mends before turn (Some reading) after r (inr a) is = subst (λ (h : List Entry). Mends before.settled before.doubt h) (sym (left a.acts)) a.mends
    where
      left : Settles founder limit a.mended turn reading after ⊎ FailsToKeep founder limit a.mended turn reading after → after.settled ≡ a.mended
      left (inl s) =
          wanting_leaves a.mended turn.request reading after.settled (answer_wanting a.mended turn.request reading r after.settled (subst (λ (x : Reply). Answers founder limit a.mended turn.request reading x after.settled) is s.answers))
      left (inr f) = ap (λ (s : OfficeState). s.settled) f.leaves
  refused_mends before turn None after r a is =
      subst (λ (h : List Entry). Mends before.settled before.doubt h) (sym (ap (λ (s : OfficeState). s.settled) a.stays)) (mends_nothing before.settled before.doubt)

  pub refusal_mends : (before after : OfficeState) (turn : Turn) (r : Refusal) → IsTurn founder limit before turn after → turn.reply ≡ Refused r → Mends before.settled before.doubt after.settled
  refusal_mends before after turn r is reply = refused_mends before turn turn.reading after r is.takes reply

  -- ---- conducts without faults

  rest_takes : (past : List Entry) (turn : Turn) (reading : Option ℤ) (after : OfficeState) → turn.rise ≡ 0 → Takes founder limit (at_rest past) turn reading after
      → Answers founder limit past turn.request (unwrap_or reading (pos 0)) turn.reply after.settled × (after ≡ at_rest after.settled)
  rest_takes past turn (Some reading) after none (inl f) = let rose = f.rose in absurd (omega arith)
  rest_takes past turn (Some reading) after none (inr a) = by a.acts
    where
      by : Settles founder limit a.mended turn reading after ⊎ FailsToKeep founder limit a.mended turn reading after → Answers founder limit past turn.request reading turn.reply after.settled × (after ≡ at_rest after.settled)
      by (inl s) =
          (subst (λ (h : List Entry). Answers founder limit h turn.request reading turn.reply after.settled) a.mends s.answers, ap (λ (d : Option Entry). record { settled = after.settled; doubt = d }) s.settled)
      by (inr f) = let rose = f.rose in absurd (omega arith)
  rest_takes past turn None after none a =
      let same = ap (λ (s : OfficeState). s.settled) a.stays in
      (subst (λ (h : List Entry). Answers founder limit past turn.request (pos 0) turn.reply h) (sym same) a.answers, a.stays ∙ ap (λ (h : List Entry). at_rest h) (sym same))

  pub rest_conduct : (past : List Entry) (turns : List Turn) (after : OfficeState) → Conduct founder limit (at_rest past) turns after → HadNoFault turns
      → IsAnswered founder limit past turns after.settled × (after ≡ at_rest after.settled)
  rest_conduct past [] after is none = let same = ap (λ (s : OfficeState). s.settled) is in (same, is ∙ ap (λ (h : List Entry). at_rest h) (sym same))
  rest_conduct past (turn ∷ turns) after (between, first, others) (none, nones) =
      let here = rest_takes past turn turn.reading between none first.takes in
      let rest = rest_conduct between.settled turns after (subst (λ (s : OfficeState). Conduct founder limit s turns after) here.1 others) nones in
      ((between.settled, here.0, rest.0), rest.1)

  pub answered_steps : (past : List Entry) (turns : List Turn) (next : List Entry) → IsAnswered founder limit past turns next → HadMemory turns → IsStepped founder limit past turns next
  answered_steps past [] next is had = is
  answered_steps past (turn ∷ turns) next (between, first, others) (had, rest) =
      let is = answer_steps past turn.request (unwrap_or turn.reading (pos 0)) turn.reply between had first in
      (sym (ap (λ (p : Reply × List Entry). p.0) is), subst (λ (h : List Entry). IsStepped founder limit h turns next) (sym (ap (λ (p : Reply × List Entry). p.1) is)) (answered_steps between turns next others rest))

  -- one turn more
  pub conduct_more : (before : OfficeState) (turns : List Turn) (between : OfficeState) (turn : Turn) (after : OfficeState) → Conduct founder limit before turns between → IsTurn founder limit between turn after
      → Conduct founder limit before (turns ++ turn ∷ []) after
  conduct_more before [] between turn after is last = (after, subst (λ (s : OfficeState). IsTurn founder limit s turn after) is last, refl)
  conduct_more before (t ∷ turns) between turn after (middle, first, others) last = (middle, first, conduct_more middle turns between turn after others last)

  -- ---- what holds of a history and of each that an entry makes of it

  module _ (P : List Entry → Type 0) (more : (past : List Entry) (q : Request) (t : ℤ) (e : Entry) → IsInstantNs t → P past → outcome founder limit past q t ≡ Adds e → P (e ∷ past)) where
    made_holds : (past : List Entry) (q : Request) (t : ℤ) (reply : Reply) (next : List Entry) → IsInstantNs t → P past → Makes past (outcome founder limit past q t) reply next → P next
    made_holds past q t reply next instant here (inl same) = subst P (sym same) here
    made_holds past q t reply next instant here (inr (e, is, answer, added)) = subst P (sym added) (more past q t e instant here is)

    answer_holds : (past : List Entry) (q : Request) (t : ℤ) (reply : Reply) (next : List Entry) → IsInstantNs t → P past → Answers founder limit past q t reply next → P next
    answer_holds past q t reply next instant here (inl is) = made_holds past q t reply next instant here (step_makes past q t reply next is)
    answer_holds past q t reply next instant here (inr (wants, same)) = subst P (sym same) here

    pub mended_holds : (past : List Entry) (doubt : Option Entry) (mended : List Entry) → P past → IfSome doubt (λ e. P (e ∷ past)) → Mends past doubt mended → P mended
    mended_holds past None mended here with_it same = subst P (sym same) here
    mended_holds past (Some e) mended here with_it (inl added) = subst P (sym added) with_it
    mended_holds past (Some e) mended here with_it (inr same) = subst P (sym same) here

    kept_holds : (doubt : Bool) (past : List Entry) (e : Entry) → P past → P (e ∷ past) → EitherWay P (unless_untouched doubt past e)
    kept_holds true past e here with_it = (here, with_it)
    kept_holds false past e here with_it = (here, tt)

    acts_hold : (past : List Entry) (turn : Turn) (reading : ℤ) (after : OfficeState) → IsInstantNs reading → P past
        → Settles founder limit past turn reading after ⊎ FailsToKeep founder limit past turn reading after → EitherWay P after
    acts_hold past turn reading after instant here (inl s) = (
      answer_holds past turn.request reading turn.reply after.settled instant here s.answers,
      subst (λ (d : Option Entry). IfSome d (λ e. P (e ∷ after.settled))) (sym s.settled) tt,
    )
    acts_hold past turn reading after instant here (inr f) =
        subst (EitherWay P) (sym f.leaves) (kept_holds f.doubt past f.entry here (more past turn.request reading f.entry instant here f.adds))

    takes_hold : (before : OfficeState) (turn : Turn) (reading : Option ℤ) (after : OfficeState) → TakesReading turn.request.verb reading → EitherWay P before → Takes founder limit before turn reading after → EitherWay P after
    takes_hold before turn (Some reading) after reads here (inl f) = subst (EitherWay P) (sym f.stays) here
    takes_hold before turn (Some reading) after reads here (inr a) =
        acts_hold a.mended turn reading after reads.1 (mended_holds before.settled before.doubt a.mended here.0 here.1 a.mends) a.acts
    takes_hold before turn None after reads here a = subst (EitherWay P) (sym a.stays) here

    pub conduct_holds : (before : OfficeState) (turns : List Turn) (after : OfficeState) → EitherWay P before → Conduct founder limit before turns after → EitherWay P after
    conduct_holds before [] after here is = subst (EitherWay P) (sym is) here
    conduct_holds before (turn ∷ turns) after here (between, first, others) =
        conduct_holds between turns after (takes_hold before turn turn.reading between first.reads here first.takes) others

  pub conduct_once : (before : OfficeState) (turns : List Turn) (after : OfficeState) → Conduct founder limit before turns after → EitherWay EachNumberOnce before → EitherWay EachNumberOnce after
  conduct_once before turns after conduct once =
      conduct_holds EachNumberOnce (λ past q t e instant once is. (added_unused past q t e (adds founder limit past q t e is), once)) before turns after once conduct

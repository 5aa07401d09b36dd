-- Who answers that a disk failed: never the step, and a turn only where the count of faults rose.
use Rattle.std.proofs.Common.{◌≡◌, ℕ, ℤ, pos, ◌<◌, Bool, true, false, cond, List, [], ◌∷◌, ◌++◌, Option, Some, None, Result, Ok, Err, sym, ap, subst, ◌∙◌, inl, inr, arith}
use Rattle.std.specs.Prelude.{◌⊎◌, IsSomeAnd, bytes_eq}
use Rattle.act_bodies.specs.declared.key.Key.{Key}
use Rattle.read_ahead.specs.declared.body.Body.{Body}
use Rattle.read_ahead.specs.declared.body.Body.TheVariants.{Whole, TooLong, NoRoom}
use Rattle.packed_names.specs.declared.name.Designation.{Designation}
use Rattle.comet_names.specs.declared.comet.Comet.{Comet}
use Rattle.act_model.specs.declared.deed.Deed.{Deed}
use Rattle.act_model.specs.declared.entry.Entry.{Entry}
use Rattle.act_model.specs.declared.keeper.OfficeState.{OfficeState}
use Rattle.act_model.specs.declared.reply.Part.TheVariants as part
use Rattle.act_model.specs.History.{Kept, numbered_entry, next_moment}
use Rattle.act_model.specs.Rows.{first_row}
use Rattle.act_model.specs.Turns.{unless_untouched}
use Rattle.comet_model.specs.declared.heard.CometAsked.{CometAsked}
use Rattle.comet_model.specs.declared.heard.CometAsked.TheVariants.{Names, Register, Translate}
use Rattle.comet_model.specs.declared.heard.CometHeard.{CometHeard}
use Rattle.comet_model.specs.declared.named.Found.{Found}
use Rattle.comet_model.specs.declared.named.Found.TheVariants as found
use Rattle.comet_model.specs.declared.named.NamedComet.{NamedComet}
use Rattle.comet_model.specs.declared.naming.Naming.{Naming}
use Rattle.comet_model.specs.declared.reply.CometRefusal.{CometRefusal}
use Rattle.comet_model.specs.declared.reply.CometRefusal.TheVariants.{Unread, OtherRequest, DiskFault}
use Rattle.comet_model.specs.declared.reply.CometReply.{CometReply}
use Rattle.comet_model.specs.declared.reply.CometReply.TheVariants.{Done, Refused}
use Rattle.comet_model.specs.declared.request.CometRequest.{CometRequest}
use Rattle.comet_model.specs.declared.request.CometVerb.{CometVerb}
use Rattle.comet_model.specs.declared.request.CometVerb.TheVariants as verb
use Rattle.comet_model.specs.Rows.{unless, ◌>>=◌}
use Rattle.comet_model.specs.Finding.{found_of}
use Rattle.comet_model.specs.Comets.{comet_of, next_named}
use Rattle.comet_model.specs.Hearing.{size_rows, bytes_in, verb_rows, is_number_of, number_in, number_claimed, naming_by, if_empty, asked_of, key_rows, hear}
use Rattle.comet_model.specs.Namings.{naming_of}
use Rattle.comet_model.specs.Refusals.{half_in, already_rows, full_rows, naming_rows, names, room_rows}
use Rattle.comet_model.specs.Register.{comets, new_entry}
use Rattle.comet_model.specs.Step.{Outcome, Refuses, Keeps, Tells, Adds, names_within, unless_kept, unless_refused, asked_step, unless_unheard, outcome, reply_and_entries, step}
use Rattle.comet_model.specs.Turns.{CometTurn, Answers, FailsToKeep, Settles, Takes, IsTurn, Conduct}
use Rattle.comet_model.specs.Conducts.{HadNoFault, NoDiskFaults}
use Rattle.comet_model.proofs.Steps.{outcome_is, hearing, heard_outcome, step_is}

-- ---- refusals that no disk has a part in

abbrev IsOther : CometRefusal → Type 0
IsOther (DiskFault doubt) = ⊥
IsOther _ = Unit {0}

abbrev IfRefused : Option CometRefusal → Type 0
IfRefused None = Unit {0}
IfRefused (Some refusal) = IsOther refusal

abbrev AreOther : List (Bool × CometRefusal) → Type 0
AreOther [] = Unit {0}
AreOther (row ∷ rows) = IsOther row.1 × AreOther rows

abbrev ErrsOther : {A : Type 0} → Result A CometRefusal → Type 0
ErrsOther (Ok a) = Unit {0}
ErrsOther (Err refusal) = IsOther refusal

row_other : (b : Bool) (r : CometRefusal) (rest : Option CometRefusal) → IsOther r → IfRefused rest → IfRefused (cond b (Some r) rest)
row_other true r rest is more = is
row_other false r rest is more = more

rows_other : (rows : List (Bool × CometRefusal)) → AreOther rows → IfRefused (first_row rows)
rows_other [] are = tt
rows_other (row ∷ rows) are = row_other row.0 row.1 (first_row rows) are.0 (rows_other rows are.1)

both_other : (rows others : List (Bool × CometRefusal)) → AreOther rows → AreOther others → AreOther (rows ++ others)
both_other [] others are more = more
both_other (row ∷ rows) others are more = (are.0, both_other rows others are.1 more)

unless_other : {A : Type 0} (o : Option CometRefusal) (goes_on : Result A CometRefusal) → IfRefused o → ErrsOther goes_on → ErrsOther (unless o goes_on)
unless_other (Some r) goes_on is on = is
unless_other None goes_on is on = on

refuses_other : {A : Type 0} (rows : List (Bool × CometRefusal)) (goes_on : Result A CometRefusal) → AreOther rows → ErrsOther goes_on → ErrsOther (unless (first_row rows) goes_on)
refuses_other rows goes_on are on = unless_other (first_row rows) goes_on (rows_other rows are) on

bound_other : {A B : Type 0} (m : Result A CometRefusal) (f : A → Result B CometRefusal) → ErrsOther m → ((a : A) → ErrsOther (f a)) → ErrsOther (m >>= f)
bound_other (Ok a) f is on = on a
bound_other (Err r) f is on = is

cond_other : {A : Type 0} (b : Bool) (m n : Result A CometRefusal) → ErrsOther m → ErrsOther n → ErrsOther (cond b m n)
cond_other true m n is other = is
cond_other false m n is other = other

-- ---- what an act gives

half_other : (d : Designation) (f : Found) → ErrsOther (half_in d f)
half_other d found.NotGiven = tt
half_other d found.NoDiscovery = tt
half_other d (found.Discovered half) = tt

already_other : (o : Option Comet) → AreOther (already_rows o)
already_other None = tt
already_other (Some comet) = (tt, tt)

names_other : (desk : List Deed) (past : List NamedComet) (naming : Naming) → ErrsOther (names desk past naming)
unfolding names
names_other desk past naming =
    bound_other (half_in naming.object (found_of desk naming.object)) _ (half_other naming.object (found_of desk naming.object))
    (λ half. refuses_other (naming_rows naming.object half past) (Ok (next_named naming half past))
    (both_other (already_rows (comet_of naming.object past)) (full_rows half past) (already_other (comet_of naming.object past)) (tt, tt)) tt)

room_other : (limit : Option ℕ) (past : List Entry) (body : List ℕ) → AreOther (room_rows limit past body)
room_other None past body = tt
room_other (Some limit) past body = (tt, tt)

within_other : (limit : Option ℕ) (desk : List Deed) (past : List Entry) (bytes : List ℕ) (naming : Naming) → ErrsOther (names_within limit desk past bytes naming)
within_other limit desk past bytes naming =
    bound_other (names desk (comets desk past) naming) _ (names_other desk (comets desk past) naming)
    (λ named. refuses_other (room_rows limit past bytes) (Ok named) (room_other limit past bytes) tt)

-- ---- what is heard

number_other : (v : CometVerb) (number : Option ℕ) → ErrsOther (number_in v number)
number_other v None = tt
number_other v (Some number) = cond_other (is_number_of v number) (Ok number) (Err (Unread part.Number)) tt tt

naming_other : (o : Option Naming) → ErrsOther (naming_by o)
naming_other (Some naming) = tt
naming_other None = tt

empty_other : (bytes : List ℕ) → ErrsOther (if_empty Register bytes)
empty_other [] = tt
empty_other (byte ∷ rest) = tt

asked_other : (v : CometVerb) (bytes : List ℕ) → ErrsOther (asked_of v bytes)
unfolding asked_of
asked_other verb.Comet bytes = naming_other (naming_of bytes)
asked_other verb.Register bytes = empty_other bytes
asked_other verb.Translate bytes = tt
asked_other verb.Unknown bytes = tt

bytes_other : (body : Body) → ErrsOther (bytes_in body)
bytes_other (Whole bytes) = refuses_other (size_rows bytes) (Ok bytes) (tt, (tt, tt)) tt
bytes_other (TooLong size) = tt
bytes_other NoRoom = tt

heard_other : (founder : Key) (q : CometRequest) (bytes : List ℕ) → ErrsOther (hear founder q bytes)
unfolding hear
heard_other founder q bytes =
    bound_other (number_claimed q.verb q.number) _ (refuses_other (verb_rows q.verb) (number_in q.verb q.number) (tt, tt) (number_other q.verb q.number))
    (λ number. bound_other (asked_of q.verb bytes) _ (asked_other q.verb bytes)
    (λ asked. refuses_other (key_rows founder q.key) (Ok (record { number = number; asked = asked })) (tt, tt) tt))

-- ---- the step

abbrev IsOtherReply : CometReply → Type 0
IsOtherReply (Done text) = Unit {0}
IsOtherReply (Refused refusal) = IsOther refusal

abbrev IsOtherOutcome : Outcome → Type 0
IsOtherOutcome (Refuses refusal) = IsOther refusal
IsOtherOutcome (Keeps reply) = IsOtherReply reply
IsOtherOutcome (Tells text) = Unit {0}
IsOtherOutcome (Adds entry) = Unit {0}

kept_other : (same : Bool) (text : List ℕ) (receipt : ℕ) → IsOtherReply (cond same (Done text) (Refused (OtherRequest receipt)))
kept_other true text receipt = tt
kept_other false text receipt = tt

done_other : (work : Result NamedComet CometRefusal) (entry : Entry) → ErrsOther work → IsOtherOutcome (unless_refused work entry)
done_other (Ok named) entry is = tt
done_other (Err r) entry is = is

acted_other : (desk : List Deed) (used : Option Kept) (bytes : List ℕ) (goes_on : Outcome) → IsOtherOutcome goes_on → IsOtherOutcome (unless_kept desk used bytes goes_on)
acted_other desk None bytes goes_on is = is
acted_other desk (Some k) bytes goes_on is = kept_other (bytes_eq bytes k.entry.body) _ _

module _ (founder : Key) (limit : Option ℕ) (desk : List Deed) (past : List Entry) (q : CometRequest) (t : ℤ) where
  step_other_of : (bytes : List ℕ) (number : ℕ) (asked : CometAsked) → IsOtherOutcome (asked_step limit desk past number asked bytes (next_moment past t))
  step_other_of bytes number (Names naming) =
      acted_other desk (numbered_entry past 0 number) bytes _ (done_other (names_within limit desk past bytes naming) (new_entry number bytes (next_moment past t)) (within_other limit desk past bytes naming))
  step_other_of bytes number Register = tt
  step_other_of bytes number Translate = tt

  asks_other : (heard : Result CometHeard CometRefusal) (bytes : List ℕ) → ErrsOther heard → IsOtherOutcome (unless_unheard (heard >>= heard_outcome founder limit desk past q t bytes))
  asks_other (Ok heard) bytes is = step_other_of bytes heard.number heard.asked
  asks_other (Err r) bytes is = is

  opens_other : (bytes : Result (List ℕ) CometRefusal) → ErrsOther bytes → IsOtherOutcome (unless_unheard (bytes >>= hearing founder limit desk past q t))
  opens_other (Ok bytes) is = asks_other (hear founder q bytes) bytes (heard_other founder q bytes)
  opens_other (Err r) is = is

  outcome_other : IsOtherOutcome (outcome founder limit desk past q t)
  outcome_other = subst IsOtherOutcome (sym (outcome_is founder limit desk past q t)) (opens_other (bytes_in q.body) (bytes_other q.body))

after_other : (desk : List Deed) (past : List Entry) (o : Outcome) → IsOtherOutcome o → IsOtherReply (reply_and_entries desk past o).0
after_other desk past (Refuses r) is = is
after_other desk past (Keeps reply) is = is
after_other desk past (Tells text) is = tt
after_other desk past (Adds entry) is = tt

module _ (founder : Key) (limit : Option ℕ) (desk : List Deed) where
  pub step_knows_no_disk : (past : List Entry) (q : CometRequest) (t : ℤ) (doubt : Bool) (next : List Entry) → step founder limit desk past q t ≡ (Refused (DiskFault doubt), next) → ⊥
  step_knows_no_disk past q t doubt next is =
      subst IsOtherReply (ap (λ (p : CometReply × List Entry). p.0) (sym (step_is founder limit desk past q t) ∙ is)) (after_other desk past (outcome founder limit desk past q t) (outcome_other founder limit desk past q t))

  answer_knows_no_disk : (past : List Entry) (q : CometRequest) (t : ℤ) (doubt : Bool) (reply : CometReply) (next : List Entry) → reply ≡ Refused (DiskFault doubt) → Answers founder limit desk past q t reply next → ⊥
  answer_knows_no_disk past q t doubt reply next is (inl steps) = step_knows_no_disk past q t doubt next (steps ∙ ap (λ (r : CometReply). (r, next)) is)
  answer_knows_no_disk past q t doubt reply next is (inr (wants, same)) = let both = sym is ∙ wants in absurd cc

  -- ---- turns

  acts_rise : (past : List Entry) (turn : CometTurn) (reading : ℤ) (after : OfficeState) (doubt : Bool) → turn.reply ≡ Refused (DiskFault doubt)
      → Settles founder limit desk past turn reading after ⊎ FailsToKeep founder limit desk past turn reading after → FailsToKeep founder limit desk past turn reading after
  acts_rise past turn reading after doubt is (inl s) = absurd (answer_knows_no_disk past turn.request reading doubt turn.reply after.settled is s.answers)
  acts_rise past turn reading after doubt is (inr f) = f

  takes_rise : (before : OfficeState) (turn : CometTurn) (reading : Option ℤ) (after : OfficeState) (doubt : Bool) → Takes founder limit desk before turn reading after → turn.reply ≡ Refused (DiskFault doubt) → 0 < turn.rise
  takes_rise before turn (Some reading) after doubt (inl f) is = f.rose
  takes_rise before turn (Some reading) after doubt (inr a) is = (acts_rise a.mended turn reading after doubt is a.acts).rose
  takes_rise before turn None after doubt a is = absurd (answer_knows_no_disk before.settled turn.request (pos 0) doubt turn.reply before.settled is a.answers)

  pub fault_rises : (before after : OfficeState) (turn : CometTurn) (doubt : Bool) → IsTurn founder limit desk before turn after → turn.reply ≡ Refused (DiskFault doubt) → 0 < turn.rise
  fault_rises before after turn doubt is reply = takes_rise before turn turn.reading after doubt is.takes reply

  pub conduct_knows_no_disk : (before : OfficeState) (turns : List CometTurn) (after : OfficeState) → Conduct founder limit desk before turns after → HadNoFault turns → NoDiskFaults turns
  conduct_knows_no_disk before [] after is none = tt
  conduct_knows_no_disk before (turn ∷ turns) after (between, first, others) (none, nones) =
      ((λ doubt is. let rose = fault_rises before between turn doubt first is in absurd (omega arith)), conduct_knows_no_disk between turns after others nones)

  same_doubt : (a b : Bool) (reply : CometReply) → reply ≡ Refused (DiskFault a) → reply ≡ Refused (DiskFault b) → a ≡ b
  same_doubt a b reply is other = let both = sym is ∙ other in cc

  -- the act in doubt is the request's own
  own_doubt : (past : List Entry) (turn : CometTurn) (t : ℤ) (after : OfficeState) → turn.reply ≡ Refused (DiskFault true) → FailsToKeep founder limit desk past turn t after
      → IsSomeAnd after.doubt (λ entry. outcome founder limit desk after.settled turn.request t ≡ Adds entry)
  own_doubt past turn t after is f =
      let left = f.leaves ∙ ap (λ (b : Bool). unless_untouched b past f.entry) (same_doubt f.doubt true turn.reply f.reply is) in
      subst (λ (s : OfficeState). IsSomeAnd s.doubt (λ entry. outcome founder limit desk s.settled turn.request t ≡ Adds entry)) (sym left) f.adds

  takes_doubts : (before : OfficeState) (turn : CometTurn) (t : ℤ) (after : OfficeState) → Takes founder limit desk before turn (Some t) after → turn.reply ≡ Refused (DiskFault true)
      → IsSomeAnd after.doubt (λ entry. outcome founder limit desk after.settled turn.request t ≡ Adds entry)
  takes_doubts before turn t after (inl f) is = let both = sym is ∙ f.reply in absurd cc
  takes_doubts before turn t after (inr a) is = own_doubt a.mended turn t after is (acts_rise a.mended turn t after true is a.acts)

  pub turn_doubts : (before after : OfficeState) (turn : CometTurn) (t : ℤ) → IsTurn founder limit desk before turn after → turn.reading ≡ Some t → turn.reply ≡ Refused (DiskFault true)
      → IsSomeAnd after.doubt (λ entry. outcome founder limit desk after.settled turn.request t ≡ Adds entry)
  turn_doubts before after turn t is reading reply = takes_doubts before turn t after (subst (λ r. Takes founder limit desk before turn r after) reading is.takes) reply

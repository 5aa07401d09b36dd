-- What becomes of a request, question by question.
use Rattle.std.proofs.Common.{◌≡◌, ℕ, ℤ, List, length, ◌<◌, Option, Result, Ok, Err, refl, sym, ap, subst, ◌∙◌, inl, inr, arith}
use Rattle.std.specs.Prelude.{IfErr}
use Rattle.act_bodies.specs.declared.key.Key.{Key}
use Rattle.act_model.specs.declared.deed.Deed.{Deed}
use Rattle.act_model.specs.declared.deed.Deed.TheVariants.{Enrolled, Stationed, Coded, Submitted, Designated, Attributed, Released, Identified, Separated, Judged, Numbered, Opened, Retracted, Nothing}
use Rattle.act_model.specs.declared.entry.Entry.{Entry}
use Rattle.act_model.specs.declared.reply.Refusal.{Refusal}
use Rattle.act_model.specs.declared.reply.Refusal.TheVariants.{NoMemory}
use Rattle.act_model.specs.declared.reply.Reply.TheVariants.{Done, Refused}
use Rattle.read_ahead.specs.declared.body.Body.TheVariants.{NoRoom}
use Rattle.act_model.specs.declared.request.Request.{Request}
use Rattle.act_model.specs.declared.roster.TheConstants.{CALLERS}
use Rattle.act_model.specs.Rows.{◌>>=◌, IsDue}
use Rattle.act_model.specs.Roster.{members, with_enrolled}
use Rattle.act_model.specs.History.{Kept}
use Rattle.act_model.specs.Hearing.{bytes_in}
use Rattle.act_model.specs.Turns.{Answers}
use Rattle.act_model.specs.Step.{Outcome, Refuses, Tells, outcome, tells, step, reply_and_history}
use Rattle.desk_core.specs.Office.{Room, Fits}
use Rattle.desk_core.proofs.ClaimLemmas.{outcome_bytes}
use Rattle.desk_core.specs.Preparing.{IsRefused, Prepares, IsPrepared, IsTold}
use Rattle.desk_core.specs.declared.prepared.Prep.{Prep}
use Rattle.desk_core.specs.declared.prepared.Prep.TheVariants as prep

module _ (founder : Key) (limit : Option ℕ) (past : List Entry) (q : Request) (t : ℤ) where
  -- a body for which there was no room
  pub outcome_no_room : q.body ≡ NoRoom → outcome founder limit past q t ≡ Refuses NoMemory
  outcome_no_room none = outcome_bytes founder limit past q t NoMemory (ap bytes_in none)

  pub answers_told : (text : List ℕ) → outcome founder limit past q t ≡ Tells text → Answers founder limit past q t (Done text) past
  unfolding step
  answers_told text is = inl (ap (reply_and_history past) is)

  pub answers_refused : (r : Refusal) → IsRefused (outcome founder limit past q t) r → Answers founder limit past q t (Refused r) past
  unfolding step
  answers_refused r (inl is) = inl (ap (reply_and_history past) is)
  answers_refused r (inr wants) = inr (ap (λ (r : Refusal). Refused r) wants, refl)

-- what a query is told, where this becomes of it
pub told_as : (o : Outcome) (due result : Result (List ℕ) Refusal) → o ≡ tells due → IsDue due result → IsTold o result
told_as o due (Ok text) is told = is ∙ ap tells told
told_as o due (Err r) is (inl told) = inl (is ∙ ap tells told)
told_as o due (Err r) is (inr wants) = inr wants

-- one refusal is due, and no other
pub one_refusal : (A : Type 0) (o : Outcome) (r refusal : Refusal) → o ≡ Refuses r → o ≡ Refuses refusal → ◌≡◌ {A = Result A Refusal} (Err r) (Err refusal)
one_refusal A o r refusal is other = let both = sym is ∙ other in cc

-- a query that is refused is answered so
pub query_refused : {A : Type 0} (o : Outcome) (due : Result (List ℕ) Refusal) (result : Result A Refusal) (refusal : Refusal) → o ≡ tells due → IfErr due (λ r. result ≡ Err r) → o ≡ Refuses refusal → result ≡ Err refusal
query_refused o (Ok text) result refusal is refused other = let both = sym is ∙ other in absurd cc
query_refused o (Err r) result refusal is refused other = let both = sym is ∙ other in cc

-- ---- the parts of an act's step

-- what is refused before memory is asked for
pub taken_prep : {A : Type 0} (due : Result A Refusal) (p : Prep) → IfErr due (λ r. ◌≡◌ {A = Result Prep Refusal} (Ok p) (Err r)) → IfErr due (λ r. p ≡ prep.Refused r)
taken_prep (Ok a) p is = tt
taken_prep (Err r) p is = absurd cc

pub refused_prep : {A : Type 0} (due : Result A Refusal) (r : Refusal) → IfErr due (λ refusal. ◌≡◌ {A = Result Prep Refusal} (Err r) (Err refusal)) → IfErr due (λ refusal. prep.Refused r ≡ prep.Refused refusal)
refused_prep (Ok a) r is = tt
refused_prep (Err refusal) r is = cc

-- the same outcome
pub prepared_as : (limit : Option ℕ) (past : List Entry) (o o' : Outcome) (spare : Room) (result : Result Prep Refusal) → o' ≡ o → IsPrepared limit past o spare result → IsPrepared limit past o' spare result
prepared_as limit past o o' spare result same is = subst (λ (x : Outcome). IsPrepared limit past x spare result) (sym same) is

-- where there was no room for the body, it is refused as out of memory
pub no_room_prep : (limit : Option ℕ) (past : List Entry) (due : Outcome) (spare : Room) (p : Prep) → due ≡ Refuses NoMemory → Prepares limit past due spare p → p ≡ prep.Refused NoMemory
no_room_prep limit past due spare (prep.Kept reply) none is = absurd cc
no_room_prep limit past due spare (prep.Refused r) none (inl is) = let same = sym none ∙ is in cc
no_room_prep limit past due spare (prep.Refused r) none (inr wants) = ap (λ (x : Refusal). prep.Refused x) wants
no_room_prep limit past due spare (prep.Ready ready) none is = let added = is.0 in absurd cc

-- ---- the roster with a deed

-- a deed that fits leaves no more callers than there may be
pub callers_with : (past : List Deed) (deed : Deed) → length (members past) < CALLERS → Fits past deed → length (with_enrolled deed (members past)) < CALLERS
callers_with past (Enrolled member) within fits = omega arith
callers_with past (Stationed code from to) within fits = within
callers_with past (Coded kind letter word) within fits = within
callers_with past (Submitted lines) within fits = within
callers_with past (Designated tracklets given discovery) within fits = within
callers_with past (Attributed t to) within fits = within
callers_with past (Released t) within fits = within
callers_with past (Identified p s) within fits = within
callers_with past (Separated s) within fits = within
callers_with past (Judged p u oppositions) within fits = within
callers_with past (Numbered pairs) within fits = within
callers_with past (Opened half given carried) within fits = within
callers_with past (Retracted k) within fits = within
callers_with past Nothing within fits = within

-- What the turns of a conduct left is kept to the end of a run.
use Rattle.std.proofs.Common.{◌≡◌, ◌⊎◌, ℕ, ◌≤◌, ℤ, List, [], ◌∷◌, true, Option, Some, None, refl, sym, ap, subst, inl, inr, ⊎_elim, le_refl}
use Rattle.std.specs.Prelude.{IfSome, IsSomeAnd}
use Rattle.disk_model.specs.Crashes.{During}
use Rattle.disk_model.specs.Moments.{during_nothing, during_weaker, during_joined}
use Rattle.act_bodies.specs.declared.key.Key.{Key}
use Rattle.act_model.specs.declared.entry.Entry.{Entry}
use Rattle.act_model.specs.declared.keeper.OfficeState.{OfficeState}
use Rattle.act_model.specs.declared.reply.Reply.TheVariants.{Done}
use Rattle.act_model.specs.declared.request.Request.{Request}
use Rattle.act_model.specs.Conducts.{Extends, EitherWay, IsAcknowledged}
use Rattle.act_model.specs.Legal.{IsLegal}
use Rattle.act_model.specs.Replies.{entry_answer}
use Rattle.act_model.specs.Requests.{is_act}
use Rattle.act_model.specs.Step.{Adds, outcome, reply_and_history, step}
use Rattle.act_model.specs.Turns.{Turn, TakesReading, Takes, Settles, FailsToKeep, Mends, IsTurn, Conduct, at_rest}
use Rattle.mpc_desk.specs.Desks.{RestsAt}
use Rattle.mpc_desk.specs.Files.{Stands}
use Rattle.command_ends.specs.Disks.{DiskWords}
use Rattle.run_command.specs.Conducted.{InsideTurn, LeavesIn, Rests, TurnsOn, Holds, KeepsEach}
use Rattle.run_command.proofs.Laws.{KeptLaws}
use Rattle.run_command.proofs.Closings.{nothing_mended, mended_extends, mended_has}
use Rattle.run_command.proofs.Conducting.{leaves_first, extends_on}

-- the image stands for a legal history that goes on from this one
record From (founder : Key) (settled : List Entry) (image : List ℕ) : Type 0 where
  history : List Entry
  stands : Stands image history
  legal : IsLegal founder history
  goes_on : Extends settled history

from_rest : (founder : Key) (state : OfficeState) (image : List ℕ) → EitherWay (IsLegal founder) state → RestsAt state image → From founder state.settled image
from_rest founder state image legal (inl stands) = record { history = state.settled; stands = stands; legal = legal.0; goes_on = ([], refl) }
from_rest founder state image legal (inr doubted) = by state.doubt legal.1 doubted
  where
    by : (doubt : Option Entry) → IfSome doubt (λ entry. IsLegal founder (entry ∷ state.settled)) → IsSomeAnd doubt (λ entry. Stands image (entry ∷ state.settled)) → From founder state.settled image
    by None either_way none = absurd none
    by (Some entry) either_way stands = record { history = entry ∷ state.settled; stands = stands; legal = either_way; goes_on = (entry ∷ [], refl) }

-- the step makes this history where it adds an entry
step_adds : (founder : Key) (limit : Option ℕ) (past : List Entry) (q : Request) (t : ℤ) (entry : Entry) → outcome founder limit past q t ≡ Adds entry
    → step founder limit past q t ≡ (Done (entry_answer past entry), entry ∷ past)
unfolding step
step_adds founder limit past q t entry adds = ap (reply_and_history past) adds

-- an act that was answered is in each later legal history
stays_answered : KeptLaws → (founder : Key) (mended : List Entry) (q : Request) (text : List ℕ) (settled later : List Entry) → IsLegal founder later → Extends settled later
    → IsAcknowledged founder mended q text settled → IsAcknowledged founder mended q text later
stays_answered laws founder mended q text settled later legal goes_on a = record {
  bytes = a.bytes;
  caller = a.caller;
  number = a.number;
  entry = a.entry;
  body = a.body;
  asks = a.asks;
  numbered = a.numbered;
  found = laws.kept founder settled later a.caller.number a.number a.entry legal goes_on a.found;
  same = a.same;
  answer = a.answer;
}

module _ (laws : KeptLaws) (founder : Key) (limit : Option ℕ)
    (grow : (before after : OfficeState) (turns : List Turn) → Conduct founder limit before turns after → Extends before.settled after.settled) where
  -- ---- images of a conduct

  goes_on_from : (earlier settled : List Entry) (image : List ℕ) → Extends earlier settled → From founder settled image → From founder earlier image
  goes_on_from earlier settled image extends from =
      record { history = from.history; stands = from.stands; legal = from.legal; goes_on = extends_on founder limit earlier settled from.history extends from.goes_on }

  from_inside : (before : OfficeState) (turn : Turn) (reading : Option ℤ) (after : OfficeState) (takes : Takes founder limit before turn reading after) (image : List ℕ) → TakesReading turn.request.verb reading
      → EitherWay (IsLegal founder) before → InsideTurn founder limit before turn reading after takes image → From founder before.settled image
  from_inside before turn None after takes image reads legal inside = absurd inside
  from_inside before turn (Some t) after (inl fails) image reads legal inside = absurd inside
  from_inside before turn (Some t) after (inr acts) image reads legal (entry, adds, stands) = record {
    history = entry ∷ acts.mended;
    stands = stands;
    legal = laws.legal_step founder limit acts.mended (entry ∷ acts.mended) turn.request t (Done (entry_answer acts.mended entry))
        (mended_has (IsLegal founder) before acts.mended legal acts.mends) reads.1 (step_adds founder limit acts.mended turn.request t entry adds);
    goes_on = extends_on founder limit before.settled acts.mended (entry ∷ acts.mended) (mended_extends before.settled before.doubt acts.mended acts.mends) (entry ∷ [], refl);
  }

  legal_after : (before : OfficeState) (turn : Turn) (between : OfficeState) → IsTurn founder limit before turn between → EitherWay (IsLegal founder) before → EitherWay (IsLegal founder) between
  legal_after before turn between is legal = laws.legal_conduct founder limit before between (turn ∷ []) legal (between, is, refl)

  leaves_from : (before : OfficeState) (turns : List Turn) (after : OfficeState) (c : Conduct founder limit before turns after) (image : List ℕ) → EitherWay (IsLegal founder) before
      → LeavesIn founder limit before turns after c image → From founder before.settled image
  leaves_from before [] after c image legal rests = from_rest founder before image legal rests
  leaves_from before (turn ∷ turns) after (between, is, later) image legal (inl rests) = from_rest founder before image legal rests
  leaves_from before (turn ∷ turns) after (between, is, later) image legal (inr (inl inside)) =
      from_inside before turn turn.reading between is.takes image is.reads legal inside
  leaves_from before (turn ∷ turns) after (between, is, later) image legal (inr (inr rest)) =
      goes_on_from before.settled between.settled image (grow before between (turn ∷ []) (between, is, refl))
      (leaves_from between turns after later image (legal_after before turn between is legal) rest)

  -- ---- the answer of a turn

  -- an act that was answered at the history that mending left
  record Acknowledged (before : OfficeState) (turn : Turn) (after : OfficeState) : Type 0 where
    mended : List Entry
    mends : Mends before.settled before.doubt mended
    answered : (text : List ℕ) → is_act turn.request.verb ≡ true → turn.reply ≡ Done text → IsAcknowledged founder mended turn.request text after.settled

  settled_so : (mended : List Entry) (turn : Turn) (t : ℤ) (after : OfficeState) → turn.reading ≡ Some t → TakesReading turn.request.verb (Some t)
      → Settles founder limit mended turn t after ⊎ FailsToKeep founder limit mended turn t after
      → (text : List ℕ) → is_act turn.request.verb ≡ true → turn.reply ≡ Done text → IsAcknowledged founder mended turn.request text after.settled
  settled_so mended turn t after reading reads (inl settles) text act done =
      let takes : Takes founder limit (at_rest mended) turn (Some t) (at_rest after.settled) =
      inr (record { mended = mended; mends = refl; acts = inl (record { answers = settles.answers; settled = refl }) }) in
      let is : IsTurn founder limit (at_rest mended) turn (at_rest after.settled) = record {
        reads = subst (λ (r : Option ℤ). TakesReading turn.request.verb r) (sym reading) reads;
        takes = subst (λ (r : Option ℤ). Takes founder limit (at_rest mended) turn r (at_rest after.settled)) (sym reading) takes;
      } in
      let told = laws.acknowledged founder limit (at_rest mended) (at_rest after.settled) turn text is act done in
      subst (λ (h : List Entry). IsAcknowledged founder h turn.request text after.settled) told.1 told.2
  settled_so mended turn t after reading reads (inr fails) text act done = let says = fails.reply in absurd cc

  acknowledged : (before : OfficeState) (turn : Turn) (after : OfficeState) → IsTurn founder limit before turn after → Acknowledged before turn after
  acknowledged before turn after is = by turn.reading refl is.reads is.takes
    where
      by : (reading : Option ℤ) → turn.reading ≡ reading → TakesReading turn.request.verb reading → Takes founder limit before turn reading after → Acknowledged before turn after
      by None reading query asks =
          record { mended = before.settled; mends = nothing_mended before.settled before.doubt; answered = λ text act done. absurd cc }
      by (Some t) reading reads (inl fails) =
          let says = fails.reply in
          record { mended = before.settled; mends = nothing_mended before.settled before.doubt; answered = λ text act done. absurd cc }
      by (Some t) reading reads (inr acts) =
          record { mended = acts.mended; mends = acts.mends; answered = settled_so acts.mended turn t after reading reads acts.acts }

  module _ {D : Type 0} (on : DiskWords D) (only_now : (disk : D) (image : List ℕ) → on.since disk (on.moment disk) image → on.leaves disk image) where
    -- the images of the turns on a disk
    pub turns_during : (before : OfficeState) (turns : List Turn) (after : OfficeState) (c : Conduct founder limit before turns after) (old left : D) → TurnsOn on founder limit before turns after c old left
        → During on.moment on.since old left (LeavesIn founder limit before turns after c)
    turns_during before [] after c old left same =
        subst (λ (d : D). During on.moment on.since old d (LeavesIn founder limit before [] after c)) (sym same) (during_nothing old _)
    turns_during before (turn ∷ turns) after (between, is, later) old left (then, one, rest) =
        during_joined
        (during_weaker _
        (λ image has. ⊎_elim
        (λ rests. inl rests)
        (λ other. ⊎_elim (λ inside. inr (inl inside)) (λ rests. inr (inr (leaves_first founder limit between turns after later image rests))) other)
        has)
        one.images)
        (during_weaker _ (λ image has. inr (inr has)) (turns_during between turns after later then left rest))

    module _ (left end : D) (none : During on.moment on.since left end (λ _. ⊥)) where
      -- what was left at this disk is in each image since
      holds_since : (state : OfficeState) (turns : List Turn) (after : OfficeState) (c : Conduct founder limit state turns after) (then : D) → EitherWay (IsLegal founder) state → Rests on then state
          → TurnsOn on founder limit state turns after c then left → (on.moment then ≤ on.moment end) × ((image : List ℕ) → on.since end (on.moment then) image → From founder state.settled image)
      holds_since state turns after c then legal rests took =
          let run : During on.moment on.since then end (LeavesIn founder limit state turns after c) =
          during_joined (turns_during state turns after c then left took) (during_weaker _ (λ image never. absurd never) none) in (
            run.later,
            λ image was. ⊎_elim
                (λ earlier. from_rest founder state image legal (rests image (only_now then image earlier)))
                (λ has. leaves_from state turns after c image legal has)
                (run.either (on.moment then) image (le_refl _) was),
          )

      pub keeps_each : (before : OfficeState) (turns : List Turn) (after : OfficeState) (c : Conduct founder limit before turns after) (old : D) → EitherWay (IsLegal founder) before → Rests on old before
          → TurnsOn on founder limit before turns after c old left → KeepsEach on end founder limit before turns after c old left
      keeps_each before [] after c old legal rests took = took
      keeps_each before (turn ∷ turns) after (between, is, later) old legal rests (then, one, rest) =
          let legal_now = legal_after before turn between is legal in
          let rests_now = one.at_rest rests in
          let since = holds_since between turns after later then legal_now rests_now rest in
          let told = acknowledged before turn between is in
          let holds : (image : List ℕ) → on.since end (on.moment then) image → Holds founder told.mended turn between.settled image =
          λ image was. let from = since.1 image was in record {
            history = from.history;
            stands = from.stands;
            legal = from.legal;
            goes_on = from.goes_on;
            answered = λ text act done.
                stays_answered laws founder told.mended turn.request text between.settled from.history from.legal from.goes_on (told.answered text act done);
          } in
          (then, one, record { later = since.0; mended = told.mended; mends = told.mends; each = holds }, keeps_each between turns after later then legal_now rests_now rest)

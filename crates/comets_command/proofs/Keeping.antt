-- What the turns of a conduct left is kept to the end of a run.
use Rattle.std.proofs.Common.{◌≡◌, ℕ, ◌≤◌, ℤ, List, [], ◌∷◌, Option, Some, None, refl, sym, ap, subst, inl, inr, ⊎_elim, le_refl}
use Rattle.std.specs.Prelude.{IfSome, IsSomeAnd}
use Rattle.disk_model.specs.Crashes.{During}
use Rattle.disk_model.specs.Moments.{during_nothing, during_weaker, during_joined}
use Rattle.act_bodies.specs.declared.key.Key.{Key}
use Rattle.act_model.specs.declared.deed.Deed.{Deed}
use Rattle.act_model.specs.declared.entry.Entry.{Entry}
use Rattle.act_model.specs.declared.keeper.OfficeState.{OfficeState}
use Rattle.act_model.specs.Conducts.{Extends, EitherWay}
use Rattle.mpc_desk.specs.Desks.{RestsAt}
use Rattle.mpc_desk.specs.Files.{Stands}
use Rattle.command_ends.specs.Disks.{DiskWords}
use Rattle.comet_model.specs.declared.reply.CometReply.TheVariants.{Done}
use Rattle.comet_model.specs.declared.request.CometRequest.{CometRequest}
use Rattle.comet_model.specs.Conducts.{IsAcknowledged}
use Rattle.comet_model.specs.Replies.{entry_answer}
use Rattle.comet_model.specs.Step.{Adds, outcome, reply_and_entries, step}
use Rattle.comet_model.specs.Turns.{CometTurn, TakesReading}
use Rattle.comets_command.specs.Terms.{Terms, IsLegalIn, TakesIn, IsTurnIn, ConductIn}
use Rattle.comets_command.specs.Conducted.{InsideTurn, LeavesIn, Rests, TurnsOn, Holds, KeepsEach}
use Rattle.comets_command.specs.Laws.{RegisterLaws}
use Rattle.comets_command.proofs.Closings.{mended_extends, mended_has}
use Rattle.comets_command.proofs.Conducting.{leaves_first, extends_on}

-- the image stands for a legal register that goes on from these entries
record From (terms : Terms) (settled : List Entry) (image : List ℕ) : Type 0 where
  entries : List Entry
  stands : Stands image entries
  legal : IsLegalIn terms entries
  goes_on : Extends settled entries

from_rest : (terms : Terms) (state : OfficeState) (image : List ℕ) → EitherWay (IsLegalIn terms) state → RestsAt state image → From terms state.settled image
from_rest terms state image legal (inl stands) = record { entries = state.settled; stands = stands; legal = legal.0; goes_on = ([], refl) }
from_rest terms state image legal (inr doubted) = by state.doubt legal.1 doubted
  where
    by : (doubt : Option Entry) → IfSome doubt (λ entry. IsLegalIn terms (entry ∷ state.settled)) → IsSomeAnd doubt (λ entry. Stands image (entry ∷ state.settled)) → From terms state.settled image
    by None either_way none = absurd none
    by (Some entry) either_way stands = record { entries = entry ∷ state.settled; stands = stands; legal = either_way; goes_on = (entry ∷ [], refl) }

-- the step makes these entries where it adds one
step_adds : (founder : Key) (limit : Option ℕ) (desk : List Deed) (past : List Entry) (q : CometRequest) (t : ℤ) (entry : Entry) → outcome founder limit desk past q t ≡ Adds entry
    → step founder limit desk past q t ≡ (Done (entry_answer desk past entry), entry ∷ past)
unfolding step
step_adds founder limit desk past q t entry adds = ap (reply_and_entries desk past) adds

module _ (laws : RegisterLaws) (terms : Terms) where
  -- an act that was answered is in each later legal register
  stays_answered : (q : CometRequest) (text : List ℕ) (settled later : List Entry) → IsLegalIn terms later → Extends settled later → IsAcknowledged terms.desk q text settled → IsAcknowledged terms.desk q text later
  stays_answered q text settled later legal extends told = record {
    bytes = told.bytes;
    number = told.number;
    entry = told.entry;
    body = told.body;
    numbered = told.numbered;
    found = laws.kept terms.founder terms.desk settled later told.number told.entry legal extends told.found;
    same = told.same;
    answer = told.answer;
  }

  -- ---- images of a conduct

  goes_on_from : (earlier settled : List Entry) (image : List ℕ) → Extends earlier settled → From terms settled image → From terms earlier image
  goes_on_from earlier settled image extends from =
      record { entries = from.entries; stands = from.stands; legal = from.legal; goes_on = extends_on earlier settled from.entries extends from.goes_on }

  from_inside : (before : OfficeState) (turn : CometTurn) (reading : Option ℤ) (after : OfficeState) (takes : TakesIn terms before turn reading after) (image : List ℕ) → TakesReading turn.request.verb reading
      → EitherWay (IsLegalIn terms) before → InsideTurn terms before turn reading after takes image → From terms before.settled image
  from_inside before turn None after takes image reads legal inside = absurd inside
  from_inside before turn (Some t) after (inl fails) image reads legal inside = absurd inside
  from_inside before turn (Some t) after (inr acts) image reads legal (entry, adds, stands) = record {
    entries = entry ∷ acts.mended;
    stands = stands;
    legal = laws.legal_step terms.founder (Some terms.limit) terms.desk acts.mended (entry ∷ acts.mended) turn.request t (Done (entry_answer terms.desk acts.mended entry))
        (mended_has (IsLegalIn terms) before acts.mended legal acts.mends) reads.1 (step_adds terms.founder (Some terms.limit) terms.desk acts.mended turn.request t entry adds);
    goes_on = extends_on before.settled acts.mended (entry ∷ acts.mended) (mended_extends before.settled before.doubt acts.mended acts.mends) (entry ∷ [], refl);
  }

  legal_after : (before : OfficeState) (turn : CometTurn) (between : OfficeState) → IsTurnIn terms before turn between → EitherWay (IsLegalIn terms) before → EitherWay (IsLegalIn terms) between
  legal_after before turn between is legal = laws.legal_conduct terms.founder (Some terms.limit) terms.desk before between (turn ∷ []) legal (between, is, refl)

  leaves_from : (before : OfficeState) (turns : List CometTurn) (after : OfficeState) (c : ConductIn terms before turns after) (image : List ℕ) → EitherWay (IsLegalIn terms) before
      → LeavesIn terms before turns after c image → From terms before.settled image
  leaves_from before [] after c image legal rests = from_rest terms before image legal rests
  leaves_from before (turn ∷ turns) after (between, is, later) image legal (inl rests) = from_rest terms before image legal rests
  leaves_from before (turn ∷ turns) after (between, is, later) image legal (inr (inl inside)) =
      from_inside before turn turn.reading between is.takes image is.reads legal inside
  leaves_from before (turn ∷ turns) after (between, is, later) image legal (inr (inr rest)) =
      goes_on_from before.settled between.settled image (laws.grow terms.founder (Some terms.limit) terms.desk before between (turn ∷ []) (between, is, refl))
      (leaves_from between turns after later image (legal_after before turn between is legal) rest)

  module _ {D : Type 0} (on : DiskWords D) (only_now : (disk : D) (image : List ℕ) → on.since disk (on.moment disk) image → on.leaves disk image) where
    -- the images of the turns on a disk
    pub turns_during : (before : OfficeState) (turns : List CometTurn) (after : OfficeState) (c : ConductIn terms before turns after) (old left : D) → TurnsOn on terms before turns after c old left
        → During on.moment on.since old left (LeavesIn terms before turns after c)
    turns_during before [] after c old left same =
        subst (λ (d : D). During on.moment on.since old d (LeavesIn terms before [] after c)) (sym same) (during_nothing old _)
    turns_during before (turn ∷ turns) after (between, is, later) old left (then, one, rest) =
        during_joined
        (during_weaker _
        (λ image has. ⊎_elim
        (λ rests. inl rests)
        (λ other. ⊎_elim (λ inside. inr (inl inside)) (λ rests. inr (inr (leaves_first terms between turns after later image rests))) other)
        has)
        one.images)
        (during_weaker _ (λ image has. inr (inr has)) (turns_during between turns after later then left rest))

    module _ (left end : D) (none : During on.moment on.since left end (λ _. ⊥)) where
      -- what was left at this disk is in each image since
      holds_since : (state : OfficeState) (turns : List CometTurn) (after : OfficeState) (c : ConductIn terms state turns after) (then : D) → EitherWay (IsLegalIn terms) state → Rests on then state
          → TurnsOn on terms state turns after c then left → (on.moment then ≤ on.moment end) × ((image : List ℕ) → on.since end (on.moment then) image → From terms state.settled image)
      holds_since state turns after c then legal rests took =
          let run : During on.moment on.since then end (LeavesIn terms state turns after c) =
          during_joined (turns_during state turns after c then left took) (during_weaker _ (λ image never. absurd never) none) in (
            run.later,
            λ image was. ⊎_elim
                (λ earlier. from_rest terms state image legal (rests image (only_now then image earlier)))
                (λ has. leaves_from state turns after c image legal has)
                (run.either (on.moment then) image (le_refl _) was),
          )

      pub keeps_each : (before : OfficeState) (turns : List CometTurn) (after : OfficeState) (c : ConductIn terms before turns after) (old : D) → EitherWay (IsLegalIn terms) before → Rests on old before
          → TurnsOn on terms before turns after c old left → KeepsEach on end terms before turns after c old left
      keeps_each before [] after c old legal rests took = took
      keeps_each before (turn ∷ turns) after (between, is, later) old legal rests (then, one, rest) =
          let legal_now = legal_after before turn between is legal in
          let rests_now = one.at_rest rests in
          let since = holds_since between turns after later then legal_now rests_now rest in
          let holds : (image : List ℕ) → on.since end (on.moment then) image → Holds terms turn between.settled image =
          λ image was. let from = since.1 image was in record {
            entries = from.entries;
            stands = from.stands;
            legal = from.legal;
            goes_on = from.goes_on;
            answered = λ text act done.
                stays_answered turn.request text between.settled from.entries from.legal from.goes_on
                (laws.acknowledged terms.founder (Some terms.limit) terms.desk before between turn text is act done);
          } in
          (then, one, record { later = since.0; each = holds }, keeps_each between turns after later then legal_now rests_now rest)

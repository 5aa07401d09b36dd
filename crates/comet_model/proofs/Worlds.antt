-- What holds of every world.
use Rattle.std.proofs.Common.{◌≡◌, ℕ, ℤ, Bool, true, false, cond, List, [], ◌∷◌, Option, Some, None, refl, sym, ap, subst, ◌∙◌, inl, inr}
use Rattle.std.specs.Prelude.{IfSome}
use Rattle.obs_time.specs.Instants.{IsInstantNs}
use Rattle.act_bodies.specs.declared.key.Key.{Key}
use Rattle.act_model.specs.declared.deed.Deed.{Deed}
use Rattle.act_model.specs.declared.entry.Entry.{Entry}
use Rattle.act_model.specs.declared.keeper.OfficeState.{OfficeState}
use Rattle.act_model.specs.Conducts.{Extends, EitherWay}
use Rattle.act_model.specs.Deeds.{deeds}
use Rattle.act_model.specs.History.{Kept, numbered_entry, is_numbered, EachNumberOnce}
use Rattle.act_model.specs.Worlds.{ComesToRest}
use Rattle.comet_model.specs.declared.reply.CometReply.TheVariants.{Done}
use Rattle.comet_model.specs.declared.request.CometRequest.{CometRequest}
use Rattle.comet_model.specs.Requests.{is_act}
use Rattle.comet_model.specs.Replies.{entry_answer}
use Rattle.comet_model.specs.Step.{reply_and_entries}
use Rattle.comet_model.specs.Turns.{CometTurn, IsTurn}
use Rattle.comet_model.specs.Legal.{IsLegal}
use Rattle.comet_model.specs.Worlds.{WorldState, new_register, Event, Received, Lost, Mended, Unmended, Stopped, StoppedInside, Reopened, Grew, LeavesEntry, LeavesInside, Happens, World, AreStillAcknowledged, AreAnsweredAgain}
use Rattle.comet_model.proofs.Acknowledged.{Answered, is_acknowledged, answered_on, answered_again, turn_answers}
use Rattle.comet_model.proofs.Conducts.{mends_extends, extends_on, conduct_extends, conduct_holds, mended_holds}
use Rattle.comet_model.proofs.Designating.{ActsFit}
use Rattle.comet_model.proofs.Findings.{AreSame, found_longer}
use Rattle.comet_model.proofs.Legal.{FoundStays, legal_added, legal_once, legal_prefix, legal_again, answer_again}
use Rattle.comet_model.proofs.Steps.{step_is}

kept_is : (one other : Kept) → Some one ≡ Some other → one ≡ other
kept_is one other is = cc

-- an entry that stands for a number is in the register, after those that stand before it
kept_among : (past : List Entry) (caller number : ℕ) (k : Kept) → numbered_entry past caller number ≡ Some k → Extends (k.entry ∷ k.before) past
kept_among [] caller number k is = absurd cc
kept_among (e ∷ past) caller number k is = by (is_numbered caller number e) (kept_among past caller number k) is
  where
    by : (b : Bool) → (numbered_entry past caller number ≡ Some k → Extends (k.entry ∷ k.before) past) → cond b (Some (record { entry = e; before = past })) (numbered_entry past caller number) ≡ Some k
        → Extends (k.entry ∷ k.before) (e ∷ past)
    by true rest found = ([], let same : record { entry = e; before = past } ≡ k = kept_is (record { entry = e; before = past }) k found in ap (λ (x : Kept). x.entry ∷ x.before) same)
    by false rest found = let (newer, more) = rest found in (e ∷ newer, ap (λ (h : List Entry). e ∷ h) more)

-- ---- acts that were answered

module _ (founder : Key) where
  abbrev IsAnswered : List Deed → List Entry → CometTurn → Type 0
  IsAnswered desk now turn = (text : List ℕ) → is_act turn.request.verb ≡ true → turn.reply ≡ Done text → Answered founder desk turn.request text now

  abbrev AreAnswered : List Deed → List Entry → List CometTurn → Type 0
  AreAnswered desk now [] = Unit {0}
  AreAnswered desk now (turn ∷ received) = IsAnswered desk now turn × AreAnswered desk now received

  all_on : (desk : List Deed) (before now : List Entry) (received : List CometTurn) → IsLegal founder desk now → Extends before now → AreAnswered desk before received → AreAnswered desk now received
  all_on desk before now [] legal extends all = tt
  all_on desk before now (turn ∷ received) legal extends all = (
    λ text act reply. answered_on founder desk turn.request text before now (all.0 text act reply) legal extends,
    all_on desk before now received legal extends all.1,
  )

  all_acknowledged : (desk : List Deed) (now : List Entry) (received : List CometTurn) → AreAnswered desk now received → AreStillAcknowledged desk now received
  all_acknowledged desk now [] all = tt
  all_acknowledged desk now (turn ∷ received) all =
      (λ text act reply. is_acknowledged founder desk turn.request text now (all.0 text act reply), all_acknowledged desk now received all.1)

  all_again : (desk : List Deed) (now : List Entry) (received : List CometTurn) → AreAnswered desk now received → AreAnsweredAgain founder desk now received
  all_again desk now [] all = tt
  all_again desk now (turn ∷ received) all =
      (λ text act reply limit reading. answered_again founder desk turn.request text now (all.0 text act reply) limit reading, all_again desk now received all.1)

  -- an answer stays as the office's history grows
  answered_beside : (desk other : List Deed) → FoundStays desk other → (q : CometRequest) (text : List ℕ) (now : List Entry) → IsLegal founder desk now → Answered founder desk q text now → Answered founder other q text now
  answered_beside desk other stays q text now legal a =
      let among = kept_among now 0 a.number a.entry a.found in
      let still = legal_prefix founder desk (a.entry.entry ∷ a.entry.before) now legal among in
      record {
        bytes = a.bytes;
        number = a.number;
        naming = a.naming;
        entry = a.entry;
        body = a.body;
        hears = a.hears;
        found = a.found;
        same = a.same;
        answer = a.answer ∙ sym (answer_again founder founder desk other stays a.entry.entry a.entry.before still);
      }

  all_beside : (desk other : List Deed) → FoundStays desk other → (now : List Entry) (received : List CometTurn) → IsLegal founder desk now → AreAnswered desk now received → AreAnswered other now received
  all_beside desk other stays now [] legal all = tt
  all_beside desk other stays now (turn ∷ received) legal all =
      (λ text act reply. answered_beside desk other stays turn.request text now legal (all.0 text act reply), all_beside desk other stays now received legal all.1)

-- ---- what holds of each state

record Holds (founder : Key) (desk : List Deed) (register : OfficeState) (received : List CometTurn) : Type 0 where
  legal : EitherWay (IsLegal founder desk) register
  answered : AreAnswered founder desk register.settled received

module _ (founder : Key) (limit : Option ℕ) where
  module _ (desk : List Deed) where
    -- ---- one event

    turn_extends : (before : OfficeState) (turn : CometTurn) (next : OfficeState) → IsTurn founder limit desk before turn next → Extends before.settled next.settled
    turn_extends before turn next is = conduct_extends founder limit desk before (turn ∷ []) next (next, is, refl)

    turn_legal : (before : OfficeState) (turn : CometTurn) (next : OfficeState) → EitherWay (IsLegal founder desk) before → IsTurn founder limit desk before turn next → EitherWay (IsLegal founder desk) next
    turn_legal before turn next legal is = conduct_holds founder limit desk (IsLegal founder desk) (legal_added founder desk limit) before (turn ∷ []) next legal (next, is, refl)

    -- the register grew to a legal one
    grown : (before : OfficeState) (received : List CometTurn) (next : OfficeState) → EitherWay (IsLegal founder desk) next → Extends before.settled next.settled → Holds founder desk before received → Holds founder desk next received
    grown before received next legal extends holds = record { legal = legal; answered = all_on founder desk before.settled next.settled received legal.0 extends holds.answered }

    turn_lost : (before : OfficeState) (received : List CometTurn) (turn : CometTurn) (next : OfficeState) → Holds founder desk before received → IsTurn founder limit desk before turn next → Holds founder desk next received
    turn_lost before received turn next holds is = grown before received next (turn_legal before turn next holds.legal is) (turn_extends before turn next is) holds

    turn_received : (before : OfficeState) (received : List CometTurn) (turn : CometTurn) (next : OfficeState) → Holds founder desk before received → IsTurn founder limit desk before turn next → Holds founder desk next (turn ∷ received)
    turn_received before received turn next holds is =
        let lost = turn_lost before received turn next holds is in
        record { legal = lost.legal; answered = (λ text act reply. turn_answers founder limit desk before turn next text act reply is, lost.answered) }

    rest_extends : (before next : OfficeState) → ComesToRest before next → Extends before.settled next.settled
    rest_extends before next (mends, settled) = mends_extends founder limit desk before.settled before.doubt next.settled mends

    rest_legal : (before next : OfficeState) → EitherWay (IsLegal founder desk) before → ComesToRest before next → EitherWay (IsLegal founder desk) next
    rest_legal before next legal (mends, settled) = (
      mended_holds founder limit desk (IsLegal founder desk) (legal_added founder desk limit) before.settled before.doubt next.settled legal.0 legal.1 mends,
      subst (λ (d : Option Entry). IfSome d (λ e. IsLegal founder desk (e ∷ next.settled))) (sym settled) tt,
    )

    rests : (before : OfficeState) (received : List CometTurn) (next : OfficeState) → Holds founder desk before received → ComesToRest before next → Holds founder desk next received
    rests before received next holds is = grown before received next (rest_legal before next holds.legal is) (rest_extends before next is) holds

    -- a stop inside an act that left its entry is a turn whose reply was lost
    module _ (before : OfficeState) (q : CometRequest) (t : ℤ) (next : OfficeState) (leaves : LeavesEntry founder limit desk before q t next) where
      lost_turn : CometTurn
      lost_turn = record { request = q; reading = Some t; reply = Done (entry_answer desk leaves.mended leaves.entry); rise = 0 }

      is_turn : is_act q.verb ≡ true → IsInstantNs t → IsTurn founder limit desk before lost_turn next
      unfolding lost_turn
      is_turn act instant = record {
        reads = (act, instant);
        takes = inr (record {
          mended = leaves.mended;
          mends = leaves.mends;
          acts = inl (record {
            answers =
                inl
                (step_is founder limit desk leaves.mended q t
                ∙ ap (reply_and_entries desk leaves.mended) leaves.adds
                ∙ ap (λ (s : OfficeState). (Done (entry_answer desk leaves.mended leaves.entry), s.settled)) (sym leaves.leaves));
            settled = ap (λ (s : OfficeState). s.doubt) leaves.leaves;
          });
        });
      }

    inside_holds : (before : OfficeState) (received : List CometTurn) (q : CometRequest) (t : ℤ) (next : OfficeState) → is_act q.verb ≡ true → IsInstantNs t → Holds founder desk before received
        → LeavesInside founder limit desk before q t next → Holds founder desk next received
    inside_holds before received q t next act instant holds (inl rest) = rests before received next holds rest
    inside_holds before received q t next act instant holds (inr entry) =
        turn_lost before received (lost_turn before q t next entry) next holds (is_turn before q t next entry act instant)

    inside_extends : (before : OfficeState) (q : CometRequest) (t : ℤ) (next : OfficeState) → is_act q.verb ≡ true → IsInstantNs t → LeavesInside founder limit desk before q t next → Extends before.settled next.settled
    inside_extends before q t next act instant (inl rest) = rest_extends before next rest
    inside_extends before q t next act instant (inr entry) = turn_extends before (lost_turn before q t next entry) next (is_turn before q t next entry act instant)

  same_state : (before next : OfficeState) → next ≡ before → Extends before.settled next.settled
  same_state before next same = ([], ap (λ (s : OfficeState). s.settled) same)

  event_extends : (before : WorldState) (event : Event) (next : WorldState) → Happens founder limit before event next → Extends before.register.settled next.register.settled
  event_extends before (Received turn) next (runs, is) = turn_extends (deeds before.history) before.register turn next.register is
  event_extends before (Lost turn) next (runs, is) = turn_extends (deeds before.history) before.register turn next.register is
  event_extends before Mended next (runs, rest) = rest_extends (deeds before.history) before.register next.register rest
  event_extends before Unmended next (runs, doubted, same) = same_state before.register next.register same
  event_extends before Stopped next (stops, rest) = rest_extends (deeds before.history) before.register next.register rest
  event_extends before (StoppedInside q t) next (stops, act, instant, inside) = inside_extends (deeds before.history) before.register q t next.register act instant inside
  event_extends before Reopened next (starts, same) = same_state before.register next.register same
  event_extends before Grew next (extends, stopped, received, same) = same_state before.register next.register same

  module _ (same : AreSame) (fit : ActsFit) where
    -- what holds of a register of which these replies were received
    abbrev HoldsOf : WorldState → Type 0
    HoldsOf state = Holds founder (deeds state.history) state.register state.received

    -- it holds where the office's history is as it was, and these replies were received
    beside : (before next : WorldState) (received : List CometTurn) → next.received ≡ received → next.history ≡ before.history → Holds founder (deeds before.history) next.register received → HoldsOf next
    beside before next received received_is history_is holds =
        subst (λ (h : List Entry). Holds founder (deeds h) next.register next.received) (sym history_is) (subst (λ (turns : List CometTurn). Holds founder (deeds before.history) next.register turns) (sym received_is) holds)

    stays : (before next : WorldState) → next.register ≡ before.register → HoldsOf before → Holds founder (deeds before.history) next.register before.received
    stays before next register_is holds = subst (λ (s : OfficeState). Holds founder (deeds before.history) s before.received) (sym register_is) holds

    -- the office's history grows, and the register stays
    doubt_beside : (desk other : List Deed) → FoundStays desk other → (past : List Entry) (doubt : Option Entry) → IfSome doubt (λ e. IsLegal founder desk (e ∷ past)) → IfSome doubt (λ e. IsLegal founder other (e ∷ past))
    doubt_beside desk other found past None legal = tt
    doubt_beside desk other found past (Some e) legal = legal_again founder founder desk other found (e ∷ past) legal

    grows : (history later : List Entry) (register : OfficeState) (received : List CometTurn) → Extends history later → Holds founder (deeds history) register received → Holds founder (deeds later) register received
    grows history later register received extends holds =
        let found : FoundStays (deeds history) (deeds later) = λ naming. found_longer same fit history later naming.object extends in
        record {
          legal = (legal_again founder founder (deeds history) (deeds later) found register.settled holds.legal.0, doubt_beside (deeds history) (deeds later) found register.settled register.doubt holds.legal.1);
          answered = all_beside founder (deeds history) (deeds later) found register.settled received holds.legal.0 holds.answered;
        }

    grew : (before next : WorldState) → Extends before.history next.history → next.received ≡ before.received → next.register ≡ before.register → HoldsOf before → HoldsOf next
    grew before next extends received_is register_is holds =
        subst (λ (turns : List CometTurn). Holds founder (deeds next.history) next.register turns) (sym received_is)
        (subst (λ (s : OfficeState). Holds founder (deeds next.history) s before.received) (sym register_is) (grows before.history next.history before.register before.received extends holds))

    event_holds : (before : WorldState) (event : Event) (next : WorldState) → HoldsOf before → Happens founder limit before event next → HoldsOf next
    event_holds before (Received turn) next holds (runs, is) =
        beside before next (turn ∷ before.received) runs.2 runs.3 (turn_received (deeds before.history) before.register before.received turn next.register holds is)
    event_holds before (Lost turn) next holds (runs, is) = beside before next before.received runs.2 runs.3 (turn_lost (deeds before.history) before.register before.received turn next.register holds is)
    event_holds before Mended next holds (runs, rest) = beside before next before.received runs.2 runs.3 (rests (deeds before.history) before.register before.received next.register holds rest)
    event_holds before Unmended next holds (runs, doubted, is) = beside before next before.received runs.2 runs.3 (stays before next is holds)
    event_holds before Stopped next holds (stops, rest) = beside before next before.received stops.2 stops.3 (rests (deeds before.history) before.register before.received next.register holds rest)
    event_holds before (StoppedInside q t) next holds (stops, act, instant, inside) =
        beside before next before.received stops.2 stops.3 (inside_holds (deeds before.history) before.register before.received q t next.register act instant holds inside)
    event_holds before Reopened next holds (starts, is) = beside before next before.received starts.2 starts.3 (stays before next is holds)
    event_holds before Grew next holds (extends, stopped, received_is, register_is) = grew before next extends received_is register_is holds

    -- ---- worlds

    world_holds : (before : WorldState) (events : List Event) (next : WorldState) → HoldsOf before → World founder limit before events next → HoldsOf next
    world_holds before [] next holds is = subst HoldsOf (sym is) holds
    world_holds before (event ∷ events) next holds (between, first, others) = world_holds between events next (event_holds before event between holds first) others

    holds_of_new : (history : List Entry) → HoldsOf (new_register history)
    holds_of_new history = record { legal = (tt, tt); answered = tt }

    module _ (history : List Entry) (events : List Event) (next : WorldState) (world : World founder limit (new_register history) events next) where
      holds_now : HoldsOf next
      holds_now = world_holds (new_register history) events next (holds_of_new history) world

      pub world_legal : EitherWay (IsLegal founder (deeds next.history)) next.register
      world_legal = holds_now.legal

      once_with : (past : List Entry) (doubt : Option Entry) → IfSome doubt (λ e. IsLegal founder (deeds next.history) (e ∷ past)) → IfSome doubt (λ e. EachNumberOnce (e ∷ past))
      once_with past None legal = tt
      once_with past (Some e) legal = legal_once founder (deeds next.history) (e ∷ past) legal

      pub world_once : EitherWay EachNumberOnce next.register
      world_once = (legal_once founder (deeds next.history) next.register.settled holds_now.legal.0, once_with next.register.settled next.register.doubt holds_now.legal.1)

      pub world_acknowledged : AreStillAcknowledged (deeds next.history) next.register.settled next.received
      world_acknowledged = all_acknowledged founder (deeds next.history) next.register.settled next.received holds_now.answered

      pub world_again : AreAnsweredAgain founder (deeds next.history) next.register.settled next.received
      world_again = all_again founder (deeds next.history) next.register.settled next.received holds_now.answered

  pub world_extends : (before : WorldState) (events : List Event) (next : WorldState) → World founder limit before events next → Extends before.register.settled next.register.settled
  world_extends before [] next is = same_state before.register next.register (ap (λ (s : WorldState). s.register) is)
  world_extends before (event ∷ events) next (between, first, others) =
      extends_on founder limit [] before.register.settled between.register.settled next.register.settled (event_extends before event between first) (world_extends between events next others)

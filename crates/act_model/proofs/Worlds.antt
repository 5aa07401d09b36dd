-- What holds of every world.
use Rattle.std.proofs.Common.{◌≡◌, ℕ, ℤ, true, List, [], ◌∷◌, ◌++◌, map, reverse, Option, Some, None, refl, sym, ap, subst, ◌∙◌, append_assoc, inl, inr}
use Rattle.std.specs.Prelude.{IfSome}
use Rattle.std.proofs.lemmas.List.{reverse-append}
use Rattle.obs_time.specs.Instants.{IsInstantNs}
use Rattle.act_bodies.specs.declared.key.Key.{Key}
use Rattle.act_model.specs.declared.entry.Entry.{Entry}
use Rattle.act_model.specs.declared.keeper.OfficeState.{OfficeState}
use Rattle.act_model.specs.declared.reply.Reply.TheVariants.{Done}
use Rattle.act_model.specs.declared.request.Request.{Request}
use Rattle.act_model.specs.History.{EachNumberOnce}
use Rattle.act_model.specs.Replies.{entry_answer}
use Rattle.act_model.specs.Requests.{is_act}
use Rattle.act_model.specs.Step.{reply_and_history}
use Rattle.act_model.specs.Turns.{Turn, IsTurn, Conduct}
use Rattle.act_model.specs.Conducts.{Extends, EitherWay}
use Rattle.act_model.specs.Legal.{IsLegal}
use Rattle.act_model.specs.Worlds.{WorldState, running_world, new_office, Event, Received, Lost, Mended, Unmended, Stopped, StoppedInside, Reopened, ComesToRest, LeavesEntry, LeavesInside, Happens, World, AreStillAcknowledged, AreAnsweredAgain}
use Rattle.act_model.proofs.Conducts.{step_is, mends_extends, extends_on, conduct_extends, mended_holds}
use Rattle.act_model.proofs.Legal.{legal_added, legal_conduct, legal_once}
use Rattle.act_model.proofs.Acknowledged.{Answered, is_acknowledged, answered_on, answered_again, turn_answers}

same_extends : (past : List Entry) → Extends past past
same_extends past = ([], refl)

-- ---- acts that were answered

abbrev IsAnswered : Key → List Entry → Turn → Type 0
IsAnswered founder now turn = (text : List ℕ) → is_act turn.request.verb ≡ true → turn.reply ≡ Done text → Answered founder now turn.request text now

abbrev AreAnswered : Key → List Entry → List Turn → Type 0
AreAnswered founder now [] = Unit {0}
AreAnswered founder now (turn ∷ received) = IsAnswered founder now turn × AreAnswered founder now received

all_on : (founder : Key) (before now : List Entry) (received : List Turn) → IsLegal founder now → Extends before now → AreAnswered founder before received → AreAnswered founder now received
all_on founder before now [] legal extends all = tt
all_on founder before now (turn ∷ received) legal extends all = (
  λ text act reply. answered_on founder turn.request text before before now (all.0 text act reply) legal extends extends,
  all_on founder before now received legal extends all.1,
)

all_acknowledged : (founder : Key) (now : List Entry) (received : List Turn) → AreAnswered founder now received → AreStillAcknowledged founder now received
all_acknowledged founder now [] all = tt
all_acknowledged founder now (turn ∷ received) all =
    (λ text act reply. is_acknowledged founder turn.request text now now (all.0 text act reply), all_acknowledged founder now received all.1)

all_again : (founder : Key) (now : List Entry) (received : List Turn) → AreAnswered founder now received → AreAnsweredAgain founder now received
all_again founder now [] all = tt
all_again founder now (turn ∷ received) all =
    (λ text act reply limit reading. answered_again founder turn.request text now (all.0 text act reply) limit reading, all_again founder now received all.1)

-- ---- what holds of each state

record Holds (founder : Key) (office : OfficeState) (received : List Turn) : Type 0 where
  legal : EitherWay (IsLegal founder) office
  answered : AreAnswered founder office.settled received

module _ (founder : Key) (limit : Option ℕ) where
  -- ---- one event

  turn_extends : (before : OfficeState) (turn : Turn) (next : OfficeState) → IsTurn founder limit before turn next → Extends before.settled next.settled
  turn_extends before turn next is = conduct_extends founder limit before (turn ∷ []) next (next, is, refl)

  turn_legal : (before : OfficeState) (turn : Turn) (next : OfficeState) → EitherWay (IsLegal founder) before → IsTurn founder limit before turn next → EitherWay (IsLegal founder) next
  turn_legal before turn next legal is = legal_conduct founder limit before (turn ∷ []) next legal (next, is, refl)

  -- the history grew to a legal one
  grown : (before : OfficeState) (received : List Turn) (next : OfficeState) → EitherWay (IsLegal founder) next → Extends before.settled next.settled → Holds founder before received → Holds founder next received
  grown before received next legal extends holds = record { legal = legal; answered = all_on founder before.settled next.settled received legal.0 extends holds.answered }

  turn_lost : (before : OfficeState) (received : List Turn) (turn : Turn) (next : OfficeState) → Holds founder before received → IsTurn founder limit before turn next → Holds founder next received
  turn_lost before received turn next holds is = grown before received next (turn_legal before turn next holds.legal is) (turn_extends before turn next is) holds

  turn_received : (before : OfficeState) (received : List Turn) (turn : Turn) (next : OfficeState) → Holds founder before received → IsTurn founder limit before turn next → Holds founder next (turn ∷ received)
  turn_received before received turn next holds is =
      let lost = turn_lost before received turn next holds is in
      record {
        legal = lost.legal;
        answered = (
          λ text act reply.
              let a = turn_answers founder limit before turn next text act reply is in
              answered_on founder turn.request text a.0 next.settled next.settled a.1.2 lost.legal.0 a.1.1 (same_extends next.settled),
          lost.answered,
        );
      }

  rest_extends : (before next : OfficeState) → ComesToRest before next → Extends before.settled next.settled
  rest_extends before next (mends, settled) = mends_extends founder limit before.settled before.doubt next.settled mends

  rest_legal : (before next : OfficeState) → EitherWay (IsLegal founder) before → ComesToRest before next → EitherWay (IsLegal founder) next
  rest_legal before next legal (mends, settled) = (
    mended_holds founder limit (IsLegal founder) (legal_added founder limit) before.settled before.doubt next.settled legal.0 legal.1 mends,
    subst (λ (d : Option Entry). IfSome d (λ e. IsLegal founder (e ∷ next.settled))) (sym settled) tt,
  )

  rests : (before : OfficeState) (received : List Turn) (next : OfficeState) → Holds founder before received → ComesToRest before next → Holds founder next received
  rests before received next holds is = grown before received next (rest_legal before next holds.legal is) (rest_extends before next is) holds

  -- a stop inside an act that left its entry is a turn whose reply was lost
  module _ (before : OfficeState) (q : Request) (t : ℤ) (next : OfficeState) (leaves : LeavesEntry founder limit before q t next) where
    lost_turn : Turn
    lost_turn = record { request = q; reading = Some t; reply = Done (entry_answer leaves.mended leaves.entry); rise = 0 }

    is_turn : is_act q.verb ≡ true → IsInstantNs t → IsTurn founder limit before lost_turn next
    unfolding lost_turn
    is_turn act instant = record {
      reads = (act, instant);
      takes = inr (record {
        mended = leaves.mended;
        mends = leaves.mends;
        acts = inl (record {
          answers =
              inl
              (step_is founder limit leaves.mended q t
              ∙ ap (reply_and_history leaves.mended) leaves.adds
              ∙ ap (λ (s : OfficeState). (Done (entry_answer leaves.mended leaves.entry), s.settled)) (sym leaves.leaves));
          settled = ap (λ (s : OfficeState). s.doubt) leaves.leaves;
        });
      });
    }

  inside_holds : (before : OfficeState) (received : List Turn) (q : Request) (t : ℤ) (next : OfficeState) → is_act q.verb ≡ true → IsInstantNs t → Holds founder before received → LeavesInside founder limit before q t next → Holds founder next received
  inside_holds before received q t next act instant holds (inl rest) = rests before received next holds rest
  inside_holds before received q t next act instant holds (inr entry) =
      turn_lost before received (lost_turn before q t next entry) next holds (is_turn before q t next entry act instant)

  inside_extends : (before : OfficeState) (q : Request) (t : ℤ) (next : OfficeState) → is_act q.verb ≡ true → IsInstantNs t → LeavesInside founder limit before q t next → Extends before.settled next.settled
  inside_extends before q t next act instant (inl rest) = rest_extends before next rest
  inside_extends before q t next act instant (inr entry) = turn_extends before (lost_turn before q t next entry) next (is_turn before q t next entry act instant)

  same_state : (before next : OfficeState) → next ≡ before → Extends before.settled next.settled
  same_state before next same = ([], ap (λ (s : OfficeState). s.settled) same)

  event_extends : (before : WorldState) (event : Event) (next : WorldState) → Happens founder limit before event next → Extends before.office.settled next.office.settled
  event_extends before (Received turn) next (runs, is) = turn_extends before.office turn next.office is
  event_extends before (Lost turn) next (runs, is) = turn_extends before.office turn next.office is
  event_extends before Mended next (runs, rest) = rest_extends before.office next.office rest
  event_extends before Unmended next (runs, doubted, same) = same_state before.office next.office same
  event_extends before Stopped next (stops, rest) = rest_extends before.office next.office rest
  event_extends before (StoppedInside q t) next (stops, act, instant, inside) = inside_extends before.office q t next.office act instant inside
  event_extends before Reopened next (starts, same) = same_state before.office next.office same

  -- what holds of an office of which these replies were received
  abbrev HoldsOf : WorldState → Type 0
  HoldsOf state = Holds founder state.office state.received

  with_received : (next : WorldState) (received : List Turn) → next.received ≡ received → Holds founder next.office received → HoldsOf next
  with_received next received same holds = subst (λ (turns : List Turn). Holds founder next.office turns) (sym same) holds

  stays : (before next : WorldState) → next.office ≡ before.office → HoldsOf before → Holds founder next.office before.received
  stays before next same holds = subst (λ (s : OfficeState). Holds founder s before.received) (sym same) holds

  event_holds : (before : WorldState) (event : Event) (next : WorldState) → HoldsOf before → Happens founder limit before event next → HoldsOf next
  event_holds before (Received turn) next holds (runs, is) =
      with_received next (turn ∷ before.received) runs.2 (turn_received before.office before.received turn next.office holds is)
  event_holds before (Lost turn) next holds (runs, is) = with_received next before.received runs.2 (turn_lost before.office before.received turn next.office holds is)
  event_holds before Mended next holds (runs, rest) = with_received next before.received runs.2 (rests before.office before.received next.office holds rest)
  event_holds before Unmended next holds (runs, doubted, same) = with_received next before.received runs.2 (stays before next same holds)
  event_holds before Stopped next holds (stops, rest) = with_received next before.received stops.2 (rests before.office before.received next.office holds rest)
  event_holds before (StoppedInside q t) next holds (stops, act, instant, inside) =
      with_received next before.received stops.2 (inside_holds before.office before.received q t next.office act instant holds inside)
  event_holds before Reopened next holds (starts, same) = with_received next before.received starts.2 (stays before next same holds)

  -- ---- worlds

  pub world_extends : (before : WorldState) (events : List Event) (next : WorldState) → World founder limit before events next → Extends before.office.settled next.office.settled
  world_extends before [] next is = same_state before.office next.office (ap (λ (s : WorldState). s.office) is)
  world_extends before (event ∷ events) next (between, first, others) =
      extends_on founder limit before.office.settled between.office.settled next.office.settled (event_extends before event between first) (world_extends between events next others)

  world_holds : (before : WorldState) (events : List Event) (next : WorldState) → HoldsOf before → World founder limit before events next → HoldsOf next
  world_holds before [] next holds is = subst HoldsOf (sym is) holds
  world_holds before (event ∷ events) next holds (between, first, others) = world_holds between events next (event_holds before event between holds first) others

  holds_of_new : HoldsOf new_office
  holds_of_new = record { legal = (tt, tt); answered = tt }

  module _ (events : List Event) (next : WorldState) (world : World founder limit new_office events next) where
    holds_now : HoldsOf next
    holds_now = world_holds new_office events next holds_of_new world

    pub world_legal : EitherWay (IsLegal founder) next.office
    world_legal = holds_now.legal

    once_with : (past : List Entry) (doubt : Option Entry) → IfSome doubt (λ e. IsLegal founder (e ∷ past)) → IfSome doubt (λ e. EachNumberOnce (e ∷ past))
    once_with past None legal = tt
    once_with past (Some e) legal = legal_once founder (e ∷ past) legal

    pub world_once : EitherWay EachNumberOnce next.office
    world_once = (legal_once founder next.office.settled holds_now.legal.0, once_with next.office.settled next.office.doubt holds_now.legal.1)

    pub world_acknowledged : AreStillAcknowledged founder next.office.settled next.received
    world_acknowledged = all_acknowledged founder next.office.settled next.received holds_now.answered

    pub world_again : AreAnsweredAgain founder next.office.settled next.received
    world_again = all_again founder next.office.settled next.received holds_now.answered

  -- ---- conducts

  one_more : (turn : Turn) (turns received : List Turn) → reverse turns ++ turn ∷ received ≡ reverse (turn ∷ turns) ++ received
  one_more turn turns received =
      sym (append_assoc (reverse turns) (turn ∷ []) received) ∙ ap (λ (ts : List Turn). ts ++ received) (sym (reverse-append (turn ∷ []) turns))

  pub conduct_world : (before : OfficeState) (received turns : List Turn) (next : OfficeState) → Conduct founder limit before turns next → World founder limit (running_world before received) (map Received turns) (running_world next (reverse turns ++ received))
  conduct_world before received [] next is = ap (λ (s : OfficeState). running_world s received) is
  conduct_world before received (turn ∷ turns) next (between, first, others) = (
    running_world between (turn ∷ received),
    ((refl, refl, refl), first),
    subst (λ (ts : List Turn). World founder limit (running_world between (turn ∷ received)) (map Received turns) (running_world next ts)) (one_more turn turns received) (conduct_world between (turn ∷ received) turns next others),
  )

  pub world_conduct : (before : WorldState) (turns : List Turn) (next : WorldState) → World founder limit before (map Received turns) next → Conduct founder limit before.office turns next.office
  world_conduct before [] next is = ap (λ (s : WorldState). s.office) is
  world_conduct before (turn ∷ turns) next (between, first, others) = (between.office, first.1, world_conduct between turns next others)

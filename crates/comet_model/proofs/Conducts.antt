-- What turns and conducts do to a register.
use Rattle.std.proofs.Common.{◌≡◌, ◌≢◌, ℕ, ℤ, pos, Bool, true, false, List, [], ◌∷◌, ◌++◌, Option, Some, None, refl, sym, ap, subst, ◌∙◌, append_assoc, inl, inr, arith}
use Rattle.std.specs.Prelude.{◌⊎◌, IfSome, unwrap_or}
use Rattle.obs_time.specs.Instants.{IsInstantNs}
use Rattle.act_bodies.specs.declared.key.Key.{Key}
use Rattle.read_ahead.specs.declared.body.Body.TheVariants.{NoRoom}
use Rattle.act_model.specs.declared.deed.Deed.{Deed}
use Rattle.act_model.specs.declared.entry.Entry.{Entry}
use Rattle.act_model.specs.declared.keeper.OfficeState.{OfficeState}
use Rattle.act_model.specs.Conducts.{Extends, EitherWay}
use Rattle.act_model.specs.History.{EachNumberOnce}
use Rattle.act_model.specs.Turns.{at_rest, unless_untouched, Mends}
use Rattle.comet_model.specs.declared.reply.CometRefusal.{CometRefusal}
use Rattle.comet_model.specs.declared.reply.CometRefusal.TheVariants.{NoMemory}
use Rattle.comet_model.specs.declared.reply.CometReply.{CometReply}
use Rattle.comet_model.specs.declared.reply.CometReply.TheVariants.{Refused}
use Rattle.comet_model.specs.declared.request.CometRequest.{CometRequest}
use Rattle.comet_model.specs.Step.{Adds, outcome, step}
use Rattle.comet_model.specs.Turns.{CometTurn, TakesReading, Answers, Settles, FailsToKeep, Takes, IsTurn, Conduct}
use Rattle.comet_model.specs.Conducts.{HadMemory, HadNoFault, IsStepped, IsAnswered, Makes}
use Rattle.comet_model.proofs.Steps.{Leaves, adds, added_unused, leaves, no_room, refusal_leaves, step_makes}

module _ (founder : Key) (limit : Option ℕ) (desk : List Deed) where
  answer_leaves : (past : List Entry) (q : CometRequest) (t : ℤ) (reply : CometReply) (next : List Entry) → Answers founder limit desk past q t reply next → Leaves past next
  answer_leaves past q t reply next (inl is) = leaves founder limit desk past q t reply next is
  answer_leaves past q t reply next (inr (wants, same)) = inl same

  answer_steps : (past : List Entry) (q : CometRequest) (t : ℤ) (reply : CometReply) (next : List Entry) → reply ≢ Refused NoMemory → Answers founder limit desk past q t reply next → step founder limit desk past q t ≡ (reply, next)
  answer_steps past q t reply next had (inl is) = is
  answer_steps past q t reply next had (inr (wants, same)) = absurd (had wants)

  -- an answer that is a refusal leaves the register, so that out of memory may stand in its place
  pub answer_wanting : (past : List Entry) (q : CometRequest) (t : ℤ) (r : CometRefusal) (next : List Entry) → Answers founder limit desk past q t (Refused r) next → Answers founder limit desk past q t (Refused NoMemory) next
  answer_wanting past q t r next (inl is) = inr (refl, refusal_leaves founder limit desk past q t r next is)
  answer_wanting past q t r next (inr (wants, same)) = inr (refl, same)

  pub wanting_leaves : (past : List Entry) (q : CometRequest) (t : ℤ) (next : List Entry) → Answers founder limit desk past q t (Refused NoMemory) next → next ≡ past
  wanting_leaves past q t next (inl is) = refusal_leaves founder limit desk past q t NoMemory next is
  wanting_leaves past q t next (inr (wants, same)) = same

  pub no_room_turn : (past : List Entry) (q : CometRequest) (t : ℤ) (reply : CometReply) (next : List Entry) → q.body ≡ NoRoom → Answers founder limit desk past q t reply next → (reply ≡ Refused NoMemory) × (next ≡ past)
  no_room_turn past q t reply next none (inl is) =
      let given = sym (no_room founder limit desk past q t none) ∙ is in (sym (ap (λ (p : CometReply × List Entry). p.0) given), sym (ap (λ (p : CometReply × List Entry). p.1) given))
  no_room_turn past q t reply next none (inr wants) = wants

  -- ---- turns

  extends_same : (past next : List Entry) → next ≡ past → Extends past next
  extends_same past next is = ([], is)

  pub extends_on : (past between next : List Entry) → Extends past between → Extends between next → Extends past next
  extends_on past between next (newer, is) (newest, more) =
      (newest ++ newer, more ∙ ap (λ (h : List Entry). newest ++ h) is ∙ sym (append_assoc newest newer past))

  leaves_extends : (past next : List Entry) → Leaves past next → Extends past next
  leaves_extends past next (inl same) = ([], same)
  leaves_extends past next (inr (e, more, unused)) = (e ∷ [], more)

  pub mends_extends : (past : List Entry) (doubt : Option Entry) (mended : List Entry) → Mends past doubt mended → Extends past mended
  mends_extends past None mended same = ([], same)
  mends_extends past (Some e) mended (inl more) = (e ∷ [], more)
  mends_extends past (Some e) mended (inr same) = ([], same)

  -- nothing is mended
  mends_nothing : (past : List Entry) (doubt : Option Entry) → Mends past doubt past
  mends_nothing past None = refl
  mends_nothing past (Some e) = inr refl

  pub acts_extends : (past : List Entry) (turn : CometTurn) (reading : ℤ) (after : OfficeState) → Settles founder limit desk past turn reading after ⊎ FailsToKeep founder limit desk past turn reading after → Extends past after.settled
  acts_extends past turn reading after (inl s) = leaves_extends past after.settled (answer_leaves past turn.request reading turn.reply after.settled s.answers)
  acts_extends past turn reading after (inr f) = extends_same past after.settled (ap (λ (s : OfficeState). s.settled) f.leaves)

  takes_extends : (before : OfficeState) (turn : CometTurn) (reading : Option ℤ) (after : OfficeState) → Takes founder limit desk before turn reading after → Extends before.settled after.settled
  takes_extends before turn (Some reading) after (inl f) = extends_same before.settled after.settled (ap (λ (s : OfficeState). s.settled) f.stays)
  takes_extends before turn (Some reading) after (inr a) =
      extends_on before.settled a.mended after.settled (mends_extends before.settled before.doubt a.mended a.mends) (acts_extends a.mended turn reading after a.acts)
  takes_extends before turn None after a = extends_same before.settled after.settled (ap (λ (s : OfficeState). s.settled) a.stays)

  pub conduct_extends : (before : OfficeState) (turns : List CometTurn) (after : OfficeState) → Conduct founder limit desk before turns after → Extends before.settled after.settled
  conduct_extends before [] after is = extends_same before.settled after.settled (ap (λ (s : OfficeState). s.settled) is)
  conduct_extends before (turn ∷ turns) after (between, first, others) =
      extends_on before.settled between.settled after.settled (takes_extends before turn turn.reading between first.takes) (conduct_extends between turns after others)

  -- a refusal leaves what mending left
  refused_mends : (before : OfficeState) (turn : CometTurn) (reading : Option ℤ) (after : OfficeState) (r : CometRefusal) → Takes founder limit desk before turn reading after → turn.reply ≡ Refused r → Mends before.settled before.doubt after.settled
  refused_mends before turn (Some reading) after r (inl f) is =
      subst (λ (h : List Entry). Mends before.settled before.doubt h) (sym (ap (λ (s : OfficeState). s.settled) f.stays)) (mends_nothing before.settled before.doubt)
  refused_mends before turn (Some reading) after r (inr a) is = subst (λ (h : List Entry). Mends before.settled before.doubt h) (sym (left a.acts)) a.mends
    where
      left : Settles founder limit desk a.mended turn reading after ⊎ FailsToKeep founder limit desk a.mended turn reading after → after.settled ≡ a.mended
      left (inl s) =
          wanting_leaves a.mended turn.request reading after.settled (answer_wanting a.mended turn.request reading r after.settled (subst (λ (x : CometReply). Answers founder limit desk a.mended turn.request reading x after.settled) is s.answers))
      left (inr f) = ap (λ (s : OfficeState). s.settled) f.leaves
  refused_mends before turn None after r a is =
      subst (λ (h : List Entry). Mends before.settled before.doubt h) (sym (ap (λ (s : OfficeState). s.settled) a.stays)) (mends_nothing before.settled before.doubt)

  pub refusal_mends : (before after : OfficeState) (turn : CometTurn) (r : CometRefusal) → IsTurn founder limit desk before turn after → turn.reply ≡ Refused r → Mends before.settled before.doubt after.settled
  refusal_mends before after turn r is reply = refused_mends before turn turn.reading after r is.takes reply

  -- ---- conducts without faults

  rest_takes : (past : List Entry) (turn : CometTurn) (reading : Option ℤ) (after : OfficeState) → turn.rise ≡ 0 → Takes founder limit desk (at_rest past) turn reading after
      → Answers founder limit desk past turn.request (unwrap_or reading (pos 0)) turn.reply after.settled × (after ≡ at_rest after.settled)
  rest_takes past turn (Some reading) after none (inl f) = let rose = f.rose in absurd (omega arith)
  rest_takes past turn (Some reading) after none (inr a) = by a.acts
    where
      by : Settles founder limit desk a.mended turn reading after ⊎ FailsToKeep founder limit desk a.mended turn reading after → Answers founder limit desk past turn.request reading turn.reply after.settled × (after ≡ at_rest after.settled)
      by (inl s) =
          (subst (λ (h : List Entry). Answers founder limit desk h turn.request reading turn.reply after.settled) a.mends s.answers, ap (λ (d : Option Entry). record { settled = after.settled; doubt = d }) s.settled)
      by (inr f) = let rose = f.rose in absurd (omega arith)
  rest_takes past turn None after none a =
      let same = ap (λ (s : OfficeState). s.settled) a.stays in
      (subst (λ (h : List Entry). Answers founder limit desk past turn.request (pos 0) turn.reply h) (sym same) a.answers, a.stays ∙ ap (λ (h : List Entry). at_rest h) (sym same))

  pub rest_conduct : (past : List Entry) (turns : List CometTurn) (after : OfficeState) → Conduct founder limit desk (at_rest past) turns after → HadNoFault turns
      → IsAnswered founder limit desk past turns after.settled × (after ≡ at_rest after.settled)
  rest_conduct past [] after is none = let same = ap (λ (s : OfficeState). s.settled) is in (same, is ∙ ap (λ (h : List Entry). at_rest h) (sym same))
  rest_conduct past (turn ∷ turns) after (between, first, others) (none, nones) =
      let here = rest_takes past turn turn.reading between none first.takes in
      let rest = rest_conduct between.settled turns after (subst (λ (s : OfficeState). Conduct founder limit desk s turns after) here.1 others) nones in
      ((between.settled, here.0, rest.0), rest.1)

  pub answered_steps : (past : List Entry) (turns : List CometTurn) (next : List Entry) → IsAnswered founder limit desk past turns next → HadMemory turns → IsStepped founder limit desk past turns next
  answered_steps past [] next is had = is
  answered_steps past (turn ∷ turns) next (between, first, others) (had, rest) =
      let is = answer_steps past turn.request (unwrap_or turn.reading (pos 0)) turn.reply between had first in
      (sym (ap (λ (p : CometReply × List Entry). p.0) is), subst (λ (h : List Entry). IsStepped founder limit desk h turns next) (sym (ap (λ (p : CometReply × List Entry). p.1) is)) (answered_steps between turns next others rest))

  -- one turn more
  pub conduct_more : (before : OfficeState) (turns : List CometTurn) (between : OfficeState) (turn : CometTurn) (after : OfficeState) → Conduct founder limit desk before turns between → IsTurn founder limit desk between turn after
      → Conduct founder limit desk before (turns ++ turn ∷ []) after
  conduct_more before [] between turn after is last = (after, subst (λ (s : OfficeState). IsTurn founder limit desk s turn after) is last, refl)
  conduct_more before (t ∷ turns) between turn after (middle, first, others) last = (middle, first, conduct_more middle turns between turn after others last)

  -- ---- what holds of a register and of each that an entry makes of it

  module _ (P : List Entry → Type 0) (more : (past : List Entry) (q : CometRequest) (t : ℤ) (e : Entry) → IsInstantNs t → P past → outcome founder limit desk past q t ≡ Adds e → P (e ∷ past)) where
    made_holds : (past : List Entry) (q : CometRequest) (t : ℤ) (reply : CometReply) (next : List Entry) → IsInstantNs t → P past → Makes desk past (outcome founder limit desk past q t) reply next → P next
    made_holds past q t reply next instant here (inl same) = subst P (sym same) here
    made_holds past q t reply next instant here (inr (e, is, answer, added)) = subst P (sym added) (more past q t e instant here is)

    answer_holds : (past : List Entry) (q : CometRequest) (t : ℤ) (reply : CometReply) (next : List Entry) → IsInstantNs t → P past → Answers founder limit desk past q t reply next → P next
    answer_holds past q t reply next instant here (inl is) = made_holds past q t reply next instant here (step_makes founder limit desk past q t reply next is)
    answer_holds past q t reply next instant here (inr (wants, same)) = subst P (sym same) here

    pub mended_holds : (past : List Entry) (doubt : Option Entry) (mended : List Entry) → P past → IfSome doubt (λ e. P (e ∷ past)) → Mends past doubt mended → P mended
    mended_holds past None mended here with_it same = subst P (sym same) here
    mended_holds past (Some e) mended here with_it (inl added) = subst P (sym added) with_it
    mended_holds past (Some e) mended here with_it (inr same) = subst P (sym same) here

    kept_holds : (doubt : Bool) (past : List Entry) (e : Entry) → P past → P (e ∷ past) → EitherWay P (unless_untouched doubt past e)
    kept_holds true past e here with_it = (here, with_it)
    kept_holds false past e here with_it = (here, tt)

    acts_hold : (past : List Entry) (turn : CometTurn) (reading : ℤ) (after : OfficeState) → IsInstantNs reading → P past
        → Settles founder limit desk past turn reading after ⊎ FailsToKeep founder limit desk past turn reading after → EitherWay P after
    acts_hold past turn reading after instant here (inl s) = (
      answer_holds past turn.request reading turn.reply after.settled instant here s.answers,
      subst (λ (d : Option Entry). IfSome d (λ e. P (e ∷ after.settled))) (sym s.settled) tt,
    )
    acts_hold past turn reading after instant here (inr f) =
        subst (EitherWay P) (sym f.leaves) (kept_holds f.doubt past f.entry here (more past turn.request reading f.entry instant here f.adds))

    takes_hold : (before : OfficeState) (turn : CometTurn) (reading : Option ℤ) (after : OfficeState) → TakesReading turn.request.verb reading → EitherWay P before → Takes founder limit desk before turn reading after → EitherWay P after
    takes_hold before turn (Some reading) after reads here (inl f) = subst (EitherWay P) (sym f.stays) here
    takes_hold before turn (Some reading) after reads here (inr a) =
        acts_hold a.mended turn reading after reads.1 (mended_holds before.settled before.doubt a.mended here.0 here.1 a.mends) a.acts
    takes_hold before turn None after reads here a = subst (EitherWay P) (sym a.stays) here

    pub conduct_holds : (before : OfficeState) (turns : List CometTurn) (after : OfficeState) → EitherWay P before → Conduct founder limit desk before turns after → EitherWay P after
    conduct_holds before [] after here is = subst (EitherWay P) (sym is) here
    conduct_holds before (turn ∷ turns) after here (between, first, others) =
        conduct_holds between turns after (takes_hold before turn turn.reading between first.reads here first.takes) others

  pub conduct_once : (before : OfficeState) (turns : List CometTurn) (after : OfficeState) → Conduct founder limit desk before turns after → EitherWay EachNumberOnce before → EitherWay EachNumberOnce after
  conduct_once before turns after conduct once =
      conduct_holds EachNumberOnce (λ past q t e instant once is. (added_unused founder limit desk past q t e (adds founder limit desk past q t e is), once)) before turns after once conduct

-- An act on a desk that is watched.
use Rattle.std.proofs.Common.{◌≡◌, ◌⊎◌, ℕ, ◌≤◌, ℤ, List, [], ◌∷◌, Bool, true, false, Option, Some, None, refl, sym, ap, subst, ◌∙◌, inl, inr, ⊎_elim, le_trans, arith}
use Rattle.std.specs.Prelude.{IfSome, IsSomeAnd}
use Rattle.obs_time.specs.Instants.{IsInstantNs}
use Rattle.disk_model.specs.Crashes.{During}
use Rattle.disk_model.specs.Moments.{during_joined, during_weaker}
use Rattle.act_bodies.specs.declared.key.Key.{Key}
use Rattle.act_model.specs.declared.entry.Entry.{Entry}
use Rattle.act_model.specs.declared.keeper.OfficeState.{OfficeState}
use Rattle.act_model.specs.declared.reply.Reply.{Reply}
use Rattle.act_model.specs.declared.reply.Reply.TheVariants.{Done}
use Rattle.act_model.specs.declared.request.Request.{Request}
use Rattle.act_model.specs.Conducts.{Extends, EitherWay, Makes}
use Rattle.act_model.specs.Keepers.{TakesTurn}
use Rattle.act_model.specs.Legal.{IsLegal}
use Rattle.act_model.specs.Replies.{entry_answer}
use Rattle.act_model.specs.Step.{Outcome, Adds, outcome, reply_and_history, step}
use Rattle.act_model.specs.Turns.{Turn, Conduct, Mends, Settles, FailsToKeep, unless_untouched, Answers}
use Rattle.mpc_desk.specs.Desks.{DeskState, RestsAt, MayLeave, FailsOn, ActsOn, ActsInTurn, turn_of, office_of}
use Rattle.mpc_desk.specs.Files.{Stands}
use Rattle.mpc_desk.specs.Opening.{StandAlike}
use Rattle.mpc_desk.specs.Pairs.{FilePair, DiskPair, pair, DuringBoth, PairState, disks_of}
use Rattle.mpc_desk.specs.PairLaws.{both_then}
use Rattle.command_ends.specs.Disks.{DiskWords}
use Rattle.serve_command.specs.Images.{Asks, IsOfAsked, StandsWithin, IsWatched, Keeps, WasBetween, LeavesInService}
use Rattle.serve_command.proofs.Gathering.{extends_on}
use Rattle.serve_command.proofs.Mending.{mends_extends, mends_legal}

-- what the office's laws say of histories
pub record GrowthLaws : Type 0 where
  pub grow : (founder : Key) (limit : Option ℕ) (before after : OfficeState) (turns : List Turn) → Conduct founder limit before turns after → Extends before.settled after.settled
  pub legal_step : (founder : Key) (limit : Option ℕ) (past after : List Entry) (request : Request) (reading : ℤ) (reply : Reply) → IsLegal founder past → IsInstantNs reading
      → step founder limit past request reading ≡ (reply, after) → IsLegal founder after
  pub legal_conduct : (founder : Key) (limit : Option ℕ) (before after : OfficeState) (turns : List Turn) → EitherWay (IsLegal founder) before → Conduct founder limit before turns after
      → EitherWay (IsLegal founder) after
  pub makes : (founder : Key) (limit : Option ℕ) (past after : List Entry) (request : Request) (reading : ℤ) (reply : Reply) → step founder limit past request reading ≡ (reply, after)
      → Makes past (outcome founder limit past request reading) reply after

-- an image of a shorter service is one of a longer
pub within_on : (founder : Key) (limit : Option ℕ) (asked : Asks) (first last later : List Entry) (image : List ℕ) → Extends last later → StandsWithin founder limit asked first last image → StandsWithin founder limit asked first later image
within_on founder limit asked first last later image goes_on s = record {
  past = s.past;
  begins = s.begins;
  ends = extends_on s.past last later s.ends goes_on;
  history = s.history;
  within = s.within;
  legal = s.legal;
  stands = s.stands;
}

-- what was asked at a history at which the step adds an entry for it was asked there in another sense, too
abbrev pub AllMore : Key → Option ℕ → Asks → Asks → Type 0
AllMore founder limit asked more =
    (past : List Entry) (request : Request) (reading : ℤ) (entry : Entry) → outcome founder limit past request reading ≡ Adds entry → asked past request reading → more past request reading

-- where more was asked
module _ (founder : Key) (limit : Option ℕ) (asked more : Asks) (all : AllMore founder limit asked more) where
  pub of_more : (past : List Entry) (entry : Entry) → IsOfAsked founder limit asked past entry → IsOfAsked founder limit more past entry
  of_more past entry is =
      record { request = is.request; reading = is.reading; was_asked = all past is.request is.reading entry is.adds is.was_asked; adds = is.adds }

  pub within_more : (first last : List Entry) (image : List ℕ) → StandsWithin founder limit asked first last image → StandsWithin founder limit more first last image
  within_more first last image s = record {
    past = s.past;
    begins = s.begins;
    ends = s.ends;
    history = s.history;
    within = elim s.within [ inl same ↦ inl same | inr longer ↦ inr (longer.0, of_more s.past longer.0 longer.1, longer.2) ];
    legal = s.legal;
    stands = s.stands;
  }

  pub doubt_more : (past : List Entry) (doubt : Option Entry) → IfSome doubt (IsOfAsked founder limit asked past) → IfSome doubt (IsOfAsked founder limit more past)
  doubt_more past None is = tt
  doubt_more past (Some entry) is = of_more past entry is

  pub keeps_more : {D : Type 0} (moment : D → ℕ) (since : D → ℕ → List ℕ → Type 0) (then now : DeskState D) → Keeps moment since founder limit asked then now → Keeps moment since founder limit more then now
  keeps_more moment since then now k =
      record { later = k.later; grows = k.grows; each = λ image is. within_more then.state.settled now.state.settled image (k.each image is) }

  pub during_more : {D : Type 0} (moment : D → ℕ) (since : D → ℕ → List ℕ → Type 0) (old new : D) (first last : List Entry)
      → During moment since old new (StandsWithin founder limit asked first last) → During moment since old new (StandsWithin founder limit more first last)
  during_more moment since old new first last during =
      record { later = during.later; either = λ t image le now. ⊎_elim (λ earlier. inl earlier) (λ has. inr (within_more first last image has)) (during.either t image le now) }

pub watched_more : {D : Type 0} (moment : D → ℕ) (since : D → ℕ → List ℕ → Type 0) (asked more : Asks) (first : List Entry) (from : ℕ) (images : ℕ → List ℕ → Type 0) (desk : DeskState D)
    → AllMore desk.founder (Some desk.limit) asked more → IsWatched moment since first from images asked desk → IsWatched moment since first from images more desk
watched_more moment since asked more first from images desk all w = record {
  later = w.later;
  grows = w.grows;
  legal = w.legal;
  doubt = doubt_more desk.founder (Some desk.limit) asked more all desk.state.settled desk.state.doubt w.doubt;
  each = λ t image le now.
      ⊎_elim (λ earlier. inl earlier) (λ has. inr (within_more desk.founder (Some desk.limit) asked more all first desk.state.settled image has)) (w.each t image le now);
}

pub between_more : {D : Type 0} (moment : D → ℕ) (since : D → ℕ → List ℕ → Type 0) (asked more : Asks) (opened now then : DeskState D) → AllMore opened.founder (Some opened.limit) asked more
    → WasBetween moment since asked opened now then → WasBetween moment since more opened now then
between_more moment since asked more opened now then all was = record {
  before = during_more opened.founder (Some opened.limit) asked more all moment since opened.disk then.disk opened.state.settled then.state.settled was.before;
  keeps = keeps_more opened.founder (Some opened.limit) asked more all moment since then now was.keeps;
}

-- what is said of the key and the limit of a desk is said of the desk after an act
pub moved : {D : Type 0} (old new : DeskState D) → new.founder ≡ old.founder → new.limit ≡ old.limit → (P : Key → Option ℕ → Type 0) → P old.founder (Some old.limit) → P new.founder (Some new.limit)
moved old new founder limit P has = subst (λ (k : Key). P k (Some new.limit)) (sym founder) (subst (λ (n : ℕ). P old.founder (Some n)) (sym limit) has)

-- the step makes this history where it adds an entry
pub step_adds : (founder : Key) (limit : Option ℕ) (past : List Entry) (q : Request) (t : ℤ) (entry : Entry) → outcome founder limit past q t ≡ Adds entry
    → step founder limit past q t ≡ (Done (entry_answer past entry), entry ∷ past)
unfolding step
step_adds founder limit past q t entry adds = ap (reply_and_history past) adds

untouched_settled : (doubt : Bool) (past : List Entry) (entry : Entry) → (unless_untouched doubt past entry).settled ≡ past
untouched_settled doubt past entry = refl

one_entry : (a b : Entry) → ◌≡◌ {A = Outcome} (Adds a) (Adds b) → a ≡ b
one_entry a b is = cc

module _ (laws : GrowthLaws) (founder : Key) (limit : Option ℕ) where
  -- what is settled after an act extends what mending left
  acts_extend : (mended : List Entry) (turn : Turn) (reading : ℤ) (new : OfficeState) → Settles founder limit mended turn reading new ⊎ FailsToKeep founder limit mended turn reading new
      → Extends mended new.settled
  acts_extend mended turn reading new (inl settles) = by settles.answers
    where
      made : Makes mended (outcome founder limit mended turn.request reading) turn.reply new.settled → Extends mended new.settled
      made (inl same) = ([], same)
      made (inr (entry, adds, reply, is)) = (entry ∷ [], is)

      by : Answers founder limit mended turn.request reading turn.reply new.settled → Extends mended new.settled
      by (inl stepped) = made (laws.makes founder limit mended new.settled turn.request reading turn.reply stepped)
      by (inr (wants, same)) = ([], same)
  acts_extend mended turn reading new (inr fails) = ([], ap (λ (s : OfficeState). s.settled) fails.leaves ∙ untouched_settled fails.doubt mended fails.entry)

module _ {D : Type 0} (laws : GrowthLaws) (moment : D → ℕ) (since : D → ℕ → List ℕ → Type 0) (faults : D → ℕ) (asked : Asks) (first : List Entry) (old new : DeskState D)
    (begins : Extends first old.state.settled) (legal : EitherWay (IsLegal old.founder) old.state) (doubt : IfSome old.state.doubt (IsOfAsked old.founder (Some old.limit) asked old.state.settled)) where
  abbrev Within : List Entry → List ℕ → Type 0
  Within last image = StandsWithin old.founder (Some old.limit) asked first last image

  -- an image of the office at rest
  pub rests_within : (last : List Entry) (image : List ℕ) → Extends old.state.settled last → RestsAt old.state image → Within last image
  rests_within last image ends (inl stands) =
      record { past = old.state.settled; begins = begins; ends = ends; history = old.state.settled; within = inl refl; legal = legal.0; stands = stands }
  rests_within last image ends (inr doubted) = by old.state.doubt doubted legal.1 doubt
    where
      by : (doubt : Option Entry) → IsSomeAnd doubt (λ entry. Stands image (entry ∷ old.state.settled)) → IfSome doubt (λ entry. IsLegal old.founder (entry ∷ old.state.settled))
          → IfSome doubt (IsOfAsked old.founder (Some old.limit) asked old.state.settled) → Within last image
      by None none either_way origin = absurd none
      by (Some entry) stands either_way origin =
          record { past = old.state.settled; begins = begins; ends = ends; history = entry ∷ old.state.settled; within = inr (entry, origin, refl); legal = either_way; stands = stands }

  module _ (request : Request) (reading : ℤ) (was : asked new.state.settled request reading) where
    -- an act that left the history that mending had left was asked there
    of_this : (mended : List Entry) (entry : Entry) → new.state.settled ≡ mended → outcome old.founder (Some old.limit) mended request reading ≡ Adds entry → IsOfAsked old.founder (Some old.limit) asked mended entry
    of_this mended entry same adds =
        record { request = request; reading = reading; was_asked = subst (λ (h : List Entry). asked h request reading) same was; adds = adds }

    -- what the act left, where the step adds an entry for it: the history that mending had left, or that with the entry
    leaves_either : (mended : List Entry) (entry : Entry) (turn : Turn) → outcome old.founder (Some old.limit) mended turn.request reading ≡ Adds entry
        → Settles old.founder (Some old.limit) mended turn reading new.state ⊎ FailsToKeep old.founder (Some old.limit) mended turn reading new.state
        → (new.state.settled ≡ mended) ⊎ (new.state.settled ≡ entry ∷ mended)
    leaves_either mended entry turn adds (inl settles) = by settles.answers
      where
        made : Makes mended (outcome old.founder (Some old.limit) mended turn.request reading) turn.reply new.state.settled → (new.state.settled ≡ mended) ⊎ (new.state.settled ≡ entry ∷ mended)
        made (inl same) = inl same
        made (inr (other, adds_it, reply, is)) = inr (is ∙ ap (λ (e : Entry). e ∷ mended) (one_entry other entry (sym adds_it ∙ adds)))

        by : Answers old.founder (Some old.limit) mended turn.request reading turn.reply new.state.settled → (new.state.settled ≡ mended) ⊎ (new.state.settled ≡ entry ∷ mended)
        by (inl stepped) = made (laws.makes old.founder (Some old.limit) mended new.state.settled turn.request reading turn.reply stepped)
        by (inr (wants, same)) = inl same
    leaves_either mended entry turn adds (inr fails) = inl (ap (λ (s : OfficeState). s.settled) fails.leaves ∙ untouched_settled fails.doubt mended fails.entry)

    -- an image inside an act
    inside_within : (mended : List Entry) (image : List ℕ) (turn : Turn) → turn.request ≡ request → IsInstantNs reading → Mends old.state.settled old.state.doubt mended
        → Settles old.founder (Some old.limit) mended turn reading new.state ⊎ FailsToKeep old.founder (Some old.limit) mended turn reading new.state
        → MayLeave old mended request reading image → Within new.state.settled image
    inside_within mended image turn asks years mends acts (inl rests) =
        rests_within new.state.settled image
        (extends_on old.state.settled mended new.state.settled (mends_extends old.state.settled old.state.doubt mended mends) (acts_extend laws old.founder (Some old.limit) mended turn reading new.state acts)) rests
    inside_within mended image turn asks years mends acts (inr (entry, adds, stands)) =
        by (leaves_either mended entry turn (subst (λ (q : Request). outcome old.founder (Some old.limit) mended q reading ≡ Adds entry) (sym asks) adds) acts)
      where
        grown : Extends first mended
        grown = extends_on first old.state.settled mended begins (mends_extends old.state.settled old.state.doubt mended mends)

        legal_more : IsLegal old.founder (entry ∷ mended)
        legal_more =
            laws.legal_step old.founder (Some old.limit) mended (entry ∷ mended) request reading (Done (entry_answer mended entry))
            (mends_legal old.founder old.state.settled old.state.doubt mended mends legal.0 legal.1) years (step_adds old.founder (Some old.limit) mended request reading entry adds)

        by : (new.state.settled ≡ mended) ⊎ (new.state.settled ≡ entry ∷ mended) → Within new.state.settled image
        by (inl same) = record {
          past = mended;
          begins = grown;
          ends = ([], same);
          history = entry ∷ mended;
          within = inr (entry, of_this mended entry same adds, refl);
          legal = legal_more;
          stands = stands;
        }
        by (inr added) = record {
          past = entry ∷ mended;
          begins = extends_on first mended (entry ∷ mended) grown (entry ∷ [], refl);
          ends = ([], added);
          history = entry ∷ mended;
          within = inl refl;
          legal = legal_more;
          stands = stands;
        }

    -- each image of an act
    pub act_within : (reply : Reply) → IsInstantNs reading → ActsInTurn moment since faults (record { old = old; request = request; reading = reading; reply = reply; new = new })
        → During moment since old.disk new.disk (Within new.state.settled)
    act_within reply years inside = by inside.acts
      where
        by : FailsOn moment since old (turn_of request reading reply inside.rise) new ⊎ ActsOn moment since old (turn_of request reading reply inside.rise) reading new
            → During moment since old.disk new.disk (Within new.state.settled)
        by (inl fails) = record {
          later = fails.no_image.later;
          either = λ t image le was. ⊎_elim (λ earlier. inl earlier) (λ none. absurd none) (fails.no_image.either t image le was);
        }
        by (inr acts) = record {
          later = acts.images.later;
          either = λ t image le was.
              ⊎_elim (λ earlier. inl earlier)
              (λ has. inr (inside_within acts.mended image (turn_of request reading reply inside.rise) refl years acts.mends acts.acts has))
              (acts.images.either t image le was);
        }

    -- the act that is in doubt after an act was asked
    abbrev Doubts : OfficeState → Type 0
    Doubts state = IfSome state.doubt (IsOfAsked old.founder (Some old.limit) asked state.settled)

    doubts_kept : (kept : Bool) (mended : List Entry) (entry : Entry) → new.state.settled ≡ mended → outcome old.founder (Some old.limit) mended request reading ≡ Adds entry → Doubts (unless_untouched kept mended entry)
    doubts_kept true mended entry same adds = of_this mended entry same adds
    doubts_kept false mended entry same adds = tt

    pub act_doubts : (reply : Reply) → ActsInTurn moment since faults (record { old = old; request = request; reading = reading; reply = reply; new = new }) → Doubts new.state
    act_doubts reply inside = by inside.acts
      where
        on_acts : (mended : List Entry) → Settles old.founder (Some old.limit) mended (turn_of request reading reply inside.rise) reading new.state
            ⊎ FailsToKeep old.founder (Some old.limit) mended (turn_of request reading reply inside.rise) reading new.state → Doubts new.state
        on_acts mended (inl settles) = subst (λ (d : Option Entry). IfSome d (IsOfAsked old.founder (Some old.limit) asked new.state.settled)) (sym settles.settled) tt
        on_acts mended (inr fails) =
            subst Doubts (sym fails.leaves)
            (doubts_kept fails.doubt mended fails.entry (ap (λ (s : OfficeState). s.settled) fails.leaves ∙ untouched_settled fails.doubt mended fails.entry) fails.adds)

        by : FailsOn moment since old (turn_of request reading reply inside.rise) new ⊎ ActsOn moment since old (turn_of request reading reply inside.rise) reading new → Doubts new.state
        by (inl fails) = subst Doubts (sym fails.fails.stays) doubt
        by (inr acts) = on_acts acts.mended acts.acts

-- a desk is watched on over an act
pub watched_on : {D : Type 0} (laws : GrowthLaws) (moment : D → ℕ) (since : D → ℕ → List ℕ → Type 0) (faults : D → ℕ) (asked : Asks) (first : List Entry) (from : ℕ) (images : ℕ → List ℕ → Type 0)
    (old new : DeskState D) (request : Request) (reading : ℤ) (reply : Reply) → asked new.state.settled request reading → IsWatched moment since first from images asked old
    → TakesTurn (office_of faults old) request (Some reading) reply (office_of faults new) → ActsInTurn moment since faults (record { old = old; request = request; reading = reading; reply = reply; new = new })
    → new.founder ≡ old.founder → new.limit ≡ old.limit → IsWatched moment since first from images asked new
watched_on laws moment since faults asked first from images old new request reading reply asks was turn inside same limit =
    let taken : Turn = record { request = request; reading = Some reading; reply = reply; rise = turn.rise } in
    let one : Conduct old.founder (Some old.limit) old.state (taken ∷ []) new.state = (new.state, turn.turn, refl) in
    let goes_on = laws.grow old.founder (Some old.limit) old.state new.state (taken ∷ []) one in
    let during = act_within laws moment since faults asked first old new was.grows was.legal was.doubt request reading asks reply turn.turn.reads.1 inside in
    record {
      later = le_trans was.later during.later;
      grows = extends_on first old.state.settled new.state.settled was.grows goes_on;
      legal = subst (λ (k : Key). EitherWay (IsLegal k) new.state) (sym same) (laws.legal_conduct old.founder (Some old.limit) old.state new.state (taken ∷ []) was.legal one);
      doubt = moved old new same limit (λ k l. IfSome new.state.doubt (IsOfAsked k l asked new.state.settled))
          (act_doubts laws moment since faults asked first old new was.grows was.legal was.doubt request reading asks reply inside);
      each = λ t image le now.
          moved old new same limit (λ k l. images t image ⊎ StandsWithin k l asked first new.state.settled image)
          (⊎_elim
          (λ earlier. ⊎_elim (λ before. inl before) (λ within. inr (within_on old.founder (Some old.limit) asked first old.state.settled new.state.settled image goes_on within)) (was.each t image le earlier))
          (λ has. inr has)
          (during.either t image (le_trans le was.later) now));
    }

-- from the desk's opening
pub watched_first : {D : Type 0} (moment : D → ℕ) (since : D → ℕ → List ℕ → Type 0) (first : List Entry) (from : ℕ) (images : ℕ → List ℕ → Type 0) (asked : Asks) (desk : DeskState D)
    → desk.state.doubt ≡ None → IsLegal desk.founder desk.state.settled → first ≡ desk.state.settled → from ≡ moment desk.disk
    → ((t : ℕ) (image : List ℕ) → since desk.disk t image → images t image) → IsWatched moment since first from images asked desk
watched_first moment since first from images asked desk settled legal first_is from_is are = record {
  later = subst (λ (n : ℕ). n ≤ moment desk.disk) (sym from_is) (omega arith);
  grows = ([], sym first_is);
  legal = (legal, subst (λ (d : Option Entry). IfSome d (λ entry. IsLegal desk.founder (entry ∷ desk.state.settled))) (sym settled) tt);
  doubt = subst (λ (d : Option Entry). IfSome d (IsOfAsked desk.founder (Some desk.limit) asked desk.state.settled)) (sym settled) tt;
  each = λ t image le now. inl (are t image now);
}

-- what was left since the desk's opening
pub watched_during : {D : Type 0} (moment : D → ℕ) (since : D → ℕ → List ℕ → Type 0) (first : List Entry) (from : ℕ) (images : ℕ → List ℕ → Type 0) (asked : Asks) (desk last : DeskState D)
    → first ≡ desk.state.settled → from ≡ moment desk.disk → ((t : ℕ) (image : List ℕ) → images t image → since desk.disk t image) → last.founder ≡ desk.founder → last.limit ≡ desk.limit
    → from ≤ moment last.disk → ((t : ℕ) (image : List ℕ) → t ≤ from → since last.disk t image → images t image ⊎ StandsWithin last.founder (Some last.limit) asked first last.state.settled image)
    → During moment since desk.disk last.disk (StandsWithin desk.founder (Some desk.limit) asked desk.state.settled last.state.settled)
watched_during moment since first from images asked desk last first_is from_is are founder limit later each = record {
  later = subst (λ (n : ℕ). n ≤ moment last.disk) from_is later;
  either = λ t image le now.
      ⊎_elim
      (λ earlier. inl (are t image earlier))
      (λ within. inr (subst (λ (h : List Entry). StandsWithin desk.founder (Some desk.limit) asked h last.state.settled image) first_is
      (moved last desk (sym founder) (sym limit) (λ k l. StandsWithin k l asked first last.state.settled image) within)))
      (each t image (subst (λ (n : ℕ). t ≤ n) (sym from_is) le) now);
}

-- opening, the links and the last mending together
pub service_images : {D : Type 0} (on : DiskWords D) (founder : Key) (asked : Asks) (disks now : DiskPair D) (opened : PairState D) (left last : DeskState D) → opened.chained.founder ≡ founder
    → DuringBoth on disks (disks_of opened) (StandAlike on disks opened.chained.state.settled)
    → During on.moment on.since opened.chained.disk left.disk (StandsWithin opened.chained.founder (Some opened.chained.limit) asked opened.chained.state.settled left.state.settled)
    → During on.moment on.since left.disk last.disk (λ _. ⊥) → Extends left.state.settled last.state.settled → now ≡ pair opened.first last.disk
    → DuringBoth on disks now (LeavesInService on disks founder (Some opened.chained.limit) asked opened.chained.state.settled last.state.settled)
service_images {D = D} on founder asked disks now opened left last same opening service mending goes_on now_is =
    let desk = opened.chained in
    let P : FilePair → Type 0 = LeavesInService on disks founder (Some desk.limit) asked desk.state.settled last.state.settled in
    let Q : List ℕ → Type 0 = StandsWithin founder (Some desk.limit) asked desk.state.settled last.state.settled in
    subst (λ (d : DiskPair D). DuringBoth on disks d P) (sym now_is)
    (both_then P (λ files has. inl has) (λ files has. inr has) opening refl
    (during_joined
    (during_weaker Q
    (λ image has. within_on founder (Some desk.limit) asked desk.state.settled left.state.settled last.state.settled image goes_on
    (subst (λ (k : Key). StandsWithin k (Some desk.limit) asked desk.state.settled left.state.settled image) same has))
    service)
    (during_weaker Q (λ image none. absurd none) mending)))

-- An act where nothing was in doubt.
use Rattle.std.proofs.Common.{◌≡◌, ◌⊎◌, ℕ, ◌+◌, ◌<◌, ◌≤◌, ℤ, Bool, true, false, List, [], ◌∷◌, ◌++◌, Option, Some, None, refl, sym, ap, subst, ◌∙◌, inl, inr, ⊎_elim, arith}
use Rattle.std.specs.Prelude.{◌^◌, option_map}
use Rattle.act_bodies.specs.declared.key.Key.{Key}
use Rattle.obs_time.specs.Instants.{IsInstantNs}
use Rattle.call_log.specs.Counts.{Rises}
use Rattle.disk_model.specs.Crashes.{During}
use Rattle.disk_model.specs.Moments.{during_nothing, during_weaker}
use Rattle.obs_journal.specs.Parcels.{RawParcel}
use Rattle.obs_journal.specs.Chains.{IsChain}
use Rattle.obs_journal.specs.Journals.{JournalState, StandsFor}
use Rattle.act_model.specs.declared.entry.Entry.{Entry}
use Rattle.act_model.specs.declared.keeper.OfficeState.{OfficeState}
use Rattle.act_model.specs.declared.reply.Refusal.{Refusal}
use Rattle.act_model.specs.declared.reply.Refusal.TheVariants.{DiskFault}
use Rattle.act_model.specs.declared.reply.Reply.{Reply}
use Rattle.act_model.specs.declared.reply.Reply.TheVariants.{Done, Refused}
use Rattle.act_model.specs.declared.request.Request.{Request}
use Rattle.act_model.specs.Legal.{IsLegal}
use Rattle.act_model.specs.Refusals.{bytes_used, entry_size}
use Rattle.act_model.specs.Replies.{entry_answer}
use Rattle.act_model.specs.Step.{Keeps, Adds, outcome, reply_and_history, step}
use Rattle.act_model.specs.Turns.{Answers, unless_untouched}
use Rattle.desk_core.specs.Office.{Office as CoreState, Ready, IsOfAct, IsReadyAt, IsRoomFor}
use Rattle.desk_core.specs.Preparing.{IsRefused}
use Rattle.mpc_desk.specs.Files.{parcel_of, parcels_in, AreActs}
use Rattle.mpc_desk.specs.Desks.{DeskState, IsDesk, MayLeave, TakesAct, state_of}
use Rattle.mpc_desk.proofs.FileLemmas.{row_stands}
use Rattle.mpc_desk.proofs.Mended.{at_history}

-- ---- what answers an act

module _ (founder : Key) (limit : Option ℕ) (past : List Entry) (q : Request) (t : ℤ) where
  pub answers_kept : (reply : Reply) → outcome founder limit past q t ≡ Keeps reply → Answers founder limit past q t reply past
  unfolding step
  answers_kept reply is = inl (ap (reply_and_history past) is)

  pub answers_refused : (refusal : Refusal) → IsRefused (outcome founder limit past q t) refusal → Answers founder limit past q t (Refused refusal) past
  unfolding step
  answers_refused refusal (inl is) = inl (ap (reply_and_history past) is)
  answers_refused refusal (inr wants) = inr (ap (λ (r : Refusal). Refused r) wants, refl)

  step_adds : (entry : Entry) → outcome founder limit past q t ≡ Adds entry → step founder limit past q t ≡ (Done (entry_answer past entry), entry ∷ past)
  unfolding step
  step_adds entry is = ap (reply_and_history past) is

  pub answers_ready : (entry : Entry) (reply : Reply) (text : List ℕ) → outcome founder limit past q t ≡ Adds entry → reply ≡ Done text → text ≡ entry_answer past entry → Answers founder limit past q t reply (entry ∷ past)
  answers_ready entry reply text is says answer =
      inl (step_adds entry is ∙ ap (λ (r : Reply). (r, entry ∷ past)) (sym (says ∙ ap (λ (x : List ℕ). Done x) answer)))

-- ---- the desk

no_doubt : (doubt : Option Ready) → option_map (λ (r : Ready). r.entry) doubt ≡ None → doubt ≡ None
no_doubt None is = refl
no_doubt (Some ready) is = absurd cc

same_state : (h h' : List Entry) (o o' : Option Entry) → h ≡ h' → o ≡ o' → ◌≡◌ {A = OfficeState} (record { settled = h; doubt = o }) (record { settled = h'; doubt = o' })
same_state h h' o o' first second = cc

module _ {D : Type 0} (leaves : D → List ℕ → Type 0) (core now : CoreState) (journal : JournalState D) (doubt : Option Ready)
    (desk : IsDesk leaves core journal doubt) (none : option_map (λ (r : Ready). r.entry) doubt ≡ None)
    (history : now.history ≡ core.history) (founder : now.founder ≡ core.founder) where
  here : IsDesk leaves core journal None
  here = subst (IsDesk leaves core journal) (no_doubt doubt none) desk

  -- an act was prepared
  pub prepared_desk : IsDesk leaves now journal doubt
  prepared_desk =
      subst (IsDesk leaves now journal) (sym (no_doubt doubt none))
      (at_history leaves now journal core.history history here.stands here.space (subst (λ (k : Key). IsLegal k core.history) (sym founder) here.legal.0) here.acts)

  -- the journal has room for one more parcel
  pub room_is : (limit : ℕ) (body : List ℕ) → limit < 2 ^ 64 → bytes_used core.history + entry_size body ≤ limit → bytes_used core.history + entry_size body < 2 ^ 64
  room_is limit body fits within = omega arith

  module _ (limit : ℕ) (q : Request) (t : ℤ) (legals : (founder : Key) (limit : Option ℕ) (past after : List Entry) (request : Request) (reading : ℤ) (reply : Reply) → IsLegal founder past → IsInstantNs reading → step founder limit past request reading ≡ (reply, after) → IsLegal founder after)
      (instant : IsInstantNs t) (e : Entry) (adds : outcome core.founder (Some limit) core.history q t ≡ Adds e) where
    legal_more : IsLegal core.founder (e ∷ core.history)
    legal_more = legals core.founder (Some limit) core.history (e ∷ core.history) q t (Done (entry_answer core.history e)) here.legal.0 instant (step_adds core.founder (Some limit) core.history q t e adds)

    under : (k : Key) → k ≡ core.founder → (h : List Entry) → IsLegal core.founder h → IsLegal k h
    under k is h legal = subst (λ (k : Key). IsLegal k h) (sym is) legal

    -- the entry was kept
    pub kept_desk : (new : CoreState) (after : JournalState D) (parcel : RawParcel) → parcel ≡ parcel_of e → new.history ≡ e ∷ now.history → new.founder ≡ now.founder → IsOfAct e → bytes_used core.history + entry_size e.body < 2 ^ 64
        → ((parcels : List RawParcel) → StandsFor leaves journal parcels None → StandsFor leaves after (parcels ++ parcel ∷ []) None) → IsDesk leaves new after doubt
    kept_desk new after parcel same more founder' act space added =
        subst (IsDesk leaves new after) (sym (no_doubt doubt none))
        (at_history leaves new after (e ∷ core.history) (more ∙ ap (λ (h : List Entry). e ∷ h) history)
        (subst (λ (p : RawParcel). StandsFor leaves after (parcels_in core.history ++ p ∷ []) None) same (added (parcels_in core.history) here.stands))
        space (under new.founder (founder' ∙ founder) (e ∷ core.history) legal_more) (act.0, here.acts))

    -- the entry is in doubt
    pub doubted_desk : (after : JournalState D) (parcel : RawParcel) (ready : Ready) → ready.entry ≡ e → parcel ≡ parcel_of e → IsOfAct ready.entry → IsReadyAt now.history ready → IsRoomFor ready.deed now.spare → bytes_used core.history + entry_size ready.entry.body < 2 ^ 64
        → ((parcels : List RawParcel) → StandsFor leaves journal parcels None → StandsFor leaves after parcels (Some parcel)) → IsDesk leaves now after (Some ready)
    doubted_desk after parcel ready is same act at room space in_doubt = record {
      stands = subst (λ (h : List Entry). StandsFor leaves after (parcels_in h) (Some (parcel_of ready.entry))) (sym history) (subst (λ (p : RawParcel). StandsFor leaves after (parcels_in core.history) (Some p)) (same ∙ ap parcel_of (sym is)) (in_doubt (parcels_in core.history) here.stands));
      space = subst (λ (h : List Entry). bytes_used h < 2 ^ 64) (sym history) here.space;
      legal = (
        under now.founder founder now.history (subst (IsLegal core.founder) (sym history) here.legal.0),
        under now.founder founder (ready.entry ∷ now.history) (subst (IsLegal core.founder) (ap (λ (x : Entry). x ∷ core.history) (sym is) ∙ ap (λ (h : List Entry). ready.entry ∷ h) (sym history)) legal_more),
      );
      acts = subst AreActs (sym history) here.acts;
      next = record { act = act; at = at; room = room; space = subst (λ (h : List Entry). bytes_used h + entry_size ready.entry.body < 2 ^ 64) (sym history) space };
    }

  -- the entry isn't kept
  pub untouched_desk : (after : JournalState D) → ((parcels : List RawParcel) → StandsFor leaves journal parcels None → StandsFor leaves after parcels None) → IsDesk leaves now after doubt
  untouched_desk after untouched =
      subst (IsDesk leaves now after) (sym (no_doubt doubt none))
      (at_history leaves now after core.history history (untouched (parcels_in core.history) here.stands) here.space (subst (λ (k : Key). IsLegal k core.history) (sym founder) here.legal.0) here.acts)

  -- ---- what the act does

  module _ (moment : D → ℕ) (since : D → ℕ → List ℕ → Type 0) (faults : D → ℕ) (limit : ℕ) (q : Request) (t : ℤ) where
    abbrev before : DeskState D
    before = record { founder = core.founder; limit = limit; state = state_of core doubt; disk = journal.disk }

    abbrev pub desk_of : CoreState → JournalState D → Option Ready → DeskState D
    desk_of core journal doubt = record { founder = core.founder; limit = limit; state = state_of core doubt; disk = journal.disk }

    -- nothing is added
    pub stays : (reply : Reply) → Answers core.founder (Some limit) core.history q t reply core.history → TakesAct moment since faults (record { old = before; request = q; reading = t; reply = reply; new = desk_of now journal doubt })
    stays reply answers =
        let as_now : Answers core.founder (Some limit) core.history q t reply now.history = subst (λ (h : List Entry). Answers core.founder (Some limit) core.history q t reply h) (sym history) answers in
        record {
          acts = inl (λ rise. record { answers = as_now; settled = none });
          images = during_nothing journal.disk (MayLeave before core.history q t);
        }

    module _ (e : Entry) (adds : outcome core.founder (Some limit) core.history q t ≡ Adds e) (act : IsOfAct e) (parcel : RawParcel) (same : parcel ≡ parcel_of e) (after : JournalState D)
        (inside : (parcels : List RawParcel) → StandsFor leaves journal parcels None → During moment since journal.disk after.disk (λ image. IsChain image parcels ⊎ IsChain image (parcels ++ parcel ∷ []))) where
      images_are : During moment since journal.disk after.disk (MayLeave before core.history q t)
      images_are =
          during_weaker (MayLeave before core.history q t)
          (λ image row.
          ⊎_elim
          (λ without. inl (inl (row_stands image core.history here.acts without)))
          (λ with. inr (e, adds, row_stands image (e ∷ core.history) (act.0, here.acts) (subst (λ (p : RawParcel). IsChain image (parcels_in core.history ++ p ∷ [])) same with)))
          row)
          (inside (parcels_in core.history) here.stands)

      -- the entry is added
      pub keeps_it : (new : CoreState) (reply : Reply) (text : List ℕ) → new.history ≡ e ∷ now.history → reply ≡ Done text → text ≡ entry_answer core.history e → TakesAct moment since faults (record { old = before; request = q; reading = t; reply = reply; new = desk_of new after doubt })
      keeps_it new reply text more says answer =
          let as_new : Answers core.founder (Some limit) core.history q t reply new.history = subst (λ (h : List Entry). Answers core.founder (Some limit) core.history q t reply h) (sym (more ∙ ap (λ (h : List Entry). e ∷ h) history)) (answers_ready core.founder (Some limit) core.history q t e reply text adds says answer) in
          record { acts = inl (λ rise. record { answers = as_new; settled = none }); images = images_are }

      -- the disk failed, and the entry isn't kept, or it is in doubt
      pub fails_it : (d : Bool) (left : Option Ready) → state_of now left ≡ unless_untouched d core.history e → Rises (faults journal.disk) (faults after.disk) → TakesAct moment since faults (record { old = before; request = q; reading = t; reply = Refused (DiskFault d); new = desk_of now after left })
      fails_it d left leaves' rises =
          record { acts = inr (rises, λ rise rose. record { entry = e; doubt = d; adds = adds; reply = refl; leaves = leaves'; rose = rose }); images = images_are }

  pub untouched_state : (e : Entry) → state_of now doubt ≡ unless_untouched false core.history e
  untouched_state e = same_state now.history core.history (option_map (λ (r : Ready). r.entry) doubt) None history none

  pub doubted_state : (ready : Ready) → state_of now (Some ready) ≡ unless_untouched true core.history ready.entry
  doubted_state ready = same_state now.history core.history (Some ready.entry) (Some ready.entry) history refl

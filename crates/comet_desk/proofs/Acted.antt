-- An act where nothing was in doubt.
use Rattle.std.proofs.Common.{◌≡◌, ◌⊎◌, ℕ, ◌+◌, ◌<◌, ◌≤◌, ℤ, Bool, true, false, List, [], ◌∷◌, ◌++◌, Option, Some, None, Result, Ok, Err, refl, sym, ap, subst, ◌∙◌, inl, inr, ⊎_elim, arith}
use Rattle.std.specs.Prelude.{◌^◌, IfErr, option_map}
use Rattle.act_bodies.specs.declared.key.Key.{Key}
use Rattle.obs_time.specs.Instants.{IsInstantNs}
use Rattle.call_log.specs.Counts.{Rises}
use Rattle.disk_model.specs.Crashes.{During}
use Rattle.disk_model.specs.Moments.{during_nothing, during_weaker}
use Rattle.obs_journal.specs.Parcels.{RawParcel}
use Rattle.obs_journal.specs.Chains.{IsChain}
use Rattle.obs_journal.specs.Journals.{JournalState, StandsFor}
use Rattle.act_model.specs.declared.deed.Deed.{Deed}
use Rattle.act_model.specs.declared.entry.Entry.{Entry}
use Rattle.act_model.specs.declared.keeper.OfficeState.{OfficeState}
use Rattle.act_model.specs.Refusals.{bytes_used, entry_size}
use Rattle.act_model.specs.Requests.{is_act}
use Rattle.act_model.specs.Turns.{unless_untouched}
use Rattle.mpc_desk.specs.Files.{parcel_of, parcels_in, AreActs}
use Rattle.comet_model.specs.declared.named.NamedComet.{NamedComet}
use Rattle.comet_model.specs.declared.reply.CometRefusal.{CometRefusal}
use Rattle.comet_model.specs.declared.reply.CometRefusal.TheVariants.{DiskFault}
use Rattle.comet_model.specs.declared.reply.CometReply.{CometReply}
use Rattle.comet_model.specs.declared.reply.CometReply.TheVariants.{Done, Refused}
use Rattle.comet_model.specs.declared.request.CometRequest.{CometRequest}
use Rattle.comet_model.specs.Legal.{IsLegal}
use Rattle.comet_model.specs.Register.{named_by, comets}
use Rattle.comet_model.specs.Replies.{entry_answer}
use Rattle.comet_model.specs.Step.{Keeps, Adds, outcome, reply_and_entries, step}
use Rattle.comet_model.specs.Turns.{Answers}
use Rattle.comet_core.specs.declared.prepared.Prep.{Prep}
use Rattle.comet_core.specs.declared.prepared.Prep.TheVariants as prep
use Rattle.comet_core.specs.Preparing.{IsRefused}
use Rattle.comet_core.specs.Register.{RegisterValue, Ready, IsReadyAt, IsNext}
use Rattle.comet_desk.specs.Desks.{CometDeskState, IsBeside, IsDesk, MayLeave, TakesAct, state_of}
use Rattle.comet_desk.proofs.Mended.{row_stands, seen, at_entries, comets_more, beside_at}

-- ---- what answers an act

module _ (founder : Key) (limit : Option ℕ) (desk : List Deed) (past : List Entry) (q : CometRequest) (t : ℤ) where
  pub answers_kept : (reply : CometReply) → outcome founder limit desk past q t ≡ Keeps reply → Answers founder limit desk past q t reply past
  unfolding step
  answers_kept reply is = inl (ap (reply_and_entries desk past) is)

  pub answers_refused : (refusal : CometRefusal) → IsRefused (outcome founder limit desk past q t) refusal → Answers founder limit desk past q t (Refused refusal) past
  unfolding step
  answers_refused refusal (inl is) = inl (ap (reply_and_entries desk past) is)
  answers_refused refusal (inr none) = inr (ap (λ (r : CometRefusal). Refused r) none, refl)

  step_adds : (entry : Entry) → outcome founder limit desk past q t ≡ Adds entry → step founder limit desk past q t ≡ (Done (entry_answer desk past entry), entry ∷ past)
  unfolding step
  step_adds entry is = ap (reply_and_entries desk past) is

  pub answers_ready : (entry : Entry) (reply : CometReply) (text : List ℕ) → outcome founder limit desk past q t ≡ Adds entry → reply ≡ Done text → text ≡ entry_answer desk past entry → Answers founder limit desk past q t reply (entry ∷ past)
  answers_ready entry reply text is says answer =
      inl (step_adds entry is ∙ ap (λ (r : CometReply). (r, entry ∷ past)) (sym (says ∙ ap (λ (x : List ℕ). Done x) answer)))

-- what is refused without memory is what was prepared
pub announced_as : {A : Type 0} (claimed : Result A CometRefusal) (prepared : Prep) (reply : CometReply) → IfErr claimed (λ refusal. prepared ≡ prep.Refused refusal)
    → ((refusal : CometRefusal) → prepared ≡ prep.Refused refusal → reply ≡ Refused refusal) → IfErr claimed (λ refusal. reply ≡ Refused refusal)
announced_as (Ok a) prepared reply was each = tt
announced_as (Err refusal) prepared reply was each = each refusal was

pub kept_never : (kept : CometReply) (refusal : CometRefusal) (reply : CometReply) → prep.Kept kept ≡ prep.Refused refusal → reply ≡ Refused refusal
kept_never kept refusal reply is = absurd cc

pub refused_so : (one refusal : CometRefusal) → prep.Refused one ≡ prep.Refused refusal → Refused one ≡ Refused refusal
refused_so one refusal is = cc

pub ready_never : (ready : Ready) (refusal : CometRefusal) (reply : CometReply) → prep.Ready ready ≡ prep.Refused refusal → reply ≡ Refused refusal
ready_never ready refusal reply is = absurd cc

-- ---- the register on its disk

no_doubt : (doubt : Option Ready) → option_map (λ (r : Ready). r.entry) doubt ≡ None → doubt ≡ None
no_doubt None is = refl
no_doubt (Some ready) is = absurd cc

same_state : (h h' : List Entry) (o o' : Option Entry) → h ≡ h' → o ≡ o' → ◌≡◌ {A = OfficeState} (record { settled = h; doubt = o }) (record { settled = h'; doubt = o' })
same_state h h' o o' first second = cc

module _ {D : Type 0} (leaves : D → List ℕ → Type 0) (register now : RegisterValue) (journal : JournalState D) (doubt : Option Ready)
    (kept : IsDesk leaves register journal doubt) (none : option_map (λ (r : Ready). r.entry) doubt ≡ None)
    (entries : now.entries ≡ register.entries) (named : now.comets ≡ register.comets) (founder : now.founder ≡ register.founder) where
  here : IsDesk leaves register journal None
  here = subst (IsDesk leaves register journal) (no_doubt doubt none) kept

  -- an act was prepared
  pub prepared_desk : IsDesk leaves now journal doubt
  prepared_desk = subst (IsDesk leaves now journal) (sym (no_doubt doubt none)) (at_entries leaves now journal register.entries entries here.stands here.space here.acts)

  -- the journal has room for one more parcel
  pub room_is : (limit : ℕ) (body : List ℕ) → limit < 2 ^ 64 → bytes_used register.entries + entry_size body ≤ limit → bytes_used register.entries + entry_size body < 2 ^ 64
  room_is limit body fits within = omega arith

  -- the entry was kept
  pub kept_desk : (new : RegisterValue) (after : JournalState D) (parcel : RawParcel) (e : Entry) → parcel ≡ parcel_of e → new.entries ≡ e ∷ now.entries → is_act e.verb ≡ true → bytes_used register.entries + entry_size e.body < 2 ^ 64
      → ((parcels : List RawParcel) → StandsFor leaves journal parcels None → StandsFor leaves after (parcels ++ parcel ∷ []) None) → IsDesk leaves new after doubt
  kept_desk new after parcel e same more act space added =
      subst (IsDesk leaves new after) (sym (no_doubt doubt none))
      (at_entries leaves new after (e ∷ register.entries) (more ∙ ap (λ (h : List Entry). e ∷ h) entries)
      (subst (λ (p : RawParcel). StandsFor leaves after (parcels_in register.entries ++ p ∷ []) None) same (added (parcels_in register.entries) here.stands))
      space (act, here.acts))

  -- the entry is in doubt
  pub doubted_desk : (after : JournalState D) (parcel : RawParcel) (ready : Ready) → parcel ≡ parcel_of ready.entry → is_act ready.entry.verb ≡ true → IsNext register.comets ready.named → 0 < now.room → bytes_used register.entries + entry_size ready.entry.body < 2 ^ 64
      → ((parcels : List RawParcel) → StandsFor leaves journal parcels None → StandsFor leaves after parcels (Some parcel)) → IsDesk leaves now after (Some ready)
  doubted_desk after parcel ready same act next room space in_doubt = record {
    stands = subst (λ (h : List Entry). StandsFor leaves after (parcels_in h) (Some (parcel_of ready.entry))) (sym entries) (subst (λ (p : RawParcel). StandsFor leaves after (parcels_in register.entries) (Some p)) same (in_doubt (parcels_in register.entries) here.stands));
    space = subst (λ (h : List Entry). bytes_used h < 2 ^ 64) (sym entries) here.space;
    acts = subst AreActs (sym entries) here.acts;
    next = record {
      act = act;
      named = subst (λ (c : List NamedComet). IsNext c ready.named) (sym named) next;
      room = room;
      space = subst (λ (h : List Entry). bytes_used h + entry_size ready.entry.body < 2 ^ 64) (sym entries) space;
    };
  }

  -- the entry isn't kept
  pub untouched_desk : (after : JournalState D) → ((parcels : List RawParcel) → StandsFor leaves journal parcels None → StandsFor leaves after parcels None) → IsDesk leaves now after doubt
  untouched_desk after untouched =
      subst (IsDesk leaves now after) (sym (no_doubt doubt none))
      (at_entries leaves now after register.entries entries (untouched (parcels_in register.entries) here.stands) here.space here.acts)

  pub untouched_state : (e : Entry) → state_of now doubt ≡ unless_untouched false register.entries e
  untouched_state e = same_state now.entries register.entries (option_map (λ (r : Ready). r.entry) doubt) None entries none

  pub doubted_state : (ready : Ready) → state_of now (Some ready) ≡ unless_untouched true register.entries ready.entry
  doubted_state ready = same_state now.entries register.entries (Some ready.entry) (Some ready.entry) entries refl

  -- ---- the office beside it

  module _ (desk : List Deed) (limit : ℕ) (beside : IsBeside desk (seen limit register doubt journal.disk)) where
    -- nothing was added
    pub beside_stays : (disk : D) → IsBeside desk (seen limit now doubt disk)
    beside_stays disk =
        subst (λ (d : Option Ready). IsBeside desk (seen limit now d disk)) (sym (no_doubt doubt none))
        (beside_at desk limit now disk register.founder register.entries register.comets founder entries named beside.legal.0 beside.comets)

    module _ (q : CometRequest) (t : ℤ)
        (legals : (founder : Key) (limit : Option ℕ) (desk : List Deed) (past after : List Entry) (request : CometRequest) (reading : ℤ) (reply : CometReply) → IsLegal founder desk past → IsInstantNs reading → step founder limit desk past request reading ≡ (reply, after) → IsLegal founder desk after)
        (instant : IsInstantNs t) (ready : Ready) (adds : outcome register.founder (Some limit) desk register.entries q t ≡ Adds ready.entry) (at : IsReadyAt desk register.entries register.comets ready) where
      legal_more : IsLegal register.founder desk (ready.entry ∷ register.entries)
      legal_more = legals register.founder (Some limit) desk register.entries (ready.entry ∷ register.entries) q t (Done (entry_answer desk register.entries ready.entry)) beside.legal.0 instant (step_adds register.founder (Some limit) desk register.entries q t ready.entry adds)

      -- the entry was added
      pub beside_kept : (new : RegisterValue) (disk : D) → new.entries ≡ ready.entry ∷ now.entries → new.comets ≡ ready.named ∷ now.comets → new.founder ≡ now.founder → IsBeside desk (seen limit new doubt disk)
      beside_kept new disk more more_named keys =
          subst (λ (d : Option Ready). IsBeside desk (seen limit new d disk)) (sym (no_doubt doubt none))
          (beside_at desk limit new disk register.founder (ready.entry ∷ register.entries) (ready.named ∷ register.comets) (keys ∙ founder) (more ∙ ap (λ (h : List Entry). ready.entry ∷ h) entries) (more_named ∙ ap (λ (c : List NamedComet). ready.named ∷ c) named)
          legal_more (comets_more desk register.entries register.comets ready.entry ready.named beside.comets (sym at.named)))

      -- the entry is in doubt
      pub beside_doubted : (disk : D) → IsBeside desk (seen limit now (Some ready) disk)
      beside_doubted disk = record {
        legal = (
          subst (λ (k : Key). IsLegal k desk now.entries) (sym founder) (subst (IsLegal register.founder desk) (sym entries) beside.legal.0),
          subst (λ (k : Key). IsLegal k desk (ready.entry ∷ now.entries)) (sym founder) (subst (λ (h : List Entry). IsLegal register.founder desk (ready.entry ∷ h)) (sym entries) legal_more),
        );
        comets = named ∙ beside.comets ∙ ap (comets desk) (sym entries);
        next = sym (ap (λ (c : List NamedComet). named_by desk c ready.entry) named ∙ at.named);
      }

  -- ---- what the act does

  module _ (moment : D → ℕ) (since : D → ℕ → List ℕ → Type 0) (faults : D → ℕ) (desk : List Deed) (limit : ℕ) (q : CometRequest) (t : ℤ) where
    abbrev before : CometDeskState D
    before = seen limit register doubt journal.disk

    -- nothing is added
    pub stays : (reply : CometReply) → Answers register.founder (Some limit) desk register.entries q t reply register.entries
        → TakesAct moment since faults desk (record { old = before; request = q; reading = t; reply = reply; new = seen limit now doubt journal.disk })
    stays reply answers =
        let as_now : Answers register.founder (Some limit) desk register.entries q t reply now.entries = subst (λ (h : List Entry). Answers register.founder (Some limit) desk register.entries q t reply h) (sym entries) answers in
        record {
          acts = inl (λ rise. record { answers = as_now; settled = none });
          images = during_nothing journal.disk (MayLeave desk before register.entries q t);
        }

    module _ (e : Entry) (adds : outcome register.founder (Some limit) desk register.entries q t ≡ Adds e) (act : is_act e.verb ≡ true) (parcel : RawParcel) (same : parcel ≡ parcel_of e) (after : JournalState D)
        (inside : (parcels : List RawParcel) → StandsFor leaves journal parcels None → During moment since journal.disk after.disk (λ image. IsChain image parcels ⊎ IsChain image (parcels ++ parcel ∷ []))) where
      images_are : During moment since journal.disk after.disk (MayLeave desk before register.entries q t)
      images_are =
          during_weaker (MayLeave desk before register.entries q t)
          (λ image row.
          ⊎_elim
          (λ without. inl (inl (row_stands image register.entries here.acts without)))
          (λ with. inr (e, adds, row_stands image (e ∷ register.entries) (act, here.acts) (subst (λ (p : RawParcel). IsChain image (parcels_in register.entries ++ p ∷ [])) same with)))
          row)
          (inside (parcels_in register.entries) here.stands)

      -- the entry is added
      pub keeps_it : (new : RegisterValue) (reply : CometReply) (text : List ℕ) → new.entries ≡ e ∷ now.entries → reply ≡ Done text → text ≡ entry_answer desk register.entries e
          → TakesAct moment since faults desk (record { old = before; request = q; reading = t; reply = reply; new = seen limit new doubt after.disk })
      keeps_it new reply text more says answer =
          let as_new : Answers register.founder (Some limit) desk register.entries q t reply new.entries =
          subst (λ (h : List Entry). Answers register.founder (Some limit) desk register.entries q t reply h) (sym (more ∙ ap (λ (h : List Entry). e ∷ h) entries)) (answers_ready register.founder (Some limit) desk register.entries q t e reply text adds says answer) in
          record { acts = inl (λ rise. record { answers = as_new; settled = none }); images = images_are }

      -- the disk failed, and the entry isn't kept, or it is in doubt
      pub fails_it : (d : Bool) (left : Option Ready) → state_of now left ≡ unless_untouched d register.entries e → Rises (faults journal.disk) (faults after.disk)
          → TakesAct moment since faults desk (record { old = before; request = q; reading = t; reply = Refused (DiskFault d); new = seen limit now left after.disk })
      fails_it d left leaves' rises =
          record { acts = inr (rises, λ rise rose. record { entry = e; doubt = d; adds = adds; reply = refl; leaves = leaves'; rose = rose }); images = images_are }

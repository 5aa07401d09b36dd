-- What stands with an entry once it is added.
use Rattle.std.proofs.Common.{◌≡◌, ℕ, ◌+◌, ◌-◌, ◌<◌, ◌≤◌, List, [], ◌∷◌, ◌++◌, length, refl, sym, ap, subst, ◌∙◌, arith, suc}
use Rattle.std.specs.Prelude.{◌^◌, min, reverse, unwrap_or}
use Rattle.std.proofs.lemmas.List.{reverse-append, length-reverse}
use Rattle.ordered_list.specs.Contents.{UsesOne}
use Rattle.station_tables.specs.Rows.{TableRows}
use Rattle.act_model.specs.declared.deed.Deed.{Deed}
use Rattle.act_model.specs.declared.entry.Entry.{Entry}
use Rattle.act_model.specs.declared.reply.Reply.TheVariants.{Done}
use Rattle.act_model.specs.declared.roster.Member.{Member}
use Rattle.act_model.specs.declared.roster.TheConstants.{CALLERS}
use Rattle.act_model.specs.Deeds.{deeds}
use Rattle.act_model.specs.History.{next_receipt}
use Rattle.act_model.specs.Holdings.{Holdings, with_deed, holdings}
use Rattle.act_model.specs.OfficeTables.{tables_of}
use Rattle.act_model.specs.Refusals.{entry_size, bytes_used as used_bytes}
use Rattle.act_model.specs.Replies.{entry_answer}
use Rattle.act_model.specs.Roster.{members, with_enrolled}
use Rattle.desk_core.specs.declared.filed.Filed.{Filed}
use Rattle.desk_core.specs.Filed.{history_of, AreAnswered, WasRead, WereRead}
use Rattle.act_model.specs.Places.{added_by}
use Rattle.object_rules.specs.Noting.{homed_by}
use Rattle.desk_core.specs.Objects.{ObjectsValue, StandFor, UsesObjects}
use Rattle.desk_core.specs.Office.{Ready, IsReadyAt, UsesRoom}
use Rattle.desk_core.proofs.FiledLemmas.{history_of-push}

deeds_length : (past : List Entry) → length (deeds past) ≡ length past
deeds_length [] = refl
deeds_length (entry ∷ past) = ap suc (deeds_length past)

module _ (items : List Filed) (f : Filed) (ready : Ready) (at : IsReadyAt (history_of items) ready) (entry : f.entry ≡ ready.entry) (answer : f.reply ≡ Done ready.answer) where
  abbrev past : List Entry
  past = history_of items

  abbrev now : List Filed
  now = items ++ f ∷ []

  pub history_is : history_of now ≡ ready.entry ∷ past
  history_is = history_of-push items f ∙ ap (λ (e : Entry). e ∷ past) entry

  pub answered : AreAnswered (reverse items) → AreAnswered (reverse now)
  answered before =
      subst AreAnswered (sym (reverse-append items (f ∷ []))) (answer ∙ ap (λ (t : List ℕ). Done t) (at.answer ∙ ap (entry_answer past) (sym entry)), before)

  pub were_read : WasRead ready.entry → WereRead (reverse items) → WereRead (reverse now)
  were_read read before = subst WereRead (sym (reverse-append items (f ∷ []))) (subst WasRead (sym entry) read, before)

  deeds_are : deeds (history_of now) ≡ ready.deed ∷ deeds past
  deeds_are = ap deeds history_is ∙ ap (λ (d : Deed). d ∷ deeds past) (sym at.deed)

  pub members_are : (old new : List Member) → reverse new ≡ with_enrolled ready.deed (reverse old) → reverse old ≡ members (deeds past) → reverse new ≡ members (deeds (history_of now))
  members_are old new is before = is ∙ ap (with_enrolled ready.deed) before ∙ sym (ap members deeds_are)

  pub members_within : (new : List Member) → reverse new ≡ members (deeds (history_of now)) → length new < CALLERS
  members_within new is =
      subst (λ (n : ℕ). n < CALLERS) (sym (sym (length-reverse new) ∙ ap length is ∙ ap (λ (h : List Entry). length (members (deeds h))) history_is)) at.callers

  pub tables_are : (old new : TableRows) → new ≡ unwrap_or ready.tables old → old ≡ tables_of (deeds past) → new ≡ tables_of (deeds (history_of now))
  tables_are old new is before = is ∙ ap (unwrap_or ready.tables) before ∙ at.tables ∙ sym (ap (λ (h : List Entry). tables_of (deeds h)) history_is)

  pub held_are : (receipt : ℕ) (old new : Holdings) → new ≡ with_deed receipt ready.deed old → receipt ≡ next_receipt past → old ≡ holdings (deeds past) → new ≡ holdings (deeds (history_of now))
  held_are receipt old new is number before =
      is ∙ ap (with_deed receipt ready.deed) before
      ∙ ap (λ (n : ℕ). with_deed n ready.deed (holdings (deeds past))) (number ∙ ap (λ (n : ℕ). n + 1) (sym (deeds_length past)))
      ∙ sym (ap holdings deeds_are)

  pub bytes_are : (old new size : ℕ) → new ≡ min (old + size) (2 ^ 64 - 1) → old ≡ min (used_bytes past) (2 ^ 64 - 1) → size ≡ entry_size f.entry.body → new ≡ min (used_bytes (history_of now)) (2 ^ 64 - 1)
  bytes_are old new size is before sized =
      let more : used_bytes (history_of now) ≡ used_bytes past + entry_size f.entry.body = ap used_bytes (history_of-push items f) in
      omega (arith, more, is, before, sized)

  pub objects_are : (new : ObjectsValue) → StandFor (ready.deed ∷ deeds past) new → StandFor (deeds (history_of now)) new
  objects_are new stand = subst (λ (ds : List Deed). StandFor ds new) (sym deeds_are) stand

-- what was used of the room
pub used : (deed : Deed) (room room' callers callers' : ℕ) → UsesOne room room' → UsesOne callers callers' → (obs obs' tr tr' : ℕ) (o o' : ObjectsValue) → UsesObjects deed o o' → obs ≤ obs' + added_by deed → tr ≤ tr' + added_by deed
    → obs' ≤ obs → tr' ≤ tr + homed_by deed
    → UsesRoom deed (record { entries = room; callers = callers; observations = obs; tracklets = tr; rows = o.row_room; links = o.link_room; register = o.register_room }) (record { entries = room'; callers = callers'; observations = obs'; tracklets = tr'; rows = o'.row_room; links = o'.link_room; register = o'.register_room })
used deed room room' callers callers' one caller obs obs' tr tr' o o' objects observations tracklets no_observations no_tracklets = (
  record {
    entries = one.0;
    callers = caller.0;
    observations = observations;
    tracklets = tracklets;
    rows = objects.rows.0;
    links = objects.links;
    register = objects.register;
  },
  record {
    entries = one.1;
    callers = caller.1;
    observations = no_observations;
    tracklets = no_tracklets;
    rows = objects.rows.1;
    links = objects.no_more_links;
    register = objects.no_more_register;
  },
)

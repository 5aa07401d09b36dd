use Rattle.std.proofs.Common.{◌≡◌, ℕ, ◌+◌, ◌≤◌, List, ◌∷◌, sym, ap, subst, ◌∙◌}
use Rattle.std.specs.Prelude.{Option, reverse, unwrap_or}
use Rattle.act_model.specs.Places.{added_by}
use Rattle.station_tables.specs.Rows.{TableRows}
use Rattle.act_model.specs.declared.deed.Deed.{Deed}
use Rattle.act_model.specs.declared.entry.Entry.{Entry}
use Rattle.act_model.specs.History.{next_receipt}
use Rattle.act_model.specs.Refusals.{entry_size}
use Rattle.act_model.specs.Holdings.{with_deed}
use Rattle.act_model.specs.Roster.{with_enrolled}
use Rattle.act_model.specs.Deeds.{deeds}
use Rattle.object_rules.specs.Noting.{homed_by}
use Rattle.desk_core.specs.Filed.{history_of}
use Rattle.desk_core.specs.Objects.{StandFor, UsesObjects}
use Rattle.desk_core.specs.Office.{Office, Room, IsReadyAt, held_in, UsesRoom}
use Rattle.desk_core.proofs.Committing.{answered, members_are, members_within, tables_are, held_are, objects_are, bytes_are, were_read, used}
use Rattle.desk_core.proofs.office.Core.commit.Goals as goal

pub invariant_of-self : goal.invariant_of-self
invariant_of-self c =
    let items = c.self.inside.filed.items in
    let f = c.into_parts-filed.result.0 in
    let ready = c.args.prepared in
    let back : c.args.self.now.history ≡ history_of items = sym (ap (λ (o : Office). o.history) c.self.view_is) in
    let at : IsReadyAt (history_of items) ready = subst (λ (h : List Entry). IsReadyAt h ready) back c.requires.ready in
    let e = c.into_parts-filed.ensures.entry in
    let a = c.into_parts-filed.ensures.kept in
    let roster = c.enrol.ensures.items ∙ ap (λ (d : Deed). with_enrolled d (reverse c.self.inside.roster.items)) c.into_parts-filed.ensures.deed in
    let members = members_are items f ready at e a c.self.inside.roster.items c.enrol.new.self.items roster c.self.invariant.1 in
    let past = deeds (history_of items) in
    let deed : c.into_parts-filed.result.2 ≡ ready.deed = c.into_parts-filed.ensures.deed in
    let stands : StandFor (ready.deed ∷ past) c.note.new.self =
    subst (λ (d : Deed). StandFor (d ∷ past) c.note.new.self) deed (c.note.ensures.stand past c.self.invariant.4 c.self.invariant.5) in
    rw c.push.ensures.items (
      answered items f ready at e a c.self.invariant.0,
      members,
      members_within items f ready at e a c.enrol.new.self.items members,
      tables_are items f ready at e a c.self.inside.tables c.replace.new.tables (c.replace.ensures ∙ ap (λ (t : Option TableRows). unwrap_or t c.self.inside.tables) c.into_parts-filed.ensures.tables) c.self.invariant.3,
      held_are items f ready at e a c.next_receipt-receipt.result (held_in c.self.inside.file) (held_in c.hold.new.file)
          (c.hold.ensures.held ∙ ap (λ (d : Deed). with_deed c.next_receipt-receipt.result d (held_in c.self.inside.file)) c.into_parts-filed.ensures.deed)
          (c.next_receipt-receipt.ensures ∙ ap next_receipt back)
          c.self.invariant.4,
      objects_are items f ready at e a c.note.new.self stands,
      bytes_are items f ready at e a c.self.inside.used c.saturating_add-self-inside.result c.entry_size-size.result c.saturating_add-self-inside.ensures c.self.invariant.6 (c.entry_size-size.ensures ∙ ap (λ (b : List ℕ). entry_size b) c.as_slice.ensures),
      were_read items f ready at e a c.into_parts-filed.ensures.read c.self.invariant.7,
    )

pub returns-clause-used : goal.returns-clause-used
returns-clause-used c =
    let deed = c.into_parts-filed.ensures.deed in
    let file = c.self.inside.file in
    let held = c.hold.new.file in
    subst (λ (r : Room). UsesRoom c.args.prepared.deed r (record {
      entries = c.push.new.self.room;
      callers = c.enrol.new.self.room;
      observations = held.observation_room;
      tracklets = held.tracklet_room;
      rows = c.note.new.self.row_room;
      links = c.note.new.self.link_room;
      register = c.note.new.self.register_room;
    })) (ap (λ (o : Office). o.spare) c.self.view_is)
    (used c.args.prepared.deed c.self.inside.filed.room c.push.new.self.room c.self.inside.roster.room c.enrol.new.self.room c.push.ensures.room c.enrol.ensures.room
    file.observation_room held.observation_room file.tracklet_room held.tracklet_room
    c.self.inside.objects c.note.new.self (subst (λ (d : Deed). UsesObjects d c.self.inside.objects c.note.new.self) deed c.note.ensures.used)
    (subst (λ (d : Deed). file.observation_room ≤ held.observation_room + added_by d) deed c.hold.ensures.observations)
    (subst (λ (d : Deed). file.tracklet_room ≤ held.tracklet_room + added_by d) deed c.hold.ensures.tracklets)
    c.hold.ensures.no_more_observations
    (subst (λ (d : Deed). held.tracklet_room ≤ file.tracklet_room + homed_by d) deed c.hold.ensures.no_more_tracklets))

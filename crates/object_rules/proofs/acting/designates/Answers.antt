use Rattle.std.proofs.Common.{◌≡◌, List, Ok, Err, map, ◌∙◌, sym, ap, subst, inl, ◌⊎◌}
use Rattle.std.specs.Prelude.{flat_map}
use Rattle.act_model.specs.declared.reply.Refusal.TheVariants.{NoMemory}
use Rattle.act_model.specs.Designations.{row_acts_of}
use Rattle.act_model.specs.Discoveries.{seen_in}
use Rattle.act_model.specs.Doing.{tracklet_row, free_rows, designates_seen}
use Rattle.act_model.specs.Holdings.{holdings}
use Rattle.act_model.specs.Rows.{first_row, unless, IsDue}
use Rattle.object_rules.proofs.RowLemmas.{due_is, refused_so, none_so, unknown_due, seen_due, refused_either}
use Rattle.object_rules.proofs.acting.designates.Goals as goal

pub returns-in-Some : goal.returns-in-Some
returns-in-Some g c =
    let held = holdings (g.L.Ledger.deeds c.args.office.now) in
    let there = sym (c.unknown_tracklet.ensures ∙ ap (λ (x : List _). first_row (map (tracklet_row held.tracklets) x)) c.as_slice.ensures) ∙ c.in-Some.is in
    record {
      due = inl (unknown_due held (row_acts_of (g.L.Ledger.deeds c.args.office.now)) c.args.tracklets c.in-Some.refusal there);
      unknown = refused_so _ _ c.in-Some.refusal there;
      kind = tt;
    }

pub returns-in-Ok : goal.returns-in-Ok
returns-in-Ok g c =
    let past = g.L.Ledger.deeds c.args.office.now in
    let held = holdings past in
    let ts = c.args.tracklets in
    let there = sym (c.unknown_tracklet.ensures ∙ ap (λ (x : List _). first_row (map (tracklet_row held.tracklets) x)) c.as_slice.ensures) ∙ c.in_default.is in
    record {
      due = seen_due held (row_acts_of past) ts c.in-Ok.seen c.designates_seen.result there
          (subst (λ (x : List _). unless (first_row (flat_map (free_rows held) x)) (Ok (seen_in held.observations x)) ≡ Ok c.in-Ok.seen) c.as_slice-2.ensures c.in-Ok.ensures.due)
          (subst (λ (x : List _). IsDue (designates_seen (row_acts_of past) ts x) c.designates_seen.result) c.as_slice-in-Ok.ensures (due_is _ _ c.designates_seen.ensures.due));
      unknown = none_so _ c.designates_seen.result there;
      kind = c.designates_seen.ensures.kind;
    }

pub returns-in-Err : goal.returns-in-Err
returns-in-Err g c =
    let past = g.L.Ledger.deeds c.args.office.now in
    let held = holdings past in
    let there = sym (c.unknown_tracklet.ensures ∙ ap (λ (x : List _). first_row (map (tracklet_row held.tracklets) x)) c.as_slice.ensures) ∙ c.in_default.is in
    record {
      due = refused_either held (row_acts_of past) c.args.tracklets c.in-Err.refusal there
          (subst (λ (x : List _). (unless (first_row (flat_map (free_rows held) x)) (Ok (seen_in held.observations x)) ≡ Err c.in-Err.refusal) ⊎ (c.in-Err.refusal ≡ NoMemory)) c.as_slice-2.ensures c.in-Err.ensures.due);
      unknown = none_so _ (Err c.in-Err.refusal) there;
      kind = tt;
    }

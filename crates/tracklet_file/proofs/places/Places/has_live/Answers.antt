use Rattle.std.proofs.Common.{ap, sym, ◌∙◌}
use Rattle.std.specs.List.{list_any}
use Rattle.place_keys.specs.declared.place.PlaceKey.{PlaceKey}
use Rattle.tracklet_file.specs.Places.{counts_at}
use Rattle.tracklet_file.proofs.IndexLemmas.{none_as_late, counted_at}
use Rattle.tracklet_file.proofs.places.Places.has_live.Goals as goal

pub returns-then-end_before : goal.returns-then-end_before
returns-then-end_before c =
    sym (none_as_late c.args.filed.now _ c.requires c.args.station c.args.time c.args.ra c.args.dec (sym c.end_before.ensures ∙ c.if-end_before.true))

pub returns : goal.returns
returns c =
    c.has.ensures ∙ ap (λ (key : PlaceKey). list_any (counts_at key) c.args.filed.now) c.key_at.ensures
    ∙ counted_at c.args.filed.now c.args.station c.args.time c.args.ra c.args.dec

use mir.Val.{SFits}
use Rattle.std.proofs.Common.{◌≡◌, length, rules, w64, sym, ap, ◌∙◌, refl}
use Rattle.sqlite.specs.declared.types.Value.TheVariants.{Int, Text as Words}
use Rattle.mirror_sqlite.proofs.Adding.{passed}
use Rattle.mirror_sqlite.proofs.Codes.{six}
use Rattle.mirror_sqlite.proofs.reading.sight_of.Goals as goal

pub returns-clause-shown : goal.returns-clause-shown
returns-clause-shown c =
    let row = c.args.row.now in
    let len : length row ≡ 6 = sym c.column_count.ensures ∙ c.if-column_count-ne6.false in
    let time : SFits w64 c.in_ok-time.time = search rules in
    let ra : SFits w64 c.in_ok-ra.ra = search rules in
    let dec : SFits w64 c.in_ok-dec.dec = search rules in
    six row _ _ _ _ _ _ len c.in_ok-id.ensures.shown
    (c.in_ok-text_at.ensures.shown ∙ ap Words (sym c.in_ok-object.ensures.shown.1))
    (c.in_ok-time.ensures.shown ∙ ap Int (sym (passed c.in_ok-time.time _ time refl)))
    (c.in_ok-ra.ensures.shown ∙ ap Int (sym (passed c.in_ok-ra.ra _ ra refl)))
    (c.in_ok-dec.ensures.shown ∙ ap Int (sym (passed c.in_ok-dec.dec _ dec refl)))
    (c.in_ok-text_at-2.ensures.shown ∙ ap Words (sym c.in_ok-station.ensures.shown.1))

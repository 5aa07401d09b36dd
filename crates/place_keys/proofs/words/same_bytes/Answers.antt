use Rattle.std.proofs.Common.{sym, ◌∙◌}
use Rattle.place_keys.proofs.TextWords.{same_by_words}
use Rattle.place_keys.proofs.words.same_bytes.Goals as goal

pub returns-then-front : goal.returns-then-front
returns-then-front c =
    same_by_words c.args.one.now c.args.other.now (c.fits-one, c.told-one) (c.fits-other, c.told-other) c.back.result c.back-then-front.result
    (sym c.front.ensures ∙ c.if-front.true ∙ c.front-2.ensures) c.back.ensures c.back-then-front.ensures

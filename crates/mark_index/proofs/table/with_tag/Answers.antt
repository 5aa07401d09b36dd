use Rattle.std.proofs.Common.{ℕ, ◌<◌, ◌^◌, ◌∙◌, sym, inl, inr, arith}
use Rattle.std.specs.Int.{w32}
use Rattle.std.proofs.lemmas.Bool.{cases_eq}
use Rattle.std.proofs.lemmas.Nat.Bits.{bit_at_set_same, bit_at_set_other}
use Rattle.mark_index.specs.Slots.{tag_of, HasTag}
use Rattle.mark_index.proofs.table.with_tag.Goals as goal

-- a tag is a bit's number
tag_fits : (mark : ℕ) → mark < 2 ^ 32 → tag_of mark < 32
tag_fits mark fits = omega arith

pub returns-clause-own : goal.returns-clause-own
unfolding HasTag
returns-clause-own c = bit_at_set_same w32 c.args.tags (tag_of c.args.mark) (tag_fits c.args.mark c.ranges.mark.fits)

pub returns-clause-others : goal.returns-clause-others
unfolding HasTag
returns-clause-others c other had =
    let fits = tag_fits c.args.mark c.ranges.mark.fits in
    elim (cases_eq (tag_of other) (tag_of c.args.mark)) [
      | inl same ↦ rw same (bit_at_set_same w32 c.args.tags (tag_of c.args.mark) fits)
      | inr apart ↦ bit_at_set_other w32 c.args.tags (tag_of c.args.mark) fits (tag_of other) apart ∙ had
    ]

pub returns-clause-no_more : goal.returns-clause-no_more
unfolding HasTag
returns-clause-no_more c other apart has =
    sym (bit_at_set_other w32 c.args.tags (tag_of c.args.mark) (tag_fits c.args.mark c.ranges.mark.fits) (tag_of other) apart) ∙ has

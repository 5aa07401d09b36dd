use Rattle.std.proofs.Common.{◌≡◌, ◌-◌, ◌∙◌, ◌^◌, sym, arith}
use Rattle.std.proofs.lemmas.List.{append-nil, length_push}
use Rattle.std.proofs.lemmas.Nat.{mod_below}
use Rattle.ascii_text.specs.Digits.{base, digits_text}
use Rattle.ascii_text.proofs.DigitTexts.{power_within, power_positive, digits_text_more}
use Rattle.ascii_text.proofs.writing.put_digits.Goals as goal

pub pow-unit-requires : goal.pow-unit-requires
pow-unit-requires g c = rw c.base_of.ensures (omega (arith, power_within c.args.radix (c.loop-place.place - 1) c.args.count (omega arith)))

pub loop-place-preserved : goal.loop-place-preserved
loop-place-preserved g c =
    rw (c.push.ensures.items, c.byte_of.ensures, c.pow-unit.ensures, c.base_of.ensures) (record {
      text = digits_text_more c.args.radix c.loop-place.place c.loop-place.left c.loop-place.out.items c.loop-place-test.true ∙ c.loop-place.invariant.text;
      below = mod_below c.loop-place.left (base c.args.radix ^ (c.loop-place.place - 1)) (power_positive c.args.radix (c.loop-place.place - 1));
      len = simp length_push (omega arith);
    })

pub returns-clause-text : goal.returns-clause-text
unfolding digits_text
returns-clause-text g c =
    let none : c.loop-place.place ≡ 0 = omega arith in
    sym (append-nil c.loop-place.out.items) ∙ (rw none at c.loop-place.invariant.text)

use Rattle.std.proofs.Common.{◌≡◌, ◌+◌, ◌-◌, append_assoc, arith}
use Rattle.arrayvec.specs.ArrayVec.{array_vec_len}
use Rattle.ascii_text.specs.Blanks.{blanks}
use Rattle.ascii_text.specs.Digits.{decimals_width}
use Rattle.angle_fixed.specs.Angles.{spelling}
use Rattle.angle_fixed.proofs.writing.put_parts.Goals as goal

pub returns-clause-text : goal.returns-clause-text
unfolding spelling blanks
returns-clause-text c =
    let left : 12 - c.len-left.result ≡ 4 - (array_vec_len c.args.out.now + decimals_width c.args.s.decimals.count) = omega arith in
    rw (c.put_blanks-3.ensures.text, c.put_decimals.ensures.text, c.put_digits-3.ensures.text, c.put_blanks-2.ensures.text, c.put_digits-2.ensures.text, c.put_blanks.ensures.text, c.put_digits.ensures.text, left)
    (simp append_assoc)

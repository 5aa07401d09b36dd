use Rattle.std.proofs.Common.{refl}
use Rattle.std.proofs.lemmas.Result.{err_from_is_err_and}
use Rattle.frame_grammar.proofs.Tokens.{not_true}
use Rattle.frame_grammar.proofs.Numbers.{never_zero, number_found, number_unread}
use Rattle.frame_grammar.proofs.parts.number_at.Goals as goal

pub returns-then-has_zero_in_front : goal.returns-then-has_zero_in_front
returns-then-has_zero_in_front c = never_zero c.args.digits c.args.stop c.requires.few c.args.bytes.now (c.if-has_zero_in_front.ensures.0 refl)

pub returns-in_err-text : goal.returns-in_err-text
returns-in_err-text c =
    let p = err_from_is_err_and c.from_residual.result c.from_residual.ensures.1 in
    rw (p.1, p.2) (number_unread c.args.digits c.args.stop c.requires.some c.requires.few c.requires.ends c.args.bytes.now (λ has. not_true (c.if-has_zero_in_front.ensures.1 has)) c.in_err-text.field-0.0 c.in_err-text.ensures)

pub returns : goal.returns
returns c =
    rw (c.value_of.ensures)
    (number_found c.args.digits c.args.stop c.requires.few c.requires.ends c.args.bytes.now c.in_ok-text.text.now c.in_ok-text.rest.now (λ has. not_true (c.if-has_zero_in_front.ensures.1 has)) c.in_ok-text.ensures.0 c.in_ok-text.ensures.1)

use Rattle.std.proofs.Common.{sym, ◌∙◌, arith}
use Rattle.desk_http.proofs.Fronts.{too_long, breaks_a_rule, whole}
use Rattle.desk_http.proofs.head.front_of.Goals as goal

pub returns-then-spans-gt-HEAD_BYTES : goal.returns-then-spans-gt-HEAD_BYTES
returns-then-spans-gt-HEAD_BYTES c = too_long _ c.args.headers.now c.split_at.result.0.now c.args.spans.now c.requires.found c.split_at.ensures.front (omega (arith, c.if-spans-gt-HEAD_BYTES.true))

pub returns-in-Some : goal.returns-in-Some
returns-in-Some c =
    whole _ c.args.headers.now c.split_at.result.0.now c.args.spans.now c.requires.found c.split_at.ensures.front c.in-Some.parts c.requires.few (omega (arith, c.if-spans-gt-HEAD_BYTES.false))
    (sym c.said_of.ensures ∙ c.in-Some.is) c.requires.within.section.len_fits

pub returns-in-None : goal.returns-in-None
returns-in-None c =
    breaks_a_rule _ c.args.headers.now c.split_at.result.0.now c.args.spans.now c.requires.found c.split_at.ensures.front (sym c.said_of.ensures ∙ c.in-None.is)

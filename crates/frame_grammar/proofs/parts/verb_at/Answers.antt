use Rattle.std.proofs.Common.{lit<}
use Rattle.frame_grammar.specs.declared.parts.Class.TheVariants as classes
use Rattle.frame_grammar.proofs.Tokens.{token_reads}
use Rattle.frame_grammar.proofs.parts.verb_at.Goals as goal

pub returns : goal.returns
returns c = token_reads classes.Verb 12 32 (lit< tt) (lit< tt) (λ x. (x.0.now, x.1.now)) c.args.bytes.now c.token_at.result c.token_at.ensures

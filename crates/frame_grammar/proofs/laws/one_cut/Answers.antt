use Rattle.frame_grammar.proofs.Tokens.{one_cut}
use Rattle.std.proofs.Common.{◌≢◌}
use Rattle.frame_grammar.proofs.laws.one_cut.Goals as goal

pub returns : goal.returns
returns c stop a b x y = one_cut (λ byte. byte ≢ stop) stop (λ byte other. other) a b x y

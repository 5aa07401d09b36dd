use Rattle.std.proofs.Common.{refl, rules, arith}
use Rattle.std.proofs.lemmas.Result.{MatchResult-from_err}
use Rattle.desk_io.proofs.Written.{IsWritten-none, IsWritten-more, IsWritten-part}
use Rattle.desk_io.proofs.outside.write_all.Goals as goal

pub loop-rest-init : goal.loop-rest-init
loop-rest-init g c = record { written = IsWritten-none _ _; faultless = refl; stays = refl }

pub returns-in_err-count-clause-part : goal.returns-in_err-count-clause-part
returns-in_err-count-clause-part g c =
    MatchResult-from_err c.from_residual.result _ _ c.from_residual.ensures.0
    (λ _. IsWritten-part _ _ _ _ _ c.loop-rest.invariant.written (grind arith) c.in_err-count.ensures.bytes)

pub loop-rest-preserved : goal.loop-rest-preserved
loop-rest-preserved g c = record {
  written = rw c.split_at.ensures.back (IsWritten-more _ _ _ _ _ _ c.loop-rest.invariant.written c.in_ok-count.ensures.bytes);
  faultless = search rules;
  stays = search rules;
}

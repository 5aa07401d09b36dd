use Rattle.std.proofs.Common.{refl, subst, ◌∙◌, arith, inl}
use Rattle.desk_http.specs.Heads.{IsHead, NoMessage, NeverMessage}
use Rattle.desk_http.specs.Reading.{IsAwaited}
use Rattle.desk_http.specs.Answers.{NoMessageComes}
use Rattle.read_ahead.specs.Growing.{grows_none, grows_more, of_all, ended, failed}
use Rattle.desk_http.proofs.Pieces.{head_used, awaited_part, looked_front}
use Rattle.desk_http.proofs.Looks.{none_yet}
use Rattle.desk_http.proofs.wire.read_head.Goals as goal

pub returns-in-Whole-clause-came : goal.returns-in-Whole-clause-came
returns-in-Whole-clause-came g c =
    of_all _ _ IsAwaited (λ front. IsHead front c.in-Whole.parts c.skip.new.self) _ _ _ _ c.pieces.invariant.came
    (head_used _ _ _ c.in-Whole.parts c.in-Whole.size c.bytes-pending.ensures c.skip.ensures (rw c.in-Whole.is at c.next_front-front.ensures.front).0)

pub returns-in-Bad-clause-came : goal.returns-in-Bad-clause-came
returns-in-Bad-clause-came g c =
    of_all _ _ IsAwaited (λ front. NoMessageComes front (g.S.Source.left c.pieces.source)) _ _ _ _ c.pieces.invariant.came (inl (subst NeverMessage c.bytes-pending.ensures (rw c.in-Bad.is at c.next_front-front.ensures.front)))

pub returns-in-Ok-eq0-clause-came : goal.returns-in-Ok-eq0-clause-came
returns-in-Ok-eq0-clause-came g c =
    ended _ _ IsAwaited NoMessage (λ bytes is. is.0) _ _ _ _ _ _ _ c.pieces.invariant.came c.in-Ok-eq0.ensures.came c.bytes-pending.ensures
    (awaited_part _ _ (rw c.in-Part.is at c.next_front-front.ensures.front) (c.next_front-front.ensures.looked c.in-Part.is)) _ (rw c.in-Ok-eq0.field-0-test at c.in-Ok-eq0.ensures.amount) (c.in-Ok-eq0.ensures.end cc) c.halt_at_end.ensures.why

pub pieces-init : goal.pieces-init
pieces-init g c = record { came = grows_none _ _ IsAwaited _ _; looked = none_yet _ _ c.nothing-looked.ensures; faultless = refl; stays = refl; work = omega arith }

pub pieces-preserved : goal.pieces-preserved
pieces-preserved g c =
    let looked = c.next_front-front.ensures.looked c.in-Part.is in
    record {
      came = grows_more _ _ IsAwaited _ _ _ _ _ _ c.pieces.invariant.came (subst IsAwaited c.bytes-pending.ensures (awaited_part _ _ (rw c.in-Part.is at c.next_front-front.ensures.front) looked)) c.in-Ok.ensures.came;
      looked = looked_front _ _ _ _ _ looked c.bytes-pending.ensures c.in-Ok.ensures.came.behind;
      faultless = c.in-Ok.ensures.faultless ∙ c.pieces.invariant.faultless;
      stays = c.in-Ok.ensures.stays ∙ c.pieces.invariant.stays;
      work = omega (arith, c.pieces.invariant.work, c.in-Ok.ensures.work);
    }

pub returns-in-Err-clause-came : goal.returns-in-Err-clause-came
returns-in-Err-clause-came g c =
    failed _ _ IsAwaited NoMessage (λ bytes is. is.0) _ _ _ _ _ _ _ c.pieces.invariant.came c.in-Err.ensures.came c.bytes-pending.ensures (awaited_part _ _ (rw c.in-Part.is at c.next_front-front.ensures.front) (c.next_front-front.ensures.looked c.in-Part.is)) c.in-Err.ensures.failed

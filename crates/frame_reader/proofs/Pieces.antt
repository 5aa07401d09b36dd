-- A head that stands at the front of what is read ahead.
use Rattle.std.proofs.Common.{◌≡◌, List, ℕ, drop, sym, subst}
use Rattle.frame_reader.specs.declared.head.HeldHead.{HeldHead}
use Rattle.frame_reader.specs.Frames.{IsHeadRead}

-- it is used
pub head_used : (pending ahead rest : List ℕ) (head : HeldHead) → pending ≡ ahead → rest ≡ drop head.size ahead → IsHeadRead pending head (drop head.size pending) → IsHeadRead ahead head rest
head_used pending ahead rest head same used read =
    subst (λ (t : List ℕ). IsHeadRead ahead head t) (sym used) (subst (λ (t : List ℕ). IsHeadRead t head (drop head.size t)) same read)

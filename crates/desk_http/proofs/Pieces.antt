-- Pieces that come out of a source after what was read ahead, until a head stands at the front.
use Rattle.std.proofs.Common.{◌≡◌, ℕ, List, ◌++◌, length, take, drop, sym, ap, ◌∙◌, subst, inr, ◌<◌, ◌≤◌, arith}
use Rattle.std.proofs.lemmas.List.{length-append, take-append-drop, take_at}
use Rattle.httparse.specs.Grammar.{HasNoRequest}
use Rattle.desk_http.specs.declared.TheConstants.{HEAD_BYTES}
use Rattle.desk_http.specs.declared.head.HeadParts.{HeadParts}
use Rattle.desk_http.specs.declared.scan.Looked.{Looked}
use Rattle.desk_http.specs.declared.scan.Scan.{Scan}
use Rattle.desk_http.specs.Scans.{scanned}
use Rattle.desk_http.specs.Heads.{IsHead}
use Rattle.desk_http.specs.Reading.{IsLooked, IsAwaited}
use Rattle.desk_http.proofs.Messages.{no_request_no_head, no_head_no_message}

-- a head that stands at the front of what is read ahead, and is used
pub head_used : (pending ahead rest : List ℕ) (parts : HeadParts) (size : ℕ) → pending ≡ ahead → rest ≡ drop size ahead → IsHead pending parts (drop size pending) → IsHead ahead parts rest
head_used pending ahead rest parts size same used read =
    subst (λ (t : List ℕ). IsHead ahead parts t) (sym used) (subst (λ (t : List ℕ). IsHead t parts (drop size t)) same read)

-- where no head has come, and the bytes were looked at, a message is awaited
pub awaited_part : (bytes : List ℕ) (looked : Looked) → HasNoRequest bytes × (length bytes < HEAD_BYTES) → IsLooked bytes looked → IsAwaited bytes
awaited_part bytes looked part is = (no_head_no_message bytes (no_request_no_head bytes part.0), inr (part.1, (looked.parsed, is.parsed)))

-- ---- what was looked at

pub scanned_all : (pending : List ℕ) (seen : ℕ) (fresh : List ℕ) (scan now : Scan) → scan ≡ scanned (take seen pending) → fresh ≡ drop seen pending
    → ((before : List ℕ) → scan ≡ scanned before → now ≡ scanned (before ++ fresh)) → now ≡ scanned pending
scanned_all pending seen fresh scan now was behind more =
    more (take seen pending) was ∙ ap scanned (ap (λ (t : List ℕ). take seen pending ++ t) behind ∙ take-append-drop seen pending)

-- what was looked at stands in front of what came then
pub looked_front : (pending ahead grown piece : List ℕ) (looked : Looked) → IsLooked pending looked → pending ≡ ahead → grown ≡ ahead ++ piece
    → (looked.seen ≤ length grown) × IsLooked (take looked.seen grown) looked
looked_front pending ahead grown piece looked is same behind =
    let long : looked.seen ≡ length ahead = is.seen ∙ ap length same in
    let front : take looked.seen grown ≡ pending = ap (take looked.seen) behind ∙ take_at ahead piece looked.seen (sym long) ∙ sym same in
    (omega (arith, long, ap length behind, length-append ahead piece), subst (λ (t : List ℕ). IsLooked t looked) (sym front) is)

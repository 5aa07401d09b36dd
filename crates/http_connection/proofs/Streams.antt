-- Messages at the front of bytes, none of which asks to close.
use Rattle.std.proofs.Common.{◌≡◌, ℕ, Bool, true, false, List, [], ◌∷◌, ◌++◌, refl, sym, ap, subst, ◌∙◌, inl, inr}
use Rattle.std.specs.Prelude.{◌⊎◌}
use Rattle.desk_http.specs.Heads.{Message, IsMessage, NoMessage, Behind, IsStream}
use Rattle.http_connection.specs.Streams.{IsOpen, IsClosed, HasNoHeadFault}

-- bytes that come later stand after the rest
pub open_grows : ((bytes : List ℕ) (m : Message) (rest more : List ℕ) → IsMessage bytes m rest → IsMessage (bytes ++ more) m (rest ++ more))
    → (bytes : List ℕ) (ms : List Message) (rest more : List ℕ) → IsOpen bytes ms rest → IsOpen (bytes ++ more) ms (rest ++ more)
open_grows grows bytes [] rest more is = ap (λ (b : List ℕ). b ++ more) is
open_grows grows bytes (m ∷ ms) rest more (middle, stands, goes_on, others) =
    (middle ++ more, grows bytes m middle more stands, goes_on, open_grows grows middle ms rest more others)

-- one message more
pub open_more : (bytes : List ℕ) (ms : List Message) (front : List ℕ) (m : Message) (rest : List ℕ) → IsOpen bytes ms front → IsMessage front m rest → m.parts.closes ≡ false
    → IsOpen bytes (ms ++ m ∷ []) rest
open_more bytes [] front m rest is stands goes_on = (rest, subst (λ (b : List ℕ). IsMessage b m rest) (sym is) stands, goes_on, refl)
open_more bytes (n ∷ ms) front m rest (middle, here, on, others) stands goes_on = (middle, here, on, open_more middle ms front m rest others stands goes_on)

-- where no message stands after them, they are the stream
pub open_stream : (bytes : List ℕ) (ms : List Message) (rest : List ℕ) → IsOpen bytes ms rest → NoMessage rest → IsStream bytes ms rest
open_stream bytes [] rest is none = (is, none)
open_stream bytes (m ∷ ms) rest (middle, stands, goes_on, others) none = (
  middle,
  stands,
  subst (λ (b : Bool). Behind b ((ms ≡ []) × (middle ≡ rest)) (IsStream middle ms rest)) (sym goes_on) (open_stream middle ms rest others none),
)

-- with a message that asks to close after them, they are the stream
pub closed_stream : (bytes : List ℕ) (ms : List Message) (front : List ℕ) (m : Message) (rest : List ℕ) → IsOpen bytes ms front → IsMessage front m rest → m.parts.closes ≡ true
    → IsStream bytes (ms ++ m ∷ []) rest
closed_stream bytes [] front m rest is stands closes =
    let none : List Message = [] in (
      rest,
      subst (λ (b : List ℕ). IsMessage b m rest) (sym is) stands,
      subst (λ (b : Bool). Behind b ((none ≡ []) × (rest ≡ rest)) (IsStream rest [] rest)) (sym closes) (refl, refl),
    )
closed_stream bytes (n ∷ ms) front m rest (middle, here, on, others) stands closes = (
  middle,
  here,
  subst (λ (b : Bool). Behind b ((ms ++ m ∷ [] ≡ []) × (middle ≡ rest)) (IsStream middle (ms ++ m ∷ []) rest)) (sym on) (closed_stream middle ms front m rest others stands closes),
)

last_open : (bytes : List ℕ) (first : List Message) (last : Message) (rest : List ℕ) → IsOpen bytes (first ++ last ∷ []) rest → last.parts.closes ≡ false
last_open bytes [] last rest (middle, stands, goes_on, others) = goes_on
last_open bytes (n ∷ first) last rest (middle, stands, goes_on, others) = last_open middle first last rest others

-- the last of them doesn't ask to close
pub open_unclosed : (bytes : List ℕ) (ms : List Message) (rest : List ℕ) → IsOpen bytes ms rest → IsClosed ms → ⊥
open_unclosed bytes ms rest is closed =
    let goes_on = last_open bytes closed.first closed.last rest (subst (λ (l : List Message). IsOpen bytes l rest) closed.are is) in
    let closes = closed.closes in
    absurd cc

-- nothing is left behind them where no head fault ends the stream
pub open_whole : ((bytes : List ℕ) (ms ns : List Message) (x y : List ℕ) → IsStream bytes ms x → IsStream bytes ns y → (ms ≡ ns) × (x ≡ y))
    → (bytes : List ℕ) (ms : List Message) (rest : List ℕ) → IsStream bytes ms rest → IsOpen bytes ms rest → HasNoHeadFault bytes → rest ≡ []
open_whole one bytes ms rest stream open_front h =
    let same = one bytes ms h.messages rest h.rest stream h.stream in
    by same.0 same.1 h.whole
  where
    by : ms ≡ h.messages → rest ≡ h.rest → IsClosed h.messages ⊎ (h.rest ≡ []) → rest ≡ []
    by messages behind (inl closed) = absurd (open_unclosed bytes ms rest open_front (subst IsClosed (sym messages) closed))
    by messages behind (inr nothing) = behind ∙ nothing

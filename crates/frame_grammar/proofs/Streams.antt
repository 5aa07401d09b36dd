-- Frames, and the sessions that they make.
use Rattle.std.proofs.Common.{◌≡◌, ℕ, ◌+◌, ◌<◌, ◌≤◌, List, [], ◌∷◌, ◌++◌, length, take, drop, replicate, refl, sym, ap, ◌∙◌, append_assoc, arith, inr, lit<}
use Rattle.std.specs.List.{AllByRecursion}
use Rattle.std.proofs.lemmas.List.{append-nil, length-append, length-replicate, length-take, length-drop, drop-drop, take-append-drop, take_at, drop_at}
use Rattle.frame_grammar.specs.Frames.{Frame, IsFrame, frame_bytes, stream_bytes, NoFrame, NeverFrame, IsSession, reached, HeadParts, IsHead, head_bytes, head_of, frame_of, NoHead, BeginsHead}
use Rattle.frame_grammar.specs.Reading.{IsHeadAt}
use Rattle.frame_grammar.proofs.Heads.{one_head, head_before, head_some}

-- a head has bytes, whatever follows it
pub head_begun : (h : HeadParts) (rest : List ℕ) → 0 < length (head_bytes h rest)
head_begun h rest = omega (arith, ap length (head_before h [] rest), length-append (head_bytes h []) rest, head_some h)

pub head_good : (f : Frame) → IsFrame f → IsHead (head_of f)
head_good f good = record { key = good.key; number = good.number; verb = good.verb; length = good.body }

-- a head and a body of its length are a frame
pub frame_good : (h : HeadParts) (body : List ℕ) → IsHead h → length body ≡ h.length → IsFrame (frame_of h body)
frame_good h body good long = record { key = good.key; number = good.number; verb = good.verb; body = omega (arith, good.length) }

pub frame_whole : (h : HeadParts) (body rest : List ℕ) → length body ≡ h.length → head_bytes h (body ++ rest) ≡ frame_bytes (frame_of h body) rest
frame_whole h body rest long = ap (λ (n : ℕ). head_bytes (record h { length = n }) (body ++ rest)) (sym long)

-- a head at the front, after which all of its body has come
pub frame_at_front : (bytes : List ℕ) (h : HeadParts) (size : ℕ) → IsHeadAt bytes h size → size + h.length ≤ length bytes
    → IsFrame (frame_of h (take h.length (drop size bytes))) × (bytes ≡ frame_bytes (frame_of h (take h.length (drop size bytes))) (drop (size + h.length) bytes))
frame_at_front bytes h size at come =
    let body : List ℕ = take h.length (drop size bytes) in
    let long : length body ≡ h.length = omega (arith, length-take h.length (drop size bytes), length-drop size bytes) in (
      frame_good h body at.good long,
      at.spelled ∙ ap (head_bytes h) (sym (take-append-drop h.length (drop size bytes))) ∙ frame_whole h body (drop h.length (drop size bytes)) long ∙ ap (frame_bytes (frame_of h body)) (drop-drop h.length size bytes),
    )

-- what follows a frame, or frames, follows their bytes
pub frame_before : (f : Frame) (rest more : List ℕ) → frame_bytes f rest ++ more ≡ frame_bytes f (rest ++ more)
frame_before f rest more = head_before (head_of f) (f.body ++ rest) more ∙ ap (head_bytes (head_of f)) (append_assoc f.body rest more)

pub stream_before : (fs : List Frame) (rest more : List ℕ) → stream_bytes fs rest ++ more ≡ stream_bytes fs (rest ++ more)
stream_before [] rest more = refl
stream_before (f ∷ fs) rest more = frame_before f (stream_bytes fs rest) more ∙ ap (frame_bytes f) (stream_before fs rest more)

pub stream_append : (fs gs : List Frame) (rest : List ℕ) → stream_bytes (fs ++ gs) rest ≡ stream_bytes fs (stream_bytes gs rest)
stream_append [] gs rest = refl
stream_append (f ∷ fs) gs rest = ap (frame_bytes f) (stream_append fs gs rest)

-- ---- one frame, one stream, one session

cut_at_length : (a b x y : List ℕ) → length a ≡ length b → a ++ x ≡ b ++ y → (a ≡ b) × (x ≡ y)
cut_at_length a b x y same e = (
  sym (take_at a x (length b) same) ∙ ap (take (length b)) e ∙ take_at b y (length b) refl,
  sym (drop_at a x (length b) same) ∙ ap (drop (length b)) e ∙ drop_at b y (length b) refl,
)

pub one_frame : (f g : Frame) (x y : List ℕ) → IsFrame f → IsFrame g → frame_bytes f x ≡ frame_bytes g y → (f ≡ g) × (x ≡ y)
one_frame f g x y here there e =
    let heads = one_head (head_of f) (head_of g) (f.body ++ x) (g.body ++ y) (head_good f here) (head_good g there) e in
    let bodies = cut_at_length f.body g.body x y (ap (λ (h : HeadParts). h.length) heads.0) heads.1 in
    (ap (λ (h : HeadParts). frame_of h f.body) heads.0 ∙ ap (frame_of (head_of g)) bodies.0, bodies.1)

pub one_stream : (fs gs : List Frame) (x y : List ℕ) → AllByRecursion IsFrame fs → AllByRecursion IsFrame gs → NoFrame x → NoFrame y → stream_bytes fs x ≡ stream_bytes gs y → (fs ≡ gs) × (x ≡ y)
one_stream [] [] x y here there ended over e = (refl, e)
one_stream [] (g ∷ gs) x y here there ended over e = absurd (ended g (stream_bytes gs y) there.0 e)
one_stream (f ∷ fs) [] x y here there ended over e = absurd (over f (stream_bytes fs x) here.0 (sym e))
one_stream (f ∷ fs) (g ∷ gs) x y here there ended over e =
    let first = one_frame f g (stream_bytes fs x) (stream_bytes gs y) here.0 there.0 e in
    let others = one_stream fs gs x y here.1 there.1 ended over first.1 in
    (ap (λ (k : Frame). k ∷ fs) first.0 ∙ ap (λ (ks : List Frame). g ∷ ks) others.0, others.1)

pub one_session : (bytes : List ℕ) (fs gs : List Frame) (x y : List ℕ) → IsSession bytes fs x → IsSession bytes gs y → (fs ≡ gs) × (x ≡ y)
one_session bytes fs gs x y here there = one_stream fs gs x y here.each there.each here.ended there.ended (sym here.whole ∙ there.whole)

each_append : (fs gs : List Frame) → AllByRecursion IsFrame fs → AllByRecursion IsFrame gs → AllByRecursion IsFrame (fs ++ gs)
each_append [] gs here there = there
each_append (f ∷ fs) gs here there = (here.0, each_append fs gs here.1 there)

-- frames at the front, and the session of what is after them, are the session of the whole
pub session_append : (bytes middle : List ℕ) (fs gs : List Frame) (rest : List ℕ) → AllByRecursion IsFrame fs → bytes ≡ stream_bytes fs middle → IsSession middle gs rest → IsSession bytes (fs ++ gs) rest
session_append bytes middle fs gs rest here is behind = record {
  whole = is ∙ ap (stream_bytes fs) behind.whole ∙ sym (stream_append fs gs rest);
  each = each_append fs gs here behind.each;
  ended = behind.ended;
}

length_stream : (fs : List Frame) (rest : List ℕ) → length rest ≤ length (stream_bytes fs rest)
length_stream fs rest = omega (arith, ap length (stream_before fs [] rest), length-append (stream_bytes fs []) rest)

pub session_reached : (bytes : List ℕ) (fs : List Frame) (rest : List ℕ) → IsSession bytes fs rest → reached bytes rest + length rest ≡ length bytes
session_reached bytes fs rest session = omega (arith, ap length session.whole, length_stream fs rest)

-- ---- no frame

pub no_head_no_frame : (bytes : List ℕ) → NoHead bytes → NoFrame bytes
no_head_no_frame bytes none f rest good e = none (head_of f) (f.body ++ rest) (head_good f good) e

-- a head after which fewer bytes have come than its body has
pub body_missing : (bytes : List ℕ) (h : HeadParts) (rest : List ℕ) → IsHead h → bytes ≡ head_bytes h rest → length rest < h.length → NoFrame bytes
body_missing bytes h rest good is few f tail fine e =
    let same = one_head h (head_of f) rest (f.body ++ tail) good (head_good f fine) (sym is ∙ e) in
    omega (arith, ap (λ (k : HeadParts). k.length) same.0, ap length same.1, length-append f.body tail)

pub no_frame_in_nothing : NoFrame []
no_frame_in_nothing f rest good e = omega (arith, ap length e, ap length (head_before (head_of f) [] (f.body ++ rest)), length-append (head_bytes (head_of f) []) (f.body ++ rest), head_some (head_of f))

pub never_no_frame : (bytes : List ℕ) → NeverFrame bytes → NoFrame bytes
never_no_frame bytes never f rest good e = never [] f rest good (append-nil bytes ∙ e)

pub never_goes_on : (bytes more : List ℕ) → NeverFrame bytes → NeverFrame (bytes ++ more)
never_goes_on bytes more never further f rest good e = never (more ++ further) f rest good (sym (append_assoc bytes more further) ∙ e)

-- a head can always go on to a frame
pub not_never : (bytes : List ℕ) (h : HeadParts) (rest : List ℕ) → IsHead h → bytes ≡ head_bytes h rest → NeverFrame bytes → ⊥
not_never bytes h rest good is never =
    let more : List ℕ = replicate h.length 0 in
    let body : List ℕ = take h.length (rest ++ more) in
    let after : List ℕ = drop h.length (rest ++ more) in
    let long : length body ≡ h.length = omega (arith, length-take h.length (rest ++ more), length-append rest more, length-replicate {A = ℕ} h.length 0) in
    never more (frame_of h body) after (frame_good h body good long)
    (ap (λ (t : List ℕ). t ++ more) is ∙ head_before h rest more ∙ ap (head_bytes h) (sym (take-append-drop h.length (rest ++ more))) ∙ frame_whole h body after long)

pub begins_not_never : (bytes : List ℕ) → BeginsHead bytes → NeverFrame bytes → ⊥
begins_not_never bytes begins never = not_never (bytes ++ begins.0) begins.1 [] begins.2 begins.3 (never_goes_on bytes begins.0 never)

pub no_head_never : (bytes : List ℕ) → ((more : List ℕ) → NoHead (bytes ++ more)) → NeverFrame bytes
no_head_never bytes none more = no_head_no_frame (bytes ++ more) (none more)

pub never_head : (bytes : List ℕ) → NeverFrame bytes → (more : List ℕ) → NoHead (bytes ++ more)
never_head bytes never more h rest good is = not_never (bytes ++ more) h rest good is (never_goes_on bytes more never)

-- a frame as short as they come
shortest : Frame
shortest = record { key = 43 ∷ []; number = 0; verb = 97 ∷ []; body = [] }

shortest_good : IsFrame shortest
unfolding shortest
shortest_good =
    record {
      key = record { some = omega arith; few = omega arith; each = ((omega arith, omega arith), tt) };
      number = lit< tt;
      verb = record { some = omega arith; few = omega arith; each = (inr (omega arith, omega arith), tt) };
      body = lit< tt;
    }

-- where no frame can come, a byte has come
pub never_some : (bytes : List ℕ) → NeverFrame bytes → 0 < length bytes
never_some [] never = absurd (never (frame_bytes shortest []) shortest [] shortest_good refl)
never_some (byte ∷ bytes) never = omega arith

-- Heads and messages at the front of bytes: there is one at most, whatever may follow.
use Rattle.std.proofs.Common.{◌≡◌, ℕ, ◌<◌, ◌≤◌, Bool, true, false, List, [], ◌∷◌, ◌++◌, length, take, drop, Option, Some, None, refl, sym, ap, ◌∙◌, subst, append_assoc, arith}
use Rattle.std.proofs.lemmas.List.{append-nil, length-append, take_at, drop_at, take-append-drop, take-append-le}
use Rattle.std.specs.Prelude.{IsTrue, codes, slice_index}
use Rattle.std.proofs.Common.{zero, suc, lit<, lit≤}
use Rattle.std.proofs.lemmas.List.Elements.{All-from_recursion, All-nil}
use Rattle.std.proofs.lemmas.Str.{IsUtf8-from_ascii}
use Rattle.httparse.specs.Grammar.{is_token_byte, is_uri_byte, crlf, IsField, IsRequestHead, RequestHead, print_request, ReadsRequest, HasNoRequest}
use Rattle.act_bodies.specs.Keys.{key_of}
use Rattle.httparse.specs.Spans.{RequestOverflows}
use Rattle.httparse.proofs.GrammarLemmas.{request_unique, request_prefix_free, ReadsRequest-append}
use Rattle.desk_http.specs.declared.TheConstants.{HEAD_BYTES, HEAD_FIELDS}
use Rattle.desk_http.specs.declared.head.HeadParts.{HeadParts}
use Rattle.desk_http.specs.Heads.{names_close, asked_of, said_of, said_by, IsHead, Message, IsMessage, NoHead, NoMessage, NeverMessage, Behind, IsStream}

-- ---- one head

some_is_one : {A : Type 0} (o : Option A) (x y : A) → o ≡ Some x → o ≡ Some y → x ≡ y
some_is_one (Some z) x y a b = cc (a, b)
some_is_one None x y a b = absurd cc

pub one_head : (bytes : List ℕ) (g h : HeadParts) (x y : List ℕ) → IsHead bytes g x → IsHead bytes h y → (g ≡ h) × (x ≡ y)
one_head bytes g h x y a b =
    let same = request_unique bytes a.head b.head x y a.reads b.reads in
    (some_is_one (said_by b.head) g h (ap said_by (sym same.0) ∙ a.says) b.says, same.1)

pub head_grows : (bytes : List ℕ) (h : HeadParts) (rest more : List ℕ) → IsHead bytes h rest → IsHead (bytes ++ more) h (rest ++ more)
head_grows bytes h rest more a = record { head = a.head; reads = ReadsRequest-append bytes a.head rest more a.reads; short = a.short; few = a.few; says = a.says }

-- ---- one message

-- texts of one length in front are one
same_front : (a b x y : List ℕ) → length a ≡ length b → a ++ x ≡ b ++ y → (a ≡ b) × (x ≡ y)
same_front a b x y long same = (
  sym (take_at a x (length a) refl) ∙ ap (take (length a)) same ∙ take_at b y (length a) (sym long),
  sym (drop_at a x (length a) refl) ∙ ap (drop (length a)) same ∙ drop_at b y (length a) (sym long),
)

pub one_message : (bytes : List ℕ) (m n : Message) (x y : List ℕ) → IsMessage bytes m x → IsMessage bytes n y → (m ≡ n) × (x ≡ y)
one_message bytes m n x y a b =
    let heads = one_head bytes m.parts n.parts (m.body ++ x) (n.body ++ y) a.head b.head in
    let bodies = same_front m.body n.body x y (a.long ∙ ap (λ (h : HeadParts). h.length) heads.0 ∙ sym b.long) heads.1 in
    (λ i. record { parts = heads.0 i; body = bodies.0 i }, bodies.1)

pub message_grows : (bytes : List ℕ) (m : Message) (rest more : List ℕ) → IsMessage bytes m rest → IsMessage (bytes ++ more) m (rest ++ more)
message_grows bytes m rest more a = record {
  head = subst (λ (t : List ℕ). IsHead (bytes ++ more) m.parts t) (append_assoc m.body rest more) (head_grows bytes m.parts (m.body ++ rest) more a.head);
  long = a.long;
}

-- ---- no message

pub no_head_no_message : (bytes : List ℕ) → NoHead bytes → NoMessage bytes
no_head_no_message bytes none m rest a = none m.parts (m.body ++ rest) a.head

pub no_request_no_head : (bytes : List ℕ) → HasNoRequest bytes → NoHead bytes
no_request_no_head bytes none parts rest a = none a.head rest a.reads

-- a head after which fewer bytes have come than its body has
pub body_missing : (bytes : List ℕ) (h : HeadParts) (rest : List ℕ) → IsHead bytes h rest → length rest < h.length → NoMessage bytes
body_missing bytes h rest a lacks m behind b =
    let same = one_head bytes h m.parts rest (m.body ++ behind) a b.head in
    absurd (omega (arith, ap length same.1, length-append m.body behind, b.long, ap (λ (p : HeadParts). p.length) same.0))

pub never_now : (bytes : List ℕ) → NeverMessage bytes → NoMessage bytes
never_now bytes never = subst NoMessage (append-nil bytes) (never [])

pub never_later : (bytes more : List ℕ) → NeverMessage bytes → NeverMessage (bytes ++ more)
never_later bytes more never later = subst NoMessage (sym (append_assoc bytes more later)) (never (more ++ later))

-- where there are no bytes, there is no head
pub nothing_stands : NoMessage []
unfolding print_request
nothing_stands m rest a =
    let some = a.head.reads.0.method.0 in
    absurd (omega (arith, simp length-append at (ap length a.head.reads.1)))

-- the request `GET / HTTP/1.1`
pub plain_head : RequestHead
plain_head = record { blank = []; method = codes "GET"; target = codes "/"; minor = 1; line_end = crlf; fields = []; last = crlf }

slash_ascii : (i : ℕ) → slice_index (codes "/") i < 128
slash_ascii zero = lit< tt
slash_ascii (suc i) = lit< tt

pub plain_is : IsRequestHead plain_head
unfolding plain_head is_token_byte
plain_is =
    let token : ℕ → Type 0 = λ b. IsTrue (is_token_byte b) in
    let uri : ℕ → Type 0 = λ b. IsTrue (is_uri_byte b) in
    record {
      method = (lit< tt, All-from_recursion token (codes "GET") (refl, (refl, (refl, tt))));
      target = (lit< tt, All-from_recursion uri (codes "/") (refl, tt));
      target_text = IsUtf8-from_ascii (codes "/") slash_ascii;
      minor = lit≤ tt;
      fields = All-nil IsField;
    }

plain_parts : HeadParts
plain_parts = record { key = key_of []; asked = asked_of (codes "GET") (codes "/"); length = 0; closes = names_close [] }

plain_message : IsMessage (print_request plain_head) (record { parts = plain_parts; body = [] }) []
unfolding plain_head plain_parts print_request said_of
plain_message =
    record {
      head = record { head = plain_head; reads = (plain_is, sym (append-nil (print_request plain_head))); short = lit≤ tt; few = lit≤ tt; says = refl };
      long = refl;
    }

-- before the first byte any message can come
pub never_some : (bytes : List ℕ) → NeverMessage bytes → 0 < length bytes
never_some (byte ∷ bytes) never = omega arith
never_some [] never = absurd (never (print_request plain_head) (record { parts = plain_parts; body = [] }) [] plain_message)

-- a head that breaks a rule
pub never_bad : (bytes : List ℕ) (head : RequestHead) (rest : List ℕ) → ReadsRequest bytes head rest → said_by head ≡ None → NeverMessage bytes
never_bad bytes head rest reads says more m behind a =
    let same = request_prefix_free bytes more head a.head.head rest (m.body ++ behind) reads a.head.reads in
    absurd (none_is_some (said_by a.head.head) m.parts (ap said_by (sym same.0) ∙ says) a.head.says)
  where
    none_is_some : {A : Type 0} (o : Option A) (x : A) → o ≡ None → o ≡ Some x → ⊥
    none_is_some (Some y) x a b = absurd cc
    none_is_some None x a b = absurd cc

-- a head that is too long
pub never_long : (bytes : List ℕ) (head : RequestHead) (rest : List ℕ) → ReadsRequest bytes head rest → HEAD_BYTES < length (print_request head) → NeverMessage bytes
never_long bytes head rest reads long more m behind a =
    let same = request_prefix_free bytes more head a.head.head rest (m.body ++ behind) reads a.head.reads in
    absurd (omega (arith, long, a.head.short, ap (λ (h : RequestHead). length (print_request h)) same.0))

-- more fields than there may be
pub never_many : (bytes : List ℕ) → RequestOverflows HEAD_FIELDS bytes → NeverMessage bytes
never_many bytes overflows more m behind a =
    let many : HEAD_FIELDS < length a.head.head.fields = overflows more a.head.head (m.body ++ behind) a.head.reads in
    absurd (omega (arith, many, a.head.few))

-- the longest head would have come
pub never_full : (bytes : List ℕ) → HasNoRequest bytes → HEAD_BYTES ≤ length bytes → NeverMessage bytes
never_full bytes none full more m behind a =
    let text = print_request a.head.head in
    let rest = drop (length text) bytes in
    let all : bytes ++ more ≡ text ++ (m.body ++ behind) = a.head.reads.1 in
    let front : bytes ≡ text ++ rest = split_front text (m.body ++ behind) bytes more (omega (arith, full, a.head.short)) all in
    none a.head.head rest (a.head.reads.0, front)
  where
    split_front : (text after bytes more : List ℕ) → length text ≤ length bytes → bytes ++ more ≡ text ++ after → bytes ≡ text ++ drop (length text) bytes
    split_front text after bytes more few same = sym (take-append-drop (length text) bytes) ∙ ap (λ (t : List ℕ). t ++ drop (length text) bytes) (sym (take-append-le (length text) bytes more few) ∙ ap (take (length text)) same ∙ take_at text after (length text) refl)

-- ---- one stream

pub one_stream : (bytes : List ℕ) (ms ns : List Message) (x y : List ℕ) → IsStream bytes ms x → IsStream bytes ns y → (ms ≡ ns) × (x ≡ y)
one_stream bytes [] [] x y a b = (refl, sym a.0 ∙ b.0)
one_stream bytes [] (n ∷ ns) x y a b = absurd (a.1 n b.0 (subst (λ (t : List ℕ). IsMessage t n b.0) a.0 b.1))
one_stream bytes (m ∷ ms) [] x y a b = absurd (b.1 m a.0 (subst (λ (t : List ℕ). IsMessage t m a.0) b.0 a.1))
one_stream bytes (m ∷ ms) (n ∷ ns) x y a b =
    let same = one_message bytes m n a.0 b.0 a.1 b.1 in
    let after = behind_one n.parts.closes a.0 ms ns x y
    (subst (λ (closes : Bool). Behind closes ((ms ≡ []) × (a.0 ≡ x)) (IsStream a.0 ms x)) (ap (λ (k : Message). k.parts.closes) same.0) a.2)
    (subst (λ (middle : List ℕ). Behind n.parts.closes ((ns ≡ []) × (middle ≡ y)) (IsStream middle ns y)) (sym same.1) b.2)
    (λ p q. one_stream a.0 ms ns x y p q) in
    (λ i. same.0 i ∷ after.0 i, after.1)
  where
    behind_one : (closes : Bool) (middle : List ℕ) (ms ns : List Message) (x y : List ℕ)
        → Behind closes ((ms ≡ []) × (middle ≡ x)) (IsStream middle ms x) → Behind closes ((ns ≡ []) × (middle ≡ y)) (IsStream middle ns y)
        → (IsStream middle ms x → IsStream middle ns y → (ms ≡ ns) × (x ≡ y)) → (ms ≡ ns) × (x ≡ y)
    behind_one true middle ms ns x y a b later = (a.0 ∙ sym b.0, sym a.1 ∙ b.1)
    behind_one false middle ms ns x y a b later = later a b

-- The four fields of a head, one after the other.
use Rattle.std.proofs.Common.{◌≡◌, ℕ, ◌+◌, ◌<◌, ◌≤◌, ◌^◌, List, [], ◌∷◌, ◌++◌, length, drop, sym, ap, ◌∙◌, append_assoc, arith, lit<, lit≤, decimal}
use Rattle.std.proofs.Math.Nat.{one-le-pow}
use Rattle.std.proofs.lemmas.List.{append-nil, length-append, drop_at}
use Rattle.std.proofs.lemmas.Fmt.{decimal_injective}
use Rattle.frame_grammar.specs.declared.parts.Class.{Class}
use Rattle.frame_grammar.specs.declared.parts.Class.TheVariants as classes
use Rattle.frame_grammar.specs.declared.parts.Unread.{Unread}
use Rattle.frame_grammar.specs.declared.parts.Unread.TheVariants as unread
use Rattle.frame_grammar.specs.declared.TheConstants.{KEY_BYTES, NUMBER_DIGITS, VERB_BYTES, LENGTH_DIGITS, HEAD_BYTES}
use Rattle.frame_grammar.specs.Frames.{IsToken, IsKey, IsVerb, IsDigit, HeadParts, IsHead, head_bytes, NoHead, BeginsHead}
use Rattle.frame_grammar.specs.Reading.{Fails, IsOf, stopped, numbered, IsHeadAt}
use Rattle.frame_grammar.proofs.Tokens.{apart, one_cut, sample, sample_is}
use Rattle.frame_grammar.proofs.Numbers.{decimal_token, fits_64, digit_apart}
use Rattle.frame_grammar.proofs.Sequences.{IsPart, Both, spelled_both, first_fails, second_fails, both_part}

token_part : (class : Class) (most stop : ℕ) → stop < 33 → 0 < most → IsPart (IsToken (IsOf class) most) (stopped stop)
token_part class most stop low some = record {
  before = λ text rest more. append_assoc text (stop ∷ rest) more;
  one = λ a b x y here there e. one_cut (IsOf class) stop (apart class stop low) a b x y here.each there.each e;
  sample = sample class ∷ [];
  sample_good = record { some = lit< tt; few = omega arith; each = (sample_is class, tt) };
}

-- numbers of at most this many digits
abbrev pub Below : ℕ → ℕ → Type 0
Below digits n = n < 10 ^ digits

one_number : (digits stop : ℕ) → 0 < digits → digits ≤ 19 → stop < 33 → (m n : ℕ) (x y : List ℕ) → Below digits m → Below digits n → numbered stop m x ≡ numbered stop n y → (m ≡ n) × (x ≡ y)
one_number digits stop some few low m n x y here there e =
    let cut = one_cut IsDigit stop (digit_apart stop low) (decimal m) (decimal n) x y (decimal_token digits m some few here).each (decimal_token digits n some few there).each e in
    (decimal_injective m n (fits_64 digits m few here) (fits_64 digits n few there) cut.0, cut.1)

number_part : (digits stop : ℕ) → 0 < digits → digits ≤ 19 → stop < 33 → IsPart (Below digits) (numbered stop)
number_part digits stop some few low = record {
  before = λ n rest more. append_assoc (decimal n) (stop ∷ rest) more;
  one = one_number digits stop some few low;
  sample = 0;
  sample_good = one-le-pow digits 10 (lit< tt);
}

key_part : IsPart IsKey (stopped 32)
key_part = token_part classes.Printable KEY_BYTES 32 (lit< tt) (lit< tt)

request_part : IsPart (Below NUMBER_DIGITS) (numbered 32)
request_part = number_part NUMBER_DIGITS 32 (lit< tt) (lit≤ tt) (lit< tt)

verb_part : IsPart IsVerb (stopped 32)
verb_part = token_part classes.Verb VERB_BYTES 32 (lit< tt) (lit< tt)

length_part : IsPart (Below LENGTH_DIGITS) (numbered 10)
length_part = number_part LENGTH_DIGITS 10 (lit< tt) (lit≤ tt) (lit< tt)

-- ---- the fields from the verb on, from the number on, and all

abbrev Asked : List ℕ × ℕ → Type 0
Asked = Both IsVerb (Below LENGTH_DIGITS)

abbrev asked : List ℕ × ℕ → List ℕ → List ℕ
asked = spelled_both (stopped 32) (numbered 10)

asked_part : IsPart Asked asked
asked_part = both_part IsVerb (stopped 32) (Below LENGTH_DIGITS) (numbered 10) verb_part length_part

abbrev Numbered : ℕ × (List ℕ × ℕ) → Type 0
Numbered = Both (Below NUMBER_DIGITS) Asked

abbrev behind_key : ℕ × (List ℕ × ℕ) → List ℕ → List ℕ
behind_key = spelled_both (numbered 32) asked

behind_key_part : IsPart Numbered behind_key
behind_key_part = both_part (Below NUMBER_DIGITS) (numbered 32) Asked asked request_part asked_part

abbrev Fields : Type 0
Fields = List ℕ × (ℕ × (List ℕ × ℕ))

abbrev AreFields : Fields → Type 0
AreFields = Both IsKey Numbered

abbrev fields : Fields → List ℕ → List ℕ
fields = spelled_both (stopped 32) behind_key

fields_part : IsPart AreFields fields
fields_part = both_part IsKey (stopped 32) Numbered behind_key key_part behind_key_part

abbrev named : Fields → HeadParts
named p = record { key = p.0; number = p.1.0; verb = p.1.1.0; length = p.1.1.1 }

abbrev unnamed : HeadParts → Fields
unnamed h = (h.key, (h.number, (h.verb, h.length)))

named_good : (p : Fields) → AreFields p → IsHead (named p)
named_good p good = record { key = good.0; number = good.1.0; verb = good.1.1.0; length = good.1.1.1 }

unnamed_good : (h : HeadParts) → IsHead h → AreFields (unnamed h)
unnamed_good h good = (good.key, (good.number, (good.verb, good.length)))

-- what follows a head follows its bytes
pub head_before : (h : HeadParts) (rest more : List ℕ) → head_bytes h rest ++ more ≡ head_bytes h (rest ++ more)
head_before h rest more = fields_part.before (unnamed h) rest more

-- a text has one head at its front
pub one_head : (g h : HeadParts) (x y : List ℕ) → IsHead g → IsHead h → head_bytes g x ≡ head_bytes h y → (g ≡ h) × (x ≡ y)
one_head g h x y here there e =
    let both = fields_part.one (unnamed g) (unnamed h) x y (unnamed_good g here) (unnamed_good h there) e in
    (ap named both.0, both.1)

-- ---- why no head is read

fields_fail : (bytes : List ℕ) (e : Unread) → Fails AreFields fields bytes e → Fails IsHead head_bytes bytes e
fields_fail bytes unread.Bad never = λ more h rest good e. never more (unnamed h) rest (unnamed_good h good) e
fields_fail bytes unread.Part fails =
    (λ h rest good e. fails.0 (unnamed h) rest (unnamed_good h good) e, (fails.1.0, named fails.1.1, named_good fails.1.1 fails.1.2, fails.1.3))

pub key_fails : (bytes : List ℕ) (e : Unread) → Fails IsKey (stopped 32) bytes e → Fails IsHead head_bytes bytes e
key_fails bytes e fails = fields_fail bytes e (first_fails IsKey (stopped 32) Numbered behind_key key_part behind_key_part bytes e fails)

behind_key_fails : (bytes key rest : List ℕ) (e : Unread) → IsKey key → bytes ≡ stopped 32 key rest → Fails Numbered behind_key rest e → Fails IsHead head_bytes bytes e
behind_key_fails bytes key rest e good is fails = fields_fail bytes e (second_fails IsKey (stopped 32) Numbered behind_key key_part bytes key rest e good is fails)

pub request_fails : (bytes key rest : List ℕ) (e : Unread) → IsKey key → bytes ≡ stopped 32 key rest → Fails (Below NUMBER_DIGITS) (numbered 32) rest e → Fails IsHead head_bytes bytes e
request_fails bytes key rest e good is fails =
    behind_key_fails bytes key rest e good is (first_fails (Below NUMBER_DIGITS) (numbered 32) Asked asked request_part asked_part rest e fails)

-- a key and a number that stand at the front
pub record IsCaller (bytes key : List ℕ) (number : ℕ) (rest : List ℕ) : Type 0 where
  pub middle : List ℕ
  pub key_good : IsKey key
  pub number_good : Below NUMBER_DIGITS number
  pub first : bytes ≡ stopped 32 key middle
  pub second : middle ≡ numbered 32 number rest

asked_fails : (bytes key : List ℕ) (number : ℕ) (rest : List ℕ) (e : Unread) → IsCaller bytes key number rest → Fails Asked asked rest e → Fails IsHead head_bytes bytes e
asked_fails bytes key number rest e caller fails =
    behind_key_fails bytes key caller.middle e caller.key_good caller.first
    (second_fails (Below NUMBER_DIGITS) (numbered 32) Asked asked request_part caller.middle number rest e caller.number_good caller.second fails)

pub verb_fails : (bytes key : List ℕ) (number : ℕ) (rest : List ℕ) (e : Unread) → IsCaller bytes key number rest → Fails IsVerb (stopped 32) rest e → Fails IsHead head_bytes bytes e
verb_fails bytes key number rest e caller fails =
    asked_fails bytes key number rest e caller (first_fails IsVerb (stopped 32) (Below LENGTH_DIGITS) (numbered 10) verb_part length_part rest e fails)

pub length_fails : (bytes key : List ℕ) (number : ℕ) (rest verb after : List ℕ) (e : Unread) → IsCaller bytes key number rest → IsVerb verb → rest ≡ stopped 32 verb after
    → Fails (Below LENGTH_DIGITS) (numbered 10) after e → Fails IsHead head_bytes bytes e
length_fails bytes key number rest verb after e caller good is fails =
    asked_fails bytes key number rest e caller (second_fails IsVerb (stopped 32) (Below LENGTH_DIGITS) (numbered 10) verb_part rest verb after e good is fails)

-- ---- where a head stands

head_end : (h : HeadParts) (rest : List ℕ) → head_bytes h rest ≡ head_bytes h [] ++ rest
head_end h rest = sym (head_before h [] rest)

length_head : (h : HeadParts) (rest : List ℕ) → length (head_bytes h rest) ≡ length (head_bytes h []) + length rest
length_head h rest = ap length (head_end h rest) ∙ length-append (head_bytes h []) rest

-- a head has at least its line feed, and at most the bytes that its fields may have
length_fields : (a b c d : List ℕ) → length (a ++ 32 ∷ (b ++ 32 ∷ (c ++ 32 ∷ (d ++ 10 ∷ [])))) ≡ length a + length b + length c + length d + 4
length_fields a b c d = simp length-append (omega arith)

pub head_some : (h : HeadParts) → 0 < length (head_bytes h [])
head_some h = omega (arith, length_fields h.key (decimal h.number) h.verb (decimal h.length))

pub head_few : (h : HeadParts) → IsHead h → length (head_bytes h []) ≤ HEAD_BYTES
head_few h good =
    let number = decimal_token NUMBER_DIGITS h.number (lit< tt) (lit≤ tt) good.number in
    let size = decimal_token LENGTH_DIGITS h.length (lit< tt) (lit≤ tt) good.length in
    omega (arith, length_fields h.key (decimal h.number) h.verb (decimal h.length), number.few, size.few, good.key.few, good.verb.few)

pub head_size : (bytes : List ℕ) (h : HeadParts) (rest : List ℕ) (size : ℕ) → bytes ≡ head_bytes h rest → size + length rest ≡ length bytes → size ≡ length (head_bytes h [])
head_size bytes h rest size is adds = omega (arith, length_head h rest, ap length is)

pub head_rest : (bytes : List ℕ) (h : HeadParts) (rest : List ℕ) (size : ℕ) → bytes ≡ head_bytes h rest → size + length rest ≡ length bytes → drop size bytes ≡ rest
head_rest bytes h rest size is adds =
    ap (drop size) (is ∙ head_end h rest) ∙ drop_at (head_bytes h []) rest size (sym (head_size bytes h rest size is adds))

pub head_at_front : (bytes : List ℕ) (h : HeadParts) (rest : List ℕ) (size : ℕ) → IsHead h → bytes ≡ head_bytes h rest → size + length rest ≡ length bytes → IsHeadAt bytes h size
head_at_front bytes h rest size good is adds = record {
  good = good;
  spelled = is ∙ ap (head_bytes h) (sym (head_rest bytes h rest size is adds));
  within = omega arith;
}

shorter : (bytes more : List ℕ) (h : HeadParts) → IsHead h → (bytes ≡ head_bytes h [] → ⊥) → bytes ++ more ≡ head_bytes h [] → length bytes < HEAD_BYTES
shorter bytes [] h good lacks is = absurd (lacks (sym (append-nil bytes) ∙ is))
shorter bytes (m ∷ more) h good lacks is = omega (arith, head_few h good, ap length is, length-append bytes (m ∷ more))

-- what is the front of a head, and has no head yet, is shorter than a head
pub front_short : (bytes : List ℕ) → NoHead bytes → BeginsHead bytes → length bytes < HEAD_BYTES
front_short bytes lacks begins = shorter bytes begins.0 begins.1 begins.2 (lacks begins.1 [] begins.2) begins.3

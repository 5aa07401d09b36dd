-- A head has ended where the scan says so, and not before.
use Rattle.std.proofs.Common.{◌≡◌, ◌≢◌, ℕ, zero, suc, ◌<◌, ◌≤◌, Bool, true, false, cond, List, [], ◌∷◌, ◌++◌, length, fold, refl, sym, ap, ◌∙◌, subst, append_assoc, arith}
use Rattle.std.proofs.Common.{take, drop}
use Rattle.std.proofs.lemmas.List.{take-append-drop}
use Rattle.std.specs.List.{flat_map, AllByRecursion}
use Rattle.std.proofs.lemmas.List.Sums.{fold-append}
use Rattle.std.specs.Prelude.{All, ◌==◌}
use Rattle.std.proofs.lemmas.List.Elements.{All-head, All-tail}
use Rattle.std.proofs.lemmas.Bool.{ne_eqb, false≢true}
use Rattle.httparse.specs.Grammar.{is_token_byte, is_uri_byte, is_value_byte, AllPass, LineEnd, crlf, lf, print_end, print_blank, print_version, Field, print_field, IsField, RequestHead, IsRequestHead, print_request, HasNoRequest}
use Rattle.httparse.proofs.GrammarLemmas.{print_request-append, cons-append}
use Rattle.desk_http.specs.declared.scan.Scan.{Scan}
use Rattle.desk_http.specs.declared.scan.Scan.TheVariants.{Blank, Inside, LineEnd as AtEnd, Return, Ended}
use Rattle.desk_http.specs.Scans.{scan_byte, scanned, is_ended}

abbrev over : Scan → List ℕ → Scan
over scan bytes = fold scan_byte scan bytes

-- ---- one byte

-- a byte that neither ends a line nor stands in front of its end
abbrev IsPlain : ℕ → Type 0
IsPlain byte = (byte ≢ 10) × (byte ≢ 13)

inside_stays : (byte : ℕ) → byte ≢ 10 → scan_byte Inside byte ≡ Inside
unfolding scan_byte
inside_stays byte other = ap (λ t. cond t AtEnd Inside) (ne_eqb byte 10 other)

-- a scan from which a plain byte leads into a line
abbrev Enters : Scan → Type 0
Enters scan = (byte : ℕ) → IsPlain byte → scan_byte scan byte ≡ Inside

enters_blank : Enters Blank
unfolding scan_byte
enters_blank byte plain = ap (λ t. cond t Blank (cond (byte == 13) Blank Inside)) (ne_eqb byte 10 plain.0) ∙ ap (λ t. cond t Blank Inside) (ne_eqb byte 13 plain.1)

enters_next : Enters AtEnd
unfolding scan_byte
enters_next byte plain = ap (λ t. cond t Ended (cond (byte == 13) Return Inside)) (ne_eqb byte 10 plain.0) ∙ ap (λ t. cond t Return Inside) (ne_eqb byte 13 plain.1)

-- ---- texts

inside_over : (bytes : List ℕ) → AllByRecursion (λ b. b ≢ 10) bytes → over Inside bytes ≡ Inside
inside_over [] all = refl
inside_over (b ∷ bs) all = ap (λ s. over s bs) (inside_stays b all.0) ∙ inside_over bs all.1

ended_over : (bytes : List ℕ) → over Ended bytes ≡ Ended
unfolding scan_byte
ended_over [] = refl
ended_over (b ∷ bs) = ended_over bs

-- a text whose first byte is plain, and which has no line feed
enter_over : (scan : Scan) → Enters scan → (bytes : List ℕ) → 0 < length bytes → AllByRecursion IsPlain bytes → over scan bytes ≡ Inside
enter_over scan enters [] some all = absurd (omega arith)
enter_over scan enters (b ∷ bs) some all = ap (λ s. over s bs) (enters b all.0) ∙ inside_over bs (feeds bs all.1)
  where
    feeds : (bs : List ℕ) → AllByRecursion IsPlain bs → AllByRecursion (λ b. b ≢ 10) bs
    feeds [] all = tt
    feeds (b ∷ bs) all = (all.0.0, feeds bs all.1)

blank_over : (ends : List LineEnd) → over Blank (print_blank ends) ≡ Blank
unfolding scan_byte
blank_over [] = refl
blank_over (crlf ∷ ends) = blank_over ends
blank_over (lf ∷ ends) = blank_over ends

line_over : (end : LineEnd) → over Inside (print_end end) ≡ AtEnd
unfolding scan_byte
line_over crlf = refl
line_over lf = refl

last_over : (end : LineEnd) → over AtEnd (print_end end) ≡ Ended
unfolding scan_byte
last_over crlf = refl
last_over lf = refl

-- ---- the parts of a head

-- what each byte passes, one byte after the other
each_passes : (test : ℕ → Bool) (P : ℕ → Type 0) → ((b : ℕ) → test b ≡ true → P b) → (bytes : List ℕ) → AllPass test bytes → AllByRecursion P bytes
each_passes test P weaker [] all = tt
each_passes test P weaker (b ∷ bs) all = (weaker b (All-head (λ v. test v ≡ true) b bs all), each_passes test P weaker bs (All-tail (λ v. test v ≡ true) b bs all))

token_is_plain : (b : ℕ) → is_token_byte b ≡ true → IsPlain b
unfolding is_token_byte
token_is_plain b token = (
  λ e. false≢true (subst (λ (v : ℕ). is_token_byte v ≡ true) e token),
  λ e. false≢true (subst (λ (v : ℕ). is_token_byte v ≡ true) e token),
)

uri_ends_none : (b : ℕ) → is_uri_byte b ≡ true → b ≢ 10
uri_ends_none b good e = false≢true (subst (λ (v : ℕ). is_uri_byte v ≡ true) e good)

value_ends_none : (b : ℕ) → is_value_byte b ≡ true → b ≢ 10
value_ends_none b good e = false≢true (subst (λ (v : ℕ). is_value_byte v ≡ true) e good)

-- what follows a text
step : (scan next : Scan) (xs ys : List ℕ) → over scan xs ≡ next → over scan (xs ++ ys) ≡ over next ys
step scan next xs ys is = fold-append scan_byte scan xs ys ∙ ap (λ s. over s ys) is

version_over : (minor : ℕ) → minor ≤ 1 → over Inside (print_version minor) ≡ Inside
unfolding scan_byte
version_over zero few = refl
version_over (suc zero) few = refl
version_over (suc (suc n)) few = absurd (omega arith)

-- one byte that ends no line, inside a line
colon_over : (ys : List ℕ) → over Inside (58 ∷ ys) ≡ over Inside ys
unfolding scan_byte
colon_over ys = refl

space_over : (ys : List ℕ) → over Inside (32 ∷ ys) ≡ over Inside ys
unfolding scan_byte
space_over ys = refl

field_parts : (a b c : List ℕ) → a ++ 58 ∷ b ++ c ≡ a ++ (58 ∷ (b ++ c))
field_parts a b c = simp (append_assoc, cons-append)

field_over : (f : Field) → IsField f → over AtEnd (print_field f) ≡ AtEnd
field_over f good =
    ap (over AtEnd) (field_parts f.name f.raw (print_end f.end))
    ∙ step AtEnd Inside f.name (58 ∷ (f.raw ++ print_end f.end)) (enter_over AtEnd enters_next f.name good.name.0 (each_passes is_token_byte IsPlain token_is_plain f.name good.name.1))
    ∙ colon_over (f.raw ++ print_end f.end)
    ∙ step Inside Inside f.raw (print_end f.end) (inside_over f.raw (each_passes is_value_byte (λ b. b ≢ 10) value_ends_none f.raw good.raw))
    ∙ line_over f.end

fields_over : (fs : List Field) → All IsField fs → over AtEnd (flat_map print_field fs) ≡ AtEnd
fields_over [] all = refl
fields_over (f ∷ fs) all = step AtEnd AtEnd (print_field f) (flat_map print_field fs) (field_over f (All-head IsField f fs all)) ∙ fields_over fs (All-tail IsField f fs all)

request_over : (h : RequestHead) (rest : List ℕ) → IsRequestHead h → over Blank (print_request h ++ rest) ≡ Ended
request_over h rest good =
    let section : List ℕ = flat_map print_field h.fields ++ print_end h.last in
    let lines : List ℕ = print_end h.line_end ++ (section ++ rest) in
    let version : List ℕ = print_version h.minor ++ lines in
    let target : List ℕ = h.target ++ 32 ∷ version in
    let method : List ℕ = h.method ++ 32 ∷ target in
    ap (over Blank) (print_request-append h rest)
    ∙ step Blank Blank (print_blank h.blank) method (blank_over h.blank)
    ∙ step Blank Inside h.method (32 ∷ target) (enter_over Blank enters_blank h.method good.method.0 (each_passes is_token_byte IsPlain token_is_plain h.method good.method.1))
    ∙ space_over target
    ∙ step Inside Inside h.target (32 ∷ version) (inside_over h.target (each_passes is_uri_byte (λ b. b ≢ 10) uri_ends_none h.target good.target.1))
    ∙ space_over version
    ∙ step Inside Inside (print_version h.minor) lines (version_over h.minor good.minor)
    ∙ step Inside AtEnd (print_end h.line_end) (section ++ rest) (line_over h.line_end)
    ∙ step AtEnd Ended section rest (step AtEnd AtEnd (flat_map print_field h.fields) (print_end h.last) (fields_over h.fields good.fields) ∙ last_over h.last)
    ∙ ended_over rest

-- where no head has ended, none stands
pub not_ended : (bytes : List ℕ) (scan : Scan) → scan ≡ scanned bytes → is_ended scan ≡ false → HasNoRequest bytes
unfolding scanned
not_ended bytes scan is open_yet h rest reads = false≢true (sym open_yet ∙ ap is_ended (is ∙ ap (over Blank) reads.1 ∙ request_over h rest reads.0))

-- ---- what follows a head's end

ended_is : (scan : Scan) → is_ended scan ≡ true → scan ≡ Ended
ended_is Blank e = absurd (false≢true e)
ended_is Inside e = absurd (false≢true e)
ended_is AtEnd e = absurd (false≢true e)
ended_is Return e = absurd (false≢true e)
ended_is Ended e = refl

-- where a front of the bytes has ended a head, the bytes after it change nothing
pub ends_early : (scan now : Scan) (before bytes : List ℕ) (n : ℕ) → scan ≡ scanned before → now ≡ over scan (take n bytes) → is_ended now ≡ true
    → now ≡ scanned (before ++ bytes)
unfolding scanned
ends_early scan now before bytes n is so_far end =
    let ended : now ≡ Ended = ended_is now end in
    let front : over scan (take n bytes) ≡ Ended = sym so_far ∙ ended in
    let all : over scan bytes ≡ Ended =
    ap (over scan) (sym (take-append-drop n bytes)) ∙ step scan Ended (take n bytes) (drop n bytes) front ∙ ended_over (drop n bytes) in
    sym (fold-append scan_byte Blank before bytes ∙ ap (λ s. over s bytes) (sym is) ∙ all ∙ sym ended)

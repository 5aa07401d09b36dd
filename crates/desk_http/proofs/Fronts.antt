-- A head that was parsed.
use Rattle.std.proofs.Common.{◌≡◌, ℕ, ◌<◌, ◌≤◌, List, [], ◌∷◌, ◌++◌, map, length, take, drop, Option, Some, None, sym, ap, ◌∙◌, arith}
use Rattle.std.proofs.lemmas.List.{length-append, length-map, length-take}
use Rattle.httparse.specs.declared.spans.HeaderSpan.{HeaderSpan}
use Rattle.httparse.specs.declared.spans.RequestSpans.{RequestSpans}
use Rattle.httparse.specs.Grammar.{RequestHead, IsRequestHead, print_blank, print_request, print_version, print_end, print_section}
use Rattle.httparse.specs.Spans.{IsRequestOf, header_bytes, span_bytes, name_and_value}
use Rattle.httparse.proofs.GrammarLemmas.{print_request-append}
use Rattle.desk_http.specs.declared.TheConstants.{HEAD_BYTES, HEAD_FIELDS}
use Rattle.desk_http.specs.declared.head.HeadParts.{HeadParts}
use Rattle.desk_http.specs.Heads.{said_of, said_by, fields_of, IsHead, NeverMessage}
use Rattle.desk_http.proofs.Messages.{never_bad, never_long}

-- a head has bytes
pub some_bytes : (h : RequestHead) → IsRequestHead h → 0 < length (print_request h)
some_bytes h good =
    let lines : List ℕ = print_end h.line_end ++ (print_section h.fields h.last ++ []) in
    let target : List ℕ = h.target ++ 32 ∷ (print_version h.minor ++ lines) in
    omega (arith, ap length (print_request-append h []), length-append (print_request h) [], length-append (print_blank h.blank) (h.method ++ 32 ∷ target), length-append h.method (32 ∷ target))

module _ (bytes : List ℕ) (headers named : List HeaderSpan) (spans : RequestSpans) (found : IsRequestOf bytes headers spans) (front : named ≡ take spans.headers headers) where
  pub head : RequestHead
  head = found.0

  abbrev pub said : Option HeadParts
  said = said_of (span_bytes bytes spans.method) (span_bytes bytes spans.path) spans.version (map (header_bytes bytes) named)

  fields : map (header_bytes bytes) named ≡ fields_of found.0
  fields = ap (map (header_bytes bytes)) front ∙ found.1.fields

  says : said ≡ said_by found.0
  says = λ i. said_of (found.1.method i) (found.1.path i) (found.1.version i) (fields i)

  few_fields : length headers ≡ HEAD_FIELDS → length found.0.fields ≤ HEAD_FIELDS
  few_fields room =
      omega (arith, sym (length-map found.0.fields name_and_value), sym (ap length found.1.fields), length-map (take spans.headers headers) (header_bytes bytes), length-take spans.headers headers, room)

  pub too_long : HEAD_BYTES < spans.len → NeverMessage bytes
  too_long long = never_long bytes found.0 (drop spans.len bytes) found.1.reads (omega (arith, long, found.1.len))

  pub breaks_a_rule : said ≡ None → NeverMessage bytes
  breaks_a_rule none = never_bad bytes found.0 (drop spans.len bytes) found.1.reads (sym says ∙ none)

  pub whole : (parts : HeadParts) → length headers ≡ HEAD_FIELDS → spans.len ≤ HEAD_BYTES → said ≡ Some parts → spans.len ≤ length bytes
      → IsHead bytes parts (drop spans.len bytes) × (0 < spans.len) × (spans.len ≤ length bytes)
  whole parts room short is inside = (
    record {
      head = found.0;
      reads = found.1.reads;
      short = omega (arith, short, found.1.len);
      few = few_fields room;
      says = sym says ∙ is;
    },
    omega (arith, found.1.len, some_bytes found.0 found.1.reads.0),
    inside,
  )

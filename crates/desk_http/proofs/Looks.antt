-- Bytes that were looked at, and those that came after them.
use Rattle.std.proofs.Common.{◌≡◌, ◌≢◌, ℕ, ◌+◌, ◌≤◌, ◌⊎◌, inl, inr, List, [], ◌++◌, length, take, drop, refl, sym, ap, ◌∙◌, subst, arith}
use Rattle.std.specs.Prelude.{Contains}
use Rattle.std.proofs.lemmas.List.{append-nil, length-append, take_all, drop_all, take-append-drop, take-append-le, drop-append-le}
use Rattle.std.proofs.lemmas.List.Elements.{Contains-append_cases}
use Rattle.httparse.specs.Grammar.{MayBecomeRequest, print_request}
use Rattle.desk_http.specs.declared.scan.Scan.{Scan}
use Rattle.desk_http.specs.declared.scan.Scan.TheVariants.{Blank}
use Rattle.desk_http.specs.declared.scan.Looked.{Looked}
use Rattle.desk_http.specs.Scans.{scanned}
use Rattle.desk_http.specs.Reading.{IsLooked}
use Rattle.desk_http.proofs.Messages.{plain_head, plain_is}

no_feed_in_nothing : (bytes : List ℕ) → bytes ≡ [] → ¬ (Contains bytes 10)
no_feed_in_nothing bytes none has = absurd (omega (arith, has.1, ap length none))

-- no byte has come
nothing_looked : IsLooked [] (record { scan = Blank; seen = 0; parsed = 0 })
unfolding scanned
nothing_looked = record {
  scan = refl;
  seen = refl;
  parsed = record {
    within = omega arith;
    half = omega arith;
    may = inl (print_request plain_head, plain_head, (plain_is, sym (append-nil (print_request plain_head))));
    lines = inl refl;
  };
}

-- the same of a look that was not made yet, beside bytes that came before it
pub none_yet : (ahead : List ℕ) (looked : Looked) → looked ≡ record { scan = Blank; seen = 0; parsed = 0 }
    → (looked.seen ≤ length ahead) × IsLooked (take looked.seen ahead) looked
none_yet ahead looked is =
    subst (λ (l : Looked). (l.seen ≤ length ahead) × IsLooked (take l.seen ahead) l) (sym is) (omega arith, nothing_looked)

-- the bytes were parsed now, all of them
pub parsed_now : (bytes : List ℕ) (scan : Scan) → scan ≡ scanned bytes → MayBecomeRequest bytes
    → IsLooked bytes (record { scan = scan; seen = length bytes; parsed = length bytes })
parsed_now bytes scan is may = record {
  scan = is;
  seen = refl;
  parsed = record {
    within = omega arith;
    half = omega arith;
    may = subst MayBecomeRequest (sym (take_all (length bytes) bytes (omega arith))) may;
    lines = inr (no_feed_in_nothing (drop (length bytes) bytes) (drop_all (length bytes) bytes (omega arith)));
  };
}

-- a line feed comes only with bytes after which they are parsed
lines_on : (bytes front fresh : List ℕ) (parsed : ℕ) (scan before : Scan) → bytes ≡ front ++ fresh → parsed ≤ length front → scan ≡ scanned bytes → before ≡ scanned front
    → (scan ≡ Blank) ⊎ ((before ≢ Blank) × ¬ (Contains fresh 10)) → (scanned front ≡ Blank) ⊎ ¬ (Contains (drop parsed front) 10)
    → (scanned bytes ≡ Blank) ⊎ ¬ (Contains (drop parsed bytes) 10)
lines_on bytes front fresh parsed scan before joined within is was (inl blank) old = inl (sym is ∙ blank)
lines_on bytes front fresh parsed scan before joined within is was (inr other) (inl blank) = absurd (other.0 (was ∙ blank))
lines_on bytes front fresh parsed scan before joined within is was (inr other) (inr none) =
    let same : drop parsed bytes ≡ drop parsed front ++ fresh = ap (drop parsed) joined ∙ drop-append-le parsed front fresh within in
    inr (λ has. neither (Contains-append_cases (drop parsed front) fresh 10 (subst (λ (t : List ℕ). Contains t 10) same has)))
  where
    neither : Contains (drop parsed front) 10 ⊎ Contains fresh 10 → ⊥
    neither (inl a) = none a
    neither (inr b) = other.1 b

-- the bytes weren't parsed again
pub looked_on : (bytes fresh : List ℕ) (before : Looked) (scan : Scan) → before.seen ≤ length bytes → IsLooked (take before.seen bytes) before → fresh ≡ drop before.seen bytes
    → scan ≡ scanned bytes → length bytes ≤ before.parsed + before.parsed → (scan ≡ Blank) ⊎ ((before.scan ≢ Blank) × ¬ (Contains fresh 10))
    → IsLooked bytes (record { scan = scan; seen = length bytes; parsed = before.parsed })
looked_on bytes fresh before scan seen was behind is half lines =
    let front : List ℕ = take before.seen bytes in
    let joined : bytes ≡ front ++ fresh = sym (ap (λ (t : List ℕ). front ++ t) behind ∙ take-append-drop before.seen bytes) in
    let within : before.parsed ≤ length front = was.parsed.within in
    record {
      scan = is;
      seen = refl;
      parsed = record {
        within = omega (arith, within, length-append front fresh, ap length joined);
        half = half;
        may = subst MayBecomeRequest (sym (ap (take before.parsed) joined ∙ take-append-le before.parsed front fresh within)) was.parsed.may;
        lines = lines_on bytes front fresh before.parsed scan before.scan joined within is was.scan lines was.parsed.lines;
      };
    }

-- Parts that stand one after the other.
use Rattle.std.proofs.Common.{◌≡◌, ℕ, List, [], ◌++◌, sym, ap, ◌∙◌, append_assoc}
use Rattle.frame_grammar.specs.declared.parts.Unread.{Unread}
use Rattle.frame_grammar.specs.declared.parts.Unread.TheVariants as unread
use Rattle.frame_grammar.specs.Reading.{Fails}

-- what a part has that others may follow: its bytes stand before what follows, a text has one at its front, and there
-- is one
pub record IsPart {V : Type 0} (good : V → Type 0) (spelled : V → List ℕ → List ℕ) : Type 0 where
  pub before : (v : V) (rest more : List ℕ) → spelled v rest ++ more ≡ spelled v (rest ++ more)
  pub one : (v w : V) (x y : List ℕ) → good v → good w → spelled v x ≡ spelled w y → (v ≡ w) × (x ≡ y)
  pub sample : V
  pub sample_good : good sample

-- two parts, one after the other
abbrev pub Both : {V W : Type 0} → (V → Type 0) → (W → Type 0) → V × W → Type 0
Both good fine p = good p.0 × fine p.1

abbrev pub spelled_both : {V W : Type 0} → (V → List ℕ → List ℕ) → (W → List ℕ → List ℕ) → V × W → List ℕ → List ℕ
spelled_both first second p rest = first p.0 (second p.1 rest)

module _ {V W : Type 0} (good : V → Type 0) (first : V → List ℕ → List ℕ) (fine : W → Type 0) (second : W → List ℕ → List ℕ) where
  -- where the first isn't read, both aren't, for the same reason
  pub first_fails : IsPart good first → IsPart fine second → (bytes : List ℕ) (e : Unread) → Fails good first bytes e → Fails (Both good fine) (spelled_both first second) bytes e
  first_fails part behind bytes unread.Bad never = λ more p rest goods e. never more p.0 (second p.1 rest) goods.0 e
  first_fails part behind bytes unread.Part fails =
      let more = fails.1.0 in
      let v = fails.1.1 in
      let after = second behind.sample [] in
      let whole : bytes ++ (more ++ after) ≡ first v after =
      sym (append_assoc bytes more after) ∙ ap (λ (t : List ℕ). t ++ after) fails.1.3 ∙ part.before v [] after in
      (λ p rest goods e. fails.0 p.0 (second p.1 rest) goods.0 e, (more ++ after, (v, behind.sample), (fails.1.2, behind.sample_good), whole))

  -- where the second isn't read after the first, both aren't, for the same reason
  pub second_fails : IsPart good first → (bytes : List ℕ) (v : V) (rest : List ℕ) (e : Unread) → good v → bytes ≡ first v rest → Fails fine second rest e
      → Fails (Both good fine) (spelled_both first second) bytes e
  second_fails part bytes v rest unread.Bad here is never = λ more p tail goods e.
      let front : first v (rest ++ more) ≡ first p.0 (second p.1 tail) = sym (part.before v rest more) ∙ sym (ap (λ (t : List ℕ). t ++ more) is) ∙ e in
      never more p.1 tail goods.1 (part.one v p.0 (rest ++ more) (second p.1 tail) here goods.0 front).1
  second_fails part bytes v rest unread.Part here is fails =
      let more = fails.1.0 in
      let w = fails.1.1 in (
        λ p tail goods e. fails.0 p.1 tail goods.1 (part.one v p.0 rest (second p.1 tail) here goods.0 (sym is ∙ e)).1,
        (more, (v, w), (here, fails.1.2), ap (λ (t : List ℕ). t ++ more) is ∙ part.before v rest more ∙ ap (first v) fails.1.3),
      )

  both_before : IsPart good first → IsPart fine second → (p : V × W) (rest more : List ℕ) → spelled_both first second p rest ++ more ≡ spelled_both first second p (rest ++ more)
  both_before a b p rest more = a.before p.0 (second p.1 rest) more ∙ ap (first p.0) (b.before p.1 rest more)

  both_one : IsPart good first → IsPart fine second → (p q : V × W) (x y : List ℕ) → Both good fine p → Both good fine q → spelled_both first second p x ≡ spelled_both first second q y → (p ≡ q) × (x ≡ y)
  both_one a b p q x y here there e =
      let f = a.one p.0 q.0 (second p.1 x) (second q.1 y) here.0 there.0 e in
      let s = b.one p.1 q.1 x y here.1 there.1 f.1 in
      (ap (λ (v : V). (v, p.1)) f.0 ∙ ap (λ (w : W). (q.0, w)) s.0, s.1)

  pub both_part : IsPart good first → IsPart fine second → IsPart (Both good fine) (spelled_both first second)
  both_part a b = record { before = both_before a b; one = both_one a b; sample = (a.sample, b.sample); sample_good = (a.sample_good, b.sample_good) }

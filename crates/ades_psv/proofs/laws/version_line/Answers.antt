use Rattle.std.proofs.Common.{◌≡◌, ℕ, true, eqb, List, [], ◌∷◌, ◌++◌, refl, sym, ap, ◌∙◌}
use Rattle.std.specs.Prelude.{codes}
use Rattle.std.specs.Cmp.Lexicographic.{same_text}
use Rattle.std.proofs.lemmas.Bool.{eqb-true, and_parts}
use Rattle.ascii_text.specs.Blanks.{blanks, trimmed, IsTrimmed}
use Rattle.ascii_text.specs.Laws.{TextLaws}
use Rattle.ades_psv.specs.Cells.{is_word}
use Rattle.ades_psv.specs.Headers.{is_version}
use Rattle.ades_psv.proofs.laws.version_line.Goals as goal

-- the text of such a line
abbrev version_text : ℕ → ℕ → List ℕ
version_text before after = 35 ∷ (blanks before ++ (codes "version=2017" ++ blanks after))

spelled : (texts : TextLaws) (line : List ℕ) → is_version line ≡ true → (before : ℕ) × (after : ℕ) × (line ≡ version_text before after)
unfolding is_version
spelled texts [] is = absurd cc
spelled texts (first ∷ rest) is =
    let tests = and_parts (eqb first 35) (is_word (codes "version=2017") (trimmed rest)) is in
    let middle : trimmed rest ≡ codes "version=2017" = same_text (trimmed rest) (codes "version=2017") (sym tests.1) in
    let text : IsTrimmed rest (trimmed rest) = texts.trimmed_is rest in (
      text.before,
      text.after,
      ap (λ (b : ℕ). b ∷ rest) (eqb-true first 35 tests.0)
          ∙ ap (λ (t : List ℕ). 35 ∷ t) (text.parts ∙ ap (λ (m : List ℕ). blanks text.before ++ (m ++ blanks text.after)) middle),
    )

alone : (before after : ℕ) → IsTrimmed (blanks before ++ (codes "version=2017" ++ blanks after)) (codes "version=2017")
alone before after = record { before = before; after = after; parts = refl; first = λ h. cc; last = λ h. cc }

taken : (texts : TextLaws) (line : List ℕ) (before after : ℕ) → line ≡ version_text before after → is_version line ≡ true
unfolding is_version
taken texts line before after is =
    rw (is, texts.trimmed_only (blanks before ++ (codes "version=2017" ++ blanks after)) (codes "version=2017") (alone before after)) refl

pub returns : goal.returns
returns c = λ line. (spelled c.texts.ensures line, λ text. taken c.texts.ensures line text.0 text.1 text.2)

-- A text that is cut at the first byte of a kind.
use Rattle.std.proofs.Common.{◌≡◌, ◌≢◌, ℕ, zero, suc, ◌<◌, cond, List, [], ◌∷◌, length, get_or, take, drop, Option, Some, None, refl, ap, ◌∙◌, arith}
use Rattle.std.proofs.lemmas.Bool.{eq-eqb, ne_eqb}
use Rattle.ascii_text.specs.Reading.{◌>>=◌}
use Rattle.desk_http.specs.Heads.{cut_at}

-- the parts after one byte more
abbrev longer : ℕ → Option (List ℕ × List ℕ) → Option (List ℕ × List ℕ)
longer first parts = parts >>= (λ p. Some (first ∷ p.0, p.1))

pub cut_found : (byte : ℕ) (xs : List ℕ) (i : ℕ) → i < length xs → get_or xs i 0 ≡ byte → ((k : ℕ) → k < i → get_or xs k 0 ≢ byte) → cut_at byte xs ≡ Some (take i xs, drop (suc i) xs)
unfolding cut_at
cut_found byte [] i inside is before = absurd (omega arith)
cut_found byte (b ∷ bs) zero inside is before = ap (λ t. cond t (Some ([], bs)) (longer b (cut_at byte bs))) (eq-eqb b byte is)
cut_found byte (b ∷ bs) (suc i) inside is before =
    ap (λ t. cond t (Some ([], bs)) (longer b (cut_at byte bs))) (ne_eqb b byte (before 0 (omega arith)))
    ∙ ap (longer b) (cut_found byte bs i (omega arith) is (λ k below. before (suc k) (omega arith)))

pub cut_nowhere : (byte : ℕ) (xs : List ℕ) → ((k : ℕ) → k < length xs → get_or xs k 0 ≢ byte) → cut_at byte xs ≡ None
unfolding cut_at
cut_nowhere byte [] none = refl
cut_nowhere byte (b ∷ bs) none =
    ap (λ t. cond t (Some ([], bs)) (longer b (cut_at byte bs))) (ne_eqb b byte (none 0 (omega arith)))
    ∙ ap (longer b) (cut_nowhere byte bs (λ k below. none (suc k) (omega arith)))

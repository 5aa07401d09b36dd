-- Slices that have their oldest item first, of lists that have their newest first.
use Rattle.std.proofs.Common.{◌≡◌, ℕ, ◌<◌, List, length, Some, sym, ap, subst, ◌∙◌}
use Rattle.std.specs.Prelude.{reverse, slice_get}
use Rattle.std.proofs.lemmas.List.{reverse-reverse, length-reverse}

module _ {A : Type 0} (slice items : List A) (is : reverse slice ≡ items) where
  pub slice_within : (place : ℕ) → place < length items → place < length slice
  slice_within place within = subst (λ (n : ℕ). place < n) (ap length (sym is) ∙ length-reverse slice) within

  pub slice_at : (place : ℕ) (x : A) → slice_get (reverse items) place ≡ Some x → slice_get slice place ≡ Some x
  slice_at place x there = ap (λ (xs : List A). slice_get xs place) (sym (reverse-reverse slice) ∙ ap reverse is) ∙ there

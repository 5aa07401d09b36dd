-- What is looked for by its mark.
use Rattle.std.proofs.Common.{◌≡◌, ℕ, ◌<◌, Bool, true, false, List, length, get_or, map, refl, ap, sym, ◌∙◌}
use Rattle.std.specs.Prelude.{slice_index}
use Rattle.std.specs.List.{list_any}
use Rattle.std.proofs.lemmas.List.{get_or-map}
use Rattle.std.proofs.lemmas.List.Folds.{list_any_none}

-- where none of those with a mark passes a test, and all that pass have that mark, none passes
pub none_with_mark : {A : Type 0} (p : A → Bool) (mark_of : A → ℕ) (mark : ℕ) (xs : List A) (marks : List ℕ) → marks ≡ map mark_of xs
    → ((x : A) → p x ≡ true → mark_of x ≡ mark)
    → ((place : ℕ) → place < length xs → slice_index marks place ≡ mark → (d : A) → p (get_or xs place d) ≡ false)
    → list_any p xs ≡ false
none_with_mark {A = A} p mark_of mark xs marks are same none = list_any_none p xs (λ k d within. by k d within (p (get_or xs k d)) refl)
  where
    by : (k : ℕ) (d : A) → k < length xs → (b : Bool) → p (get_or xs k d) ≡ b → b ≡ false
    by k d within false is = refl
    by k d within true is =
        let marked : slice_index marks k ≡ mark =
        ap (λ (ms : List ℕ). slice_index ms k) are ∙ get_or-map mark_of xs k d 0 within ∙ same (get_or xs k d) is in
        sym is ∙ none k within marked d

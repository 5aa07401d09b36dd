-- Items that are numbered from 1, the newest first.
use Rattle.std.proofs.Common.{◌≡◌, ℕ, ◌+◌, ◌≤◌, Bool, true, false, cond, List, [], ◌∷◌, length, Some, refl, ap, ◌∙◌, arith}
use Rattle.std.specs.Prelude.{map, IsSome, option_map, ◌==◌}
use Rattle.std.proofs.lemmas.Bool.Decides.{nat_tests}
use Rattle.std.proofs.lemmas.List.{length-map}
use Rattle.tracklet_file.specs.Numbering.{next_number, numbered}

-- of a list of what items have, the number stands for what the item has
pub numbered_map : {A B : Type 0} (f : A → B) (items : List A) (k : ℕ) → numbered (map f items) k ≡ option_map f (numbered items k)
numbered_map f [] k = refl
numbered_map f (newest ∷ older) k =
    ap (λ (n : ℕ). cond (k == n + 1) (Some (f newest)) (numbered (map f older) k)) (length-map older f)
    ∙ by (k == next_number older) (numbered_map f older k)
  where
    by : (b : Bool) → numbered (map f older) k ≡ option_map f (numbered older k) → cond b (Some (f newest)) (numbered (map f older) k) ≡ option_map f (cond b (Some newest) (numbered older k))
    by true rest = refl
    by false rest = rest

-- each number up to the length is an item's
pub there : {A : Type 0} (items : List A) (k : ℕ) → 1 ≤ k → k ≤ length items → IsSome (numbered items k)
there [] k some within = absurd (omega arith)
there (newest ∷ older) k some within = by (k == next_number older) refl (there older k some)
  where
    by : (b : Bool) → (k == next_number older) ≡ b → (k ≤ length older → IsSome (numbered older k)) → IsSome (cond b (Some newest) (numbered older k))
    by true is rest = refl
    by false is rest = rest (before is)
      where
        before : (k == next_number older) ≡ false → k ≤ length older
        before is = grind (arith, nat_tests)
